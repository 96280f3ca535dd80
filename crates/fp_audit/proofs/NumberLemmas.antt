-- The last numbers of terminals: how one more is kept, and what an entry adds to them.
use Rattle.std.proofs.Common.{◌≡◌, ◌∙◌, refl, sym, ap, subst, ℕ, List, [], ◌∷◌, ◌++◌, Bool, true, false, cond, not, Option, Some}
use Rattle.std.specs.Prelude.{find, filter, if◌then◌else◌}
use Rattle.std.specs.Option.{option_map, option_map_or}
use Rattle.std.specs.Cmp.Lexicographic.{texts_ties}
use Rattle.std.specs.BTreeMap.{is_at}
use Rattle.std.specs.Map.{lookup}
use Rattle.fp_model.specs.declared.database.Db.{Db}
use Rattle.fp_model.specs.declared.log.Entry.{Entry}
use Rattle.fp_model.specs.declared.name.Name.{Name}
use Rattle.fp_model.specs.History.{History, with_entry}
use Rattle.fp_model.specs.Lasts.{Last, format_at, format_behind, last_by, last_of, lasts_behind, lasts_of, with_last}
use Rattle.fp_model.specs.State.{drop_key, is_below, put_by_key}
use Rattle.fp_model.specs.Texts.{same_text}
use Rattle.txn_lang.specs.Numbers.{name_cmp}
use Rattle.fp_audit.specs.Numbers.{AreKept, KnowsLines, kept_of}
use Rattle.fp_audit.specs.inside.Numbers.{last_by_name, with_used}
use Rattle.fp_audit.specs.declared.kept.Kept.{Kept}
use Rattle.plain_laws.proofs.Alls.{find_kept}
use Rattle.model_laws.proofs.Entries.{format_push}
use Rattle.plain_laws.proofs.Truths.{not_true}
use Rattle.model_laws.proofs.Texts.{same_text_is}

not_both : true ≡ false → ⊥
not_both e = cc

-- ---- one number put

module _ {X : Type 0} (p : X → Bool) (key : X → List ℕ) (x : X) where
  -- what isn't looked for is passed
  find_put : (ys : List X) → p x ≡ false → find p (put_by_key key x ys) ≡ find p ys
  find_put [] fails = rw fails refl
  find_put (y ∷ ys) fails = by (is_below (key x) (key y)) (find_put ys fails)
    where
      by : (below : Bool) → find p (put_by_key key x ys) ≡ find p ys
          → find p (if below then x ∷ y ∷ ys else y ∷ put_by_key key x ys) ≡ find p (y ∷ ys)
      by true later = rw fails refl
      by false later = ap (λ o. if p y then Some y else o) later

  -- what is looked for is found, where no other is
  find_new : (q : X → Bool) (ys : List X) → p x ≡ true → ((y : X) → q y ≡ true → p y ≡ false)
      → find p (put_by_key key x (filter q ys)) ≡ Some x
  find_new q [] is others = rw is refl
  find_new q (y ∷ ys) is others = by (q y) refl (find_new q ys is others)
    where
      in_front : (below : Bool) → p y ≡ false → find p (put_by_key key x (filter q ys)) ≡ Some x
          → find p (if below then x ∷ y ∷ filter q ys else y ∷ put_by_key key x (filter q ys)) ≡ Some x
      in_front true fails later = rw is refl
      in_front false fails later = rw fails later

      by : (kept : Bool) → q y ≡ kept → find p (put_by_key key x (filter q ys)) ≡ Some x
          → find p (put_by_key key x (if kept then y ∷ filter q ys else filter q ys)) ≡ Some x
      by true e later = in_front (is_below (key x) (key y)) (others y e) later
      by false e later = later

-- the last number of a terminal, with one more
last_with : (last : Last) (lasts : List Last) (name : Name)
    → last_of name (with_last last lasts) ≡ (if same_text last.lterm.0 name.0 then Some last else last_of name lasts)
last_with last lasts name = by (same_text last.lterm.0 name.0) refl
  where
    key : Last → List ℕ
    key l = l.lterm.0

    by : (same : Bool) → same_text last.lterm.0 name.0 ≡ same
        → find (λ (l : Last). same_text l.lterm.0 name.0)
        (put_by_key (λ (l : Last). l.lterm.0) last (drop_key (λ (l : Last). l.lterm.0) last.lterm.0 lasts))
        ≡ (if same then Some last else last_of name lasts)
    by true e =
        find_new (λ (l : Last). same_text l.lterm.0 name.0) (λ (l : Last). l.lterm.0) last
        (λ (l : Last). not (same_text l.lterm.0 last.lterm.0)) lasts e
        (λ l differs. subst (λ (text : List ℕ). same_text l.lterm.0 text ≡ false) (same_text_is last.lterm.0 name.0 e)
        (not_true (same_text l.lterm.0 last.lterm.0) differs))
    by false e =
        find_put (λ (l : Last). same_text l.lterm.0 name.0) (λ (l : Last). l.lterm.0) last
        (drop_key (λ (l : Last). l.lterm.0) last.lterm.0 lasts) e
        ∙ find_kept (λ (l : Last). same_text l.lterm.0 name.0) (λ (l : Last). not (same_text l.lterm.0 last.lterm.0))
        lasts (λ l here. other (same_text l.lterm.0 last.lterm.0) l here refl)
      where
        other : (b : Bool) (l : Last) → same_text l.lterm.0 name.0 ≡ true → same_text l.lterm.0 last.lterm.0 ≡ b
            → not b ≡ true
        other true l here is =
            absurd (not_both (sym here ∙ ap (λ (text : List ℕ). same_text text name.0)
            (same_text_is l.lterm.0 last.lterm.0 is) ∙ e))
        other false l here is = refl

-- a map with one more keeps the numbers with one more
pub kept_more : (old new : List (Name × Kept)) (lasts : List Last) (of : Name × Kept) → AreKept old lasts
    → ((name : Name) → lookup (is_at (name_cmp name)) new
    ≡ cond (is_at (name_cmp of.0) name) (Some of.1) (lookup (is_at (name_cmp name)) old))
    → AreKept new (with_last (last_by_name of) lasts)
kept_more old new lasts of are put name =
    put name
    ∙ ap (λ (b : Bool). cond b (Some of.1) (lookup (is_at (name_cmp name)) old)) (sym (texts_ties of.0.0 name.0))
    ∙ ap (λ (o : Option Kept). cond (same_text of.0.0 name.0) (Some of.1) o) (are name)
    ∙ by (same_text of.0.0 name.0)
    ∙ ap (option_map kept_of) (sym (last_with (last_by_name of) lasts name))
  where
    by : (same : Bool) → cond same (Some of.1) (option_map kept_of (last_of name lasts))
        ≡ option_map kept_of (if same then Some (last_by_name of) else last_of name lasts)
    by true = refl
    by false = refl

-- ---- one more entry

lasts_push : (format : ℕ) (es : List Entry) (e : Entry) (lasts : List Last)
    → lasts_behind format (es ++ e ∷ []) lasts
    ≡ with_used (last_by (format_at format es) e) (lasts_behind format es lasts)
lasts_push format [] e lasts = refl
lasts_push format (x ∷ es) e lasts =
    lasts_push (format_behind format x.outcome) es e
    (option_map_or (λ last. with_last last lasts) (last_by format x) lasts)

-- what lines ask for is known behind an entry
pub knows_more : (format : ℕ) (old new : List (Name × Kept)) (h : History) (e : Entry) (next : Db)
    → KnowsLines format old h
    → ((lasts : List Last) → AreKept old lasts → AreKept new (with_used (last_by format e) lasts))
    → KnowsLines (format_behind format e.outcome) new (with_entry e next h)
knows_more format old new h e next knows put = record {
  format_is =
      ap (λ (f : ℕ). format_behind f e.outcome) knows.format_is ∙ sym (format_push h.format h.entries e);
  lasts_are =
      subst (AreKept new)
      (ap (λ (f : ℕ). with_used (last_by f e) (lasts_of h.format h.entries)) knows.format_is
      ∙ sym (lasts_push h.format h.entries e []))
      (put (lasts_of h.format h.entries) knows.lasts_are);
}
