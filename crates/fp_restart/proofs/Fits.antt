-- All items of entries, item by item and entry by entry.
use Rattle.std.proofs.Common.{◌≡◌, ℕ, ◌+◌, ◌<◌, List, [], ◌∷◌, ◌++◌, length, take, get_or, sym, ap, subst, ◌∙◌}
use Rattle.std.specs.List.{AllByRecursion}
use Rattle.std.proofs.lemmas.List.{append-nil, take_more}
use Rattle.std.proofs.lemmas.List.Concat.{flat_map-cons}
use Rattle.std.proofs.lemmas.List.Sums.{fold-append}
use Rattle.fp_model.specs.Items.{with_item, with_items, items_of}
use Rattle.fp_model.specs.declared.database.Msdb.{Msdb}
use Rattle.fp_model.specs.declared.definitions.MsdbDef.{MsdbDef}
use Rattle.fp_model.specs.declared.log.Entry.{Entry}
use Rattle.fp_model.specs.declared.log.Item.{Item}
use Rattle.log_format.proofs.Lists.{element}
use Rattle.model_laws.proofs.Entries.{items-append}
use Rattle.plain_laws.proofs.Alls.{all_append}

-- ---- items

-- the items of one entry
items-single : (e : Entry) → items_of (e ∷ []) ≡ e.items
items-single e = flat_map-cons (λ x. x.items) e [] ∙ append-nil e.items

-- ---- all of a list

module _ {X : Type 0} (P : X → Type 0) where
  -- what holds of all holds of the first ones,
  pub all-front : (xs ys : List X) → AllByRecursion P (xs ++ ys) → AllByRecursion P xs
  all-front [] ys all = tt
  all-front (x ∷ xs) ys all = (all.0, all-front xs ys all.1)

  -- and of the rest
  pub all-back : (xs ys : List X) → AllByRecursion P (xs ++ ys) → AllByRecursion P ys
  all-back [] ys all = all
  all-back (x ∷ xs) ys all = all-back xs ys all.1

-- ---- by entries

-- the items so far, with those of one entry more
pub items-next : (es : List Entry) (i : ℕ) (e : Entry) → i < length es → e ≡ get_or es i e
    → items_of (take (i + 1) es) ≡ items_of (take i es) ++ e.items
items-next es i e lt is =
    ap items_of (take_more es i e lt ∙ ap (λ x. take i es ++ x ∷ []) (sym is)) ∙ items-append (take i es) (e ∷ []) ∙ ap
    (λ l. items_of (take i es) ++ l) (items-single e)

-- all items of the entries so far, and of one more
pub all-next : (P : Item → Type 0) (es : List Entry) (i : ℕ) (e : Entry) → i < length es → e ≡ get_or es i e
    → AllByRecursion P (items_of (take i es)) → AllByRecursion P e.items
    → AllByRecursion P (items_of (take (i + 1) es))
all-next P es i e lt is front more = subst (AllByRecursion P) (sym (items-next es i e lt is))
    (all_append P (items_of (take i es)) e.items front more)

of_all : (P : Item → Type 0) (es : List Entry) → AllByRecursion P (items_of es)
    → AllByRecursion (λ e. AllByRecursion P e.items) es
of_all P [] all = tt
of_all P (e ∷ es) all =
    let both = subst (AllByRecursion P) (flat_map-cons (λ x. x.items) e es) all in
    (all-front P e.items (items_of es) both, of_all P es (all-back P e.items (items_of es) both))

-- what holds of all items holds of those of each entry
pub all-of : (P : Item → Type 0) (es : List Entry) (i : ℕ) (e : Entry) → i < length es → e ≡ get_or es i e
    → AllByRecursion P (items_of es) → AllByRecursion P e.items
all-of P es i e lt is all = element (λ x. AllByRecursion P x.items) es i e lt is (of_all P es all)

-- the databases behind the items of the entries so far, and of one more
pub put-next : (defs : List MsdbDef) (before : List Msdb) (es : List Entry) (i : ℕ) (e : Entry) → i < length es
    → e ≡ get_or es i e
    → with_items defs (with_items defs before (items_of (take i es))) e.items ≡ with_items defs before
    (items_of (take (i + 1) es))
put-next defs before es i e lt is =
    sym (fold-append (with_item defs) before (items_of (take i es)) e.items) ∙ ap (with_items defs before)
    (sym (items-next es i e lt is))
