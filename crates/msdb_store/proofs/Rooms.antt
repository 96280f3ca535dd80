-- Room for more segments, and how a change of one table leaves it.
use Rattle.std.proofs.Common.{◌≡◌, refl, sym, ◌∙◌, ap, subst, arith, ℕ, zero, suc, ◌<◌, ◌≤◌, ◌+◌, ◌^◌, List, [], ◌∷◌, ◌++◌, map, length, take, true, Some, None, slice_get, slice_set, min, inl, inr}
use Rattle.std.specs.Prelude.{find, is_none, ◌⊎◌}
use Rattle.fp_model.specs.Items.{FitsMsdb}
use Rattle.fp_model.specs.State.{key_of}
use Rattle.fp_model.specs.Texts.{same_text}
use Rattle.fp_model.specs.declared.database.Msdb.{Msdb}
use Rattle.fp_model.specs.declared.definitions.FieldDef.{FieldDef}
use Rattle.fp_model.specs.declared.definitions.MsdbDef.{MsdbDef}
use Rattle.fp_model.specs.declared.log.Item.TheVariants.{Segment}
use Rattle.msdb_store.specs.inside.Putting.{AreFew}
use Rattle.msdb_store.specs.Settling.{adds, has_bytes}
use Rattle.msdb_store.specs.Store.{IsFitSegment, IsOf, least, room}
use Rattle.msdb_store.specs.inside.Store.{lacks}
use Rattle.msdb_store.proofs.Databases.{in_at, key_is}
use Rattle.msdb_store.proofs.Tables.{belongs, msdb_in, stored}
use Rattle.std.proofs.lemmas.Option.{slice_get-map}

least_below : (n : ℕ) (ns : List ℕ) → (least (n ∷ ns) ≤ n) × (least (n ∷ ns) ≤ least ns)
least_below n ns = (grind arith, grind arith)

least_more : (n m d a b : ℕ) → n ≤ m + d → a ≤ b + d → min n a ≤ min m b + d
least_more n m d a b first rest = grind arith

least_small : (ns : List ℕ) → least ns < 2 ^ 32
least_small [] = omega arith
least_small (n ∷ ns) = omega (arith, (least_below n ns).1, least_small ns)

module _ {T : Type 0} (r : T → ℕ) where
  -- with another table at a place
  pub least_set : (ts : List T) (n d : ℕ) (old t : T) → slice_get ts n ≡ Some old → r old ≤ r t + d
      → least (map r ts) ≤ least (map r (slice_set ts n t)) + d
  least_set [] n d old t at more = omega arith
  least_set (x ∷ xs) zero d old t at more =
      let same : x ≡ old = cc in
      least_more (r x) (r t) d (least (map r xs)) (least (map r xs)) (subst (λ y. r y ≤ r t + d) (sym same) more)
      (omega arith)
  least_set (x ∷ xs) (suc n) d old t at more = least_more (r x) (r x) d (least (map r xs))
      (least (map r (slice_set xs n t))) (omega arith) (least_set xs n d old t at more)

  pub least_at : (ts : List T) (n : ℕ) (t : T) → slice_get ts n ≡ Some t → least (map r ts) ≤ r t
  least_at [] n t at = cc
  least_at (x ∷ xs) zero t at = let same : x ≡ t = cc in
      subst (λ y. least (map r (x ∷ xs)) ≤ r y) same (least_below (r x) (map r xs)).0
  least_at (x ∷ xs) (suc n) t at = omega (arith, (least_below (r x) (map r xs)).1, least_at xs n t at)

  -- and one more
  pub least_push : (n : ℕ) (ts : List T) (t : T) → n < 2 ^ 32 → n ≤ least (map r ts) → n ≤ r t
      → n ≤ least (map r (ts ++ t ∷ []))
  least_push n [] t small all one = grind arith
  least_push n (x ∷ xs) t small all one =
      let b = least_below (r x) (map r xs) in
      let rest = least_push n xs t small (omega (arith, all, b.1)) one in
      let first : n ≤ r x = omega (arith, all, b.0) in
      grind arith

-- more capacity and no more elements: no less room
pub room_same : (cap cap2 n m : ℕ) → cap ≤ cap2 → m ≤ n → room cap n ≤ room cap2 m
room_same cap cap2 n m more fewer = grind arith

pub room_less : (cap cap2 n m d : ℕ) → cap ≤ cap2 → m ≤ n + d → room cap n ≤ room cap2 m + d
room_less cap cap2 n m d more longer = grind arith

-- each has fewer than 2^32 segments, and one more
pub few_push : {T : Type 0} (msdb : T → Msdb) (ts : List T) (t : T) → AreFew (map msdb ts)
    → length (msdb t).segments < 2 ^ 32 → AreFew (map msdb (ts ++ t ∷ []))
few_push msdb [] t all one = (one, tt)
few_push msdb (x ∷ xs) t all one = (all.0, few_push msdb xs t all.1 one)

module _ {T : Type 0} (fields : T → List FieldDef) (segments : T → List (List ℕ)) where
  pub few_set : (ts : List T) (n : ℕ) (old t : T) → slice_get ts n ≡ Some old
      → (length (segments old) < 2 ^ 32 → length (segments t) < 2 ^ 32)
      → AreFew (map (msdb_in fields segments) ts) → AreFew (map (msdb_in fields segments) (slice_set ts n t))
  few_set [] n old t at one all = tt
  few_set (x ∷ xs) zero old t at one all = let same : x ≡ old = cc in
      (one (subst (λ y. length (segments y) < 2 ^ 32) same all.0), all.1)
  few_set (x ∷ xs) (suc n) old t at one all = (all.0, few_set xs n old t at one all.1)

  -- an item adds a segment exactly where its table lacks the key
  pub adds_lacks : (defs : List MsdbDef) (ts : List T) (n : ℕ) (t : T) (key bytes : List ℕ)
      → IsOf defs (stored fields (msdb_in fields segments) ts) → slice_get ts n ≡ Some t
      → IsFitSegment defs (Segment n key bytes) → has_bytes bytes ≡ true
      → adds defs (map (msdb_in fields segments) ts) (Segment n key bytes) ≡ lacks (fields t) (segments t) bytes
  adds_lacks defs ts n t key [] of at fit some = cc
  adds_lacks defs ts n t key (b ∷ bytes) of at fit some =
      let its = belongs fields (msdb_in fields segments) defs ts n t of at in
      let same : fit.0 ≡ its.def = same_def fit.0 its.def (sym fit.1 ∙ its.there) in
      let is : key_of its.def.fields (b ∷ bytes) ≡ key =
      by its.def (subst (λ d. FitsMsdb d key (b ∷ bytes)) same fit.2) in
      ap is_none (in_at defs (map (msdb_in fields segments) ts) n its.def (msdb_in fields segments t) key its.there
      (slice_get-map (msdb_in fields segments) ts n ∙ there at)
      ∙ ap (λ k. find (λ s. same_text (key_of its.def.fields s) k) (segments t)) (sym is))
      ∙ ap (λ fs. lacks fs (segments t) (b ∷ bytes)) (sym its.same)
    where
      same_def : (d e : MsdbDef) → Some d ≡ Some e → d ≡ e
      same_def d e eq = cc

      there : slice_get ts n ≡ Some t → (elim (slice_get ts n)
          [ None ↦ None | Some x ↦ Some (msdb_in fields segments x) ]) ≡ Some (msdb_in fields segments t)
      there e = rw e refl

      by : (d : MsdbDef) → FitsMsdb d key (b ∷ bytes) → key_of d.fields (b ∷ bytes) ≡ key
      by d f = by_segment d f f.segment
        where
          by_segment : (d : MsdbDef) → FitsMsdb d key (b ∷ bytes)
              → ((b ∷ bytes ≡ []) ⊎ ((length (b ∷ bytes) ≡ d.length) × (take (length key) (b ∷ bytes) ≡ key)))
              → key_of d.fields (b ∷ bytes) ≡ key
          by_segment d f (inl none) = cc
          by_segment d f (inr whole) = key_is d key (b ∷ bytes) f.key_length whole.1

-- a segment with bytes that fits a database is as long as its definition says
pub whole_at : (defs : List MsdbDef) (n : ℕ) (def : MsdbDef) (key bytes : List ℕ) → slice_get defs n ≡ Some def
    → IsFitSegment defs (Segment n key bytes) → has_bytes bytes ≡ true → length bytes ≡ def.length
whole_at defs n def key [] there fit some = cc
whole_at defs n def key (b ∷ bytes) there fit some = by fit.2.segment
  where
    same_def : (d e : MsdbDef) → Some d ≡ Some e → d ≡ e
    same_def d e eq = cc

    same : fit.0 ≡ def
    same = same_def fit.0 def (sym fit.1 ∙ there)

    by : ((b ∷ bytes ≡ []) ⊎ ((length (b ∷ bytes) ≡ fit.0.length) × (take (length key) (b ∷ bytes) ≡ key)))
        → length (b ∷ bytes) ≡ def.length
    by (inl none) = cc
    by (inr whole) = whole.0 ∙ ap (λ (d : MsdbDef). d.length) same
