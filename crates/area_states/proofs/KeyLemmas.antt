-- No root has a key that doesn't stand at its place.
use Rattle.std.proofs.Common.{◌≡◌, inl, inr, ℕ, zero, suc, ◌<◌, length, arith, Bool, true, false, List, [], ◌∷◌, map, Some, None, slice_get, refl, sym, ◌∙◌, ap}
use Rattle.std.specs.Prelude.{find}
use Rattle.std.specs.List.{AllZip, AllByRecursion}
use Rattle.std.proofs.lemmas.Bool.{cases_Bool}
use Rattle.fp_model.specs.declared.database.Root.{Root}
use Rattle.fp_model.specs.declared.definitions.SegDef.{SegDef}
use Rattle.fp_model.specs.Order.{key_in, root_key}
use Rattle.fp_model.specs.State.{ascend}
use Rattle.fp_model.specs.Texts.{same_text}
use Rattle.key_order.specs.Places.{IsPlace}
use Rattle.key_order.proofs.Ascending.{found_at, no_same}
use Rattle.area_states.specs.declared.place.Place.{Place}
use Rattle.area_states.specs.inside.Keys.{NoneHas}
use Rattle.area_states.specs.States.{IsReadAs}

pub got_within : (xs : List Root) (k : ℕ) (x : Root) → slice_get xs k ≡ Some x → k < length xs
got_within [] k x e = cc
got_within (y ∷ ys) zero x e = omega arith
got_within (y ∷ ys) (suc k) x e = let l = got_within ys k x e in omega (arith, l)

-- where none is found none passes
find_none : (test : Root → Bool) (roots : List Root) → find test roots ≡ None
    → AllByRecursion (λ root. test root ≡ false) roots
find_none test [] e = tt
find_none test (r ∷ roots) e = elim (cases_Bool (test r)) [
  | inl is ↦ (let f : Some r ≡ None = rw is at e in cc)
  | inr other ↦ (other, find_none test roots (rw other at e))
]

pub none_of_key : (types : List SegDef) (key : List ℕ) (roots : List Root) (number : ℕ)
    → ascend (map (root_key types) roots) ≡ true → IsPlace (root_key types) key roots number
    → ((r : Root) → slice_get roots number ≡ Some r → same_text (root_key types r) key ≡ false)
    → NoneHas types key roots
none_of_key types key roots number up place none =
    find_none (λ r. same_text (root_key types r) key) roots (found_at (root_key types) key roots number up place
    ∙ no_same (root_key types) key (slice_get roots number) none)

-- roots that stand for others have their keys
pub keys_same : (place : Place) (area : List (List ℕ)) (kept roots : List Root)
    → AllZip (IsReadAs place area) kept roots
    → map (root_key place.segments) kept ≡ map (root_key place.segments) roots
keys_same place area [] [] all = refl
keys_same place area [] (y ∷ roots) all = absurd all
keys_same place area (x ∷ kept) [] all = absurd all
keys_same place area (x ∷ kept) (y ∷ roots) all =
    let same : root_key place.segments y ≡ root_key place.segments x =
    ap (λ b. key_in place.segments 0 b) all.0.bytes in
    ap (λ k. k ∷ map (root_key place.segments) kept) (sym same)
    ∙ ap (λ ks. root_key place.segments y ∷ ks) (keys_same place area kept roots all.1)
