-- The sequential type of a database: the first type that is sequential.
use Rattle.std.proofs.Common.{◌≡◌, inl, inr, ℕ, suc, ◌+◌, ◌<◌, true, List, [], ◌∷◌, length, refl, sym, ◌∙◌, ap, subst, arith}
use Rattle.std.specs.Prelude.{Some, nat_lt, if◌then◌else◌}
use Rattle.std.specs.List.{position_or_len}
use Rattle.std.specs.Option.{option_map_or}
use Rattle.std.proofs.lemmas.Bool.{cases_Bool}
use Rattle.std.proofs.lemmas.Bool.Decides.{nat_tests}
use Rattle.anchor_elements.specs.Elements.{segment_length}
use Rattle.fp_model.specs.declared.definitions.SegDef.{SegDef}
use Rattle.fp_model.specs.Order.{sequential_type}
use Rattle.fp_model.specs.WellFormed.{has_sequential}
use Rattle.area_states.specs.Places.{sequential_length}

-- the length of the first type that is sequential
abbrev pub first_length : List SegDef → ℕ
first_length [] = 0
first_length (def ∷ defs) = if def.sequential then def.length else first_length defs

-- it stands there
first_there : (defs : List SegDef) → has_sequential defs ≡ true
    → (position_or_len (λ (d : SegDef). d.sequential) defs < length defs)
    × (segment_length defs (position_or_len (λ (d : SegDef). d.sequential) defs) ≡ first_length defs)
first_there [] h = cc
first_there (def ∷ defs) h = elim (cases_Bool def.sequential) [
  | inl is ↦ rw is (omega arith, refl)
  | inr other ↦
      let rest : has_sequential defs ≡ true = rw other at h in
      let both = first_there defs rest in
      let below = both.0 in
      let n : ℕ = position_or_len (λ (d : SegDef). d.sequential) defs in
      let next : 1 + n ≡ suc n = omega arith in
      let here : position_or_len (λ (d : SegDef). d.sequential) (def ∷ defs) ≡ suc n = rw other next in
      let same : first_length (def ∷ defs) ≡ first_length defs = rw other refl in
      subst (λ k. (k < length (def ∷ defs)) × (segment_length (def ∷ defs) k ≡ first_length (def ∷ defs))) (sym here)
      (omega (arith, below), both.1 ∙ sym same)
]

-- and is that of the sequential type
pub sequential_first : (defs : List SegDef) → has_sequential defs ≡ true → sequential_length defs ≡ first_length defs
sequential_first defs h =
    let both = first_there defs h in
    let below = both.0 in
    let lt : nat_lt (position_or_len (λ (d : SegDef). d.sequential) defs) (length defs) ≡ true =
    grind (arith, nat_tests) in
    let found : sequential_type defs ≡ Some (position_or_len (λ (d : SegDef). d.sequential) defs) = rw lt refl in
    ap (λ o. option_map_or (segment_length defs) o 0) found ∙ both.1
