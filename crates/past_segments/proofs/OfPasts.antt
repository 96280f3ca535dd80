-- The past of one database among those of all.
use Rattle.std.proofs.Common.{◌∷◌, ◌≡◌, List, Some, [], slice_get, subst, suc, zero, ℕ}
use Rattle.fp_model.specs.declared.definitions.MsdbDef.{MsdbDef}
use Rattle.past_segments.specs.Pasts.{ArePastsOf, IsPastOf}
use Rattle.past_segments.specs.Times.{Past}

pub past_of : (defs : List MsdbDef) (pasts : List Past) (n : ℕ) (def : MsdbDef) (past : Past) → ArePastsOf defs pasts
    → slice_get defs n ≡ Some def → slice_get pasts n ≡ Some past → IsPastOf def past
past_of [] pasts n def past each at there = absurd (cc)
past_of (d ∷ ds) [] n def past each at there = absurd each
past_of (d ∷ ds) (p ∷ ps) zero def past each at there =
    let same : d ≡ def = cc in
    let one : p ≡ past = cc in
    subst (λ x. IsPastOf x past) same (subst (IsPastOf d) one each.0)
past_of (d ∷ ds) (p ∷ ps) (suc n) def past each at there = past_of ds ps n def past each.1 at there
