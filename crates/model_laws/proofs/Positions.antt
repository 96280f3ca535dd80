-- What a transaction keeps of its databases before it has called any.
use Rattle.std.proofs.Common.{◌∙◌, ◌∷◌, ◌≡◌, List, [], ap, length, map, refl, replicate, ℕ}
use Rattle.fp_model.specs.Workspace.{MsdbPosition, no_msdb_position}
use Rattle.fp_model.specs.declared.definitions.MsdbDef.{MsdbDef}

-- as many positions as databases
pub fresh_all : (n : ℕ) (positions : List MsdbPosition) (defs : List MsdbDef) → positions ≡ replicate n no_msdb_position
    → n ≡ length defs → positions ≡ replicate (length defs) no_msdb_position
fresh_all n positions defs is e = is ∙ ap (λ m. replicate m no_msdb_position) e

-- each position is the empty one
pub fresh_positions : (defs : List MsdbDef) → replicate (length defs) no_msdb_position ≡ map (λ def. no_msdb_position)
    defs
fresh_positions [] = refl
fresh_positions (d ∷ ds) = ap (λ ps. no_msdb_position ∷ ps) (fresh_positions ds)
