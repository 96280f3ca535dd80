-- The target that a call names.
use Rattle.std.proofs.Common.{◌≡◌, ℕ, ◌+◌, ◌-◌, ◌≤◌, length, Option, Some, None, refl, slice_get, arith}
use Rattle.std.specs.Option.{option_map_or}
use Rattle.fp_model.specs.declared.definitions.DedbDef.{DedbDef}
use Rattle.fp_model.specs.declared.definitions.Defs.{Defs}
use Rattle.fp_model.specs.declared.definitions.MsdbDef.{MsdbDef}
use Rattle.fp_model.specs.Calls.{Nowhere, OnDedb, OnMsdb, Target, dedb_target, target_of}
use Rattle.plain_laws.proofs.Places.{beyond_none}

-- what stands at a number: main storage databases first
pub data IsTarget (defs : Defs) (n : ℕ) : Target → Type 0 where
  is_msdb : (def : MsdbDef) → slice_get defs.msdbs n ≡ Some def → IsTarget defs n (OnMsdb def n)
  is_dedb : (def : DedbDef) (dedb : ℕ) → slice_get defs.dedbs dedb ≡ Some def → n ≡ length defs.msdbs + dedb
      → IsTarget defs n (OnDedb def dedb)
  is_nowhere : IsTarget defs n Nowhere

pub its_target : (defs : Defs) (n : ℕ) → IsTarget defs n (target_of defs n)
its_target defs n = by (slice_get defs.msdbs n) refl
  where
    dedb : (o : Option DedbDef) → slice_get defs.dedbs (n - length defs.msdbs) ≡ o → length defs.msdbs ≤ n
        → IsTarget defs n (option_map_or (λ def. OnDedb def (n - length defs.msdbs)) o Nowhere)
    dedb None at low = is_nowhere
    dedb (Some def) at low = is_dedb def (n - length defs.msdbs) at (omega (arith, low))

    by : (o : Option MsdbDef) → slice_get defs.msdbs n ≡ o
        → IsTarget defs n (option_map_or (λ def. OnMsdb def n) o (dedb_target defs (n - length defs.msdbs)))
    by None at =
        dedb (slice_get defs.dedbs (n - length defs.msdbs)) refl (beyond_none defs.msdbs n at)
    by (Some def) at = is_msdb def at
