-- Which calls fit what a transaction keeps, for callers.
use Rattle.std.proofs.Common.{◌≡◌, refl, ap, sym, ◌∙◌, subst, arith, ℕ, ◌+◌, ◌-◌, ◌≤◌, length, Option, Some, None, slice_get}
use Rattle.std.specs.Option.{option_map_or}
use Rattle.dedb_calls.proofs.CallLemmas.{fits_on}
use Rattle.dedb_calls.proofs.TargetLemmas.{behind_msdbs, on_msdb}
use Rattle.fp_model.specs.declared.calls.Call.{Call}
use Rattle.fp_model.specs.declared.definitions.DedbDef.{DedbDef}
use Rattle.fp_model.specs.declared.definitions.Defs.{Defs}
use Rattle.fp_model.specs.declared.definitions.MsdbDef.{MsdbDef}
use Rattle.fp_model.specs.Calls.{Target, OnDedb, Nowhere, database_of, target_of}
use Rattle.fp_model.specs.FitCalls.{FitsTarget, IsMsdbCall, IsTied}
use Rattle.past_calls.specs.Progress.{Progress, dedbs_in}
use Rattle.past_calls.specs.Targets.{FitsWork}
use Rattle.plain_laws.proofs.Places.{beyond_none}

-- a call to a main storage database fits it
pub msdb_fits : (defs : Defs) (work : Progress) (c : Call) → IsMsdbCall defs.msdbs c
    → FitsWork (target_of defs (database_of c)) work c
msdb_fits defs work c (def, there, fits) =
    subst (λ (t : Target). FitsWork t work c) (sym (on_msdb defs (database_of c) def there)) fits

fits_at : (defs : Defs) (shown : ℕ → Option ℕ) (work : Progress) (c : Call) (n : ℕ)
    → IsTied defs shown work.own
    → FitsTarget (target_of defs n) (shown n) c
    → FitsWork (target_of defs n) work c
fits_at defs shown work c n tied fits = by (slice_get defs.msdbs n) refl
  where
    in_dedb : length defs.msdbs ≤ n → (o : Option DedbDef) → slice_get defs.dedbs (n - length defs.msdbs) ≡ o
        → FitsTarget (option_map_or (λ def. OnDedb def (n - length defs.msdbs)) o Nowhere) (shown n) c
        → FitsWork (option_map_or (λ def. OnDedb def (n - length defs.msdbs)) o Nowhere) work c
    in_dedb beyond None none fit = absurd fit
    in_dedb beyond (Some def) there fit = fits_on def (n - length defs.msdbs) (shown n) (dedbs_in work) c fit
        (λ place held.
        let counted : length defs.msdbs + (n - length defs.msdbs) ≡ n = omega (arith, beyond) in
        ap shown (sym counted) ∙ tied (n - length defs.msdbs) def place there held)

    by : (o : Option MsdbDef) → slice_get defs.msdbs n ≡ o → FitsWork (target_of defs n) work c
    by (Some def) there =
        let e = on_msdb defs n def there in
        subst (λ (t : Target). FitsWork t work c) (sym e) (subst (λ (t : Target). FitsTarget t (shown n) c) e fits)
    by None none =
        let beyond = beyond_none defs.msdbs n none in
        let e = behind_msdbs defs n beyond in
        subst (λ (t : Target). FitsWork t work c) (sym e)
        (in_dedb beyond (slice_get defs.dedbs (n - length defs.msdbs)) refl (subst (λ (t : Target). FitsTarget t (shown
        n) c) e fits))

-- A call that fits its target fits what the transaction keeps, where what is held is of the type shown last.
pub shown_fits : (defs : Defs) (shown : ℕ → Option ℕ) (work : Progress) (c : Call)
    → IsTied defs shown work.own
    → FitsTarget (target_of defs (database_of c)) (shown (database_of c)) c
    → FitsWork (target_of defs (database_of c)) work c
shown_fits defs shown work c tied fits = fits_at defs shown work c (database_of c) tied fits
