-- Which database a call names, and what is so of it.
use Rattle.std.proofs.Common.{◌≡◌, refl, ap, sym, ◌∙◌, subst, arith, ℕ, ◌+◌, ◌-◌, ◌≤◌, length, Option, Some, None, slice_get}
use Rattle.std.specs.Option.{option_map_or}
use Rattle.fp_model.specs.declared.calls.Call.{Call}
use Rattle.fp_model.specs.declared.definitions.DedbDef.{DedbDef}
use Rattle.fp_model.specs.declared.definitions.Defs.{Defs}
use Rattle.fp_model.specs.declared.definitions.MsdbDef.{MsdbDef}
use Rattle.fp_model.specs.Calls.{Target, OnMsdb, OnDedb, Nowhere, database_of, target_of}
use Rattle.dedb_calls.specs.Calls.{FitsCallOn}
use Rattle.fp_model.specs.FitCalls.{FitsTarget, IsMsdbCall, IsTied}
use Rattle.dedb_calls.proofs.CallLemmas.{fits_on}
use Rattle.dedb_calls.proofs.TargetLemmas.{NamesDedb, behind_msdbs, dedb_has, named_dedb, on_msdb}
use Rattle.dli_calls.specs.Progress.{Progress, dedbs_in}
use Rattle.dli_calls.specs.Targets.{FitsWork, IfDedb, LeavesDedbs, LeavesOthers}
use Rattle.plain_laws.proofs.Places.{beyond_none}

-- one that fits, and doesn't name a main storage database
pub names_dedb : (defs : Defs) (c : Call) (work : Progress) (n at count dedb : ℕ) → n ≡ database_of c → at ≡ n
    → count ≡ length defs.msdbs → count ≤ at → dedb ≡ at - count
    → FitsWork (target_of defs (database_of c)) work c → NamesDedb defs c dedb
names_dedb defs c work n at count dedb named placed counted beyond is fits =
    named_dedb defs c (λ t. FitsWork t work c) (λ p. p) fits n at count dedb named placed counted beyond is

-- it fits the database
pub dedb_fits : (defs : Defs) (c : Call) (dedb : ℕ) (it : NamesDedb defs c dedb) (work : Progress)
    → FitsWork (target_of defs (database_of c)) work c
    → (def : DedbDef) → slice_get defs.dedbs dedb ≡ Some def → FitsCallOn def dedb (dedbs_in work) c
dedb_fits defs c dedb it work fits def there = dedb_has defs c dedb it (λ t. FitsWork t work c) fits def there

-- ---- for callers

-- a call to a main storage database fits it
pub msdb_fits : (defs : Defs) (work : Progress) (c : Call) → IsMsdbCall defs.msdbs c
    → FitsWork (target_of defs (database_of c)) work c
msdb_fits defs work c (def, there, fits) =
    subst (λ (t : Target). FitsWork t work c) (sym (on_msdb defs (database_of c) def there)) fits

-- and isn't one to a data entry database
pub msdb_only : (defs : Defs) (P : Type 0) (c : Call) → IsMsdbCall defs.msdbs c
    → IfDedb (target_of defs (database_of c)) P
msdb_only defs P c (def, there, fits) =
    subst (λ (t : Target). IfDedb t P) (sym (on_msdb defs (database_of c) def there)) tt

pub msdb_target : (defs : Defs) (c : Call) → IsMsdbCall defs.msdbs c
    → (def : MsdbDef) × (target_of defs (database_of c) ≡ OnMsdb def (database_of c))
msdb_target defs c (def, there, fits) = (def, on_msdb defs (database_of c) def there)

fits_at : (defs : Defs) (shown : ℕ → Option ℕ) (work : Progress) (c : Call) (n : ℕ)
    → IsTied defs shown work.own
    → FitsTarget (target_of defs n) (shown n) c
    → FitsWork (target_of defs n) work c
fits_at defs shown work c n tied fits = by (slice_get defs.msdbs n) refl
  where
    in_dedb : length defs.msdbs ≤ n → (o : Option DedbDef) → slice_get defs.dedbs (n - length defs.msdbs) ≡ o
        → FitsTarget (option_map_or (λ def. OnDedb def (n - length defs.msdbs)) o Nowhere) (shown n) c
        → FitsWork (option_map_or (λ def. OnDedb def (n - length defs.msdbs)) o Nowhere) work c
    in_dedb beyond None none fit = absurd fit
    in_dedb beyond (Some def) there fit = fits_on def (n - length defs.msdbs) (shown n) (dedbs_in work) c fit
        (λ place held.
        let counted : length defs.msdbs + (n - length defs.msdbs) ≡ n = omega (arith, beyond) in
        ap shown (sym counted) ∙ tied (n - length defs.msdbs) def place there held)

    by : (o : Option MsdbDef) → slice_get defs.msdbs n ≡ o → FitsWork (target_of defs n) work c
    by (Some def) there =
        let e = on_msdb defs n def there in
        subst (λ (t : Target). FitsWork t work c) (sym e) (subst (λ (t : Target). FitsTarget t (shown n) c) e fits)
    by None none =
        let beyond = beyond_none defs.msdbs n none in
        let e = behind_msdbs defs n beyond in
        subst (λ (t : Target). FitsWork t work c) (sym e)
        (in_dedb beyond (slice_get defs.dedbs (n - length defs.msdbs)) refl (subst (λ (t : Target). FitsTarget t (shown
        n) c) e fits))

-- A call that fits its target fits what the transaction keeps, where what is held is of the type shown last.
pub shown_fits : (defs : Defs) (shown : ℕ → Option ℕ) (work : Progress) (c : Call)
    → IsTied defs shown work.own
    → FitsTarget (target_of defs (database_of c)) (shown (database_of c)) c
    → FitsWork (target_of defs (database_of c)) work c
shown_fits defs shown work c tied fits = fits_at defs shown work c (database_of c) tied fits

-- a call to a main storage database leaves all data entry databases
pub leaves_msdb : (defs : Defs) (c : Call) (old new : Progress) → IsMsdbCall defs.msdbs c
    → LeavesOthers (target_of defs (database_of c)) old new → LeavesDedbs old new
leaves_msdb defs c old new (def, there, fits) leaves =
    subst (λ (t : Target). LeavesOthers t old new) (on_msdb defs (database_of c) def there) leaves
