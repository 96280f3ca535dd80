-- Calls: the same call under other names, and what stays a transaction's behind one.
use Rattle.std.proofs.Common.{◌≡◌, ◌∙◌, ℕ, List, Option, Some, None, refl, sym, ap, subst, Bool, true, false, ◌==◌, slice_get, unwrap_or, arith}
use Rattle.std.specs.Prelude.{IfOk, Result, if◌then◌else◌}
use Rattle.fp_model.specs.declared.calls.Call.{Call}
use Rattle.fp_model.specs.declared.calls.Call.TheVariants as call
use Rattle.fp_model.specs.declared.calls.Mode.{Mode}
use Rattle.fp_model.specs.declared.calls.Resource.{Resource}
use Rattle.fp_model.specs.declared.definitions.DedbDef.{DedbDef}
use Rattle.fp_model.specs.DedbCalls.{dedb_need, dedb_reply, type_of_path}
use Rattle.fp_model.specs.Order.{Place}
use Rattle.fp_model.specs.Shape.{has_length}
use Rattle.fp_model.specs.Workspace.{DedbPosition, no_dedb_position}
use Rattle.dedb_calls.specs.Calls.{FitsCallOn}
use Rattle.dedb_calls.specs.Progress.{DedbProgress, FitsDedb, GoesOn, IsDedbWorkOf, held_in}
use Rattle.fp_model.specs.Calls.{OnDedb}
use Rattle.fp_model.specs.FitCalls.{FitsAnswerOf, FitsDedbCall}
use Rattle.dedb_calls.specs.Readiness.{ComesTo, IfAnswer}
use Rattle.dedb_calls.specs.declared.ready.DedbReady.{DedbReady}
use Rattle.std.proofs.lemmas.Option.{same_Some}

abbrev pub ComesBy : {E : Type 0} → Result DedbReady E → DedbDef → ℕ → (Resource → Option Mode) → Call
    → DedbProgress → DedbProgress → Type 0
ComesBy r def number held c old new = IfOk r (λ came. ComesTo number (λ db own. dedb_need def number db own held c)
    (λ db own. dedb_reply def number db own c) old new came)

-- the call that it is
pub comes_as : {E : Type 0} (r : Result DedbReady E) (def : DedbDef) (number : ℕ) (held : Resource → Option Mode)
    → (c d : Call) (old new : DedbProgress) → c ≡ d → ComesBy r def number held d old new
    → ComesBy r def number held c old new
comes_as r def number held c d old new same h = subst (λ (k : Call). ComesBy r def number held k old new) (sym same) h

-- the database that it is
pub comes_at : {E : Type 0} (r : Result DedbReady E) (def def2 : DedbDef) (number number2 : ℕ)
    → (held : Resource → Option Mode) (c : Call) (old new : DedbProgress) → def ≡ def2 → number ≡ number2
    → ComesBy r def number held c old new → ComesBy r def2 number2 held c old new
comes_at r def def2 number number2 held c old new same same_number h =
    subst (λ (n : ℕ). ComesBy r def2 n held c old new) same_number
    (subst (λ (d : DedbDef). ComesBy r d number held c old new) same h)

pub fits_at : (def : DedbDef) (number number2 : ℕ) (work : DedbProgress) → number2 ≡ number → FitsDedb def number work
    → FitsDedb def number2 work
fits_at def number number2 work same h = subst (λ (n : ℕ). FitsDedb def n work) (sym same) h

pub fits_call_at : (def : DedbDef) (number number2 : ℕ) (work : DedbProgress) (c : Call) → number2 ≡ number
    → FitsCallOn def number work c → FitsCallOn def number2 work c
fits_call_at def number number2 work c same h = subst (λ (n : ℕ). FitsCallOn def n work c) (sym same) h

pub goes_at : (number number2 : ℕ) (old new : DedbProgress) → number ≡ number2 → GoesOn number old new
    → GoesOn number2 old new
goes_at number number2 old new same h = subst (λ (n : ℕ). GoesOn n old new) same h

-- behind a call to one database
pub stays_work : (defs : List DedbDef) (number : ℕ) (def : DedbDef) (old new : DedbProgress)
    → slice_get defs number ≡ Some def → IsDedbWorkOf defs old → GoesOn number old new → FitsDedb def number new
    → IsDedbWorkOf defs new
stays_work defs number def old new there work goes fits = record {
  count = goes.count ∙ work.count;
  order = goes.order work.order;
  each = λ d other at. by d other at (d == number) refl;
}
  where
    number_is : (x y : ℕ) → (x == y) ≡ true → x ≡ y
    number_is x y h = grind arith

    by : (d : ℕ) (other : DedbDef) → slice_get defs d ≡ Some other → (b : Bool) → (d == number) ≡ b
        → FitsDedb other d new
    by d other at true same =
        let its = number_is d number same in
        let def_is : def ≡ other = same_Some def other (sym there ∙ ap (slice_get defs) (sym its) ∙ at) in
        subst (λ (n : ℕ). FitsDedb other n new) (sym its) (subst (λ (x : DedbDef). FitsDedb x number new) def_is fits)
    by d other at false apart =
        let f = work.each d other at in
        record {
          counted = let count = goes.count in let less = f.counted in omega (arith, count, less);
          shapes = λ anchor a found. f.shapes anchor a (sym (goes.anchors d anchor apart) ∙ found);
          place = λ place held. f.place place
              (sym (ap (λ (o : Option DedbPosition).
              let p : DedbPosition = unwrap_or o no_dedb_position in if p.held then p.place else None)
              (goes.positions d apart)) ∙ held);
        }

abbrev pub ShowsBy : {E : Type 0} → Result DedbReady E → DedbDef → ℕ → Call → Type 0
ShowsBy r def number c = IfOk r (λ came. IfAnswer came (FitsAnswerOf (OnDedb def number) c))

pub shows_at : {E : Type 0} (r : Result DedbReady E) (def def2 : DedbDef) (number number2 : ℕ) (c : Call) → def ≡ def2
    → number ≡ number2 → ShowsBy r def number c → ShowsBy r def2 number2 c
shows_at r def def2 number number2 c same same_number h =
    subst (λ (n : ℕ). ShowsBy r def2 n c) same_number (subst (λ (d : DedbDef). ShowsBy r d number c) same h)

-- A call that fits its target fits by what is held, where that is of the type shown last.
pub fits_on : (def : DedbDef) (number : ℕ) (shown : Option ℕ) (work : DedbProgress) (c : Call)
    → FitsDedbCall def shown c
    → ((place : Place) → held_in work number ≡ Some place → shown ≡ Some (type_of_path def number place.path))
    → FitsCallOn def number work c
fits_on def number shown work (call.Get g hold n ssas) fit tied = fit
fits_on def number shown work (call.Fld n key fsas) fit tied = tt
fits_on def number shown work (call.Isrt n ssas bytes) fit tied = (fit.0, fit.2)
fits_on def number shown work (call.Repl n bytes) fit tied = λ place held.
    let same = same_Some fit.0 (type_of_path def number place.path) (sym fit.1 ∙ tied place held) in
    subst (λ (t : ℕ). has_length def.segments t bytes ≡ true) same fit.2
fits_on def number shown work (call.Dlet n) fit tied = tt
