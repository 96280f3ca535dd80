-- What a call to a data entry database comes to, as what a call comes to.
use Rattle.std.proofs.Common.{◌≡◌, refl, ap, sym, ◌∙◌, subst, ℕ, Option}
use Rattle.std.specs.Prelude.{option_map}
use Rattle.fp_model.specs.declared.calls.Answer.{Answer}
use Rattle.fp_model.specs.declared.calls.Resource.{Resource}
use Rattle.dedb_calls.specs.Readiness as dedbs
use Rattle.dedb_calls.specs.declared.ready.DedbReady.{DedbReady}
use Rattle.dedb_calls.specs.declared.ready.DedbReady.TheVariants as dedb
use Rattle.fp_model.specs.Answers.{Needed}
use Rattle.past_calls.specs.Readiness.{IfAnswer, needed_in}
use Rattle.past_calls.specs.inside.Readiness.{ready_in}
use Rattle.past_calls.specs.declared.answering.Ready.{Ready}
use Rattle.past_calls.specs.declared.answering.Ready.TheVariants as ready

-- the anchor of a lock
abbrev anchor_of : Option Needed → Option Resource
anchor_of = option_map (λ needed. needed.resource)

pub needs_in : (n : ℕ) (came : DedbReady) (ready : Ready) (needed : Option Needed) → ready ≡ ready_in n came
    → dedbs.needed_in n came ≡ needed → needed_in ready ≡ option_map (λ one. one.resource) needed
needs_in n came ready needed is so = ap needed_in is ∙ same n came ∙ ap anchor_of so
  where
    same : (n : ℕ) (came : DedbReady) → needed_in (ready_in n came) ≡ anchor_of (dedbs.needed_in n came)
    same n (dedb.Answer answer) = refl
    same n (dedb.Need anchor mode) = refl

pub if_answer : (P Q : Answer → Type 0) (r : Ready) → IfAnswer r P → ((answer : Answer) → P answer → Q answer)
    → IfAnswer r Q
if_answer P Q (ready.Answer answer) p f = f answer p
if_answer P Q (ready.Need number anchor) p f = tt

pub answers_in : (n : ℕ) (came : DedbReady) (ready : Ready) (P : Answer → Type 0) → ready ≡ ready_in n came
    → dedbs.IfAnswer came P → IfAnswer ready P
answers_in n came ready P is so = subst (λ (r : Ready). IfAnswer r P) (sym is) (same n came so)
  where
    same : (n : ℕ) (came : DedbReady) → dedbs.IfAnswer came P → IfAnswer (ready_in n came) P
    same n (dedb.Answer answer) p = p
    same n (dedb.Need anchor mode) p = tt
