-- A program that goes on stays where its script is.
use Rattle.std.proofs.Common.{◌≡◌, ◌∙◌, refl, sym, ap, subst, List, [], ◌∷◌, ◌++◌, Option, Some, None}
use Rattle.std.specs.Prelude.{IfSome}
use Rattle.std.proofs.lemmas.List.{append-nil}
use Rattle.fp_model.specs.declared.calls.Message.{Message}
use Rattle.fp_model.specs.declared.calls.Answer.{Answer}
use Rattle.fp_model.specs.declared.definitions.Defs.{Defs}
use Rattle.fp_model.specs.declared.scripts.Statement.{Statement}
use Rattle.fp_model.specs.Asking.{Ask, ask}
use Rattle.txn_machine.specs.declared.program.Program.{Program}
use Rattle.txn_machine.specs.declared.program.Wait.{Wait}
use Rattle.txn_machine.specs.declared.program.Next.{Next}
use Rattle.txn_machine.specs.Running.{IsAt, IsAtCall, IsAsked, end_of}
use Rattle.txn_machine.specs.inside.Running.{StandsAtCall}
use Rattle.txn_machine.specs.inside.Stepping.{ComesAlike}

pub alike_then : (defs : Defs) (statements : List Statement) (message : Message) (a b c : Program)
    → ComesAlike defs statements message a b
    → ComesAlike defs statements message b c → ComesAlike defs statements message a c
alike_then defs statements message a b c h k = record { comes = λ more. h.comes more ∙ k.comes more }

waits_at : (defs : Defs) (statements : List Statement) (message : Message) (answers : List Answer) (now : Program)
    (w : Option Wait)
    → ((more : List Answer) → ask defs statements message (answers ++ more) ≡ end_of defs statements message now more)
    → IfSome w (StandsAtCall defs statements message now) → IfSome w (IsAtCall defs statements message answers now)
waits_at defs statements message answers now None comes h = tt
waits_at defs statements message answers now (Some w) comes h = record {
  asked = h.asked;
  lesson = h.lesson;
  comes = λ more. comes more ∙ h.comes more;
}

pub goes_on_at : (defs : Defs) (statements : List Statement) (message : Message) (answers : List Answer)
    (old now : Program)
    → IsAt defs statements message answers old → ComesAlike defs statements message old now
    → IfSome now.wait (StandsAtCall defs statements message now) → IsAt defs statements message answers now
goes_on_at defs statements message answers old now at alike waits =
    let comes = λ (more : List Answer). at.comes more ∙ alike.comes more in
    record { comes = comes; waits = waits_at defs statements message answers now now.wait comes waits }

-- what is asked from a place on is what the script asks
pub asked_at : (defs : Defs) (statements : List Statement) (message : Message) (answers : List Answer)
    (old now : Program) (given : Next)
    → IsAt defs statements message answers old → ComesAlike defs statements message old now
    → IsAsked given (end_of defs statements message now [])
    → IsAsked given (ask defs statements message answers)
asked_at defs statements message answers old now given at alike asked =
    let is : ask defs statements message answers ≡ end_of defs statements message now [] =
    ap (ask defs statements message) (sym (append-nil answers)) ∙ at.comes [] ∙ alike.comes [] in
    subst (λ (end : Ask). IsAsked given end) (sym is) asked

-- a call that was given before makes no difference
pub from_unwaited : (defs : Defs) (statements : List Statement) (message : Message) (old now : Program)
    → ComesAlike defs statements message (record old { wait = None }) now → ComesAlike defs statements message old now
from_unwaited defs statements message old now h = record { comes = h.comes }

pub to_unwaited : (defs : Defs) (statements : List Statement) (message : Message) (old now : Program)
    → ComesAlike defs statements message old now
    → ComesAlike defs statements message (record old { wait = None }) now
to_unwaited defs statements message old now h = record { comes = h.comes }
