use Rattle.txn_machine.proofs.ActLemmas.{asked_is, chose_alike, chose_less, left_alike, left_work, next_less, passed, repeats_alike, repeats_less, replied, rolled, set_alike_program, set_less, stands, unchanged}
use Rattle.std.proofs.Common.{◌≡◌, ◌<◌, sym, ap, subst, ℕ, Option, Some, None, Result, Ok, Err}
use Rattle.txn_machine.specs.declared.program.Program.{Program}
use Rattle.txn_machine.specs.inside.Work.{work}
use Rattle.txn_machine.proofs.program.Program.act.Goals as goal

pub returns-in-Set-clause-alike : goal.returns-in-Set-clause-alike
returns-in-Set-clause-alike c = λ defs statements message d.
    set_alike_program defs statements message c.args.end c.args.self.now c.args.deed d c.set.result c.set.new.self
    c.args.behind
    c.in-Set.name c.in-Set.text c.requires.behind c.in-Set.is
    c.set.ensures.at c.set.ensures.stays c.set.ensures.ok c.set.ensures.err

pub returns-in-Set-clause-less : goal.returns-in-Set-clause-less
returns-in-Set-clause-less c = λ defs statements message d. set_less defs statements message c.args.end c.args.self.now
    c.args.deed d
    c.set.result c.set.new.self.place c.args.behind c.requires.behind c.set.ensures.at

pub returns-in-Pass-clause-alike : goal.returns-in-Pass-clause-alike
returns-in-Pass-clause-alike c = λ defs statements message d. passed defs statements message c.args.end c.args.self.now
    c.args.deed d
    c.pass.new.self c.args.behind c.requires.behind c.in-Pass.is c.pass.ensures.goes

pub returns-in-Pass-clause-less : goal.returns-in-Pass-clause-less
returns-in-Pass-clause-less c = λ defs statements message d.
    rw c.pass.ensures.nothing (λ nothing. next_less defs statements message c.args.end c.args.self.now c.args.deed d
    c.pass.new.self.place c.args.behind c.requires.behind (ap (λ (p : Program). p.place) c.pass.ensures.goes))

pub returns-in-Choose-clause-alike : goal.returns-in-Choose-clause-alike
returns-in-Choose-clause-alike c = λ defs statements message d.
    chose_alike defs statements message c.args.end c.args.self.now c.args.deed d c.enter.result c.enter.new.self
    c.args.behind
    c.in-Choose.holds c.requires.behind c.in-Choose.is c.enter.ensures.ok c.enter.ensures.err

pub returns-in-Choose-clause-less : goal.returns-in-Choose-clause-less
returns-in-Choose-clause-less c = λ defs statements message d.
    chose_less defs statements message c.args.end c.args.self.now c.args.deed d c.enter.result c.enter.new.self
    c.args.behind
    c.in-Choose.holds c.requires.behind c.in-Choose.is c.enter.ensures.ok

pub returns-in-Repeat-clause-alike : goal.returns-in-Repeat-clause-alike
returns-in-Repeat-clause-alike c = λ defs statements message d.
    repeats_alike defs statements message c.args.end c.args.self.now c.args.deed d c.enter-in-Repeat.result
    c.enter-in-Repeat.new.self c.args.behind c.in-Repeat.left c.requires.behind c.in-Repeat.is
    c.enter-in-Repeat.ensures.ok c.enter-in-Repeat.ensures.err

pub returns-in-Repeat-clause-less : goal.returns-in-Repeat-clause-less
returns-in-Repeat-clause-less c = λ defs statements message d.
    repeats_less defs statements message c.args.end c.args.self.now c.args.deed d c.enter-in-Repeat.result
    c.enter-in-Repeat.new.self c.args.behind c.in-Repeat.left c.requires.behind c.in-Repeat.is
    c.enter-in-Repeat.ensures.ok

pub returns-in-Leave-clause-alike : goal.returns-in-Leave-clause-alike
returns-in-Leave-clause-alike c = λ defs statements message d. left_alike defs statements message c.args.end
    c.args.self.now c.args.deed
    d c.leave.new.self c.in-Leave.is c.leave.ensures.known c.leave.ensures.leads

pub returns-in-Leave-clause-less : goal.returns-in-Leave-clause-less
returns-in-Leave-clause-less c = λ defs statements message d.
    rw c.leave.ensures.nothing (λ nothing. left_work defs statements message c.args.end c.args.self.now c.args.deed d
    c.leave.new.self.place (c.leave.ensures.less statements d.ends))

pub returns-in-Reply-clause-asked : goal.returns-in-Reply-clause-asked
returns-in-Reply-clause-asked c = λ defs statements message d. replied defs statements message c.args.end
    c.args.self.now c.args.deed d
    c.in-Reply.text c.in-Reply.is

pub returns-in-Roll-clause-asked : goal.returns-in-Roll-clause-asked
returns-in-Roll-clause-asked c = λ defs statements message d. rolled defs statements message c.args.end c.args.self.now
    c.args.deed d
    c.in-Roll.code c.in-Roll.is

pub returns-in_ok-ask-in-Ask-clause-alike : goal.returns-in_ok-ask-in-Ask-clause-alike
returns-in_ok-ask-in-Ask-clause-alike c = λ defs statements message d. unchanged defs statements message c.args.end
    c.args.self.now
    c.args.deed d c.ask.new.self c.ask.ensures.place c.ask.ensures.env

pub returns-in_err-ask-in-Ask-clause-alike : goal.returns-in_err-ask-in-Ask-clause-alike
returns-in_err-ask-in-Ask-clause-alike c = λ defs statements message d. unchanged defs statements message c.args.end
    c.args.self.now
    c.args.deed d c.ask.new.self c.ask.ensures.place c.ask.ensures.env

pub returns-in_ok-ask-in-Ask-clause-asked : goal.returns-in_ok-ask-in-Ask-clause-asked
returns-in_ok-ask-in-Ask-clause-asked c = λ defs statements message d.
    asked_is defs statements message c.args.end c.args.self.now c.args.deed d c.in-Ask.asked c.in_ok-ask-in-Ask.field-0
    c.in-Ask.is c.in_ok-ask-in-Ask.ensures.call

pub returns-in_ok-ask-in-Ask-clause-call : goal.returns-in_ok-ask-in-Ask-clause-call
returns-in_ok-ask-in-Ask-clause-call c = λ defs statements message d.
    stands defs statements message c.args.end c.args.self.now c.args.deed d c.ask.new.self c.in-Ask.asked c.args.behind
    c.requires.behind c.in-Ask.is c.ask.ensures.place c.ask.ensures.env
    c.in_ok-ask-in-Ask.ensures.wait
