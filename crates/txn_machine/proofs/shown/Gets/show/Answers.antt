use Rattle.std.proofs.Common.{Option, subst}
use Rattle.txn_machine.specs.declared.shown.Gets.{Gets}
use Rattle.txn_machine.specs.Fit.{AreShown}
use Rattle.txn_machine.proofs.shown.Gets.show.Goals as goal

pub returns-in-Some-clause-fit : goal.returns-in-Some-clause-fit
returns-in-Some-clause-fit c = λ defs all h. c.next.ensures.fit defs
    (subst (λ (gets : Option Gets). AreShown defs gets) c.in-Some.is all) h
