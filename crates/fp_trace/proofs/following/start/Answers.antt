-- The program and the work are at their beginnings.
use Rattle.fp_trace.proofs.following.start.Goals as goal

pub returns-in_ok-new-in-Some-clause-number : goal.returns-in_ok-new-in-Some-clause-number
returns-in_ok-new-in-Some-clause-number c = rw c.start.ensures.number c.in-Some.ensures

pub returns-in_ok-new-in-Some-clause-fit : goal.returns-in_ok-new-in-Some-clause-fit
returns-in_ok-new-in-Some-clause-fit c = c.start.ensures.fit c.args.defs.now

pub returns-in_ok-new-in-Some-clause-work : goal.returns-in_ok-new-in-Some-clause-work
returns-in_ok-new-in-Some-clause-work c = c.in_ok-new-in-Some.ensures.of
