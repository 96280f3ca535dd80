use Rattle.fp_audit.proofs.StateLemmas.{keeps_same, next_ready}
use Rattle.fp_audit.proofs.so_far.SoFar.ends_alone.Goals as goal

pub returns-then-not-never_falls-clause-keeps : goal.returns-then-not-never_falls-clause-keeps
returns-then-not-never_falls-clause-keeps g c = keeps_same c.args.self.now

pub returns-in_err-message-clause-keeps : goal.returns-in_err-message-clause-keeps
returns-in_err-message-clause-keeps g c = keeps_same c.args.self.now

pub returns-clause-keeps : goal.returns-clause-keeps
returns-clause-keeps g c = keeps_same c.args.self.now

pub returns-then-not-never_falls-clause-next : goal.returns-then-not-never_falls-clause-next
returns-then-not-never_falls-clause-next g c = next_ready c.args.self.now c.requires.ready

pub returns-clause-next : goal.returns-clause-next
returns-clause-next g c = next_ready c.args.self.now c.requires.ready
