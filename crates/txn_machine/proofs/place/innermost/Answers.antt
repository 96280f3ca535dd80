use Rattle.std.proofs.Common.{arith}
use Rattle.txn_machine.proofs.EndLemmas.{last_of}
use Rattle.txn_machine.proofs.place.innermost.Goals as goal

pub returns-in-len1-up : goal.returns-in-len1-up
returns-in-len1-up c = last_of c.args.frames.now _ (omega arith)
