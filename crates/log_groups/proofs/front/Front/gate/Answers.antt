use Rattle.std.proofs.Common.{arith}
use Rattle.log_groups.specs.Images.{as_front}
use Rattle.log_groups.proofs.Shutting.{length-front}
use Rattle.log_groups.proofs.front.Front.gate.Goals as goal

pub returns : goal.returns
returns c = omega (arith, c.len.ensures, c.len-2.ensures, length-front (as_front c.args.self.now))
