use Rattle.std.proofs.Common.{◌≡◌, arith}
use Rattle.drain_laws.specs.ProductGauge.{weight_of_line}
use Rattle.fp_core.proofs.Bounds.{counted}
use Rattle.fp_core.proofs.stepping.Core.most_rounds.Goals as goal

pub returns : goal.returns
returns g c m reached =
    let engine = c.args.self.now.engine in
    let bound = counted engine c.args.self.now.lines m c.count-queued.result c.len-active.result c.from.result reached
    (omega (arith, c.count-queued.ensures.total)) (omega (arith, c.len-active.ensures))
    (omega (arith, c.from.ensures, c.count.ensures, c.sealed.ensures)) in
    let weight : c.weight_of_line.result ≡ weight_of_line engine.defs.now.tries = c.weight_of_line.ensures in
    rw weight (omega (arith, bound))
