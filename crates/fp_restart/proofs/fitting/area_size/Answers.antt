use Rattle.std.proofs.Common.{◌∙◌, sym, arith}
use Rattle.fp_restart.proofs.Areas.{size_behind, size_here}
use Rattle.fp_restart.proofs.fitting.area_size.Goals as goal

pub returns-then-left-len : goal.returns-then-left-len
returns-then-left-len c =
    let dedbs = c.as_slice-dedb-items.result.now in
    sym (size_here dedbs c.loop-dedb.dedb-index c.dedb-item.result c.loop-dedb-test.true c.dedb-item.is c.loop-dedb.left
    (omega (arith, c.len.ensures, c.if-left-len.true))) ∙ c.loop-dedb.invariant

pub loop-dedb-preserved : goal.loop-dedb-preserved
loop-dedb-preserved c =
    let dedbs = c.as_slice-dedb-items.result.now in
    size_behind dedbs c.loop-dedb.dedb-index c.dedb-item.result c.loop-dedb-test.true c.dedb-item.is c.loop-dedb.left
    c.len-left.result c.len-left.ensures (omega (arith, c.len.ensures, c.if-left-len.false)) ∙ c.loop-dedb.invariant
