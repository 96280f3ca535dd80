use Rattle.std.proofs.Common.{◌∙◌, ap, sym, min, arith}
use Rattle.log_groups.proofs.Sealing.{is_oldest}
use Rattle.log_groups.proofs.buffer.oldest.Goals as goal

pub returns-clause-oldest : goal.returns-clause-oldest
returns-clause-oldest c entries each long text =
    let end = c.end_of-end in
    let count = c.min-count.ensures ∙ ap (min c.args.most) (sym long) in
    is_oldest c.args.buffer.now c.args.start end.result c.args.most c.min-count.result entries each text
    end.ensures.start end.ensures.inside (omega (arith, c.min-count.ensures, c.requires)) count
    (end.ensures.rest entries each (omega (arith, count)) text) (omega (arith, end.ensures.inside))
