use Rattle.std.proofs.Common.{◌∙◌}
use Rattle.dedb_calls.proofs.ArgumentLemmas.{line_above, line_lacks, line_starts}
use Rattle.dedb_calls.proofs.arguments.+name_line.Goals as goal

pub returns-then-last-segment : goal.returns-then-last-segment
returns-then-last-segment t c =
    line_lacks c.args.segments.now c.args.segment c.args.levels c.args.ssas.now c.last-item.result
    c.in-len1-up.len_at_least c.last-item.is c.if-last-segment.true

pub returns-in-Some : goal.returns-in-Some
returns-in-Some t c =
    c.name_line.ensures
    ∙ line_above c.args.segments.now c.args.segment c.args.levels c.args.ssas.now c.last-item.result
    c.in-len1-up.len_at_least c.last-item.is c.in-Some.parent c.if-last-segment.false c.if-levels-eq0.false
    c.in-Some.ensures

pub returns-in-None : goal.returns-in-None
returns-in-None t c =
    c.is_empty-in-None.ensures
    ∙ line_starts c.args.segments.now c.args.segment c.args.levels c.args.ssas.now c.last-item.result
    c.in-len1-up.len_at_least c.last-item.is c.if-last-segment.false c.if-levels-eq0.false c.in-None.ensures
