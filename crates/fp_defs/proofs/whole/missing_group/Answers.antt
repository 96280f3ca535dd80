use Rattle.std.proofs.Common.{◌≡◌, ◌∙◌, ◌<◌, sym, arith}
use Rattle.fp_defs.specs.Whole.{greatest}
use Rattle.fp_defs.proofs.PlaceLemmas.{gap_here, gap_later}
use Rattle.fp_defs.proofs.whole.missing_group.Goals as goal

pub returns-then-not-has_group : goal.returns-then-not-has_group
returns-then-not-has_group c =
    let groups = c.args.groups.now in
    let is : c.group_count-i-end.result ≡ greatest groups = c.group_count-i-end.ensures.count in
    let below : c.loop-i.i < greatest groups = omega arith in
    sym (gap_here groups (greatest groups) c.loop-i.i below (sym c.has_group.ensures ∙ c.if-not-has_group.true)) ∙
    c.loop-i.invariant

pub loop-i-preserved : goal.loop-i-preserved
loop-i-preserved c =
    let groups = c.args.groups.now in
    let is : c.group_count-i-end.result ≡ greatest groups = c.group_count-i-end.ensures.count in
    let below : c.loop-i.i < greatest groups = omega arith in
    sym (gap_later groups (greatest groups) c.loop-i.i below (sym c.has_group.ensures ∙ c.if-not-has_group.false)) ∙
    c.loop-i.invariant
