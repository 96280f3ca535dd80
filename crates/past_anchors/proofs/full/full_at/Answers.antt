use Rattle.std.proofs.Common.{◌∙◌, sym, arith}
use Rattle.past_anchors.specs.Databases.{state_of}
use Rattle.past_anchors.specs.inside.Places.{area_of}
use Rattle.past_anchors.proofs.Fulls.{full_is, no_full, no_inserts}
use Rattle.past_anchors.proofs.full.full_at.Goals as goal
use Rattle.past_anchors.proofs.full.full_at.Goals.{else-n-gt0-via-then-n-gt0+else-is_too_full, else-n-gt0-via-else-n-gt0}

pub returns-then-is_too_full : goal.returns-then-is_too_full
returns-then-is_too_full c msdbs =
    full_is (state_of msdbs c.args.dedbs.now) c.args.inserts.now c.args.set (area_of c.args.area.now) c.count-n.result
    c.ends_at-ends.result c.count-n.ensures (c.ends_at-ends.ensures msdbs) c.if-n-gt0.true
    (sym c.is_too_full.ensures ∙ c.if-is_too_full.true)

pub returns-else-n-gt0 : goal.returns-else-n-gt0
returns-else-n-gt0 c msdbs = elim c.else-n-gt0.branch [
  | else-n-gt0-via-then-n-gt0+else-is_too_full w ↦
      no_full (state_of msdbs c.args.dedbs.now) c.args.inserts.now c.args.set (area_of c.args.area.now)
      c.count-n.result c.ends_at-ends.result c.count-n.ensures (c.ends_at-ends.ensures msdbs)
      (sym w.is_too_full.ensures ∙ w.if-is_too_full.false)
  | else-n-gt0-via-else-n-gt0 w ↦
      no_inserts (state_of msdbs c.args.dedbs.now) c.args.inserts.now c.args.set (area_of c.args.area.now)
      c.count-n.result c.ends_at-ends.result c.count-n.ensures (c.ends_at-ends.ensures msdbs) (omega arith)
]
