use Rattle.std.proofs.lemmas.Result.{err_from_is_err_and}
use Rattle.anchor_elements.specs.Reading.{segment_of}
use Rattle.root_anchor.specs.inside.Gaps.{AddsBehind}
use Rattle.root_anchor.proofs.FillLemmas.{others_there}
use Rattle.root_anchor.proofs.filling.fill.Goals as goal
use Rattle.plain_laws.proofs.Results.{on_ok_map}

pub returns-clause-filled : goal.returns-clause-filled
returns-clause-filled g c = λ told h.
    let adds = c.in_ok-at.ensures.adds told in
    let holder = c.args.gap.now.holder in
    let there = others_there c.args.home.now.shape.now c.args.home.now.segments.now _ _ c.args.home.now.anchor
    c.args.gap.now.added c.in_ok-at.at adds holder.segment holder.at (segment_of holder.said) h in
    on_ok_map _ _ _ (λ put. (let made : AddsBehind c.args.home.now.shape.now c.args.home.now.segments.now
    (g.I.Intervals.intervals c.args.i.now) (g.I.Intervals.intervals c.put_link.new.i) c.args.home.now.anchor
    c.args.gap.now = record {
      at = c.in_ok-at.at;
      middle = g.I.Intervals.intervals c.add_segment.new.i;
      adds = adds;
      put = put;
    } in made))
    (c.put_link.ensures.put (c.add_segment.ensures.goes_on.tells told) there)

pub returns-clause-lists : goal.returns-clause-lists
returns-clause-lists g c = λ told h ci e.
    let adds = c.in_ok-at.ensures.adds told in
    let holder = c.args.gap.now.holder in
    let there = others_there c.args.home.now.shape.now c.args.home.now.segments.now _ _ c.args.home.now.anchor
    c.args.gap.now.added c.in_ok-at.at adds holder.segment holder.at (segment_of holder.said) h in
    absurd (c.put_link.ensures.sound (c.add_segment.ensures.goes_on.tells told) there ci e)

pub returns-in_err-at-clause-lists : goal.returns-in_err-at-clause-lists
returns-in_err-at-clause-lists g c = λ told h ci e.
    let p = err_from_is_err_and c.from_residual.result c.from_residual.ensures.1 in
    c.in_err-at.ensures.lists told ci (cc (p.1, p.2, c.in_err-at.was))
