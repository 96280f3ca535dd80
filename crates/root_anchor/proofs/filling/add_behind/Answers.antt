use Rattle.std.proofs.Common.{[], sym, subst}
use Rattle.std.proofs.lemmas.Result.{err_from_is_err_and}
use Rattle.ci_overflow.specs.Faults.{IsAtFault}
use Rattle.anchor_elements.specs.Elements.{HasSegment}
use Rattle.anchor_elements.specs.Reading.{segment_of}
use Rattle.root_anchor.specs.Chains.{AreRoots}
use Rattle.root_anchor.specs.inside.Gaps.{AddsBehind}
use Rattle.root_anchor.proofs.FillLemmas.{behind_few, behind_one, behind_stay, behind_rebuilds}
use Rattle.root_anchor.proofs.FindingLemmas.{found_there}
use Rattle.root_anchor.proofs.filling.add_behind.Goals as goal

pub returns-in_err-gap-clause-lists : goal.returns-in_err-gap-clause-lists
returns-in_err-gap-clause-lists g c = λ told e has ci x.
    let p = err_from_is_err_and c.from_residual.result c.from_residual.ensures.1 in
    absurd (c.gap_in_roots.ensures.sound told (record {
      met = [];
      after = has.elements;
      are = subst (λ q. AreRoots c.args.home.now.segments.now (g.I.Intervals.intervals c.args.i.now) [] q
          c.args.roots.now has.elements) (sym e) has.is_chain.are_roots;
    }) ci (cc (p.1, p.2, c.in_err-gap.was)))

pub returns-in_err-fill-clause-lists : goal.returns-in_err-fill-clause-lists
returns-in_err-fill-clause-lists g c = λ told e has ci x.
    let shape = c.args.home.now.shape.now in
    let types = c.args.home.now.segments.now in
    let told1 = c.gap_in_roots.ensures.look.goes_on.tells told in
    let same = c.gap_in_roots.ensures.look.same told in
    let gap = c.in-Some.gap in
    let it = found_there _ gap _ c.in-Some.is (c.in_ok-gap.ensures.gap told) in
    let there = subst (λ x. HasSegment types x gap.holder.segment gap.holder.at (segment_of gap.holder.said)) (sym same)
    it.there in
    let p = err_from_is_err_and c.from_residual-in_err-fill.result c.from_residual-in_err-fill.ensures.1 in
    subst (λ x. IsAtFault shape x ci) same
    (c.in_err-fill.ensures.lists told1 there ci (cc (p.1, p.2, c.in_err-fill.was)))

pub returns-clause-grows : goal.returns-clause-grows
returns-clause-grows g c = λ told o e all a has yes.
    let shape = c.args.home.now.shape.now in
    let types = c.args.home.now.segments.now in
    let anchor = c.args.home.now.anchor in
    let same = c.gap_in_roots.ensures.look.same told in
    let gap = c.in-Some.gap in
    let it = found_there _ gap _ c.in-Some.is (c.in_ok-gap.ensures.gap told) in
    let there = subst (λ x. HasSegment types x gap.holder.segment gap.holder.at (segment_of gap.holder.said)) (sym same)
    it.there in
    let adds = subst (λ x. AddsBehind shape types x (g.I.Intervals.intervals c.fill.new.i) anchor gap) same
    (c.in_ok-fill.ensures.filled (c.gap_in_roots.ensures.look.goes_on.tells told) there) in
    record {
      refills = record {
        all = all;
        standing = a;
        rebuilds = behind_rebuilds shape types _ _ anchor all c.args.first c.args.roots.now c.args.others.now gap e a
            has it adds;
      };
      few = behind_few shape types _ _ anchor gap adds;
      stay = behind_stay shape types _ _ anchor gap it.there adds;
      one = behind_one shape types _ _ anchor c.args.first c.args.roots.now c.args.others.now gap e has it o adds;
    }
