use Rattle.std.proofs.Common.{◌≡◌, ◌∙◌, [], get_or, arith}
use Rattle.std.proofs.lemmas.List.{get_or_default}
use Rattle.seq_dependents.proofs.Fillings.{fills_on}
use Rattle.seq_dependents.proofs.writing.fill.Goals as goal
use Rattle.ci_space.proofs.GoingLemmas.{goes_on_joined}

pub loop-at-preserved : goal.loop-at-preserved
loop-at-preserved g c =
    let it = c.loop-at.invariant in
    let segment : c.as_slice.result.now ≡ get_or c.args.segments.now c.loop-at.at [] = c.as_slice.ensures
    ∙ c.index-segments-at.is
    ∙ get_or_default c.args.segments.now c.loop-at.at c.index-segments-at.result [] (omega (arith, c.loop-at-test.true))
    in
    record {
      goes_on = goes_on_joined _ _ _ _ _ _ _ it.goes_on c.put_slot.ensures.goes_on;
      number = c.put_slot.ensures.number ∙ it.number;
      filled = λ t. fills_on c.args.part.now _ _ _ c.args.first c.args.previous c.args.segments.now c.loop-at.at
          c.linked_to-linked.result c.as_slice.result.now c.requires.holds
          (omega (arith, c.loop-at-test.true, c.requires.few)) c.linked_to-linked.ensures segment (it.filled t)
          (c.in_ok-put_slot.ensures.put (it.goes_on.tells t));
    }
