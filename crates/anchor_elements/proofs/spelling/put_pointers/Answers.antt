use Rattle.std.proofs.Common.{◌∙◌, arith}
use Rattle.anchor_elements.proofs.SpellingLemmas.{pointers_put}
use Rattle.anchor_elements.proofs.spelling.put_pointers.Goals as goal

pub loop-pointer-preserved : goal.loop-pointer-preserved
loop-pointer-preserved c = record {
  place = omega arith;
  so_far = pointers_put _ _ _ _ _ _ c.loop-pointer-test.true c.loop-pointer.invariant.place
      c.loop-pointer.invariant.so_far c.put_pointer.ensures.pointer c.put_pointer.ensures.below;
  below = λ k x y. c.put_pointer.ensures.below k x (omega arith) ∙ c.loop-pointer.invariant.below k x y;
  above = λ k x y. c.put_pointer.ensures.above k x (omega arith) ∙ c.loop-pointer.invariant.above k (omega arith)
      (omega arith);
}
