use Rattle.std.proofs.Common.{◌≡◌, ◌+◌, ◌-◌, length, ap, ◌∙◌, arith}
use Rattle.ci_space.specs.Element.{Begins}
use Rattle.ci_space.specs.Walk.{length_of}
use Rattle.ci_space.proofs.Chains.{Begins-keeps}
use Rattle.ci_space.proofs.Splits.{splits, free-length, left_least, left_fours}
use Rattle.ci_space.proofs.elements.split.Goals as goal

pub returns-then-size-free-clause-splits : goal.returns-then-size-free-clause-splits
returns-then-size-free-clause-splits c = λ before after free e h chain.
    let f : length_of c.args.bytes.now c.args.at ≡ free = free-length _ _ _ _ _ e chain in
    let r : c.length_at-free.result ≡ free = c.length_at-free.ensures.length ∙ f in
    let l1 : length c.put_element.new.bytes ≡ length c.args.bytes.now = c.put_element.auto.bytes in
    let l2 : length c.put_element-then-size-free.new.bytes ≡ length c.put_element.new.bytes =
    c.put_element-then-size-free.auto.bytes in
    let p1 = c.put_element.ensures in
    let p2 = c.put_element-then-size-free.ensures in
    let b1 : Begins c.put_element.new.bytes c.args.at c.args.size 1 0 = record {
      is_length = p1.is_length;
      is_tag =
          p1.is_tag;
      is_segment = p1.is_segment;
      least = c.requires.least;
      fours = c.requires.fours;
    } in
    let b2 : Begins c.put_element-then-size-free.new.bytes (c.args.at + c.args.size) (free - c.args.size) 0 0 =
    record {
      is_length = p2.is_length ∙ ap (λ k. k - c.args.size) r;
      is_tag = p2.is_tag;
      is_segment =
          p2.is_segment;
      least = left_least free c.args.size (rw (← f) c.requires.free_fours) c.requires.fours
          (omega arith);
      fours = left_fours free c.args.size (rw (← f) c.requires.free_fours) c.requires.fours h;
    } in
    splits _ _ _ _ before after free (l2 ∙ l1) (λ k x y. p2.below k x (omega arith) ∙ p1.below k x y)
    (Begins-keeps _ _ _ _ _ _ (λ k x y. p2.below k (omega arith) (omega arith)) b1)
    (λ p. b2)
    (λ k x y. p2.above k (omega arith) (omega arith) ∙ p1.above k (omega arith) y)
    e h chain

pub returns-else-size-free-clause-splits : goal.returns-else-size-free-clause-splits
returns-else-size-free-clause-splits c = λ before after free e h chain.
    let f : length_of c.args.bytes.now c.args.at ≡ free = free-length _ _ _ _ _ e chain in
    let same : free ≡ c.args.size = omega arith in
    splits _ _ _ _ before after free c.put_element.auto.bytes c.put_element.ensures.below
    (record {
      is_length = c.put_element.ensures.is_length;
      is_tag = c.put_element.ensures.is_tag;
      is_segment =
          c.put_element.ensures.is_segment;
      least = c.requires.least;
      fours = c.requires.fours;
    })
    (λ p. absurd (omega arith))
    (λ k x y. c.put_element.ensures.above k (omega arith) y)
    e h chain
