use Rattle.std.proofs.Common.{arith}
use Rattle.ci_space.proofs.Reading.{rest-four, used-on, free-on, free-behind}
use Rattle.ci_space.proofs.elements.next_element.Goals as goal

pub returns-then-rest-lt4-clause-none : goal.returns-then-rest-lt4-clause-none
returns-then-rest-lt4-clause-none c = λ t. absurd (omega (arith, rest-four _ _ _ c.requires t))

pub returns-then-tag-eq-USED-clause-back : goal.returns-then-tag-eq-USED-clause-back
returns-then-tag-eq-USED-clause-back c = used-on _ _ _ _ c.length_at-length.ensures.length c.if-tag-eq-USED.true
    (omega arith) (omega arith) (omega arith)

pub returns-then-not-after_free-clause-on : goal.returns-then-not-after_free-clause-on
returns-then-not-after_free-clause-on c = free-behind _ _ _ _ c.requires c.length_at-length.ensures.length
    c.if-tag-eq-FREE.true

pub returns-then-not-after_free-clause-back : goal.returns-then-not-after_free-clause-back
returns-then-not-after_free-clause-back c = rw c.if-not-after_free.true
    (free-on _ _ _ c.length_at-length.ensures.length c.if-tag-eq-FREE.true c.if-segment-eq0.true (omega arith)
    (omega arith))
