use Rattle.anchor_elements.proofs.ReadLemmas.{used_inside, typed_test}
use Rattle.anchor_elements.proofs.element.is_of_type.Goals as goal

pub returns-then-is_used-clause-is : goal.returns-then-is_used-clause-is
returns-then-is_used-clause-is c = typed_test (c.is_used.ensures.0 c.if-is_used.true) c.type_at.ensures

pub returns-then-is_used-clause-inside : goal.returns-then-is_used-clause-inside
returns-then-is_used-clause-inside c = λ same. used_inside _ _ (c.is_used.ensures.0 c.if-is_used.true)
