use Rattle.std.proofs.Common.{refl}
use Rattle.area_tests.proofs.Slots.{is_lone_place}
use Rattle.area_tests.proofs.states.place.Goals as goal

pub returns : goal.returns
returns c =
    is_lone_place _ c.shape.ensures.ci c.shape.ensures.uows c.shape.ensures.base c.shape.ensures.intervals refl
    c.in_ok-customer_types.ensures.types c.in_ok-customer_types.ensures.customers
