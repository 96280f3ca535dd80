use Rattle.ci_overflow.specs.inside.Rooms.{TakesOne}
use Rattle.ci_overflow.proofs.FaultLemmas.{in-order-sound}
use Rattle.ci_overflow.proofs.Orders.{if_ok-on}
use Rattle.ci_overflow.proofs.room.find_room.Goals as goal
use Rattle.std.proofs.lemmas.Result.{IfOk-weaker}

pub returns-clause-takes : goal.returns-clause-takes
returns-clause-takes g c = λ t. IfOk-weaker _ _ _ (λ room (x : TakesOne _ _ _ _ _ room). x.takes)
    (c.find_passing.ensures.one t (c.none.ensures _ _ _ _))

pub returns-clause-own : goal.returns-clause-own
returns-clause-own g c = λ t. IfOk-weaker _ _ _ (λ room (x : TakesOne _ _ _ _ _ room). x.own) (c.find_passing.ensures.one t (c.none.ensures _ _ _ _))

pub returns-clause-room : goal.returns-clause-room
returns-clause-room g c = λ t o. IfOk-weaker _ _ _ (λ room (x : TakesOne _ _ _ _ _ room). x.finds o)
    (c.find_passing.ensures.one t (c.none.ensures _ _ _ _))

pub returns-clause-lists : goal.returns-clause-lists
returns-clause-lists g c = λ t o. if_ok-on _ _ _ (λ room (x : TakesOne _ _ _ _ _ room). x.in_order o)
    (c.find_passing.ensures.one t (c.none.ensures _ _ _ _))

pub returns-clause-damaged : goal.returns-clause-damaged
returns-clause-damaged g c = λ t f n e. c.find_passing.ensures.damaged t f (c.none.ensures _ _ _ _) n e

pub returns-clause-sound : goal.returns-clause-sound
returns-clause-sound g c = λ t o f n e. in-order-sound _ _ n o (returns-clause-damaged g c t f n e)
