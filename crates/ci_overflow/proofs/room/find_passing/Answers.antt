use Rattle.std.proofs.Common.{refl, arith}
use Rattle.std.proofs.lemmas.Result.{err_from_is_err_and}
use Rattle.ci_overflow.specs.Faults.{FitsEmpty}
use Rattle.ci_overflow.specs.inside.Rooms.{TakesOne}
use Rattle.ci_overflow.proofs.Tries.{option_some, option_none}
use Rattle.ci_overflow.proofs.Orders.{orders-standing, orders-next, if_ok-on}
use Rattle.ci_overflow.proofs.Finds.{takes-standing, takes-next, finds-standing, finds-next, base-some}
use Rattle.ci_overflow.proofs.Knowns.{known-back, known-here, known-next, known-room, own-joined}
use Rattle.ci_overflow.proofs.room.find_passing.Goals as goal
use Rattle.plain_laws.proofs.Results.{both_ok, same_fault}

pub returns-in-Some-clause-one : goal.returns-in-Some-clause-one
returns-in-Some-clause-one g c = λ t k. record {
  takes = takes-standing _ _ _ _ _ _ _ c.in-Some.is (c.in_ok-room.ensures.taken t);
  own = option_some _ _ _ c.in-Some.is (c.in_ok-room.ensures.own t);
  finds = λ o. finds-standing _ _ _ _ _ _ _ _ o c.uow_of-uow.ensures.number c.uow_of-uow.ensures.bound c.in-Some.is
      (λ shared h. c.in_ok-room.ensures.tried t k shared h);
  in_order = λ o. orders-standing _ _ _ _ _ _ _ _ o c.uow_of-uow.ensures.number c.uow_of-uow.ensures.bound c.in-Some.is
      (λ shared h. c.in_ok-room.ensures.tried t k shared h);
}

pub returns-in-None-clause-one : goal.returns-in-None-clause-one
returns-in-None-clause-one g c = λ t k.
    let t1 = c.try_standing.ensures.goes_on.tells t in
    let t2 = c.join_next.ensures.goes_on.tells t1 in
    let number = c.uow_of-uow.ensures.number in
    let bound = c.uow_of-uow.ensures.bound in
    let base = base-some _ _ _ c.requires in
    let area = g.I.Intervals.intervals c.args.i.now in
    let now = g.I.Intervals.intervals c.join_next.new.i in
    both_ok _ _ _ (TakesOne c.args.shape.now area now c.args.anchor c.args.length) (λ room j below. record {
      takes = takes-next _ _ _ _ _ _ _ _ room number bound base c.in-None.is (c.in_ok-room.ensures.full t) j;
      own = own-joined c.args.shape.now _ _ c.args.anchor _ c.uow_of-uow.result room number j
          (omega (arith, below, g.met.I.Intervals.numbered c.join_next.new.i t2));
      finds = λ o. finds-next _ _ _ _ _ _ _ _ room o number bound base c.in-None.is
          (λ shared h. c.in_ok-room.ensures.tried t k shared h) j;
      in_order = λ o. orders-next _ _ _ _ _ _ _ _ room o number bound base c.in-None.is
          (λ shared h. c.in_ok-room.ensures.tried t k shared h) j;
    }) (c.join_next.ensures.joined t1) c.join_next.ensures.in_range

pub returns-in-Some-clause-others : goal.returns-in-Some-clause-others
returns-in-Some-clause-others g c = λ t n other k.
    known-room c.args.shape.now _ _ _ _ _ _ _ (c.in_ok-room.ensures.taken t) (c.in_ok-room.ensures.full t) k

pub returns-in-None-clause-others : goal.returns-in-None-clause-others
returns-in-None-clause-others g c = λ t n other k.
    let same = option_none _ _ c.in-None.is (c.in_ok-room.ensures.full t) in
    if_ok-on _ _ _ (λ room j. known-back c.args.shape.now _ _ _ _ _ c.uow_of-uow.ensures.number
    (known-next c.args.shape.now _ _ c.uow_of-uow.result _ _ room _ c.uow_of-uow.ensures.bound
    (base-some _ _ _ c.requires) j (known-here c.args.shape.now _ _ _ _ _ _ same c.uow_of-uow.ensures.number k)))
    (c.join_next.ensures.joined (c.try_standing.ensures.goes_on.tells t))

pub returns-in-None-clause-known : goal.returns-in-None-clause-known
returns-in-None-clause-known g c = λ t k.
    if_ok-on _ _ _ (λ room j. known-back c.args.shape.now _ _ _ _ _ c.uow_of-uow.ensures.number
    (known-next c.args.shape.now _ _ c.uow_of-uow.result _ _ room _ c.uow_of-uow.ensures.bound
    (base-some _ _ _ c.requires) j (known-here c.args.shape.now _ _ _ _ _ _ refl c.uow_of-uow.ensures.number
    (c.in_ok-room.ensures.known t k))))
    (c.join_next.ensures.joined (c.try_standing.ensures.goes_on.tells t))

pub returns-in_err-room-clause-damaged : goal.returns-in_err-room-clause-damaged
returns-in_err-room-clause-damaged g c = λ t f k n e.
    let p = err_from_is_err_and c.from_residual.result c.from_residual.ensures.1 in
    c.in_err-room.ensures.damaged t k n (same_fault _ _ _ _ p.1 p.2 e)

pub returns-in-None-clause-damaged : goal.returns-in-None-clause-damaged
returns-in-None-clause-damaged g c = λ t f k n e.
    let fits : FitsEmpty (g.I.Intervals.size c.try_standing.new.i) c.args.length =
    rw c.try_standing.ensures.goes_on.same_size f in
    let full = rw c.in-None.is at (c.in_ok-room.ensures.full t) in
    rw full at (c.join_next.ensures.damaged (c.try_standing.ensures.goes_on.tells t) fits n e)
