use Rattle.std.proofs.Common.{◌<◌, ◌%◌, ◌∙◌, sym, ap, arith}
use Rattle.std.proofs.lemmas.Result.{err_from_is_err_and, IfOk-weaker}
use Rattle.ci_overflow.specs.Places.{first_base, uow_of}
use Rattle.ci_overflow.specs.Lists.{bytes_at, link_of}
use Rattle.ci_overflow.proofs.Finds.{base-some}
use Rattle.ci_overflow.proofs.FaultLemmas.{base-fault, first-fault}
use Rattle.ci_overflow.proofs.Tries.{gives-full, gives-taken, standing-room, standing-rest, none-same, option_none, chain-again}
use Rattle.ci_overflow.proofs.Knowns.{known-here, known-same, known-taken, known-back, own-listed}
use Rattle.ci_overflow.proofs.tried.try_standing.Goals as goal
use Rattle.plain_laws.proofs.Results.{on_ok_map, same_fault}

pub returns-in-Some-2-clause-tried : goal.returns-in-Some-2-clause-tried
returns-in-Some-2-clause-tried g c = λ t k shared is_chain.
    let was = gives-full _ _ _ _ _ (c.in_ok-tried.ensures.tried t) c.in_default.is in
    let full = rw c.base_of-base.ensures at was in
    let known = known-here c.args.shape.now _ _ _ _ _ _ was.1 c.uow_of-uow.ensures.number k in
    let tried = rw c.uow_of-uow.ensures.number at
    (c.in_ok-room.ensures.tried (c.try_take.ensures.goes_on.tells t) known) in
    standing-room _ _ _ _ _ _ shared _ _ full.0 full.1 tried c.in-Some-2.is

pub returns-clause-tried : goal.returns-clause-tried
returns-clause-tried g c = λ t k shared is_chain.
    let was = gives-full _ _ _ _ _ (c.in_ok-tried.ensures.tried t) c.in_default.is in
    let full = rw c.base_of-base.ensures at was in
    let known = known-here c.args.shape.now _ _ _ _ _ _ was.1 c.uow_of-uow.ensures.number k in
    let t1 = c.try_take.ensures.goes_on.tells t in
    let t2 = c.try_dependents.ensures.goes_on.tells t1 in
    let t3 = c.list_link.ensures.goes_on.tells t2 in
    let tried = rw c.uow_of-uow.ensures.number at (c.in_ok-room.ensures.tried t1 known) in
    let same2 = none-same _ _ _ _ _ tried c.in_default-2.is ∙ full.1 in
    let same3 = c.list_link.ensures.same t2 in
    let first = c.first_base-first.ensures.number ∙ ap (first_base c.args.shape.now) c.uow_of-uow.ensures.number in
    let link = (c.in_ok-tried.ensures.tried t).link ∙ ap (λ xs. link_of (bytes_at xs c.base_of-base.result))
    (sym same2) in
    let behind = known-same c.args.shape.now _ _ c.uow_of-uow.result _ _ same3 (c.in_ok-room.ensures.known t1 known) in
    let chain = chain-again _ _ _ _ _ _ shared same2 same3 first (c.in_ok-link.ensures.link t2 link) is_chain in
    IfOk-weaker _ _ _ (λ room u. standing-rest _ _ _ _ _ _ _ _ shared _ room full.0 full.1 tried c.in_default-2.is same3
    u) (c.try_chain.ensures.tried t3 behind shared chain)

pub returns-in_err-tried-clause-damaged : goal.returns-in_err-tried-clause-damaged
returns-in_err-tried-clause-damaged g c = λ t k n e.
    let p = err_from_is_err_and c.from_residual.result c.from_residual.ensures.1 in
    let some : 0 < c.args.shape.now.base = base-some _ _ _ c.requires in
    let in_range : c.args.anchor % c.args.shape.now.base < c.args.shape.now.base = omega arith in
    let uow : uow_of c.args.shape.now c.args.anchor < c.args.shape.now.uows =
    omega (arith, c.uow_of-uow.ensures.number, c.uow_of-uow.ensures.bound) in
    base-fault _ _ (uow_of c.args.shape.now c.args.anchor) (c.args.anchor % c.args.shape.now.base) _ n
    c.base_of-base.ensures uow in_range (c.in_err-tried.ensures.damaged t n (same_fault _ _ _ _ p.1 p.2 e))

pub returns-in_err-room-clause-damaged : goal.returns-in_err-room-clause-damaged
returns-in_err-room-clause-damaged g c = λ t k n e.
    let p = err_from_is_err_and c.from_residual-in_err-room.result c.from_residual-in_err-room.ensures.1 in
    let full = gives-full _ _ _ _ _ (c.in_ok-tried.ensures.tried t) c.in_default.is in
    rw full.1 at (c.in_err-room.ensures.damaged (c.try_take.ensures.goes_on.tells t) c.uow_of-uow.ensures.bound n
    (same_fault _ _ _ _ p.1 p.2 e))

pub returns-in_err-link-clause-damaged : goal.returns-in_err-link-clause-damaged
returns-in_err-link-clause-damaged g c = λ t k n e.
    let p = err_from_is_err_and c.from_residual-in_err-link.result c.from_residual-in_err-link.ensures.1 in
    let full = gives-full _ _ _ _ _ (c.in_ok-tried.ensures.tried t) c.in_default.is in
    let t1 = c.try_take.ensures.goes_on.tells t in
    let t2 = c.try_dependents.ensures.goes_on.tells t1 in
    let same = option_none _ _ c.in_default-2.is (c.in_ok-room.ensures.full t1) ∙ full.1 in
    let h = rw same at (c.in_err-link.ensures.damaged t2 n (same_fault _ _ _ _ p.1 p.2 e)) in
    first-fault _ _ _ _ n c.first_base-first.ensures.number c.uow_of-uow.ensures.bound (base-some _ _ _ c.requires) h

pub returns-clause-damaged : goal.returns-clause-damaged
returns-clause-damaged g c = λ t k n e.
    let full = gives-full _ _ _ _ _ (c.in_ok-tried.ensures.tried t) c.in_default.is in
    let t1 = c.try_take.ensures.goes_on.tells t in
    let t2 = c.try_dependents.ensures.goes_on.tells t1 in
    let t3 = c.list_link.ensures.goes_on.tells t2 in
    let same2 = option_none _ _ c.in_default-2.is (c.in_ok-room.ensures.full t1) ∙ full.1 in
    let same3 = c.list_link.ensures.same t2 in
    let known = known-here c.args.shape.now _ _ _ _ _ _ full.1 c.uow_of-uow.ensures.number k in
    let behind = known-same c.args.shape.now _ _ c.uow_of-uow.result _ _ same3 (c.in_ok-room.ensures.known t1 known) in
    let here = (c.in_ok-tried.ensures.tried t).link ∙ ap (λ xs. link_of (bytes_at xs c.base_of-base.result))
    (sym same2) in
    let link = c.in_ok-link.ensures.link t2 here ∙ ap (λ xs. link_of (bytes_at xs c.first_base-first.result))
    (sym same3) in
    rw (same3, same2) at (c.try_chain.ensures.damaged t3 c.uow_of-uow.ensures.bound c.first_base-first.ensures.number
    link behind n e)

pub returns-in-Some-clause-known : goal.returns-in-Some-clause-known
returns-in-Some-clause-known g c = λ t k.
    known-taken c.args.shape.now _ _ _ _ _ _ _ _ (gives-taken _ _ _ _ _ _ (c.in_ok-tried.ensures.tried t) c.in-Some.is) k

pub returns-in-Some-2-clause-known : goal.returns-in-Some-2-clause-known
returns-in-Some-2-clause-known g c = λ t k.
    let full = gives-full _ _ _ _ _ (c.in_ok-tried.ensures.tried t) c.in_default.is in
    let known = known-here c.args.shape.now _ _ _ _ _ _ full.1 c.uow_of-uow.ensures.number k in
    known-back c.args.shape.now _ _ _ _ _ c.uow_of-uow.ensures.number
    (c.in_ok-room.ensures.known (c.try_take.ensures.goes_on.tells t) known)

pub returns-clause-known : goal.returns-clause-known
returns-clause-known g c = λ t k.
    let full = gives-full _ _ _ _ _ (c.in_ok-tried.ensures.tried t) c.in_default.is in
    let t1 = c.try_take.ensures.goes_on.tells t in
    let t2 = c.try_dependents.ensures.goes_on.tells t1 in
    let t3 = c.list_link.ensures.goes_on.tells t2 in
    let known = known-here c.args.shape.now _ _ _ _ _ _ full.1 c.uow_of-uow.ensures.number k in
    let behind = known-same c.args.shape.now _ _ c.uow_of-uow.result _ _ (c.list_link.ensures.same t2)
    (c.in_ok-room.ensures.known t1 known) in
    on_ok_map _ _ _ (λ x. known-back c.args.shape.now _ _ _ _ _ c.uow_of-uow.ensures.number x)
    (c.try_chain.ensures.known t3 behind)

pub returns-clause-own : goal.returns-clause-own
returns-clause-own g c = λ t.
    let t1 = c.try_take.ensures.goes_on.tells t in
    let t2 = c.try_dependents.ensures.goes_on.tells t1 in
    let t3 = c.list_link.ensures.goes_on.tells t2 in
    IfOk-weaker _ _ _ (λ room o. own-listed c.args.shape.now _ c.args.anchor _ room c.uow_of-uow.ensures.number o)
    (c.try_chain.ensures.own t3)
