use Rattle.std.proofs.Common.{refl, sym, subst, arith, ◌≤◌}
use Rattle.std.specs.VecDeque.{deque_capacity}
use Rattle.fp_model.specs.Machine.{ended_with}
use Rattle.fp_core.specs.declared.engine.Engine.{Engine}
use Rattle.fp_core.specs.inside.Acting.{MayEnd}
use Rattle.fp_core.specs.Relation.{StandsFor}
use Rattle.fp_core.proofs.Ends.{ended_at, uses_last}
use Rattle.fp_core.proofs.Refusals.{refusal_format, refusal_makes, refusal_uses, unsettled}
use Rattle.fp_core.proofs.engine.Engine.refuse.Goals as goal
use Rattle.plain_laws.proofs.Results.{on_err}

pub returns-in_err-end-clause-err : goal.returns-in_err-end-clause-err
returns-in_err-end-clause-err c m t u =
    let engine = c.args.self.now in
    let e = c.in_err-end.ensures in
    on_err c.from_residual.result
    (subst (λ (x : Engine). MayEnd x m c.args.region t) (sym e.err)
    (unsettled engine m c.args.region t engine.store c.end.new.self.log u u.stands.of refl e.sealed e.waiting e.more))

pub returns-clause-ended : goal.returns-clause-ended
returns-clause-ended c m t u =
    let engine = c.args.self.now in
    let new = c.end.new.self in
    let e = c.in_ok-end.ensures in
    let entry = c.args.entry in
    let slots : deque_capacity engine.owed ≤ deque_capacity new.owed = omega (arith, e.slots) in
    subst (λ (x : Engine). StandsFor x (ended_with c.args.region entry m.history.now m)) (sym e.ok)
    (ended_at engine m c.args.region t entry m.history.now new.locks engine.store new.log new.owed new.room new.lasts u
    e.locks
    e.rows e.sealed e.unsealed e.owed
    slots (e.room m t u) e.spare u.stands.of u.stands.msdbs
    (refusal_format engine.format entry.outcome c.requires.refusal)
    (uses_last engine m c.args.region t u entry engine.lasts.terminals new.lasts.terminals (c.requires.line m t u)
    (refusal_uses entry.outcome c.requires.refusal) (e.used m t u)) e.places
    (refusal_makes engine.defs.now m.history.now entry c.requires.refusal c.requires.rules.parts))
