use Rattle.std.proofs.Common.{refl}
use Rattle.std.proofs.lemmas.Result.{err_from_is_err_and}
use Rattle.root_anchor.proofs.BaseLemmas.{anchor_fails, anchor_walked, keys_walked}
use Rattle.root_anchor.proofs.anchor.walk_anchor.Goals as goal

pub roots-requires-clause-walk : goal.roots-requires-clause-walk
roots-requires-clause-walk g c = c.new-walk.ensures.walk (g.I.Intervals.number c.root_anchor_point.new.i)

pub returns-in_err-roots-clause-damaged : goal.returns-in_err-roots-clause-damaged
returns-in_err-roots-clause-damaged g c = λ t ci e.
    let p = err_from_is_err_and c.from_residual-in_err-roots.result c.from_residual-in_err-roots.ensures.1 in
    anchor_fails c.args.shape.now c.args.segments.now _ _ c.args.anchor c.base_of-base.result ci c.in_ok-first.first
    (c.root_anchor_point.ensures.look.same t) c.base_of-base.ensures
    (c.in_ok-first.ensures.root t) (c.in_ok-first.ensures.in_place t)
    (c.roots.ensures.damaged (c.root_anchor_point.ensures.look.goes_on.tells t) ci (cc (p.1, p.2, c.in_err-roots.was)))

pub returns-clause-walked : goal.returns-clause-walked
returns-clause-walked g c = λ t.
    let told = c.root_anchor_point.ensures.look.goes_on.tells t in
    anchor_walked c.args.shape.now c.args.segments.now _ _ c.args.anchor
    (g.I.Intervals.number c.root_anchor_point.new.i) c.in_ok-first.first c.new-walk.result c.roots.new.walk _
    (c.root_anchor_point.ensures.look.same t) (c.in_ok-first.ensures.root t) (c.in_ok-first.ensures.in_place t) refl
    (c.in_ok-roots.ensures.roots told) c.in_ok-roots.ensures.walk (c.in_ok-roots.ensures.stand told)

pub returns-clause-keys : goal.returns-clause-keys
returns-clause-keys g c = λ t wanted.
    keys_walked c.args.segments.now _ _ (g.I.Intervals.number c.root_anchor_point.new.i) c.new-walk.result
    c.roots.new.walk c.args.keyed (c.root_anchor_point.ensures.look.same t) c.new-walk.ensures.keyed wanted
    c.in_ok-roots.ensures.walk (c.in_ok-roots.ensures.stand (c.root_anchor_point.ensures.look.goes_on.tells t))
