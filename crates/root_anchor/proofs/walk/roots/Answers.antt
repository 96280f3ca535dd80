use Rattle.std.proofs.Common.{◌∙◌, ap}
use Rattle.anchor_elements.specs.Reading.{types_of}
use Rattle.std.proofs.lemmas.Result.{err_from_is_err_and}
use Rattle.anchor_elements.proofs.ReadLemmas.{refused}
use Rattle.root_anchor.proofs.Forms.{roots_form}
use Rattle.root_anchor.proofs.WalkSteps.{looks_joined, roots_wrong, roots_below, roots_next, roots_end, less_left, walks_further, all_stand_on}
use Rattle.root_anchor.proofs.walk.roots.Goals as goal

pub returns-in_err-next-clause-damaged : goal.returns-in_err-next-clause-damaged
returns-in_err-next-clause-damaged g c = λ t ci e.
    let p = err_from_is_err_and c.from_residual.result c.from_residual.ensures.1 in
    let told = c.loop-alloc.invariant.look.goes_on.tells t in
    roots_wrong _ _ _ _ _ _ ci _ _ _ (c.loop-alloc.invariant.look.same t) (c.loop-alloc.invariant.along t)
    (refused c.is_nothing.ensures c.loop-alloc-test.true)
    (c.visit.ensures.wrong told ci (cc (p.1, p.2, c.in_err-next.was)))

pub returns-in_err-children-clause-damaged : goal.returns-in_err-children-clause-damaged
returns-in_err-children-clause-damaged g c = λ t ci e.
    let p = err_from_is_err_and c.from_residual-in_err-children.result c.from_residual-in_err-children.ensures.1 in
    let told = c.loop-alloc.invariant.look.goes_on.tells t in
    roots_below _ _ _ _ _ _ _ ci _ c.loop-alloc.at _ c.in_ok-next.field-0 c.as_slice.result.now
    (c.visit.ensures.look.same told ∙ c.loop-alloc.invariant.look.same t) (c.loop-alloc.invariant.along t)
    (record {
      now = g.I.Intervals.intervals c.loop-alloc.i;
      same = c.loop-alloc.invariant.look.same t;
      has = c.in_ok-next.ensures.says told;
      fresh = c.in_ok-next.ensures.fresh;
      is_met = c.in_ok-next.ensures.met;
      typed = c.in_ok-next.ensures.types;
      is_list = c.as_slice.ensures.value;
    })
    (c.rows.ensures.damaged (c.visit.ensures.look.goes_on.tells told) ci (cc (p.1, p.2, c.in_err-children.was)))

pub loop-alloc-smaller : goal.loop-alloc-smaller
loop-alloc-smaller g c =
    less_left (g.I.Intervals.number c.args.i.now) (g.I.Intervals.number c.visit.new.i) c.loop-alloc.walk
    c.visit.new.walk c.rows.new.walk
    (c.visit.ensures.look.same_number ∙ c.loop-alloc.invariant.look.same_number) c.in_ok-next.ensures.more
    c.in_ok-children.ensures.walk

pub loop-alloc-preserved : goal.loop-alloc-preserved
loop-alloc-preserved g c = record {
  look = looks_joined _ _ _ _ _ _ _ _ _ (looks_joined _ _ _ _ _ _ _ _ _ c.loop-alloc.invariant.look
      c.visit.ensures.look) c.rows.ensures.look;
  walk = walks_further (g.I.Intervals.number c.args.i.now) (g.I.Intervals.number c.visit.new.i) c.args.walk.now
      c.loop-alloc.walk c.visit.new.walk c.rows.new.walk
      (c.visit.ensures.look.same_number ∙ c.loop-alloc.invariant.look.same_number) c.loop-alloc.invariant.walk
      c.in_ok-next.ensures.more c.in_ok-next.ensures.keyed c.in_ok-children.ensures.walk;
  form = roots_form _ _ _ _ _ _ _ _ c.loop-alloc.invariant.form c.in_ok-next.ensures.long
      (ap types_of c.as_slice.ensures.value ∙ c.in_ok-next.ensures.types) c.in_ok-children.ensures.form
      c.in_ok-next.ensures.serial c.in_ok-seqs.ensures c.in_ok-push.ensures.ok;
  along = λ t.
      let told = c.loop-alloc.invariant.look.goes_on.tells t in
      roots_next _ _ _ _ _ _ _ _ _ c.loop-alloc.at _ _ c.in_ok-next.field-0 c.as_slice.result.now _ _
      (c.visit.ensures.look.same told ∙ c.loop-alloc.invariant.look.same t) (c.loop-alloc.invariant.along t)
      (record {
        now = g.I.Intervals.intervals c.loop-alloc.i;
        same = c.loop-alloc.invariant.look.same t;
        has = c.in_ok-next.ensures.says told;
        fresh = c.in_ok-next.ensures.fresh;
        is_met = c.in_ok-next.ensures.met;
        typed = c.in_ok-next.ensures.types;
        is_list = c.as_slice.ensures.value;
      })
      (c.in_ok-children.ensures.rows (c.visit.ensures.look.goes_on.tells told)) c.in_ok-seqs.ensures
      c.in_ok-push.ensures.ok;
  stand = λ t.
      let told = c.loop-alloc.invariant.look.goes_on.tells t in
      let visited = all_stand_on _ _ _ c.loop-alloc.walk c.visit.new.walk (c.loop-alloc.invariant.look.same t)
      (c.in_ok-next.ensures.stand told) (c.loop-alloc.invariant.stand t) in
      all_stand_on _ _ _ c.visit.new.walk c.rows.new.walk
      (c.visit.ensures.look.same told ∙ c.loop-alloc.invariant.look.same t)
      (c.in_ok-children.ensures.stand (c.visit.ensures.look.goes_on.tells told)) visited;
}

pub returns-clause-roots : goal.returns-clause-roots
returns-clause-roots g c = λ t. roots_end _ _ _ _ _ _ _ _ (c.is_nothing.ensures.0 c.loop-alloc-test.false)
    (c.loop-alloc.invariant.along t)
