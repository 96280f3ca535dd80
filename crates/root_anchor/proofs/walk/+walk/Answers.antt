use Rattle.std.proofs.Common.{◌∙◌, ap, rules, arith}
use Rattle.anchor_elements.specs.Reading.{types_of}
use Rattle.std.proofs.lemmas.Result.{err_from_is_err_and}
use Rattle.anchor_elements.proofs.ReadLemmas.{refused}
use Rattle.root_anchor.proofs.Forms.{row_form, rows_form, rows_whole}
use Rattle.root_anchor.proofs.WalkSteps.{looks_joined, along_wrong, along_below, along_next, along_end, among_fails, among_next, among_end, less_left, walks_further, walks_joined, child_above, all_stand_on}
use Rattle.root_anchor.proofs.walk.+walk.Goals as goal

-- ---- along a row

pub row-returns-in_err-next-clause-damaged : goal.row-returns-in_err-next-clause-damaged
row-returns-in_err-next-clause-damaged g m c = λ t ci e.
    let p = err_from_is_err_and c.from_residual.result c.from_residual.ensures.1 in
    let told = c.loop-alloc.invariant.look.goes_on.tells t in
    along_wrong _ _ _ _ _ _ _ _ ci _ _ _ (c.loop-alloc.invariant.look.same t) (c.loop-alloc.invariant.along t)
    (refused c.is_nothing.ensures c.loop-alloc-test.true)
    (c.visit.ensures.wrong told ci (cc (p.1, p.2, c.in_err-next.was)))

pub row-returns-in_err-children-clause-damaged : goal.row-returns-in_err-children-clause-damaged
row-returns-in_err-children-clause-damaged g m c = λ t ci e.
    let p = err_from_is_err_and c.from_residual-in_err-children.result c.from_residual-in_err-children.ensures.1 in
    let told = c.loop-alloc.invariant.look.goes_on.tells t in
    along_below _ _ _ _ _ _ _ _ _ ci _ c.loop-alloc.at _ c.in_ok-next.field-0 c.as_slice.result.now
    (c.visit.ensures.look.same told ∙ c.loop-alloc.invariant.look.same t) (c.loop-alloc.invariant.along t)
    (record {
      now = g.I.Intervals.intervals c.loop-alloc.i;
      same = c.loop-alloc.invariant.look.same t;
      has = c.in_ok-next.ensures.says told;
      fresh = c.in_ok-next.ensures.fresh;
      is_met = c.in_ok-next.ensures.met;
      typed = c.in_ok-next.ensures.types;
      is_list = c.as_slice.ensures.value;
    })
    (c.rows.ensures.damaged (c.visit.ensures.look.goes_on.tells told) ci (cc (p.1, p.2, c.in_err-children.was)))

pub row-loop-alloc-smaller : goal.row-loop-alloc-smaller
row-loop-alloc-smaller g m c =
    less_left (g.I.Intervals.number c.args.i.now) (g.I.Intervals.number c.visit.new.i) c.loop-alloc.walk
    c.visit.new.walk c.rows.new.walk
    (c.visit.ensures.look.same_number ∙ c.loop-alloc.invariant.look.same_number) c.in_ok-next.ensures.more
    c.in_ok-children.ensures.walk

pub row-loop-alloc-preserved : goal.row-loop-alloc-preserved
row-loop-alloc-preserved g m c = record {
  look = looks_joined _ _ _ _ _ _ _ _ _ (looks_joined _ _ _ _ _ _ _ _ _ c.loop-alloc.invariant.look
      c.visit.ensures.look) c.rows.ensures.look;
  walk = walks_further (g.I.Intervals.number c.args.i.now) (g.I.Intervals.number c.visit.new.i) c.args.walk.now
      c.loop-alloc.walk c.visit.new.walk c.rows.new.walk
      (c.visit.ensures.look.same_number ∙ c.loop-alloc.invariant.look.same_number) c.loop-alloc.invariant.walk
      c.in_ok-next.ensures.more c.in_ok-next.ensures.keyed c.in_ok-children.ensures.walk;
  form = row_form _ _ _ _ _ _ _ c.loop-alloc.invariant.form c.in_ok-next.ensures.long
      (ap types_of c.as_slice.ensures.value ∙ c.in_ok-next.ensures.types) c.in_ok-children.ensures.form
      c.in_ok-push.ensures.ok;
  along = λ t.
      let told = c.loop-alloc.invariant.look.goes_on.tells t in
      along_next _ _ _ _ _ _ _ _ _ _ _ c.loop-alloc.at _ _ c.in_ok-next.field-0 c.as_slice.result.now _
      (c.visit.ensures.look.same told ∙ c.loop-alloc.invariant.look.same t) (c.loop-alloc.invariant.along t)
      (record {
        now = g.I.Intervals.intervals c.loop-alloc.i;
        same = c.loop-alloc.invariant.look.same t;
        has = c.in_ok-next.ensures.says told;
        fresh = c.in_ok-next.ensures.fresh;
        is_met = c.in_ok-next.ensures.met;
        typed = c.in_ok-next.ensures.types;
        is_list = c.as_slice.ensures.value;
      })
      (c.in_ok-children.ensures.rows (c.visit.ensures.look.goes_on.tells told)) c.in_ok-push.ensures.ok;
  stand = λ t stand.
      let told = c.loop-alloc.invariant.look.goes_on.tells t in
      let visited = all_stand_on _ _ _ c.loop-alloc.walk c.visit.new.walk (c.loop-alloc.invariant.look.same t)
      (c.in_ok-next.ensures.stand told) (c.loop-alloc.invariant.stand t stand) in
      all_stand_on _ _ _ c.visit.new.walk c.rows.new.walk
      (c.visit.ensures.look.same told ∙ c.loop-alloc.invariant.look.same t)
      (c.in_ok-children.ensures.stand (c.visit.ensures.look.goes_on.tells told)) visited;
}

pub row-returns-clause-row : goal.row-returns-clause-row
row-returns-clause-row g m c = λ t. along_end _ _ _ _ _ _ _ _ _ _ (c.is_nothing.ensures.0 c.loop-alloc-test.false)
    (c.loop-alloc.invariant.along t)

-- ---- from row to row

pub rows-row-requires : goal.rows-row-requires
rows-row-requires g m c =
    let child = child_above c.args.segments.now c.args.segment c.args.firsts.now c.loop-first.first-index
    (record { segment = 0; at = (0, 0) }) c.requires.places c.requires.children c.loop-first-test.true in
    search rules

pub rows-returns-in_err-read-clause-damaged : goal.rows-returns-in_err-read-clause-damaged
rows-returns-in_err-read-clause-damaged g m c = λ t ci e.
    let p = err_from_is_err_and c.from_residual.result c.from_residual.ensures.1 in
    let told = c.loop-first.invariant.look.goes_on.tells t in
    among_fails _ _ _ _ _ _ ci c.args.firsts.now _ c.loop-first.first-index (record { segment = 0; at = (0, 0) })
    (c.loop-first.invariant.look.same t) c.loop-first-test.true (c.loop-first.invariant.among t)
    (c.row.ensures.damaged told ci (cc (p.1, p.2, c.in_err-read.was)))

pub rows-loop-first-preserved : goal.rows-loop-first-preserved
rows-loop-first-preserved g m c = record {
  look = looks_joined _ _ _ _ _ _ _ _ _ c.loop-first.invariant.look c.row.ensures.look;
  walk = walks_joined (g.I.Intervals.number c.args.i.now) (g.I.Intervals.number c.loop-first.i) c.args.walk.now
      c.loop-first.walk c.row.new.walk
      c.loop-first.invariant.look.same_number c.loop-first.invariant.walk c.in_ok-read.ensures.walk;
  form = rows_form _ c.args.firsts.now _ _ _ c.loop-first.first-index (record { segment = 0; at = (0, 0) })
      c.loop-first-test.true c.loop-first.invariant.form c.in_ok-read.ensures.form c.in_ok-push.ensures.ok;
  among = λ t.
      among_next _ _ _ _ _ _ _ c.args.firsts.now _ _ _ c.loop-first.first-index (record { segment = 0; at = (0, 0) })
      (c.loop-first.invariant.look.same t) c.loop-first-test.true (c.loop-first.invariant.among t)
      (c.in_ok-read.ensures.row (c.loop-first.invariant.look.goes_on.tells t)) c.in_ok-push.ensures.ok;
  stand = λ t stand.
      all_stand_on _ _ _ c.loop-first.walk c.row.new.walk (c.loop-first.invariant.look.same t)
      (c.in_ok-read.ensures.stand (c.loop-first.invariant.look.goes_on.tells t))
      (c.loop-first.invariant.stand t stand);
}

pub rows-returns-clause-form : goal.rows-returns-clause-form
rows-returns-clause-form g m c = rows_whole _ c.args.firsts.now _ c.loop-first.first-index (omega arith)
    c.loop-first.invariant.form

pub rows-returns-clause-rows : goal.rows-returns-clause-rows
rows-returns-clause-rows g m c = λ t. among_end _ _ _ _ _ _ _ c.loop-first.first-index (omega arith)
    (c.loop-first.invariant.among t)
