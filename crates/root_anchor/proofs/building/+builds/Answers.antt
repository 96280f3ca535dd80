use Rattle.std.proofs.Common.{◌≡◌, ◌∙◌, ◌<◌, ◌-◌, length, get_or, refl, sym, ap, subst, arith}
use Rattle.ci_space.proofs.Going.{goes-itself}
use Rattle.std.proofs.lemmas.Result.{err_from_is_err_and}
use Rattle.std.proofs.Common.{ℕ, List}
use Rattle.std.proofs.lemmas.List.{get_or_read, length-set}
use Rattle.anchor_elements.specs.Elements.{has_serial}
use Rattle.root_anchor.specs.inside.Rebuilding.{IsPlanned, IsDirect, BuildsRows, types_of_rows}
use Rattle.fp_model.specs.Order.{child_types}
use Rattle.root_anchor.proofs.Growing.{row-none, row-part, row-on, row-whole, rows-none, rows-part, rows-on, rows-whole, RowDone, RowsDone, parted, room-planned, segment-made, same-types}
use Rattle.root_anchor.proofs.TypeLemmas.{row-node, rows-count, rows-row, child-direct, child-above, child-serial}
use Rattle.root_anchor.proofs.building.+builds.Goals as goal
use Rattle.ci_space.proofs.GoingLemmas.{goes_on_joined}
use Rattle.plain_laws.proofs.Results.{same_fault}

pub build_row-build_segment-requires : goal.build_row-build_segment-requires
build_row-build_segment-requires g t c κs within =
    let node = c.index-as_slice-left.result in
    let is = c.index-as_slice-left.is ∙ ap (λ xs. get_or xs (c.loop-left.left - 1) node) c.as_slice.ensures in
    let shape = row-node _ _ _ _ node c.requires.row
    (omega (arith, c.loop-left.invariant.within, c.loop-left-test.true)) is in (
      omega (arith, c.decreases, c.requires.direct.defined, c.requires.types.few),
      (
        within,
        (
          same-types _ _ _ c.loop-left.invariant.goes_on.same_size c.requires.types,
          (c.requires.direct, (ap length c.as_slice-in-loop-left.ensures ∙ shape.bytes, ((λ _. refl), shape.rows))),
        ),
      ),
    )

pub build_row-loop-left-init : goal.build_row-loop-left-init
build_row-loop-left-init g t c = record {
  within = omega (arith, c.len-left.ensures);
  number = omega arith;
  goes_on = goes-itself _ _ _ _ _;
  done = λ told b u p.
      let P : ℕ → Type 0 = λ k. RowDone c.args.home.now.shape.now c.args.home.now.segments.now
      (g.I.Intervals.intervals c.args.i.now) (g.I.Intervals.intervals c.args.i.now) c.args.plan.now.items b u
      c.args.segment c.args.row.now k (0, 0) in
      subst P (sym c.len-left.ensures) (row-none _ _ _ _ b u _ _ p);
}

pub build_row-returns-in_err-next-clause-sound : goal.build_row-returns-in_err-next-clause-sound
build_row-returns-in_err-next-clause-sound g t c = λ told b u p ci e.
    let f = err_from_is_err_and c.from_residual.result c.from_residual.ensures.1 in
    let part = row-part _ _ _ _ _ _ b u _ _ _ _ _ _ p (c.loop-left.invariant.done told b u p) c.loop-left-test.true
    c.loop-left.invariant.within c.as_slice.ensures c.index-as_slice-left.is in
    c.in_err-next.ensures.sound (c.loop-left.invariant.goes_on.tells told) part.0 part.1 part.2 ci
    (same_fault _ _ _ _ f.1 f.2 e)

pub build_row-loop-left-preserved : goal.build_row-loop-left-preserved
build_row-loop-left-preserved g t c = record {
  within = omega (arith, c.loop-left.invariant.within);
  number = omega (arith, c.loop-left.invariant.number, c.build_segment.ensures.number);
  goes_on = goes_on_joined _ _ _ _ _ _ _ c.loop-left.invariant.goes_on c.build_segment.ensures.goes_on;
  done = λ told b u p.
      row-on _ _ _ _ _ _ _ _ b u _ _ _ _ _ _ _ _ p (c.loop-left.invariant.done told b u p) c.loop-left-test.true
      c.loop-left.invariant.within c.as_slice.ensures c.index-as_slice-left.is c.as_slice-in-loop-left.ensures
      (c.in_ok-next.ensures.built (c.loop-left.invariant.goes_on.tells told));
}

pub build_row-returns-clause-built : goal.build_row-returns-clause-built
build_row-returns-clause-built g t c = λ told b u p.
    let none : c.loop-left.left ≡ 0 = omega arith in
    let P : ℕ → Type 0 = λ k. RowDone c.args.home.now.shape.now c.args.home.now.segments.now
    (g.I.Intervals.intervals c.args.i.now) (g.I.Intervals.intervals c.loop-left.i) c.loop-left.plan.items b u
    c.args.segment c.args.row.now k c.loop-left.next in
    row-whole _ _ _ _ _ b u _ _ _ (subst P none (c.loop-left.invariant.done told b u p))

pub build_rows-loop-left-init : goal.build_rows-loop-left-init
build_rows-loop-left-init g t c =
    let types = c.args.home.now.segments.now in
    let rows = c.args.rows.now in
    let kinds = child_types types c.args.segment in
    let are : c.in_ok-types.types.items ≡ kinds = c.in_ok-types.ensures.types ∙ ap (λ ts. child_types ts c.args.segment)
    c.as_slice.ensures in
    let m : length rows ≡ length c.in_ok-types.types.items =
    rows-count types kinds rows c.requires.rows ∙ ap length (sym are) in
    let n : length c.in_ok-firsts.firsts.items ≡ length rows = c.in_ok-firsts.ensures.count ∙ c.len.ensures in
    record {
      within = omega (arith, c.len-left.ensures);
      count = n;
      number = omega arith;
      goes_on = goes-itself _ _ _ _ _;
      done = λ told b u p.
          let P : ℕ → Type 0 = λ k. RowsDone c.args.home.now.shape.now types (g.I.Intervals.intervals c.args.i.now)
          (g.I.Intervals.intervals c.args.i.now) c.args.plan.now.items b u c.in_ok-types.types.items rows k
          c.in_ok-firsts.firsts.items in
          subst P (sym c.len-left.ensures) (rows-none _ _ _ _ b u c.in_ok-types.types.items rows
          c.in_ok-firsts.firsts.items m n p);
    }

pub build_rows-index-requires : goal.build_rows-index-requires
build_rows-index-requires g t c =
    let types = c.args.home.now.segments.now in
    let rows = c.args.rows.now in
    let are : c.in_ok-types.types.items ≡ child_types types c.args.segment =
    c.in_ok-types.ensures.types ∙ ap (λ ts. child_types ts c.args.segment) c.as_slice.ensures in
    let m : length rows ≡ length c.in_ok-types.types.items =
    rows-count types (child_types types c.args.segment) rows c.requires.rows ∙ ap length (sym are) in
    omega (arith, m, c.loop-left.invariant.within, c.loop-left-test.true)

pub build_rows-build_row-requires : goal.build_rows-build_row-requires
build_rows-build_row-requires g t c κs within =
    let types = c.args.home.now.segments.now in
    let rows = c.args.rows.now in
    let kinds = child_types types c.args.segment in
    let m : length rows ≡ length kinds = rows-count types kinds rows c.requires.rows in
    let are : c.in_ok-types.types.items ≡ kinds = c.in_ok-types.ensures.types ∙ ap (λ ts. child_types ts c.args.segment)
    c.as_slice.ensures in
    let n : length c.in_ok-types.types.items ≡ length kinds = ap length are in
    let k = c.loop-left.left - 1 in
    let row = c.index-as_slice-left.result in
    let below : k < length kinds = omega (arith, m, c.loop-left.invariant.within, c.loop-left-test.true) in
    let here : k < length rows = omega (arith, m, c.loop-left.invariant.within, c.loop-left-test.true) in
    let is : row ≡ get_or rows k row = c.index-as_slice-left.is ∙ ap (λ xs. get_or xs k row)
    c.as_slice-in-loop-left.ensures in
    let type : c.index.result.now ≡ get_or kinds k 0 =
    get_or_read c.in_ok-types.types.items k c.index.result.now (omega (arith, n, below)) c.index.ensures 0 ∙ ap
    (λ xs. get_or xs k 0) are in
    let above = child-above (g.I.Intervals.size c.args.i.now) types c.args.segment k c.requires.types below in
    let direct = child-direct types c.args.segment k below in
    let P : ℕ → Type 0 = λ x. IsDirect types x in
    let serial = child-serial (g.I.Intervals.size c.args.i.now) types c.args.segment k c.requires.types below in (
      omega (arith, c.decreases, above, type, direct.defined, c.requires.types.few),
      (
        within,
        (
          same-types _ _ _ c.loop-left.invariant.goes_on.same_size c.requires.types,
          (
            subst P (sym type) direct,
            (
              ap (has_serial types) type ∙ serial,
              rows-row types kinds rows k row c.index.result.now c.requires.rows here is type,
            ),
          ),
        ),
      ),
    )

pub build_rows-returns-in_err-first-clause-sound : goal.build_rows-returns-in_err-first-clause-sound
build_rows-returns-in_err-first-clause-sound g t c = λ told b u p ci e.
    let f = err_from_is_err_and c.from_residual-in_err-first.result c.from_residual-in_err-first.ensures.1 in
    let types = c.args.home.now.segments.now in
    let rows = c.args.rows.now in
    let kinds = child_types types c.args.segment in
    let are : c.in_ok-types.types.items ≡ kinds = c.in_ok-types.ensures.types ∙ ap (λ ts. child_types ts c.args.segment)
    c.as_slice.ensures in
    let m : length rows ≡ length c.in_ok-types.types.items =
    rows-count types kinds rows c.requires.rows ∙ ap length (sym are) in
    let P : List ℕ → Type 0 = λ ks. IsPlanned types (g.I.Intervals.intervals c.args.i.now)
    c.args.plan.now.items b u (types_of_rows types ks rows) in
    let q = subst P (sym are) p in
    let type = get_or_read c.in_ok-types.types.items (c.loop-left.left - 1) c.index.result.now
    (omega (arith, m, c.loop-left.invariant.within, c.loop-left-test.true)) c.index.ensures 0 in
    let part = rows-part _ _ _ _ _ _ b u c.in_ok-types.types.items rows _ _ c.loop-left.firsts.items _
    c.index.result.now m q (c.loop-left.invariant.done told b u q) c.loop-left-test.true
    c.loop-left.invariant.within c.as_slice-in-loop-left.ensures c.index-as_slice-left.is type in
    c.in_err-first.ensures.sound (c.loop-left.invariant.goes_on.tells told) part.0 part.1 part.2 ci
    (same_fault _ _ _ _ f.1 f.2 e)

pub build_rows-loop-left-preserved : goal.build_rows-loop-left-preserved
build_rows-loop-left-preserved g t c =
    let types = c.args.home.now.segments.now in
    let rows = c.args.rows.now in
    let kinds = child_types types c.args.segment in
    let are : c.in_ok-types.types.items ≡ kinds = c.in_ok-types.ensures.types ∙ ap (λ ts. child_types ts c.args.segment)
    c.as_slice.ensures in
    let m : length rows ≡ length c.in_ok-types.types.items =
    rows-count types kinds rows c.requires.rows ∙ ap length (sym are) in
    let type = get_or_read c.in_ok-types.types.items (c.loop-left.left - 1) c.index.result.now
    (omega (arith, m, c.loop-left.invariant.within, c.loop-left-test.true)) c.index.ensures 0 in
    record {
      within = omega (arith, c.loop-left.invariant.within);
      count = length-set c.loop-left.firsts.items (c.loop-left.left - 1) c.in_ok-first.first ∙
          c.loop-left.invariant.count;
      number = omega (arith, c.loop-left.invariant.number, c.build_row.ensures.number);
      goes_on = goes_on_joined _ _ _ _ _ _ _ c.loop-left.invariant.goes_on c.build_row.ensures.goes_on;
      done = λ told b u p.
          rows-on _ _ _ _ _ _ _ _ b u c.in_ok-types.types.items rows _ _ c.loop-left.firsts.items _ _ c.index.result.now
          c.in_ok-first.first m c.loop-left.invariant.count p (c.loop-left.invariant.done told b u p)
          c.loop-left-test.true c.loop-left.invariant.within c.as_slice-in-loop-left.ensures c.index-as_slice-left.is
          type refl
          (c.in_ok-first.ensures.built (c.loop-left.invariant.goes_on.tells told));
    }

pub build_rows-returns-clause-count : goal.build_rows-returns-clause-count
build_rows-returns-clause-count g t c =
    let types = c.args.home.now.segments.now in
    c.loop-left.invariant.count ∙ rows-count types (child_types types c.args.segment) c.args.rows.now c.requires.rows

pub build_rows-returns-clause-built : goal.build_rows-returns-clause-built
build_rows-returns-clause-built g t c = λ told b u p.
    let types = c.args.home.now.segments.now in
    let rows = c.args.rows.now in
    let kinds = child_types types c.args.segment in
    let old = g.I.Intervals.intervals c.args.i.now in
    let new = g.I.Intervals.intervals c.loop-left.i in
    let are : c.in_ok-types.types.items ≡ kinds = c.in_ok-types.ensures.types ∙ ap (λ ts. child_types ts c.args.segment)
    c.as_slice.ensures in
    let P : List ℕ → Type 0 = λ ks. IsPlanned types old c.args.plan.now.items b u
    (types_of_rows types ks rows) in
    let none : c.loop-left.left ≡ 0 = omega arith in
    let Q : ℕ → Type 0 = λ k. RowsDone c.args.home.now.shape.now types old new c.loop-left.plan.items b u
    c.in_ok-types.types.items rows k c.loop-left.firsts.items in
    let w = rows-whole _ _ _ _ _ b u _ _ _ (subst Q none (c.loop-left.invariant.done told b u (subst P (sym are) p))) in
    let R : List ℕ → Type 0 = λ ks. BuildsRows c.args.home.now.shape.now types old new u ks c.loop-left.firsts.items
    rows in
    (w.0, subst R are w.1)

pub build_segment-returns-in_err-firsts-clause-sound : goal.build_segment-returns-in_err-firsts-clause-sound
build_segment-returns-in_err-firsts-clause-sound g t c = λ told b u p ci e.
    let f = err_from_is_err_and c.from_residual.result c.from_residual.ensures.1 in
    let part = parted _ _ _ b u _ _ p in
    c.in_err-firsts.ensures.sound told _ _ part.planned ci (same_fault _ _ _ _ f.1 f.2 e)

pub build_segment-returns-in_err-put_segment-clause-sound : goal.build_segment-returns-in_err-put_segment-clause-sound
build_segment-returns-in_err-put_segment-clause-sound g t c = λ told b u p ci e.
    let f = err_from_is_err_and c.from_residual-in_err-put_segment.result
    c.from_residual-in_err-put_segment.ensures.1 in
    let part = parted _ _ _ b u _ _ p in
    let below = c.in_ok-firsts.ensures.built told _ _ part.planned in
    let next = c.next_place-at.ensures b part.one below.0 in
    let room = room-planned _ _ _ _ _ b u c.args.segment _ c.args.children.now _ p part below.1
    (next.1 part.has_place.place part.has_place.is_place) in
    c.in_err-put_segment.ensures.sound (c.build_rows.ensures.goes_on.tells told) room ci (same_fault _ _ _ _ f.1 f.2 e)

pub build_segment-returns-clause-built : goal.build_segment-returns-clause-built
build_segment-returns-clause-built g t c = λ told b u p.
    let part = parted _ _ _ b u _ _ p in
    let below = c.in_ok-firsts.ensures.built told _ _ part.planned in
    let next = c.next_place-at.ensures b part.one below.0 in
    let is = next.1 part.has_place.place part.has_place.is_place in
    let room = room-planned _ _ _ _ _ b u c.args.segment _ c.args.children.now _ p part below.1 is in (
      next.0,
      segment-made _ _ _ _ _ _ b u c.args.segment _ _ c.args.children.now _ _ _ _ p part below.1 is
          c.as_slice.ensures.value (c.in_ok-put_segment.ensures.put (c.build_rows.ensures.goes_on.tells told) room),
    )
