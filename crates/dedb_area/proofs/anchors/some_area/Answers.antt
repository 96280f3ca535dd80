use Rattle.std.proofs.Common.{◌+◌, ◌∙◌, sym, arith}
use Rattle.fp_model.specs.State.{first_area_set}
use Rattle.dedb_area.proofs.AnchorLemmas.{area_from, found_here, next_area}
use Rattle.dedb_area.proofs.anchors.some_area.Goals as goal
use Rattle.area_laws.proofs.FullLemmas.{at_set}
use Rattle.plain_laws.proofs.Places.{stands_at}

pub returns-then-has_anchor-clause-yes : goal.returns-then-has_anchor-clause-yes
returns-then-has_anchor-clause-yes c = λ e.
    let places = c.args.places.now in
    let n = c.loop-place.place-index in
    let place = c.place-item.result in
    let here = stands_at places n place c.loop-place-test.true c.place-item.is in (
      first_area_set + n,
      found_here places c.args.dedb c.args.anchor n place (at_set places n place here)
          (sym c.has_anchor.ensures ∙ c.if-has_anchor.true),
    )

pub loop-place-preserved : goal.loop-place-preserved
loop-place-preserved c =
    let places = c.args.places.now in
    let n = c.loop-place.place-index in
    let place = c.place-item.result in
    next_area places c.args.dedb c.args.anchor n place (stands_at places n place c.loop-place-test.true c.place-item.is)
    (sym c.has_anchor.ensures ∙ c.if-has_anchor.false) c.loop-place.invariant

pub returns-clause-no : goal.returns-clause-no
returns-clause-no c = λ e set has.
    let within = area_from c.args.places.now c.args.dedb c.args.anchor set has in
    let below = within.1 in
    let from = within.0 in
    let left = c.loop-place.invariant set has in
    omega (arith, below, from, left, c.loop-place-test.false)
