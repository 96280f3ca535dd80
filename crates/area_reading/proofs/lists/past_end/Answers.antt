use Rattle.std.proofs.Common.{◌≡◌, sym, subst}
use Rattle.std.specs.Prelude.{IfNone, IfSome}
use Rattle.anchor_elements.specs.Elements.{AreTypes}
use Rattle.root_anchor.specs.Roots.{HasFewer, HasRootAt}
use Rattle.area_states.proofs.Numbering.{not_fewer}
use Rattle.area_reading.specs.Damage.{HasRootPastEnd}
use Rattle.area_reading.proofs.Readable.{root_past}
use Rattle.area_reading.proofs.lists.past_end.Goals as goal

pub root_place-requires-clause-types : goal.root_place-requires-clause-types
root_place-requires-clause-types g c =
    subst (λ n. AreTypes n c.args.place.now.segments) (sym c.requires.size) c.requires.place.types

pub returns-in-Some-clause-damaged : goal.returns-in-Some-clause-damaged
returns-in-Some-clause-damaged g c = λ told kept root has at past ci e.
    let place = c.args.place.now in
    let area = g.I.Intervals.intervals c.args.i.now in
    let there : HasRootAt place.shape place.segments area c.args.anchor c.args.number c.in-Some.root =
    subst (λ o. IfSome o (HasRootAt place.shape place.segments area c.args.anchor c.args.number)) c.in-Some.is
    (c.in-Ok.ensures.place told) in
    let same : c.in-Some.root.ci ≡ ci = cc in
    subst (λ k. HasRootPastEnd place area c.args.anchor k) same
    (root_past place area c.args.anchor c.args.number kept root c.in-Some.root has at past there)

pub returns-in-None-clause-damaged : goal.returns-in-None-clause-damaged
returns-in-None-clause-damaged g c = λ told kept root has at past ci e.
    let place = c.args.place.now in
    let area = g.I.Intervals.intervals c.args.i.now in
    let fewer : HasFewer place.shape place.segments area c.args.anchor c.args.number =
    subst (λ o. IfNone o (HasFewer place.shape place.segments area c.args.anchor c.args.number)) c.in-None.is
    (c.in-Ok.ensures.none told) in
    absurd (not_fewer place area c.args.anchor c.args.number kept root has at fewer)
