use Rattle.std.proofs.Common.{◌≡◌, ◌-◌, suc, true, refl, sym, subst, arith}
use Rattle.std.proofs.lemmas.Option.{slice_get_within}
use Rattle.std.proofs.lemmas.Result.{err_from_is_err_and}
use Rattle.fp_model.specs.declared.database.Node.{Node, out-Node}
use Rattle.fp_model.specs.Order.{child_types}
use Rattle.anchor_elements.specs.Elements.{HasSegment}
use Rattle.anchor_elements.specs.Reading.{segment_of}
use Rattle.root_changes.specs.Gaining.{OneMore}
use Rattle.root_anchor.specs.Stored.{rows_have_form}
use Rattle.root_changes.proofs.GainingLemmas.{first_more, before_more, more_item}
use Rattle.root_anchor.proofs.FindingLemmas.{last_has, rows_row, row_twin, below_twin, give_as, found_map}
use Rattle.root_anchor.proofs.GapPlaces.{gap_in_front, gap_behind_twin, gap_below_twin, have_row, new_read, count_below, within_read, differ_within, gain_as, below_as, front_fits}
use Rattle.root_anchor.proofs.TypeLemmas.{length-is, row-node}
use Rattle.root_anchor.proofs.gaps.+gap_below.Goals as goal

pub row_of-requires : goal.row_of-requires
row_of-requires g t c = have_row c.args.segments.now c.args.segment c.args.parent.said.firsts.items c.args.rows.now
    c.args.others.now c.args.number c.requires.children c.requires.form c.requires.gains

-- ---- a new segment in front of the row

pub segment_at-node-requires : goal.segment_at-node-requires
segment_at-node-requires g t c =
    let new = c.gain_of_row.ensures.tells.new c.in-New.place c.in-New.is in
    slice_get_within c.row_of.result.2.now c.in-New.place new.item
    (more_item c.row_of.result.1.now c.row_of.result.2.now c.in-New.place new.item new.more)

pub returns-then-place-eq0-clause-gap : goal.returns-then-place-eq0-clause-gap
returns-then-place-eq0-clause-gap g t c = λ told h.
    let types = c.args.segments.now in
    let kind = c.row_of.result.0.segment in
    let row = c.row_of.result.1.now in
    let other = c.row_of.result.2.now in
    let at = c.row_of.ensures c.args.segments.now c.args.segment c.requires.places c.requires.children c.requires.form
    c.requires.gains in
    let k = c.in-New.place in
    let z : Node = c.segment_at-node.result.now in
    let new = new_read row other k z (c.gain_of_row.ensures.tells.new k c.in-New.is) c.segment_at-node.ensures in
    let is = c.gap_in_front.ensures in
    gap_in_front types _ c.args.segment kind c.args.parent.at c.row_of.result.0.at c.args.parent.said c.args.number 0 z
    row other c.args.rows.now c.args.others.now c.gap_in_front.result at.it.kind at.it.pointer at.at h
    (first_more row other k z new.more c.if-place-eq0.true) new.bare
    (count_below types kind row other k z at.it.form new c.segment_at-node.ensures) is.holder.0 is.holder.1 is.holder.2
    is.holder.3 is.added.0 is.added.1 is.added.2 is.added.3

pub returns-then-place-eq0-clause-fits : goal.returns-then-place-eq0-clause-fits
returns-then-place-eq0-clause-fits g t c =
    let types = c.args.segments.now in
    let kind = c.row_of.result.0.segment in
    let row = c.row_of.result.1.now in
    let other = c.row_of.result.2.now in
    let at = c.row_of.ensures c.args.segments.now c.args.segment c.requires.places c.requires.children c.requires.form
    c.requires.gains in
    let k = c.in-New.place in
    let z : Node = c.segment_at-node.result.now in
    let new = new_read row other k z (c.gain_of_row.ensures.tells.new k c.in-New.is) c.segment_at-node.ensures in
    let is = c.gap_in_front.ensures in
    front_fits types c.args.segment kind c.args.parent.said (out-Node z).bytes c.gap_in_front.result c.requires.direct
    at.it.direct c.requires.children c.requires.bytes c.requires.serial
    (row-node types kind other k z at.it.form new.within c.segment_at-node.ensures).bytes is.holder.0 is.holder.2
    is.added.0 is.added.2 is.added.3

-- ---- a new segment behind a twin

pub gap_behind-requires-clause-direct : goal.gap_behind-requires-clause-direct
gap_behind-requires-clause-direct g t c = (c.row_of.ensures c.args.segments.now c.args.segment c.requires.places
    c.requires.children c.requires.form c.requires.gains).it.direct

pub gap_behind-requires-clause-bytes : goal.gap_behind-requires-clause-bytes
gap_behind-requires-clause-bytes g t c =
    let row = c.row_of.result.1.now in
    let other = c.row_of.result.2.now in
    let at = c.row_of.ensures c.args.segments.now c.args.segment c.requires.places c.requires.children c.requires.form
    c.requires.gains in
    let k = c.in-New.place in
    let z : Node = c.segment_at-node.result.now in
    let new = new_read row other k z (c.gain_of_row.ensures.tells.new k c.in-New.is) c.segment_at-node.ensures in
    (row-node c.args.segments.now c.row_of.result.0.segment other k z at.it.form new.within
    c.segment_at-node.ensures).bytes

pub returns-in_err-gap-in-New-clause-sound : goal.returns-in_err-gap-in-New-clause-sound
returns-in_err-gap-in-New-clause-sound g t c = λ told gives ci e.
    let kind = c.row_of.result.0.segment in
    let row = c.row_of.result.1.now in
    let other = c.row_of.result.2.now in
    let at = c.row_of.ensures c.args.segments.now c.args.segment c.requires.places c.requires.children c.requires.form
    c.requires.gains in
    let k = c.in-New.place in
    let p = err_from_is_err_and c.from_residual.result c.from_residual.ensures.1 in
    let new = c.gain_of_row.ensures.tells.new k c.in-New.is in
    let last = before_more row other k (k - 1) new.item new.more (omega (arith, c.if-place-eq0.false)) in
    let there = rows_row gives.are c.args.number kind c.row_of.result.0.at row at.it.kind at.it.pointer at.at.first in
    let twin = row_twin there.are.are (k - 1) last.0 last.1 in
    c.gap_behind.ensures.sound told twin.place twin.s twin.twin ci (cc (p.1, p.2, c.in_err-gap-in-New.was))

pub returns-in-New-clause-gap : goal.returns-in-New-clause-gap
returns-in-New-clause-gap g t c = λ told h.
    let types = c.args.segments.now in
    let kind = c.row_of.result.0.segment in
    let row = c.row_of.result.1.now in
    let other = c.row_of.result.2.now in
    let at = c.row_of.ensures c.args.segments.now c.args.segment c.requires.places c.requires.children c.requires.form
    c.requires.gains in
    let k = c.in-New.place in
    let z : Node = c.segment_at-node.result.now in
    let new = new_read row other k z (c.gain_of_row.ensures.tells.new k c.in-New.is) c.segment_at-node.ensures in
    let behind : k ≡ suc (k - 1) = omega (arith, c.if-place-eq0.false) in
    gap_behind_twin types _ c.args.segment kind c.args.parent.at c.row_of.result.0.at c.args.parent.said c.args.number
    (k - 1) 0 z row other c.args.rows.now c.args.others.now c.in_ok-gap-in-New.gap at.it.kind at.it.pointer at.at h
    (c.in_ok-gap-in-New.ensures.gap told) (subst (λ q. OneMore row other q z) behind new.more) new.bare
    (count_below types kind row other k z at.it.form new c.segment_at-node.ensures)

-- ---- a new segment below a twin

pub twin_at-requires-clause-defined : goal.twin_at-requires-clause-defined
twin_at-requires-clause-defined g t c = (c.row_of.ensures c.args.segments.now c.args.segment c.requires.places
    c.requires.children c.requires.form c.requires.gains).it.direct.defined

pub returns-in_err-twin-in-Within-clause-sound : goal.returns-in_err-twin-in-Within-clause-sound
returns-in_err-twin-in-Within-clause-sound g t c = λ told gives ci e.
    let kind = c.row_of.result.0.segment in
    let row = c.row_of.result.1.now in
    let other = c.row_of.result.2.now in
    let at = c.row_of.ensures c.args.segments.now c.args.segment c.requires.places c.requires.children c.requires.form
    c.requires.gains in
    let p = err_from_is_err_and c.from_residual-in_err-twin-in-Within.result
    c.from_residual-in_err-twin-in-Within.ensures.1 in
    let w = c.gain_of_row.ensures.tells.within c.in-Within.place c.in-Within.deeper c.in-Within.is in
    let there = rows_row gives.are c.args.number kind c.row_of.result.0.at row at.it.kind at.it.pointer at.at.first in
    let twin = row_twin there.are.are c.in-Within.place w.x w.at.first in
    c.twin_at.ensures.sound told twin.place twin.s twin.twin ci (cc (p.1, p.2, c.in_err-twin-in-Within.was))

pub segment_at-node-requires-in-Within : goal.segment_at-node-requires-in-Within
segment_at-node-requires-in-Within g t c =
    let w = c.gain_of_row.ensures.tells.within c.in-Within.place c.in-Within.deeper c.in-Within.is in
    (differ_within c.row_of.result.1.now c.row_of.result.2.now c.in-Within.place w.x w.y w.at).0

pub segment_at-more-requires : goal.segment_at-more-requires
segment_at-more-requires g t c =
    let w = c.gain_of_row.ensures.tells.within c.in-Within.place c.in-Within.deeper c.in-Within.is in
    (differ_within c.row_of.result.1.now c.row_of.result.2.now c.in-Within.place w.x w.y w.at).1

pub gap_below-requires : goal.gap_below-requires
gap_below-requires g t c κs within =
    let types = c.args.segments.now in
    let kind = c.row_of.result.0.segment in
    let row = c.row_of.result.1.now in
    let other = c.row_of.result.2.now in
    let at = c.row_of.ensures c.args.segments.now c.args.segment c.requires.places c.requires.children c.requires.form
    c.requires.gains in
    let k = c.in-Within.place in
    let a : Node = c.segment_at-node-in-Within.result.now in
    let b : Node = c.segment_at-more.result.now in
    let w = within_read row other k c.in-Within.deeper a b
    (c.gain_of_row.ensures.tells.within k c.in-Within.deeper c.in-Within.is) c.segment_at-node-in-Within.ensures
    c.segment_at-more.ensures in
    let shape = row-node types kind other k b at.it.form w.within_other c.segment_at-more.ensures in
    let form = subst (λ r. rows_have_form types (child_types types kind) r ≡ true) (sym c.as_slice-in-Within.ensures)
    shape.rows in
    let gains = gain_as (out-Node a).children (out-Node b).children _ _ c.in-Within.deeper c.as_slice.ensures
    c.as_slice-in-Within.ensures w.below in
    let long = length-is types kind c.in_ok-twin-in-Within.twin.said.bytes c.in_ok-twin-in-Within.ensures.long in (
      omega (arith, c.decreases, at.it.above, at.it.direct.defined, c.requires.few),
      (
        within,
        (
          c.requires.few,
          (
            c.requires.places,
            (
              at.it.direct,
              (
                c.in_ok-twin-in-Within.ensures.types,
                (long, (c.in_ok-twin-in-Within.ensures.serial, (form, gains))),
              ),
            ),
          ),
        ),
      ),
    )

pub returns-in-Within-clause-gap : goal.returns-in-Within-clause-gap
returns-in-Within-clause-gap g t c = λ told h.
    let types = c.args.segments.now in
    let kind = c.row_of.result.0.segment in
    let row = c.row_of.result.1.now in
    let other = c.row_of.result.2.now in
    let at = c.row_of.ensures c.args.segments.now c.args.segment c.requires.places c.requires.children c.requires.form
    c.requires.gains in
    let k = c.in-Within.place in
    let a : Node = c.segment_at-node-in-Within.result.now in
    let b : Node = c.segment_at-more.result.now in
    let w = within_read row other k c.in-Within.deeper a b
    (c.gain_of_row.ensures.tells.within k c.in-Within.deeper c.in-Within.is) c.segment_at-node-in-Within.ensures
    c.segment_at-more.ensures in
    let twin = c.in_ok-twin-in-Within.ensures.twin told in
    let same = c.twin_at.ensures.look.same told in
    let has = subst (λ x. HasSegment types x kind c.in_ok-twin-in-Within.twin.at
    (segment_of c.in_ok-twin-in-Within.twin.said)) (sym same) (last_has twin) in
    found_map _ _ _ (λ f r. gap_below_twin types _ c.args.segment kind c.args.parent.at c.row_of.result.0.at
    c.in_ok-twin-in-Within.twin.at c.args.parent.said (segment_of c.in_ok-twin-in-Within.twin.said) c.args.number k a b
    row other c.args.rows.now c.args.others.now f at.it.kind at.it.pointer at.at h twin w.at w.own
    (below_as types _ _ kind c.in_ok-twin-in-Within.twin.at (out-Node a).children (out-Node b).children _ _ f same
    c.as_slice.ensures c.as_slice-in-Within.ensures r))
    (c.gap_below.ensures.gap (c.twin_at.ensures.look.goes_on.tells told) has)

pub returns-in-Within-clause-sound : goal.returns-in-Within-clause-sound
returns-in-Within-clause-sound g t c = λ told gives.
    let types = c.args.segments.now in
    let kind = c.row_of.result.0.segment in
    let row = c.row_of.result.1.now in
    let other = c.row_of.result.2.now in
    let at = c.row_of.ensures c.args.segments.now c.args.segment c.requires.places c.requires.children c.requires.form
    c.requires.gains in
    let k = c.in-Within.place in
    let a : Node = c.segment_at-node-in-Within.result.now in
    let b : Node = c.segment_at-more.result.now in
    let w = within_read row other k c.in-Within.deeper a b
    (c.gain_of_row.ensures.tells.within k c.in-Within.deeper c.in-Within.is) c.segment_at-node-in-Within.ensures
    c.segment_at-more.ensures in
    let there = rows_row gives.are c.args.number kind c.row_of.result.0.at row at.it.kind at.it.pointer at.at.first in
    let below = below_twin types _ _ kind k c.row_of.result.0.at c.in_ok-twin-in-Within.twin.at
    (segment_of c.in_ok-twin-in-Within.twin.said) (out-Node a).children (c.twin_at.ensures.look.same told)
    (c.in_ok-twin-in-Within.ensures.twin told) (row_twin there.are.are k a w.at.first) in
    c.gap_below.ensures.sound (c.twin_at.ensures.look.goes_on.tells told)
    (give_as types _ _ _ _ _ _ refl c.as_slice.ensures below)

pub returns-clause-some : goal.returns-clause-some
returns-clause-some g t c =
    absurd (c.gain_of_row.ensures.tells.none c.in-Not.is (c.row_of.ensures c.args.segments.now c.args.segment
    c.requires.places c.requires.children c.requires.form c.requires.gains).gains)
