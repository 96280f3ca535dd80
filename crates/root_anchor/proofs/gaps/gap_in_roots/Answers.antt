use Rattle.std.proofs.Common.{◌≡◌, ◌-◌, ◌<◌, suc, true, length, refl, sym, subst, rules, arith}
use Rattle.std.proofs.lemmas.Option.{slice_get_within}
use Rattle.std.proofs.lemmas.Result.{err_from_is_err_and}
use Rattle.fp_model.specs.declared.database.Root.{Root}
use Rattle.fp_model.specs.Order.{child_types}
use Rattle.anchor_elements.specs.Elements.{HasSegment}
use Rattle.anchor_elements.specs.Reading.{segment_of}
use Rattle.root_changes.specs.Gaining.{OneMore}
use Rattle.root_anchor.specs.Stored.{rows_have_form}
use Rattle.root_changes.proofs.GainingLemmas.{before_more, more_item}
use Rattle.root_anchor.proofs.FindingLemmas.{last_has, root_twin, below_twin, give_as, found_map}
use Rattle.root_anchor.proofs.GapPlaces.{gap_behind_root, gap_below_root, root_new_read, root_within_read, differ_within, gain_as, below_as}
use Rattle.root_anchor.proofs.TypeLemmas.{length-is, root-direct, roots-root, rows-count}
use Rattle.root_anchor.proofs.gaps.gap_in_roots.Goals as goal

-- ---- a new root

pub bounds-others-place : goal.bounds-others-place
bounds-others-place g c =
    let new = c.requires.tells.new c.in-New.place c.in-New.is in
    slice_get_within c.args.others.now c.in-New.place new.item
    (more_item c.args.roots.now c.args.others.now c.in-New.place new.item new.more)

pub offset_bounds-others-place : goal.offset_bounds-others-place
offset_bounds-others-place g c =
    let new = c.requires.tells.new c.in-New.place c.in-New.is in
    let here : c.in-New.place < length c.args.others.now =
    slice_get_within c.args.others.now c.in-New.place new.item
    (more_item c.args.roots.now c.args.others.now c.in-New.place new.item new.more) in
    search rules

pub gap_behind-requires-clause-direct : goal.gap_behind-requires-clause-direct
gap_behind-requires-clause-direct g c = root-direct _ c.args.segments.now c.requires.types

pub gap_behind-requires-clause-bytes : goal.gap_behind-requires-clause-bytes
gap_behind-requires-clause-bytes g c =
    let k = c.in-New.place in
    let z : Root = c.index-others-place.result in
    let new = root_new_read c.args.roots.now c.args.others.now k z (c.requires.tells.new k c.in-New.is)
    c.index-others-place.is in
    (roots-root c.args.segments.now c.args.others.now k z c.requires.form new.within c.index-others-place.is).bytes

pub gap_behind-requires-clause-serial : goal.gap_behind-requires-clause-serial
gap_behind-requires-clause-serial g c = λ e.
    let k = c.in-New.place in
    let z : Root = c.index-others-place.result in
    let new = root_new_read c.args.roots.now c.args.others.now k z (c.requires.tells.new k c.in-New.is)
    c.index-others-place.is in
    c.newest_of.ensures.none c.args.segments.now
    (roots-root c.args.segments.now c.args.others.now k z c.requires.form new.within c.index-others-place.is).seqs e

pub returns-in_err-gap-in-New-clause-sound : goal.returns-in_err-gap-in-New-clause-sound
returns-in_err-gap-in-New-clause-sound g c = λ told gives ci e.
    let k = c.in-New.place in
    let p = err_from_is_err_and c.from_residual.result c.from_residual.ensures.1 in
    let new = c.requires.tells.new k c.in-New.is in
    let last = before_more c.args.roots.now c.args.others.now k (k - 1) new.item new.more
    (omega (arith, c.if-place-eq0.false)) in
    let twin = root_twin gives.are (k - 1) last.0 last.1 in
    c.gap_behind.ensures.sound told twin.place twin.s twin.twin ci (cc (p.1, p.2, c.in_err-gap-in-New.was))

pub returns-in_ok-gap-in-New-clause-gap : goal.returns-in_ok-gap-in-New-clause-gap
returns-in_ok-gap-in-New-clause-gap g c = λ told.
    let types = c.args.segments.now in
    let k = c.in-New.place in
    let z : Root = c.index-others-place.result in
    let new = root_new_read c.args.roots.now c.args.others.now k z (c.requires.tells.new k c.in-New.is)
    c.index-others-place.is in
    let shape = roots-root types c.args.others.now k z c.requires.form new.within c.index-others-place.is in
    let behind : k ≡ suc (k - 1) = omega (arith, c.if-place-eq0.false) in
    gap_behind_root types _ c.args.first (k - 1) c.newest_of.result z c.args.roots.now c.args.others.now
    c.in_ok-gap-in-New.gap (c.in_ok-gap-in-New.ensures.gap told)
    (subst (λ q. OneMore c.args.roots.now c.args.others.now q z) behind new.more)
    (c.newest_of.ensures.newest types shape.seqs) new.bare (rows-count types (child_types types 0) z.children shape.rows)

-- ---- a new segment below a root

pub returns-in_err-twin-in-Within-clause-sound : goal.returns-in_err-twin-in-Within-clause-sound
returns-in_err-twin-in-Within-clause-sound g c = λ told gives ci e.
    let p = err_from_is_err_and c.from_residual-in_err-twin-in-Within.result
    c.from_residual-in_err-twin-in-Within.ensures.1 in
    let w = c.requires.tells.within c.in-Within.place c.in-Within.number c.in-Within.is in
    let twin = root_twin gives.are c.in-Within.place w.x w.at.first in
    c.twin_at.ensures.sound told twin.place twin.s twin.twin ci (cc (p.1, p.2, c.in_err-twin-in-Within.was))

pub bounds-roots-place : goal.bounds-roots-place
bounds-roots-place g c =
    let w = c.requires.tells.within c.in-Within.place c.in-Within.number c.in-Within.is in
    (differ_within c.args.roots.now c.args.others.now c.in-Within.place w.x w.y w.at).0

pub offset_bounds-roots-place : goal.offset_bounds-roots-place
offset_bounds-roots-place g c =
    let w = c.requires.tells.within c.in-Within.place c.in-Within.number c.in-Within.is in
    let b = (differ_within c.args.roots.now c.args.others.now c.in-Within.place w.x w.y w.at).0 in
    search rules

pub bounds-others-place-in-Within : goal.bounds-others-place-in-Within
bounds-others-place-in-Within g c =
    let w = c.requires.tells.within c.in-Within.place c.in-Within.number c.in-Within.is in
    (differ_within c.args.roots.now c.args.others.now c.in-Within.place w.x w.y w.at).1

pub offset_bounds-others-place-in-Within : goal.offset_bounds-others-place-in-Within
offset_bounds-others-place-in-Within g c =
    let w = c.requires.tells.within c.in-Within.place c.in-Within.number c.in-Within.is in
    let b = (differ_within c.args.roots.now c.args.others.now c.in-Within.place w.x w.y w.at).1 in
    search rules

pub gap_below-requires : goal.gap_below-requires
gap_below-requires g c =
    let types = c.args.segments.now in
    let k = c.in-Within.place in
    let a : Root = c.index-roots-place.result in
    let b : Root = c.index-others-place-in-Within.result in
    let w = root_within_read c.args.roots.now c.args.others.now k c.in-Within.number a b
    (c.requires.tells.within k c.in-Within.number c.in-Within.is) c.index-roots-place.is
    c.index-others-place-in-Within.is in
    let shape = roots-root types c.args.others.now k b c.requires.form w.within_other c.index-others-place-in-Within.is in
    record {
      few = c.requires.types.few;
      places = c.requires.types.places;
      direct = root-direct _ types c.requires.types;
      children = c.in_ok-twin-in-Within.ensures.types;
      bytes = length-is types 0 c.in_ok-twin-in-Within.twin.said.bytes c.in_ok-twin-in-Within.ensures.long;
      serial = c.in_ok-twin-in-Within.ensures.serial;
      form = subst (λ r. rows_have_form types (child_types types 0) r ≡ true) (sym c.as_slice-in-Within.ensures) shape.rows;
      gains = gain_as a.children b.children _ _ c.in-Within.number c.as_slice.ensures c.as_slice-in-Within.ensures w.below;
    }

pub returns-in_ok-twin-in-Within-clause-gap : goal.returns-in_ok-twin-in-Within-clause-gap
returns-in_ok-twin-in-Within-clause-gap g c = λ told.
    let types = c.args.segments.now in
    let k = c.in-Within.place in
    let a : Root = c.index-roots-place.result in
    let b : Root = c.index-others-place-in-Within.result in
    let w = root_within_read c.args.roots.now c.args.others.now k c.in-Within.number a b
    (c.requires.tells.within k c.in-Within.number c.in-Within.is) c.index-roots-place.is
    c.index-others-place-in-Within.is in
    let twin = c.in_ok-twin-in-Within.ensures.twin told in
    let same = c.twin_at.ensures.look.same told in
    let has = subst (λ x. HasSegment types x 0 c.in_ok-twin-in-Within.twin.at
    (segment_of c.in_ok-twin-in-Within.twin.said)) (sym same) (last_has twin) in
    found_map _ _ _ (λ f r. gap_below_root types _ c.args.first c.in_ok-twin-in-Within.twin.at
    (segment_of c.in_ok-twin-in-Within.twin.said) k a b c.args.roots.now c.args.others.now f twin w.at w.own
    (below_as types _ _ 0 c.in_ok-twin-in-Within.twin.at a.children b.children _ _ f same c.as_slice.ensures
    c.as_slice-in-Within.ensures r)) (c.gap_below.ensures.gap (c.twin_at.ensures.look.goes_on.tells told) has)

pub returns-in_ok-twin-in-Within-clause-sound : goal.returns-in_ok-twin-in-Within-clause-sound
returns-in_ok-twin-in-Within-clause-sound g c = λ told gives.
    let types = c.args.segments.now in
    let k = c.in-Within.place in
    let a : Root = c.index-roots-place.result in
    let b : Root = c.index-others-place-in-Within.result in
    let w = root_within_read c.args.roots.now c.args.others.now k c.in-Within.number a b
    (c.requires.tells.within k c.in-Within.number c.in-Within.is) c.index-roots-place.is
    c.index-others-place-in-Within.is in
    let below = below_twin types _ _ 0 k c.args.first c.in_ok-twin-in-Within.twin.at
    (segment_of c.in_ok-twin-in-Within.twin.said) a.children (c.twin_at.ensures.look.same told)
    (c.in_ok-twin-in-Within.ensures.twin told) (root_twin gives.are k a w.at.first) in
    c.gap_below.ensures.sound (c.twin_at.ensures.look.goes_on.tells told)
    (give_as types _ _ _ _ _ _ refl c.as_slice.ensures below)
