use Rattle.std.proofs.Common.{◌≡◌, ◌∙◌, ◌<◌, ℕ, true, List, length, sym, ap, subst, arith, rules}
use Rattle.std.proofs.lemmas.Result.{err_from_is_err_and}
use Rattle.fp_model.specs.declared.database.Root.{Root}
use Rattle.fp_model.specs.Order.{child_types}
use Rattle.anchor_elements.specs.Reading.{types_of, pointers_of, segment_of}
use Rattle.root_changes.specs.Differing.{RootDiffers, RowDiffers}
use Rattle.root_anchor.specs.inside.Finding.{says_of}
use Rattle.root_anchor.specs.Stored.{rows_have_form}
use Rattle.root_changes.proofs.ComparingLemmas.{differ_told, thing_told, read_there, roots_apart, root_told, inside}
use Rattle.root_anchor.proofs.FindingLemmas.{count_of, root_twin, below_twin, root_found, below_root_found, give_as, differ_as, in_as, found_map}
use Rattle.root_anchor.proofs.TypeLemmas.{root-direct, roots-root, rows-count}
use Rattle.root_anchor.proofs.finding.find_in_roots.Goals as goal

pub returns-in_default-clause-some : goal.returns-in_default-clause-some
returns-in_default-clause-some g c = λ told gives differ.
    absurd (differ_told RootDiffers roots_apart c.args.before.now c.args.after.now differ.number
    c.compare_roots.result c.compare_roots.ensures.tells differ.differ (λ j e. c.in_default.not-At j e))

pub returns-in_err-at-clause-sound : goal.returns-in_err-at-clause-sound
returns-in_err-at-clause-sound g c = λ told gives ci e.
    let p = err_from_is_err_and c.from_residual.result c.from_residual.ensures.1 in
    let d = c.compare_roots.ensures.tells.place c.in-At.number c.in-At.is in
    let twin = root_twin gives.are c.in-At.number d.x d.at.first in
    c.twin_at.ensures.sound told twin.place twin.s twin.twin ci (cc (p.1, p.2, c.in_err-at.was))

pub offset_bounds-before-number : goal.offset_bounds-before-number
offset_bounds-before-number g c = let b = (c.compare_roots.ensures.inside c.in-At.number c.in-At.is).0 in search rules

pub bounds-before-number : goal.bounds-before-number
bounds-before-number g c = (c.compare_roots.ensures.inside c.in-At.number c.in-At.is).0

pub offset_bounds-after-number : goal.offset_bounds-after-number
offset_bounds-after-number g c = let b = (c.compare_roots.ensures.inside c.in-At.number c.in-At.is).1 in search rules

pub bounds-after-number : goal.bounds-after-number
bounds-after-number g c = (c.compare_roots.ensures.inside c.in-At.number c.in-At.is).1

pub returns-in-Itself-clause-found : goal.returns-in-Itself-clause-found
returns-in-Itself-clause-found g c = λ told.
    let k = c.in-At.number in
    let a : Root = c.index-before-number.result in
    let b : Root = c.index-after-number.result in
    let d = read_there RootDiffers c.args.before.now c.args.after.now k a b
    (c.compare_roots.ensures.tells.place k c.in-At.is) c.index-before-number.is c.index-after-number.is in
    let shape = roots-root c.args.segments.now c.args.after.now k b c.requires.form
    (c.compare_roots.ensures.inside k c.in-At.is).1 c.index-after-number.is in
    root_found c.args.segments.now _ k c.args.first c.in_ok-at.field-0.at
    (segment_of c.in_ok-at.field-0.said) c.args.before.now c.args.after.now a b c.newest_of.result
    (c.in_ok-at.ensures.twin told) d.0 (c.compare_root.ensures.itself c.in-Itself.is).1
    (c.newest_of.ensures.newest c.args.segments.now shape.seqs)

pub returns-in-Itself-clause-fits : goal.returns-in-Itself-clause-fits
returns-in-Itself-clause-fits g c =
    let k = c.in-At.number in
    let b : Root = c.index-after-number.result in
    let shape = roots-root c.args.segments.now c.args.after.now k b c.requires.form
    (c.compare_roots.ensures.inside k c.in-At.is).1 c.index-after-number.is in
    record {
      direct = root-direct _ c.args.segments.now c.requires.types;
      firsts = count_of c.in_ok-at.field-0.said.firsts.items _ c.in_ok-at.ensures.types;
      bytes = shape.bytes;
      serial = λ e. c.newest_of.ensures.none c.args.segments.now shape.seqs e;
    }

pub find_below-requires : goal.find_below-requires
find_below-requires g c =
    let types = c.args.segments.now in
    let k = c.in-At.number in
    let b : Root = c.index-after-number.result in
    let j = c.in-At-compare_root.place in
    let kinds : List ℕ = child_types types 0 in
    let shape = roots-root types c.args.after.now k b c.requires.form
    (c.compare_roots.ensures.inside k c.in-At.is).1 c.index-after-number.is in
    let d = (c.compare_root.ensures.below j c.in-At-compare_root.is).1 in
    let typed : types_of c.as_slice.result.now ≡ kinds =
    ap types_of c.as_slice.ensures.value ∙ c.in_ok-at.ensures.types in
    let rows = c.as_slice-in-At-compare_root.ensures in
    let others = c.as_slice-in-At-compare_root-2.ensures in
    let it = in_as _ _ _ _ j rows others d in
    let within_rows = inside RowDiffers _ _ j it in
    let form = subst (λ r. rows_have_form types kinds r ≡ true) (sym others) shape.rows in
    let here : j < length c.as_slice.result.now =
    omega (
      arith,
      within_rows.1,
      rows-count types kinds c.as_slice-in-At-compare_root-2.result.now form,
      count_of c.as_slice.result.now kinds typed,
    ) in
    record {
      few = c.requires.types.few;
      places = c.requires.types.places;
      children = typed;
      form = form;
      differ = it;
      inside = (here, within_rows.0, within_rows.1);
    }

pub returns-in-At-compare_root-clause-found : goal.returns-in-At-compare_root-clause-found
returns-in-At-compare_root-clause-found g c = λ told.
    let types = c.args.segments.now in
    let k = c.in-At.number in
    let a : Root = c.index-before-number.result in
    let b : Root = c.index-after-number.result in
    let j = c.in-At-compare_root.place in
    let d = read_there RootDiffers c.args.before.now c.args.after.now k a b
    (c.compare_roots.ensures.tells.place k c.in-At.is) c.index-before-number.is c.index-after-number.is in
    let own = (c.compare_root.ensures.below j c.in-At-compare_root.is).0 in
    found_map _ _ _ (λ f r. below_root_found types _ k c.args.first c.in_ok-at.field-0.at
    (segment_of c.in_ok-at.field-0.said) c.args.before.now c.args.after.now a b f.segment f.at (says_of f)
    (c.in_ok-at.ensures.twin told) d.0 own
    (differ_as types _ _ (child_types types 0) _ _ _ _ _ _ f.segment f.at (says_of f)
    (c.twin_at.ensures.look.same told) (ap pointers_of c.as_slice.ensures.value)
    c.as_slice-in-At-compare_root.ensures c.as_slice-in-At-compare_root-2.ensures r))
    (c.find_below.ensures.found (c.twin_at.ensures.look.goes_on.tells told))

pub returns-in-At-compare_root-clause-some : goal.returns-in-At-compare_root-clause-some
returns-in-At-compare_root-clause-some g c = λ told gives differ.
    let types = c.args.segments.now in
    let k = c.in-At.number in
    let a : Root = c.index-before-number.result in
    let b : Root = c.index-after-number.result in
    let d = read_there RootDiffers c.args.before.now c.args.after.now k a b
    (c.compare_roots.ensures.tells.place k c.in-At.is) c.index-before-number.is c.index-after-number.is in
    let below = below_twin types _ _ 0 k c.args.first c.in_ok-at.field-0.at
    (segment_of c.in_ok-at.field-0.said) a.children (c.twin_at.ensures.look.same told)
    (c.in_ok-at.ensures.twin told) (root_twin gives.are k a d.0.first) in
    c.find_below.ensures.some (c.twin_at.ensures.look.goes_on.tells told)
    (give_as types _ _ _ _ _ _ (ap pointers_of c.as_slice.ensures.value) c.as_slice-in-At-compare_root.ensures below)

pub returns-in-At-compare_root-clause-sound : goal.returns-in-At-compare_root-clause-sound
returns-in-At-compare_root-clause-sound g c = λ told gives.
    let types = c.args.segments.now in
    let k = c.in-At.number in
    let a : Root = c.index-before-number.result in
    let b : Root = c.index-after-number.result in
    let d = read_there RootDiffers c.args.before.now c.args.after.now k a b
    (c.compare_roots.ensures.tells.place k c.in-At.is) c.index-before-number.is c.index-after-number.is in
    let below = below_twin types _ _ 0 k c.args.first c.in_ok-at.field-0.at
    (segment_of c.in_ok-at.field-0.said) a.children (c.twin_at.ensures.look.same told)
    (c.in_ok-at.ensures.twin told) (root_twin gives.are k a d.0.first) in
    c.find_below.ensures.sound (c.twin_at.ensures.look.goes_on.tells told)
    (give_as types _ _ _ _ _ _ (ap pointers_of c.as_slice.ensures.value) c.as_slice-in-At-compare_root.ensures below)

pub returns-clause-some : goal.returns-clause-some
returns-clause-some g c = λ told gives differ.
    let k = c.in-At.number in
    let a : Root = c.index-before-number.result in
    let b : Root = c.index-after-number.result in
    let d = read_there RootDiffers c.args.before.now c.args.after.now k a b
    (c.compare_roots.ensures.tells.place k c.in-At.is) c.index-before-number.is c.index-after-number.is in
    absurd (thing_told RootDiffers roots_apart a b c.compare_root.result (root_told a b _ c.compare_root.ensures) d.1
    c.in_default-compare_root.not-Itself (λ j e. c.in_default-compare_root.not-At j e))
