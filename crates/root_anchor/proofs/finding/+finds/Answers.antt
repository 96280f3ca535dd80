use Rattle.std.proofs.Common.{◌≡◌, ◌∙◌, ◌<◌, ℕ, true, List, length, get_or, sym, ap, subst, arith}
use Rattle.std.proofs.lemmas.Option.{slice_get-get_or}
use Rattle.std.proofs.lemmas.Result.{err_from_is_err_and}
use Rattle.fp_model.specs.declared.database.Node.{Node, out-Node}
use Rattle.fp_model.specs.Order.{child_types}
use Rattle.anchor_elements.specs.declared.element.First.{First}
use Rattle.anchor_elements.specs.Reading.{types_of, pointers_of, segment_of}
use Rattle.root_changes.specs.Differing.{NodesDiffer, RowDiffers}
use Rattle.root_anchor.specs.inside.Finding.{says_of}
use Rattle.root_anchor.specs.Stored.{rows_have_form}
use Rattle.root_changes.proofs.ComparingLemmas.{differ_told, thing_told, read_there, nodes_apart, node_told, inside}
use Rattle.root_anchor.proofs.FindingLemmas.{first_at, count_of, rows_at, rows_row, row_twin, below_twin, itself_found, below_found, give_as, differ_as, in_as, found_map}
use Rattle.root_anchor.proofs.TypeLemmas.{row-node, rows-count}
use Rattle.root_anchor.proofs.finding.+finds.Goals as goal

pub find_below-find_in_row-requires : goal.find_below-find_in_row-requires
find_below-find_in_row-requires g t c κs within =
    let types = c.args.segments.now in
    let firsts : List First = c.args.firsts.now in
    let j = c.args.place in
    let none : First = record { segment = 0; at = (0, 0) } in
    let f = first_at types c.args.segment firsts c.args.others.now j (get_or firsts j none) c.index-others-place.result
    c.requires.places c.requires.children c.requires.form c.requires.inside.0 c.requires.inside.2
    (slice_get-get_or firsts j none c.requires.inside.0) c.index-others-place.is in
    let d = read_there RowDiffers c.args.rows.now c.args.others.now j c.index-rows-place.result
    c.index-others-place.result c.requires.differ c.index-rows-place.is c.index-others-place.is in (
      omega (arith, c.decreases, f.above, f.direct.defined, c.requires.few),
      (within, (c.requires.few, (c.requires.places, (f.direct, (f.form, d.1))))),
    )

pub find_below-returns-clause-found : goal.find_below-returns-clause-found
find_below-returns-clause-found g t c = λ told.
    let types = c.args.segments.now in
    let firsts : List First = c.args.firsts.now in
    let j = c.args.place in
    let none : First = record { segment = 0; at = (0, 0) } in
    let f = first_at types c.args.segment firsts c.args.others.now j (get_or firsts j none) c.index-others-place.result
    c.requires.places c.requires.children c.requires.form c.requires.inside.0 c.requires.inside.2
    (slice_get-get_or firsts j none c.requires.inside.0) c.index-others-place.is in
    let d = read_there RowDiffers c.args.rows.now c.args.others.now j c.index-rows-place.result
    c.index-others-place.result c.requires.differ c.index-rows-place.is c.index-others-place.is in
    found_map _ _ _ (λ x r. rows_at j (child_types types c.args.segment) (pointers_of firsts) c.args.rows.now
    c.args.others.now f.kind f.pointer d.0 r) (c.find_in_row.ensures.found told)

pub find_below-returns-clause-some : goal.find_below-returns-clause-some
find_below-returns-clause-some g t c = λ told gives.
    let types = c.args.segments.now in
    let firsts : List First = c.args.firsts.now in
    let j = c.args.place in
    let none : First = record { segment = 0; at = (0, 0) } in
    let f = first_at types c.args.segment firsts c.args.others.now j (get_or firsts j none) c.index-others-place.result
    c.requires.places c.requires.children c.requires.form c.requires.inside.0 c.requires.inside.2
    (slice_get-get_or firsts j none c.requires.inside.0) c.index-others-place.is in
    let d = read_there RowDiffers c.args.rows.now c.args.others.now j c.index-rows-place.result
    c.index-others-place.result c.requires.differ c.index-rows-place.is c.index-others-place.is in
    c.find_in_row.ensures.some told (rows_row gives.are j _ _ _ f.kind f.pointer d.0.first)

pub find_below-returns-clause-sound : goal.find_below-returns-clause-sound
find_below-returns-clause-sound g t c = λ told gives.
    let types = c.args.segments.now in
    let firsts : List First = c.args.firsts.now in
    let j = c.args.place in
    let none : First = record { segment = 0; at = (0, 0) } in
    let f = first_at types c.args.segment firsts c.args.others.now j (get_or firsts j none) c.index-others-place.result
    c.requires.places c.requires.children c.requires.form c.requires.inside.0 c.requires.inside.2
    (slice_get-get_or firsts j none c.requires.inside.0) c.index-others-place.is in
    let d = read_there RowDiffers c.args.rows.now c.args.others.now j c.index-rows-place.result
    c.index-others-place.result c.requires.differ c.index-rows-place.is c.index-others-place.is in
    c.find_in_row.ensures.sound told (rows_row gives.are j _ _ _ f.kind f.pointer d.0.first)

pub find_in_row-returns-in_default-clause-some : goal.find_in_row-returns-in_default-clause-some
find_in_row-returns-in_default-clause-some g t c = λ told gives.
    absurd (differ_told NodesDiffer nodes_apart c.args.row.now c.args.other.now c.requires.differ.number
    c.compare_row.result c.compare_row.ensures.tells c.requires.differ.differ (λ j e. c.in_default.not-At j e))

pub find_in_row-returns-in_err-at-clause-sound : goal.find_in_row-returns-in_err-at-clause-sound
find_in_row-returns-in_err-at-clause-sound g t c = λ told gives ci e.
    let p = err_from_is_err_and c.from_residual.result c.from_residual.ensures.1 in
    let d = c.compare_row.ensures.tells.place c.in-At.number c.in-At.is in
    let twin = row_twin gives.are.are c.in-At.number d.x d.at.first in
    c.twin_at.ensures.sound told twin.place twin.s twin.twin ci (cc (p.1, p.2, c.in_err-at.was))

pub find_in_row-returns-in-Itself-clause-found : goal.find_in_row-returns-in-Itself-clause-found
find_in_row-returns-in-Itself-clause-found g t c = λ told.
    let k = c.in-At.number in
    let a : Node = c.index-as_slice-number.result in
    let b : Node = c.index-as_slice-number-2.result in
    let d = read_there NodesDiffer c.args.row.now c.args.other.now k a b
    (c.compare_row.ensures.tells.place k c.in-At.is)
    (c.index-as_slice-number.is ∙ ap (λ xs. get_or xs k a) c.as_slice.ensures)
    (c.index-as_slice-number-2.is ∙ ap (λ xs. get_or xs k b) c.as_slice-2.ensures) in
    itself_found c.args.segments.now _ c.args.segment k c.args.first c.in_ok-at.field-0.at
    (segment_of c.in_ok-at.field-0.said) c.args.row.now c.args.other.now a b (c.in_ok-at.ensures.twin told) d.0
    (c.compare_nodes.ensures.itself c.in-Itself.is).1

pub find_in_row-returns-in-Itself-clause-fits : goal.find_in_row-returns-in-Itself-clause-fits
find_in_row-returns-in-Itself-clause-fits g t c =
    let k = c.in-At.number in
    let b : Node = c.index-as_slice-number-2.result in
    let shape = row-node c.args.segments.now c.args.segment c.args.other.now k b c.requires.form
    (c.compare_row.ensures.inside k c.in-At.is).1
    (c.index-as_slice-number-2.is ∙ ap (λ xs. get_or xs k b) c.as_slice-2.ensures) in
    record {
      direct = c.requires.direct;
      firsts = count_of c.in_ok-at.field-0.said.firsts.items _ c.in_ok-at.ensures.types;
      bytes = shape.bytes;
      serial = c.in_ok-at.ensures.serial;
    }

pub find_in_row-find_below-requires : goal.find_in_row-find_below-requires
find_in_row-find_below-requires g t c κs within =
    let types = c.args.segments.now in
    let k = c.in-At.number in
    let a : Node = c.index-as_slice-number.result in
    let b : Node = c.index-as_slice-number-2.result in
    let j = c.in-At-compare_nodes.place in
    let kinds : List ℕ = child_types types c.args.segment in
    let shape = row-node types c.args.segment c.args.other.now k b c.requires.form
    (c.compare_row.ensures.inside k c.in-At.is).1
    (c.index-as_slice-number-2.is ∙ ap (λ xs. get_or xs k b) c.as_slice-2.ensures) in
    let d = (c.compare_nodes.ensures.below j c.in-At-compare_nodes.is).1 in
    let typed : types_of c.as_slice-in-At-compare_nodes.result.now ≡ kinds =
    ap types_of c.as_slice-in-At-compare_nodes.ensures.value ∙ c.in_ok-at.ensures.types in
    let rows = c.as_slice-in-At-compare_nodes-2.ensures in
    let others = c.as_slice-in-At-compare_nodes-3.ensures in
    let it = in_as _ _ _ _ j rows others d in
    let within_rows = inside RowDiffers _ _ j it in
    let form = subst (λ r. rows_have_form types kinds r ≡ true) (sym others) shape.rows in
    let here : j < length c.as_slice-in-At-compare_nodes.result.now =
    omega (
      arith,
      within_rows.1,
      rows-count types kinds c.as_slice-in-At-compare_nodes-3.result.now form,
      count_of c.as_slice-in-At-compare_nodes.result.now kinds typed,
    ) in (
      omega (arith, c.decreases, c.requires.direct.defined, c.requires.few),
      (within, (c.requires.few, (c.requires.places, (typed, (form, (it, (here, within_rows.0, within_rows.1))))))),
    )

pub find_in_row-returns-in-At-compare_nodes-clause-found : goal.find_in_row-returns-in-At-compare_nodes-clause-found
find_in_row-returns-in-At-compare_nodes-clause-found g t c = λ told.
    let types = c.args.segments.now in
    let k = c.in-At.number in
    let a : Node = c.index-as_slice-number.result in
    let b : Node = c.index-as_slice-number-2.result in
    let j = c.in-At-compare_nodes.place in
    let d = read_there NodesDiffer c.args.row.now c.args.other.now k a b
    (c.compare_row.ensures.tells.place k c.in-At.is)
    (c.index-as_slice-number.is ∙ ap (λ xs. get_or xs k a) c.as_slice.ensures)
    (c.index-as_slice-number-2.is ∙ ap (λ xs. get_or xs k b) c.as_slice-2.ensures) in
    let own = (c.compare_nodes.ensures.below j c.in-At-compare_nodes.is).0 in
    found_map _ _ _ (λ f r. below_found types _ c.args.segment k c.args.first c.in_ok-at.field-0.at
    (segment_of c.in_ok-at.field-0.said) c.args.row.now c.args.other.now a b f.segment f.at (says_of f)
    (c.in_ok-at.ensures.twin told) d.0 own
    (differ_as types _ _ (child_types types c.args.segment) _ _ _ _ _ _ f.segment f.at (says_of f)
    (c.twin_at.ensures.look.same told) (ap pointers_of c.as_slice-in-At-compare_nodes.ensures.value)
    c.as_slice-in-At-compare_nodes-2.ensures c.as_slice-in-At-compare_nodes-3.ensures r))
    (c.find_below.ensures.found (c.twin_at.ensures.look.goes_on.tells told))

pub find_in_row-returns-in-At-compare_nodes-clause-some : goal.find_in_row-returns-in-At-compare_nodes-clause-some
find_in_row-returns-in-At-compare_nodes-clause-some g t c = λ told gives.
    let types = c.args.segments.now in
    let k = c.in-At.number in
    let a : Node = c.index-as_slice-number.result in
    let b : Node = c.index-as_slice-number-2.result in
    let d = read_there NodesDiffer c.args.row.now c.args.other.now k a b
    (c.compare_row.ensures.tells.place k c.in-At.is)
    (c.index-as_slice-number.is ∙ ap (λ xs. get_or xs k a) c.as_slice.ensures)
    (c.index-as_slice-number-2.is ∙ ap (λ xs. get_or xs k b) c.as_slice-2.ensures) in
    let below = below_twin types _ _ c.args.segment k c.args.first c.in_ok-at.field-0.at
    (segment_of c.in_ok-at.field-0.said) (out-Node a).children (c.twin_at.ensures.look.same told)
    (c.in_ok-at.ensures.twin told) (row_twin gives.are.are k a d.0.first) in
    c.find_below.ensures.some (c.twin_at.ensures.look.goes_on.tells told)
    (give_as types _ _ _ _ _ _ (ap pointers_of c.as_slice-in-At-compare_nodes.ensures.value)
    c.as_slice-in-At-compare_nodes-2.ensures below)

pub find_in_row-returns-in-At-compare_nodes-clause-sound : goal.find_in_row-returns-in-At-compare_nodes-clause-sound
find_in_row-returns-in-At-compare_nodes-clause-sound g t c = λ told gives.
    let types = c.args.segments.now in
    let k = c.in-At.number in
    let a : Node = c.index-as_slice-number.result in
    let b : Node = c.index-as_slice-number-2.result in
    let d = read_there NodesDiffer c.args.row.now c.args.other.now k a b
    (c.compare_row.ensures.tells.place k c.in-At.is)
    (c.index-as_slice-number.is ∙ ap (λ xs. get_or xs k a) c.as_slice.ensures)
    (c.index-as_slice-number-2.is ∙ ap (λ xs. get_or xs k b) c.as_slice-2.ensures) in
    let below = below_twin types _ _ c.args.segment k c.args.first c.in_ok-at.field-0.at
    (segment_of c.in_ok-at.field-0.said) (out-Node a).children (c.twin_at.ensures.look.same told)
    (c.in_ok-at.ensures.twin told) (row_twin gives.are.are k a d.0.first) in
    c.find_below.ensures.sound (c.twin_at.ensures.look.goes_on.tells told)
    (give_as types _ _ _ _ _ _ (ap pointers_of c.as_slice-in-At-compare_nodes.ensures.value)
    c.as_slice-in-At-compare_nodes-2.ensures below)

pub find_in_row-returns-clause-some : goal.find_in_row-returns-clause-some
find_in_row-returns-clause-some g t c = λ told gives.
    let k = c.in-At.number in
    let a : Node = c.index-as_slice-number.result in
    let b : Node = c.index-as_slice-number-2.result in
    let d = read_there NodesDiffer c.args.row.now c.args.other.now k a b
    (c.compare_row.ensures.tells.place k c.in-At.is)
    (c.index-as_slice-number.is ∙ ap (λ xs. get_or xs k a) c.as_slice.ensures)
    (c.index-as_slice-number-2.is ∙ ap (λ xs. get_or xs k b) c.as_slice-2.ensures) in
    absurd (thing_told NodesDiffer nodes_apart a b c.compare_nodes.result (node_told a b _ c.compare_nodes.ensures) d.1
    c.in_default-compare_nodes.not-Itself (λ j e. c.in_default-compare_nodes.not-At j e))
