use Rattle.std.proofs.Common.{◌≡◌, ◌∙◌, ◌<◌, ◌&&◌, ℕ, List, [], ◌∷◌, not, true, Some, None, ap, refl, sym, subst, map, drop, length, get_or, ◌+◌, arith}
use Rattle.std.specs.Prelude.{find, flat_map, option_map}
use Rattle.std.proofs.lemmas.List.{drop_all}
use Rattle.fp_model.specs.declared.database.Node.{Node}
use Rattle.fp_model.specs.Order.{Occurrence, child_types, direct, is_child_of, key_in, node_key, node_order, one_down}
use Rattle.dli_tree.specs.inside.Aims.{aim_of, looks_for}
use Rattle.dli_tree.specs.Paths.{occurrence_of}
use Rattle.dli_tree.proofs.Lines.{child_above}
use Rattle.dli_tree.proofs.Rows.{IsLeftOf, all_below, is_left, row_answer, first_shape, found_from, found_here, found_next, kinds_end, kinds_from, kinds_next, kinds_other, no_kinds, no_rows, node_none, node_some, none_from, none_left, none_reached, opened_list, row_ascends, row_found, row_next, rows_left, rows_shape, skipped, twin_shape}
use Rattle.dli_tree.proofs.search.+searches.Goals as goal
use Rattle.plain_laws.proofs.Places.{stands_at}
use Rattle.plain_laws.proofs.Results.{if_ok_by}

pub in_node-returns-in-None : goal.in_node-returns-in-None
in_node-returns-in-None t c shape =
    node_none c.args.segments.now (aim_of c.args.aim) c.args.segment c.args.node.now c.key_in-key.result.now
    c.enter.result (c.key_in-key.ensures ∙ ap (key_in c.args.segments.now c.args.segment) c.as_slice.ensures)
    c.enter.ensures c.in-None.is

pub in_node-returns-in_ok-found-in-Some : goal.in_node-returns-in_ok-found-in-Some
in_node-returns-in_ok-found-in-Some t c shape =
    let key = c.key_in-key.result.now in
    let same = c.key_in-key.ensures ∙ ap (key_in c.args.segments.now c.args.segment) c.as_slice.ensures in
    let whole = node_some c.args.segments.now (aim_of c.args.aim) c.args.segment c.args.node.now key c.enter.result
    c.in-Some.below same c.enter.ensures c.in-Some.is in
    let found = c.in_ok-found-in-Some.ensures (rows_shape c.args.segments.now c.args.segment c.args.node.now shape) in
    if_ok_by _ _ c.all_under.result (λ r is. is ∙ ap (option_map (one_down (direct c.args.segment key))) found ∙ whole)
    c.all_under.ensures

pub in_row-returns-then-not-leads_on : goal.in_row-returns-then-not-leads_on
in_row-returns-then-not-leads_on t c shape =
    sym (none_reached c.args.segments.now c.requires.types.places (aim_of c.args.aim) c.args.segment c.args.twins.now
    (sym c.leads_on.ensures ∙ c.if-not-leads_on.true))

pub in_row-loop-at-init : goal.in_row-loop-at-init
in_row-loop-at-init t c shape =
    let types = c.args.segments.now in
    let reach = c.twins_in_reach-stretch.ensures in
    let leaves = reach.leaves (row_ascends types c.args.segment c.args.twins.now shape) in
    skipped (looks_for (aim_of c.args.aim)) (λ node. node_order types node c.args.segment)
    c.twins_in_reach-stretch.result.from c.args.twins.now (omega (arith, reach.within, reach.order))
    (λ i d lt. none_left types (aim_of c.args.aim) c.args.segment (get_or c.args.twins.now i d)
    (leaves.0 i d (omega arith) lt))

pub in_row-returns-in-Some : goal.in_row-returns-in-Some
in_row-returns-in-Some t c shape =
    let types = c.args.segments.now in
    let lt : c.loop-at.at < length c.args.twins.now = omega (arith, c.twins_in_reach-stretch.ensures.within) in
    let node = c.index-twins-at.result in
    sym (c.loop-at.invariant shape ∙ found_here (looks_for (aim_of c.args.aim)) (λ n. node_order types n c.args.segment)
    c.loop-at.at c.args.twins.now node (occurrence_of c.in-Some.found) lt c.index-twins-at.is
    (sym (c.in_ok-found.ensures (twin_shape types c.args.segment c.args.twins.now c.loop-at.at node shape lt
    c.index-twins-at.is)) ∙ ap (option_map occurrence_of) c.in-Some.is))

pub in_row-loop-at-preserved : goal.in_row-loop-at-preserved
in_row-loop-at-preserved t c shape =
    let types = c.args.segments.now in
    let lt : c.loop-at.at < length c.args.twins.now = omega (arith, c.twins_in_reach-stretch.ensures.within) in
    let node = c.index-twins-at.result in
    c.loop-at.invariant shape ∙ found_next (looks_for (aim_of c.args.aim)) (λ n. node_order types n c.args.segment)
    c.loop-at.at c.args.twins.now node lt c.index-twins-at.is
    (sym (c.in_ok-found.ensures (twin_shape types c.args.segment c.args.twins.now c.loop-at.at node shape lt
    c.index-twins-at.is)) ∙ ap (option_map occurrence_of) c.in_default.is)

pub in_row-returns : goal.in_row-returns
in_row-returns t c shape =
    let types = c.args.segments.now in
    let leaves = c.twins_in_reach-stretch.ensures.leaves (row_ascends types c.args.segment c.args.twins.now shape) in
    sym (c.loop-at.invariant shape ∙ none_from (looks_for (aim_of c.args.aim)) (λ n. node_order types n c.args.segment)
    c.loop-at.at c.args.twins.now
    (λ i d low within. none_left types (aim_of c.args.aim) c.args.segment (get_or c.args.twins.now i d)
    (leaves.1 i d (omega (arith, low)) within)))

pub in_rows-in_row-requires : goal.in_rows-in_row-requires
in_rows-in_row-requires t c =
    let types = c.args.segments.now in
    let lt : c.loop-child.child < length types = omega arith in
    let above = child_above types c.requires.types.places c.args.parent c.loop-child.child c.index-segments-child.result
    (stands_at types c.loop-child.child c.index-segments-child.result lt c.index-segments-child.is)
    (sym c.is_direct_child.ensures ∙ c.if-not-is_direct_child.false) in
    (omega (arith, c.decreases, above, lt, c.requires.types.few), (c.requires.types, lt))

pub in_rows-returns-then-at-rows : goal.in_rows-returns-then-at-rows
in_rows-returns-then-at-rows t c shape =
    let types = c.args.segments.now in
    let all = rows_left types (aim_of c.args.aim) (child_types types c.args.parent) c.args.rows.now in
    let kinds = kinds_from types (λ def. is_child_of c.args.parent def && not def.sequential) c.loop-child.child in
    let none : drop c.loop-child.at c.args.rows.now ≡ [] = drop_all c.loop-child.at c.args.rows.now (omega arith) in
    sym (no_rows types (aim_of c.args.aim) all kinds
    (subst (λ (rows : List (List Node)). IsLeftOf types (aim_of c.args.aim) all kinds rows) none
    (c.loop-child.invariant shape)))

pub in_rows-returns-in-Some : goal.in_rows-returns-in-Some
in_rows-returns-in-Some t c shape =
    let types = c.args.segments.now in
    let aim = aim_of c.args.aim in
    let all = rows_left types aim (child_types types c.args.parent) c.args.rows.now in
    let child = c.loop-child.child in
    let at = c.loop-child.at in
    let row = c.index-rows-at.result in
    let kinds = kinds_from types (λ def. is_child_of c.args.parent def && not def.sequential) (child + 1) in
    let rows = drop (at + 1) c.args.rows.now in
    let next = kinds_next types (λ def. is_child_of c.args.parent def && not def.sequential) child
    c.index-segments-child.result (omega arith) c.index-segments-child.is
    (sym c.is_direct_child.ensures ∙ c.if-not-is_direct_child.false) in
    let left : IsLeftOf types aim all (child ∷ kinds) (row ∷ rows) =
    is_left types aim all _ _ _ _ next (opened_list at c.args.rows.now row (omega arith) c.index-rows-at.is)
    (c.loop-child.invariant shape) in
    let found = row_answer types aim child row c.as_slice.result.now c.in_ok-found.field-0 c.as_slice.ensures
    c.in_ok-found.ensures (first_shape types aim all child kinds row rows left) in
    sym (row_found types aim all child kinds row rows left (occurrence_of c.in-Some.found)
    (sym found ∙ ap (option_map occurrence_of) c.in-Some.is))

pub in_rows-loop-child-preserved : goal.in_rows-loop-child-preserved
in_rows-loop-child-preserved t c shape =
    let types = c.args.segments.now in
    let aim = aim_of c.args.aim in
    let all = rows_left types aim (child_types types c.args.parent) c.args.rows.now in
    let child = c.loop-child.child in
    let at = c.loop-child.at in
    let row = c.index-rows-at.result in
    let kinds = kinds_from types (λ def. is_child_of c.args.parent def && not def.sequential) (child + 1) in
    let rows = drop (at + 1) c.args.rows.now in
    let next = kinds_next types (λ def. is_child_of c.args.parent def && not def.sequential) child
    c.index-segments-child.result (omega arith) c.index-segments-child.is
    (sym c.is_direct_child.ensures ∙ c.if-not-is_direct_child.false) in
    let left : IsLeftOf types aim all (child ∷ kinds) (row ∷ rows) =
    is_left types aim all _ _ _ _ next (opened_list at c.args.rows.now row (omega arith) c.index-rows-at.is)
    (c.loop-child.invariant shape) in
    let found = row_answer types aim child row c.as_slice.result.now c.in_ok-found.field-0 c.as_slice.ensures
    c.in_ok-found.ensures (first_shape types aim all child kinds row rows left) in
    row_next types aim all child kinds row rows left (sym found ∙ ap (option_map occurrence_of) c.in_default.is)

pub in_rows-loop-child-preserved-then-not-is_direct_child : goal.in_rows-loop-child-preserved-then-not-is_direct_child
in_rows-loop-child-preserved-then-not-is_direct_child t c shape =
    let types = c.args.segments.now in
    is_left types (aim_of c.args.aim) (rows_left types (aim_of c.args.aim) (child_types types c.args.parent)
    c.args.rows.now) _ _ _ _
    (kinds_other types (λ def. is_child_of c.args.parent def && not def.sequential) c.loop-child.child
    c.index-segments-child.result (omega arith) c.index-segments-child.is
    (sym c.is_direct_child.ensures ∙ c.if-not-is_direct_child.true))
    refl (c.loop-child.invariant shape)

pub in_rows-returns : goal.in_rows-returns
in_rows-returns t c shape =
    let types = c.args.segments.now in
    let all = rows_left types (aim_of c.args.aim) (child_types types c.args.parent) c.args.rows.now in
    sym (no_kinds types (aim_of c.args.aim) all (drop c.loop-child.at c.args.rows.now)
    (is_left types (aim_of c.args.aim) all _ _ _ _ (kinds_end types
    (λ def. is_child_of c.args.parent def && not def.sequential) c.loop-child.child (omega arith)) refl
    (c.loop-child.invariant shape)))
