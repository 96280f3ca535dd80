use Rattle.std.proofs.Common.{◌≡◌, ◌<◌, ◌≤◌, ◌+◌, ℕ, List, ◌++◌, ◌∙◌, length, get_or, ap, arith, rules}
use Rattle.std.proofs.lemmas.List.{take_all}
use Rattle.fp_model.specs.declared.database.Node.{Node}
use Rattle.fp_show.specs.inside.Walk.{kinds_from, row_text}
use Rattle.fp_show.proofs.Walking.{rows_done, rows_next}
use Rattle.fp_show.proofs.walk.+walk.Goals as goal
use Rattle.plain_laws.proofs.Lists.{all_written, joined_on}

-- a row is written
pub put_rows-loop-row-preserved : goal.put_rows-loop-row-preserved
put_rows-loop-row-preserved t c =
    let types = c.args.types.now in
    let number = c.args.number in
    let level = c.args.level in
    let rows = c.args.rows.now in
    let i = c.loop-row.row-index in
    let row = c.row-item.result in
    let child = c.in-Some-next_child.child in
    let below = c.in-Some.below in
    let slice = c.as_slice-row-items.ensures in
    let lt : i < length rows = omega (arith, ap length slice) in
    let is : row ≡ get_or rows i row = c.row-item.is ∙ ap (λ (xs : List (List Node)). get_or xs i row) slice in
    let deeper : below ≡ level + 1 = search rules in
    let end : length c.as_slice-node-items.result.now ≤ c.loop-node.node-index = omega arith in
    let all = take_all c.loop-node.node-index c.as_slice-node-items.result.now end ∙ c.as_slice-node-items.ensures in
    let kinds : ℕ → List ℕ = λ from. kinds_from types number from in
    let next = c.in-Some-next_child.ensures.some.1 in
    joined_on _ _ _ _ _ _
    (rows_next types number level child below i (kinds c.loop-row.from) (kinds (child + 1)) rows row lt is next deeper)
    c.loop-row.invariant
    (c.loop-node.invariant ∙ ap (λ (xs : List Node). c.loop-row.into ++ row_text types child below xs) all)

-- no row is left
pub put_rows-returns : goal.put_rows-returns
put_rows-returns t c =
    let types = c.args.types.now in
    let kinds = kinds_from types c.args.number c.loop-row.from in
    let past : length c.args.rows.now ≤ c.loop-row.row-index = omega (arith, ap length c.as_slice-row-items.ensures) in
    all_written _ _ _
    (rows_done types c.args.number c.args.level c.loop-row.row-index kinds c.args.rows.now past)
    c.loop-row.invariant
