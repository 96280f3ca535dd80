use Rattle.std.proofs.Common.{◌≡◌, refl, sym, ◌∙◌, ap, subst}
use Rattle.std.specs.Prelude.{option_map}
use Rattle.ci_pool.specs.declared.cell.Cell.{Cell}
use Rattle.ci_pool.specs.Cells.{cell_at}
use Rattle.ci_pool.specs.Changes.{IsAscending}
use Rattle.ci_pool.specs.inside.Changes.{without, with_cell, staged_cell}
use Rattle.ci_pool.specs.inside.Trees.{cell_of}
use Rattle.ci_pool.proofs.Lists.{without_none}
use Rattle.ci_pool.proofs.Lookups.{gone, staged_key, at_staged}
use Rattle.ci_pool.proofs.tree.Cells.stage.Goals as goal

pub put_in-requires : goal.put_in-requires
put_in-requires c =
    let old = c.args.self.now in
    let a : IsAscending old = subst IsAscending c.replace-cells.ensures.value c.take_out-cells.ensures.ascending in
    let left : c.take_out-cells.result.0 ≡ without c.args.set c.args.ci old = c.take_out-cells.ensures.left
    ∙ ap (without c.args.set c.args.ci) c.replace-cells.ensures.value in
    let taken = c.take_out-cells.ensures.taken ∙ ap (cell_at c.args.set c.args.ci) c.replace-cells.ensures.value in
    let new : c.in-Ok.fork.value.cell ≡ staged_cell c.args.set c.args.ci c.args.bytes
    (cell_at c.args.set c.args.ci old) = c.in-Ok.ensures.ok
    ∙ ap (staged_cell c.args.set c.args.ci c.args.bytes) taken in
    let key = staged_key c.args.set c.args.ci c.args.bytes old (cell_at c.args.set c.args.ci old) refl in
    let of_set = ap (λ (q : Cell). q.set) new ∙ key.0 in
    let of_ci = ap (λ (q : Cell). q.ci) new ∙ key.1 in
    rw (left, of_set, of_ci) (gone c.args.set c.args.ci old a)

pub returns-in-Ok-clause-ok : goal.returns-in-Ok-clause-ok
returns-in-Ok-clause-ok c s k =
    let old = c.args.self.now in
    let a : IsAscending old = subst IsAscending c.replace-cells.ensures.value c.take_out-cells.ensures.ascending in
    let left : c.take_out-cells.result.0 ≡ without c.args.set c.args.ci old = c.take_out-cells.ensures.left
    ∙ ap (without c.args.set c.args.ci) c.replace-cells.ensures.value in
    let taken = c.take_out-cells.ensures.taken ∙ ap (cell_at c.args.set c.args.ci) c.replace-cells.ensures.value in
    let new : c.in-Ok.fork.value.cell ≡ staged_cell c.args.set c.args.ci c.args.bytes
    (cell_at c.args.set c.args.ci old) = c.in-Ok.ensures.ok
    ∙ ap (staged_cell c.args.set c.args.ci c.args.bytes) taken in
    ap (cell_at s k)
    (c.put_in.ensures ∙ ap (λ q. with_cell q c.take_out-cells.result.0) new
    ∙ ap (with_cell (staged_cell c.args.set c.args.ci c.args.bytes (cell_at c.args.set c.args.ci old))) left)
    ∙ at_staged c.args.set c.args.ci s k c.args.bytes old a

pub returns-in-Err-clause-err : goal.returns-in-Err-clause-err
returns-in-Err-clause-err c =
    let old = c.args.self.now in
    let left : c.take_out-cells.result.0 ≡ without c.args.set c.args.ci old = c.take_out-cells.ensures.left
    ∙ ap (without c.args.set c.args.ci) c.replace-cells.ensures.value in
    let taken = c.take_out-cells.ensures.taken ∙ ap (cell_at c.args.set c.args.ci) c.replace-cells.ensures.value in
    left ∙ without_none c.args.set c.args.ci old (sym (ap (option_map cell_of) (sym c.in-Err.ensures.err) ∙ taken))
