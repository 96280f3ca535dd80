use Rattle.std.proofs.Common.{◌≡◌, ◌<◌, List, Some, None, sym, ◌∙◌, ap, subst}
use Rattle.std.specs.Prelude.{IsSome, option_map, if◌then◌else◌}
use Rattle.ci_pool.specs.declared.cell.Cell.{Cell}
use Rattle.ci_pool.specs.Cells.{cell_at, pending_number}
use Rattle.ci_pool.specs.Held.{waiting_of}
use Rattle.ci_pool.proofs.Counts.{number_written}
use Rattle.ci_pool.specs.Changes.{is_staged, IsAscending}
use Rattle.ci_pool.specs.inside.Changes.{without, with_cell, after_write}
use Rattle.ci_pool.specs.inside.Trees.{cell_of}
use Rattle.ci_pool.proofs.Lists.{of_same}
use Rattle.ci_pool.proofs.Lookups.{of_found, gone, at_written, at_written_none}
use Rattle.ci_pool.proofs.tree.Cells.write.Goals as goal
use Rattle.ci_pool.proofs.tree.Cells.write.Goals.{in-None, in-Some}

pub put_back-requires : goal.put_back-requires
put_back-requires c =
    let old = c.args.self.now in
    let a : IsAscending old = subst IsAscending c.replace-cells.ensures.value c.take_out-cells.ensures.ascending in
    let found : cell_at c.args.set c.args.ci old ≡ Some c.in-Some.fork.value.cell =
    sym (ap (option_map cell_of) (sym c.in-Some.is) ∙ c.take_out-cells.ensures.taken
    ∙ ap (cell_at c.args.set c.args.ci) c.replace-cells.ensures.value) in
    let key = of_same c.args.set c.args.ci c.in-Some.fork.value.cell
    (of_found c.args.set c.args.ci old c.in-Some.fork.value.cell found) in
    let left : c.take_out-cells.result.0 ≡ without c.args.set c.args.ci old = c.take_out-cells.ensures.left
    ∙ ap (without c.args.set c.args.ci) c.replace-cells.ensures.value in
    rw (left, key.0, key.1) (gone c.args.set c.args.ci old a)

pub returns-clause-at : goal.returns-clause-at
returns-clause-at c s k =
    let old = c.args.self.now in
    let a : IsAscending old = subst IsAscending c.replace-cells.ensures.value c.take_out-cells.ensures.ascending in
    let left : c.take_out-cells.result.0 ≡ without c.args.set c.args.ci old = c.take_out-cells.ensures.left
    ∙ ap (without c.args.set c.args.ci) c.replace-cells.ensures.value in
    let taken = c.take_out-cells.ensures.taken ∙ ap (cell_at c.args.set c.args.ci) c.replace-cells.ensures.value in
    elim c.match-taken.branch [
      | in-None w ↦
          let none : cell_at c.args.set c.args.ci old ≡ None = sym (ap (option_map cell_of) (sym w.in-None.is) ∙ taken)
          in
          ap (cell_at s k) (w.t-13-is ∙ left) ∙ at_written_none c.args.set c.args.ci s k old a none
      | in-Some w ↦
          let cell = w.in-Some.fork.value.cell in
          let found : cell_at c.args.set c.args.ci old ≡ Some cell =
          sym (ap (option_map cell_of) (sym w.in-Some.is) ∙ taken) in
          ap (cell_at s k)
          (w.t-13-is ∙ w.put_back.ensures
          ∙ ap (λ (l : List Cell). if is_staged cell then with_cell (after_write cell) l else l) left)
          ∙ at_written c.args.set c.args.ci s k old cell a found
    ]

pub returns-clause-fewer : goal.returns-clause-fewer
returns-clause-fewer c waits =
    let old = c.args.self.now in
    let left : c.take_out-cells.result.0 ≡ without c.args.set c.args.ci old = c.take_out-cells.ensures.left
    ∙ ap (without c.args.set c.args.ci) c.replace-cells.ensures.value in
    let taken = c.take_out-cells.ensures.taken ∙ ap (cell_at c.args.set c.args.ci) c.replace-cells.ensures.value in
    elim c.match-taken.branch [
      | in-None w ↦
          let none : cell_at c.args.set c.args.ci old ≡ None = sym (ap (option_map cell_of) (sym w.in-None.is) ∙ taken)
          in
          let never : IsSome (waiting_of None) = subst (λ o. IsSome (waiting_of o)) none waits in
          absurd (cc)
      | in-Some w ↦
          let cell = w.in-Some.fork.value.cell in
          let found : cell_at c.args.set c.args.ci old ≡ Some cell =
          sym (ap (option_map cell_of) (sym w.in-Some.is) ∙ taken) in
          subst (λ l. pending_number l < pending_number old) (sym (w.t-13-is ∙ w.put_back.ensures
          ∙ ap (λ (l : List Cell). if is_staged cell then with_cell (after_write cell) l else l) left))
          (number_written c.args.set c.args.ci old cell found waits)
    ]
