use Rattle.std.proofs.Common.{◌∙◌, ap, sym, ℕ, ◌+◌}
use Rattle.sync_point.proofs.Refusals.{bare_length}
use Rattle.sync_point.proofs.appending.refusal_room.Goals as goal

pub returns-clause-enough : goal.returns-clause-enough
returns-clause-enough c from outcome bare = bare_length from outcome c.args.line.now bare
    ∙ ap (λ (n : ℕ). 29 + n) (sym c.len.ensures)
