use Rattle.std.proofs.Common.{◌≡◌, ◌+◌, ◌-◌, length}
use Rattle.fp_model.specs.Order.{line_within, line_to}
use Rattle.fp_defs.proofs.dedbs.line_length.Given as goal

abbrev pub invariant-loop : goal.invariant-loop
invariant-loop l =
    (l.n + length (line_within (length l.types - l.counter) l.types l.at) ≡ length (line_to l.types l.fn.place) + 1)
    × (l.n ≡ l.counter + 1)
