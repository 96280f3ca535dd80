use Rattle.std.proofs.Common.{◌≡◌, ◌==◌, ◌-◌, length}
use Rattle.std.specs.List.{list_any}
use Rattle.fp_model.specs.Order.{line_to, line_within}
use Rattle.dli_tree.proofs.types.is_on_line.Given as goal

-- it stands on the line exactly where it stands on what is left of it
abbrev pub invariant-loop : goal.invariant-loop
invariant-loop l =
    list_any (λ t. t == l.segment) (line_to l.segments l.last)
    ≡ list_any (λ t. t == l.segment) (line_within (length l.segments - l.counter) l.segments l.at)
