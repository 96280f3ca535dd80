use Rattle.std.proofs.Common.{◌≡◌, drop, position}
use Rattle.fp_model.specs.Order.{sequential_type}
use Rattle.dli_tree.proofs.Positions.{on_from}
use Rattle.call_tests.proofs.customers.sequential_type.Given as goal

-- no type so far is sequential
abbrev pub invariant-loop-at : goal.invariant-loop-at
invariant-loop-at l = sequential_type l.types ≡ on_from l.at
    (position (λ def. def.sequential) (drop l.at l.types))
