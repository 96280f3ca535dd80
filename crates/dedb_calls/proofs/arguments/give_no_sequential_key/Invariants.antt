use Rattle.std.proofs.Common.{◌≡◌, ◌&&◌, drop, not}
use Rattle.std.specs.List.{list_all}
use Rattle.fp_model.specs.DedbCalls.{is_qualified}
use Rattle.fp_model.specs.Order.{is_sequential}
use Rattle.dedb_calls.proofs.arguments.give_no_sequential_key.Given as goal

-- what is left decides
abbrev pub invariant-loop-ssa : goal.invariant-loop-ssa
invariant-loop-ssa l =
    list_all (λ a. not (is_qualified a && is_sequential l.segments a.segment)) l.ssas
    ≡ list_all (λ a. not (is_qualified a && is_sequential l.segments a.segment)) (drop l.ssa-index l.ssas)
