use Rattle.std.proofs.Common.{◌≡◌, drop, not}
use Rattle.std.specs.List.{list_all}
use Rattle.fp_model.specs.DedbCalls.{is_qualified}
use Rattle.dedb_calls.proofs.arguments.give_no_key.Given as goal

-- what is left decides
abbrev pub invariant-loop-ssa : goal.invariant-loop-ssa
invariant-loop-ssa l =
    list_all (λ a. not (is_qualified a)) l.ssas ≡ list_all (λ a. not (is_qualified a)) (drop l.ssa-index l.ssas)
