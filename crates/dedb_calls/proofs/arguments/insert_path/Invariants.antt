use Rattle.std.proofs.Common.{◌≡◌, map, take}
use Rattle.dli_tree.specs.Paths.{step_of}
use Rattle.dedb_calls.specs.inside.Arguments.{named_step}
use Rattle.dedb_calls.proofs.arguments.insert_path.Given as goal

-- a step for each argument so far
abbrev pub invariant-loop-ssa : goal.invariant-loop-ssa
invariant-loop-ssa l =
    map step_of l.steps.items ≡ map (named_step l.def.segments l.bytes) (take l.ssa-index l.ssas)
