use Rattle.std.proofs.Common.{◌≡◌, ◌-◌, ◌++◌}
use Rattle.generated_load.specs.Load.{tokens_behind}
use Rattle.generated_load.proofs.load.draw_schedule.Given as goal

-- the others are to come
abbrev pub invariant-loop : goal.invariant-loop
invariant-loop l =
    l.text ++ tokens_behind (l.fn.count - l.counter) l.draws.state ≡ tokens_behind l.fn.count l.initial.draws.state
