use Rattle.std.proofs.Common.{◌≡◌, ◌-◌, ◌++◌, codes}
use Rattle.generated_load.specs.Load.{line, messages_behind, state_behind}
use Rattle.generated_load.proofs.load.draw_messages.Given as goal

-- the others are to come
abbrev pub invariant-loop : goal.invariant-loop
invariant-loop l = record {
  text : l.text ++ messages_behind (l.fn.count - l.counter) l.draws.state ≡ line (codes "T1 NEWCUST C001 ANN")
      ++ messages_behind l.fn.count l.initial.draws.state;
  state : state_behind (l.fn.count - l.counter) l.draws.state ≡ state_behind l.fn.count l.initial.draws.state;
}
