use Rattle.std.proofs.Common.{◌≡◌, ◌++◌, map}
use Rattle.checkpoint_format.specs.inside.Terminals.{as_last}
use Rattle.checkpoint_format.proofs.terminals.by_name.Given as goal

-- those that are put, and those that are left, are all
abbrev pub invariant-loop-terminal : goal.invariant-loop-terminal
invariant-loop-terminal l = l.lasts.terminals ++ map as_last l.terminal-iterator.rest.items
    ≡ map as_last l.fn.terminals.items
