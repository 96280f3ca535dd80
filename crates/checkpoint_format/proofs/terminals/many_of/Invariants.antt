use Rattle.std.proofs.Common.{◌≡◌, ◌-◌, map}
use Rattle.log_format.specs.Reading.{many_at}
use Rattle.log_format.proofs.Loop.{with_front}
use Rattle.checkpoint_format.specs.Reading.{last_at}
use Rattle.checkpoint_format.specs.inside.Terminals.{as_last}
use Rattle.checkpoint_format.proofs.terminals.many_of.Given as goal

-- the terminals so far, and those that are still read
abbrev pub invariant-loop : goal.invariant-loop
invariant-loop l = with_front (map as_last l.terminals.items) (many_at last_at (l.count - l.counter) l.rest)
    ≡ many_at last_at l.count l.bytes
