use Rattle.std.proofs.Common.{◌≡◌, ◌-◌}
use Rattle.log_format.specs.Reading.{many_at, part_at}
use Rattle.log_format.proofs.Loop.{with_front}
use Rattle.checkpoint_format.proofs.reading.segments_of.Given as goal

-- the segments so far, and those that are still read
abbrev pub invariant-loop : goal.invariant-loop
invariant-loop l = with_front l.segments (many_at (part_at l.length) (l.count - l.counter) l.rest)
    ≡ many_at (part_at l.length) l.count l.bytes
