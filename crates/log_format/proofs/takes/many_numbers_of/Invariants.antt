use Rattle.std.proofs.Common.{◌≡◌, ◌-◌}
use Rattle.std.specs.Int.{w64}
use Rattle.log_format.specs.Reading.{many_at, number_at}
use Rattle.log_format.proofs.Loop.{with_front}
use Rattle.log_format.proofs.takes.many_numbers_of.Given as goal

abbrev pub invariant-loop : goal.invariant-loop
invariant-loop l = with_front l.numbers (many_at (number_at w64) (l.count - l.counter) l.rest) ≡ many_at (number_at w64)
    l.count l.bytes
