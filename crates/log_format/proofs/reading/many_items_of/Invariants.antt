use Rattle.std.proofs.Common.{◌≡◌, ◌-◌}
use Rattle.log_format.specs.Reading.{many_at}
use Rattle.log_format.specs.EntryReading.{item_at}
use Rattle.log_format.proofs.Loop.{with_front}
use Rattle.log_format.proofs.reading.many_items_of.Given as goal

abbrev pub invariant-loop : goal.invariant-loop
invariant-loop l = with_front l.items (many_at item_at (l.count - l.counter) l.rest) ≡ many_at item_at l.count l.bytes
