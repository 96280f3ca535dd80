use Rattle.std.proofs.Common.{arith}
use Rattle.log_format.proofs.Fields.{from_places}
use Rattle.log_format.proofs.puts.items_of.Goals as goal

-- each place of a slice of numbers has one of their type
pub returns-clause-each : goal.returns-clause-each
returns-clause-each c = rw c.as_slice-items.ensures at
    (from_places 18446744073709551616 c.as_slice-items.result.now (λ i. grind arith))
