use Rattle.std.proofs.Common.{arith}
use Rattle.log_format.proofs.Fields.{from_places}
use Rattle.log_format.proofs.puts.slice_of.Goals as goal

-- each place of a slice of bytes has a byte
pub returns-clause-bytes : goal.returns-clause-bytes
returns-clause-bytes c = rw c.as_slice-bytes.ensures at (from_places 256 c.as_slice-bytes.result.now (λ i. grind arith))
