use Rattle.std.proofs.Common.{◌≡◌, length}
use Rattle.txn_tokens.specs.Readings.{all_by}
use Rattle.txn_tokens.specs.Parts.{operand_at}
use Rattle.txn_tokens.proofs.ReadingLemmas.{with_front}
use Rattle.txn_tokens.proofs.parts.operands_of.Given as goal

abbrev pub invariant-loop-rest : goal.invariant-loop-rest
invariant-loop-rest l = with_front l.operands (all_by operand_at l.rest) ≡ all_by operand_at l.fn.tokens

abbrev pub decreases-loop-rest : goal.decreases-loop-rest
decreases-loop-rest l = length l.rest
