use Rattle.std.proofs.Common.{◌≡◌, length}
use Rattle.txn_tokens.specs.Readings.{all_by}
use Rattle.txn_tokens.specs.Parts.{field_at}
use Rattle.txn_tokens.proofs.ReadingLemmas.{with_front}
use Rattle.txn_tokens.proofs.parts.fields_of.Given as goal

abbrev pub invariant-loop-rest : goal.invariant-loop-rest
invariant-loop-rest l = with_front l.fields (all_by field_at l.rest) ≡ all_by field_at l.fn.tokens

abbrev pub decreases-loop-rest : goal.decreases-loop-rest
decreases-loop-rest l = length l.rest
