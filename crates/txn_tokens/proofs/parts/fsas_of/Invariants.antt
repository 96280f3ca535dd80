use Rattle.std.proofs.Common.{◌≡◌, length}
use Rattle.txn_tokens.specs.Readings.{all_by}
use Rattle.txn_tokens.specs.Parts.{fsa_at}
use Rattle.txn_tokens.proofs.ReadingLemmas.{with_front}
use Rattle.txn_tokens.proofs.parts.fsas_of.Given as goal

abbrev pub invariant-loop-rest : goal.invariant-loop-rest
invariant-loop-rest l = with_front l.fsas (all_by fsa_at l.rest) ≡ all_by fsa_at l.fn.tokens

abbrev pub decreases-loop-rest : goal.decreases-loop-rest
decreases-loop-rest l = length l.rest
