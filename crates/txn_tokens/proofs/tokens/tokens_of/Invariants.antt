use Rattle.std.proofs.Common.{◌≡◌, length}
use Rattle.txn_tokens.specs.Readings.{all_by}
use Rattle.txn_tokens.specs.Tokens.{spaced_token_at, tokens_of}
use Rattle.txn_tokens.proofs.ReadingLemmas.{with_front}
use Rattle.txn_tokens.proofs.tokens.tokens_of.Given as goal

abbrev pub invariant-loop-rest : goal.invariant-loop-rest
invariant-loop-rest l = with_front l.tokens.items (all_by spaced_token_at l.rest) ≡ tokens_of l.line

abbrev pub decreases-loop-rest : goal.decreases-loop-rest
decreases-loop-rest l = length l.rest
