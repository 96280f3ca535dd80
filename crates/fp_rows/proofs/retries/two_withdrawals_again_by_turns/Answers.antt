use Rattle.fp_rows.proofs.WithdrawalRetries.{withdrawals_again_by_turns}
use Rattle.fp_rows.proofs.retries.two_withdrawals_again_by_turns.Goals as goal

pub returns : goal.returns
returns c = withdrawals_again_by_turns
