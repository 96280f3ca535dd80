use Rattle.fp_rows.proofs.WithdrawalTurns.{withdrawals_by_turns}
use Rattle.fp_rows.proofs.transactions.two_withdrawals_by_turns.Goals as goal

pub returns : goal.returns
returns c = withdrawals_by_turns
