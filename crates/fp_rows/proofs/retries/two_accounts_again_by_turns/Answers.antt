use Rattle.fp_rows.proofs.AccountTurns.{accounts_again_by_turns}
use Rattle.fp_rows.proofs.retries.two_accounts_again_by_turns.Goals as goal

pub returns : goal.returns
returns c = accounts_again_by_turns
