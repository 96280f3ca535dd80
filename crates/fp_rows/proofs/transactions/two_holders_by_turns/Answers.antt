use Rattle.fp_rows.proofs.HolderTurns.{holders_by_turns}
use Rattle.fp_rows.proofs.transactions.two_holders_by_turns.Goals as goal

pub returns : goal.returns
returns c = holders_by_turns
