use Rattle.fp_rows.proofs.HolderRetries.{holders_again_by_turns}
use Rattle.fp_rows.proofs.retries.two_holders_again_by_turns.Goals as goal

pub returns : goal.returns
returns c = holders_again_by_turns
