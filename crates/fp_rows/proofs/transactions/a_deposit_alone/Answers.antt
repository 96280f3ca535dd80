use Rattle.std.proofs.Common.{refl}
use Rattle.std.specs.Fmt.{digits}
use Rattle.fp_model.specs.Spellings.{be16}
use Rattle.fp_model.specs.Fsas.{list_on, first_failure}
use Rattle.fp_model.specs.Settle.{settle_from}
use Rattle.fp_model.specs.Calls.{reply_to, looks_unheld}
use Rattle.fp_model.specs.Commit.{settlement}
use Rattle.fp_rows.proofs.Asks.{deposit_asks, deposit_replies, deposit_costs}
use Rattle.fp_rows.proofs.transactions.a_deposit_alone.Goals as goal

pub returns : goal.returns
unfolding reply_to looks_unheld settlement settle_from list_on first_failure be16 digits
returns c = simp (deposit_costs, deposit_asks, deposit_replies) refl
