use Rattle.std.proofs.Common.{refl}
use Rattle.std.specs.Fmt.{digits}
use Rattle.fp_model.specs.Spellings.{be16}
use Rattle.fp_model.specs.Fsas.{list_on, first_failure}
use Rattle.fp_model.specs.Settle.{settle_from}
use Rattle.fp_model.specs.Calls.{reply_to, looks_unheld}
use Rattle.fp_model.specs.Commit.{settlement}
use Rattle.fp_rows.proofs.Asks.{asking_costs, asking_asks, asking_replies, asking_replies_later}
use Rattle.fp_rows.proofs.transactions.asking_shows_what_it_noted.Goals as goal

pub returns-clause-noted_one : goal.returns-clause-noted_one
unfolding reply_to looks_unheld settlement settle_from list_on first_failure be16 digits
returns-clause-noted_one c = simp (asking_costs, asking_asks, asking_replies) refl

pub returns-clause-noted_two : goal.returns-clause-noted_two
unfolding reply_to looks_unheld settlement settle_from list_on first_failure be16 digits
returns-clause-noted_two c = simp (asking_costs, asking_asks, asking_replies_later) refl
