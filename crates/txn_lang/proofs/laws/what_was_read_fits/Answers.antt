use Rattle.txn_lang.proofs.Fitting.{all_are_cheap, what_was_read_fits, what_was_read_suits}
use Rattle.std.proofs.Common.{[]}
use Rattle.txn_lang.proofs.laws.what_was_read_fits.Goals as goal

pub returns-clause-fit : goal.returns-clause-fit
returns-clause-fit c defs text scripts h no_dedbs = what_was_read_fits defs no_dedbs text scripts h

pub returns-clause-cheap : goal.returns-clause-cheap
returns-clause-cheap c defs text scripts h = all_are_cheap [] scripts h.fair

pub returns-clause-suits : goal.returns-clause-suits
returns-clause-suits c defs text scripts h = what_was_read_suits defs text scripts h
