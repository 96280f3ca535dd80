use Rattle.call_tests.proofs.systems.scripts_of.Goals as goal
use Rattle.plain_laws.proofs.Results.{if_ok_then}

pub returns-clause-setup : goal.returns-clause-setup
returns-clause-setup g c =
    if_ok_then c.parse.result c.parse.ensures.scripts (λ s are. record {
      good = c.requires.defs;
      spread = c.requires.spread;
      suit = c.what_was_read_fits.ensures.suits c.args.defs.now _ s.scripts are;
      cheap = c.what_was_read_fits.ensures.cheap c.args.defs.now _ s.scripts are;
    })

pub returns-clause-can : goal.returns-clause-can
returns-clause-can g c =
    if_ok_then c.parse.result c.parse.ensures.scripts (λ s are. record {
      good = c.requires.defs;
      suit = c.what_was_read_fits.ensures.suits c.args.defs.now _ s.scripts are;
      cheap = c.what_was_read_fits.ensures.cheap c.args.defs.now _ s.scripts are;
    })
