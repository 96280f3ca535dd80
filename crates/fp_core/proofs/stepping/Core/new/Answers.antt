use Rattle.fp_core.proofs.stepping.Core.new.Goals as goal

pub returns-clause-stands : goal.returns-clause-stands
returns-clause-stands g c lines h msdbs place past format lasts =
    c.in_ok-new-2.ensures.stands lines h msdbs place past format lasts
