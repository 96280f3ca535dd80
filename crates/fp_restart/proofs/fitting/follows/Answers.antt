use Rattle.fp_restart.proofs.Firsts.{fits-anyway, judges-one}
use Rattle.fp_restart.proofs.fitting.follows.Goals as goal

pub returns-clause-judged : goal.returns-clause-judged
returns-clause-judged c =
    judges-one c.args.defs.now c.args.begun.now c.begins.new.begun c.args.item.now
    (c.is_fit.ensures.fits c.if-not-is_fit.false) c.begins.result c.begins.ensures

pub returns-clause-each : goal.returns-clause-each
returns-clause-each c = fits-anyway c.begins.result (c.is_fit.ensures.fits c.if-not-is_fit.false)
