use Rattle.fp_model.specs.State.{without_segment}
use Rattle.past_settling.proofs.OneLemmas.{past_good, without_good}
use Rattle.past_settling.proofs.one.take_away.Goals as goal

pub returns-clause-leaves : goal.returns-clause-leaves
returns-clause-leaves c = record {
  is = past_good c.args.def.now c.args.place (without_segment c.args.def.now c.args.key.now) c.take_away.result
      c.args.past.now c.take_away.new.self c.requires.is c.take_away.ensures.count
      (λ msdb good. without_good c.args.def.now c.args.key.now msdb good)
      (λ p le. c.take_away.ensures.from c.args.def.now p c.requires.is.keys le) c.take_away.ensures.before
      c.take_away.ensures.err;
  settled = c.take_away.ensures.settled;
  before = c.take_away.ensures.before;
  late = c.take_away.ensures.late;
}
