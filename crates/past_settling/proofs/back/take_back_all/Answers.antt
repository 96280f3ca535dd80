use Rattle.std.proofs.Common.{subst, ◌+◌, take}
use Rattle.past_settling.specs.inside.Queues.{TakesBack, any_names, names}
use Rattle.past_settling.proofs.BackLemmas.{back_more, nothing_back, one_more}
use Rattle.past_settling.proofs.back.take_back_all.Goals as goal
use Rattle.plain_laws.proofs.Lists.{take_whole}

pub loop-at-init : goal.loop-at-init
loop-at-init c = record { back = nothing_back c.args.place c.args.defs.now.msdbs c.args.pasts.now }

pub loop-at-preserved : goal.loop-at-preserved
loop-at-preserved c = record {
  back =
      back_more c.args.place (any_names c.args.defs.now.msdbs (take c.loop-at.at c.args.calls.now))
      (names c.args.defs.now.msdbs c.index-calls-at.result)
      (any_names c.args.defs.now.msdbs (take (c.loop-at.at + 1) c.args.calls.now)) c.args.pasts.now c.loop-at.pasts
      c.take_back_call.new.pasts c.loop-at.invariant.back c.take_back_call.ensures
      (one_more c.args.defs.now.msdbs c.args.calls.now c.loop-at.at c.index-calls-at.result c.loop-at-test.true
      c.index-calls-at.is);
}

pub returns : goal.returns
returns c =
    subst (λ calls. TakesBack c.args.place (any_names c.args.defs.now.msdbs calls) c.args.pasts.now c.loop-at.pasts)
    (take_whole c.args.calls.now c.loop-at.at c.loop-at-test.false) c.loop-at.invariant.back
