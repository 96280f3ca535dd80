use Rattle.std.proofs.Common.{refl, []}
use Rattle.past_anchors.proofs.Standing.{roots_fit}
use Rattle.past_segments.specs.Pasts.{databases_at}
use Rattle.past_replay.specs.inside.Running.{now_of}
use Rattle.past_replay.proofs.HoldingLemmas.{defers_one}
use Rattle.past_replay.proofs.running.Rerun.reply.Goals as goal

pub answer_on-requires-clause-shapes : goal.answer_on-requires-clause-shapes
answer_on-requires-clause-shapes g c =
    let it = c.args.self.now in
    λ dedb anchor def at. roots_fit it.defs.now [] it.anchors.now dedb anchor c.requires.can.shape def at

pub answer_on-requires-clause-somewhere : goal.answer_on-requires-clause-somewhere
answer_on-requires-clause-somewhere g c = (now_of c.args.self.now, (λ dedb anchor. refl), c.requires.sees)

pub returns-clause-answer : goal.returns-clause-answer
returns-clause-answer g c visible other =
    c.answer_on.ensures.answer (now_of c.args.self.now) visible refl other (λ dedb anchor. refl) c.requires.sees

pub returns-clause-sees : goal.returns-clause-sees
returns-clause-sees g c =
    c.answer_on.ensures.sees (now_of c.args.self.now) (λ dedb anchor. refl) c.requires.sees

pub returns-clause-few : goal.returns-clause-few
returns-clause-few g c =
    let it = c.args.self.now in
    let now = now_of it in
    defers_one c.answer_on.result it.defs.now now (record now { msdbs = databases_at c.args.note it.pasts.now })
    c.args.work.now c.answer_on.new.work c.args.call.now c.requires.call c.answer_on.ensures.leaves
    (c.answer_on.ensures.answer now (record now { msdbs = databases_at c.args.note it.pasts.now }) refl refl
    (λ dedb anchor. refl) c.requires.sees)
