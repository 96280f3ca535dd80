use Rattle.std.proofs.Common.{refl, ap, ◌∙◌}
use Rattle.fp_model.specs.State.{segment_of}
use Rattle.past_segments.specs.Times.{database_at}
use Rattle.past_settling.proofs.OneLemmas.{gives}
use Rattle.past_settling.proofs.one.given.Goals as goal

pub returns : goal.returns
returns c =
    gives c.args.def.now c.args.key.now c.args.fsas.now (database_at c.args.place c.args.past.now)
    c.in-Some.segment.now c.changed.result c.requires.good c.requires.key (c.changed.ensures c.args.def.now refl)
    (c.in-Some.ensures.segment ∙ ap (segment_of c.args.def.now (database_at c.args.place c.args.past.now))
    c.as_slice.ensures) c.in-Some.ensures.whole
