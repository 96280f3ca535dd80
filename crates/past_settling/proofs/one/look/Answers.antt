use Rattle.past_segments.specs.Times.{database_at}
use Rattle.past_settling.proofs.OneLemmas.{looked_whole}
use Rattle.past_settling.proofs.one.look.Goals as goal

pub returns-clause-segment : goal.returns-clause-segment
returns-clause-segment c = c.look.ensures c.args.def.now c.requires.keys

pub returns-clause-whole : goal.returns-clause-whole
returns-clause-whole c =
    looked_whole c.args.def.now (database_at c.args.place c.args.past.now) (c.requires.each c.args.place) c.look.result
    c.args.key.now (c.look.ensures c.args.def.now c.requires.keys)
