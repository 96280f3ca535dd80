use Rattle.std.proofs.Common.{◌<◌, length, ◌∙◌, rules}
use Rattle.memory_site.proofs.DataSets.{set_bytes-set_same, set_bytes-set_other}
use Rattle.memory_site.proofs.replay.replace.Goals as goal

pub returns-clause-this : goal.returns-clause-this
returns-clause-this c = let there : c.args.set < length c.reach_set.new.sets.items = search rules in
    set_bytes-set_same c.reach_set.new.sets.items c.args.bytes c.args.set there

pub returns-clause-others : goal.returns-clause-others
returns-clause-others c k ne = set_bytes-set_other c.reach_set.new.sets.items c.args.bytes c.args.set k ne ∙
    c.reach_set.ensures.same k
