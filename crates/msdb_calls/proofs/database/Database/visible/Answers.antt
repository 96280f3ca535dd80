use Rattle.msdb_calls.proofs.LookLemmas.{looked_whole}
use Rattle.msdb_calls.proofs.database.Database.visible.Goals as goal

pub returns-clause-whole : goal.returns-clause-whole
returns-clause-whole g c =
    looked_whole c.args.self.now.def.now _ c.requires.visible c.visible.result c.args.key.now c.visible.ensures
