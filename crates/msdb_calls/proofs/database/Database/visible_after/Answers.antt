use Rattle.std.specs.Option.{option_copied}
use Rattle.msdb_calls.proofs.LookLemmas.{shown_after_whole}
use Rattle.msdb_calls.proofs.database.Database.visible_after.Goals as goal

pub returns-clause-whole : goal.returns-clause-whole
returns-clause-whole g c =
    shown_after_whole c.args.self.now.def.now _ c.requires.visible c.visible_after.result (option_copied c.args.key)
    c.visible_after.ensures
