use Rattle.toml.proofs.Views.{table_get}
use Rattle.def_tables.proofs.keys.member.Goals as goal

pub returns : goal.returns
returns c = record { exact = table_get c.get.result c.args.key.now c.args.table.now.entries c.get.ensures.value }
