use Rattle.std.proofs.Common.{sym, map, arith}
use Rattle.std.proofs.lemmas.List.{length-map}
use Rattle.toml.specs.View.{view}
use Rattle.toml.specs.Data.{Data}
use Rattle.toml.specs.declared.value.Value.{Value}
use Rattle.def_tables.proofs.FieldLemmas.{triple_below, triple_above}
use Rattle.def_tables.proofs.fields.triple_in.Goals as goal

pub returns-in_default : goal.returns-in_default
returns-in_default c = sym (triple_below (map view c.args.items.now.items)
    (omega (arith, length-map {A = Value} {B = Data})))

pub returns-in_default-2 : goal.returns-in_default-2
returns-in_default-2 c = sym (triple_above (map view c.args.items.now.items)
    (omega (arith, length-map {A = Value} {B = Data})))
