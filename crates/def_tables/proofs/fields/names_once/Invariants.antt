use Rattle.std.proofs.Common.{◌≡◌, take, map}
use Rattle.def_tables.proofs.fields.names_once.Given as goal

abbrev pub invariant-loop-triple : goal.invariant-loop-triple
invariant-loop-triple l = map (λ t. t.now) l.names.items ≡ map (λ t. t.name.0) (take l.triple-index l.triples)
