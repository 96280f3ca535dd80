use Rattle.std.proofs.Common.{◌≡◌, ◌≤◌, ◌*◌, ◌++◌, drop}
use Rattle.std.specs.List.{AllByRecursion}
use Rattle.def_tables.specs.Fields.{laid_out}
use Rattle.def_tables.specs.inside.Fields.{IsShort}
use Rattle.def_tables.proofs.fields.laid_out.Given as goal

abbrev pub invariant-loop-triple : goal.invariant-loop-triple
invariant-loop-triple l = (l.fields ++ laid_out l.at (drop l.triple-index l.triples) ≡ laid_out 0 l.triples)
    × (l.at ≤ 1024 * l.triple-index) × AllByRecursion IsShort (drop l.triple-index l.triples)
