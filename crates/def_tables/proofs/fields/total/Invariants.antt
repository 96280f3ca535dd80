use Rattle.std.proofs.Common.{◌≡◌, ◌≤◌, ◌*◌, take}
use Rattle.def_tables.specs.Fields.{total}
use Rattle.def_tables.proofs.fields.total.Given as goal

abbrev pub invariant-loop-triple : goal.invariant-loop-triple
invariant-loop-triple l = (l.sum ≡ total (take l.triple-index l.triples)) × (l.sum ≤ 65535 * l.triple-index)
