-- What bodies and proofs need of Fields, beside what contracts say.
use Rattle.std.specs.Prelude.{ℕ, pos, ◌≤◌, List, length, map, Bool, Result, Ok, codes}
use Rattle.fp_model.specs.Readings.{◌>>=◌}
use Rattle.def_tables.specs.Fields.{keyed, laid_out, total}
use Rattle.def_tables.specs.Keys.{within, all_once}
use Rattle.def_tables.specs.declared.fault.DefsFault.{DefsFault}
use Rattle.def_tables.specs.declared.fields.Triple.{Triple}
use Rattle.def_tables.specs.declared.fields.Layout.{Layout}

-- ---- no part of what a text means: a condition of a function that lays fields out

-- from 1 to 1,024 bytes, as a field of any kind has
pub record IsShort (t : Triple) : Type 0 where
  pub some : 1 ≤ t.length
  pub few : t.length ≤ 1024

-- ---- a part of what `fields_at` does: what it makes of the fields that it read

unfoldable pub layout_of : Bool → ℕ → List Triple → Result Layout DefsFault
layout_of key_wanted most triples = do
  _ ← keyed key_wanted triples
  _ ← within (codes "fields") 1 64 (pos (length triples))
  _ ← within (codes "fields") 0 most (pos (total triples))
  _ ← all_once (map (λ t. t.name.0) triples)
  Ok (record { fields = laid_out 0 triples; length = total triples })
