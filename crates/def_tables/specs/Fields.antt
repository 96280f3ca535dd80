-- The fields of a segment.
use Rattle.std.specs.Prelude.{ℕ, pos, ◌+◌, List, [], ◌∷◌, length, map, sum_by, Bool, true, false, not, ◌&&◌, nat_le, if◌then◌else◌, Result, Ok, Err, codes, ⊤}
use Rattle.toml.specs.Data.{Members}
use Rattle.fp_model.specs.declared.definitions.FieldKind.{FieldKind}
use Rattle.fp_model.specs.declared.definitions.FieldKind.TheVariants.{C, X, H, F, P}
use Rattle.fp_model.specs.declared.definitions.FieldDef.{FieldDef}
use Rattle.def_tables.specs.Readings.{or_fault}
use Rattle.fp_model.specs.Readings.{◌>>=◌}
use Rattle.def_tables.specs.Values.{as_triples}
use Rattle.def_tables.specs.Keys.{needed, within, all_once}
use Rattle.def_tables.specs.declared.fault.DefsFault.{DefsFault}
use Rattle.def_tables.specs.declared.fault.DefsFault.TheVariants.{BadField}
use Rattle.def_tables.specs.declared.fields.Triple.{Triple}
use Rattle.def_tables.specs.declared.fields.Layout.{Layout}

abbrev pub is_characters : FieldKind → Bool
is_characters C = true
is_characters X = false
is_characters H = false
is_characters F = false
is_characters P = false

-- the first field, where there is one, can be a key: characters, at most 64 bytes
abbrev pub begins_with_key : List Triple → Bool
begins_with_key [] = true
begins_with_key (t ∷ ts) = is_characters t.kind && nat_le t.length 64

-- where a key is wanted, the first field can be one
unfoldable pub keyed : Bool → List Triple → Result ⊤ DefsFault
keyed wanted triples = if wanted && not (begins_with_key triples) then Err (BadField (codes "fields")) else Ok tt

-- the fields one after another, without gaps
abbrev pub laid_out : ℕ → List Triple → List FieldDef
laid_out at [] = []
laid_out at (t ∷ ts) = record { name = t.name; kind = t.kind; at = at; length = t.length } ∷ laid_out (at + t.length) ts

-- the bytes of all
abbrev pub total : List Triple → ℕ
total triples = sum_by (λ t. t.length) triples

-- 1 to 64 fields, of at most so many bytes, the first of them a key where one is wanted
unfoldable pub fields_at : Bool → ℕ → Members → Result Layout DefsFault
fields_at key_wanted most members = do
  value ← needed (codes "fields") members
  triples ← or_fault (BadField (codes "fields")) (as_triples value)
  _ ← keyed key_wanted triples
  _ ← within (codes "fields") 1 64 (pos (length triples))
  _ ← within (codes "fields") 0 most (pos (total triples))
  _ ← all_once (map (λ t. t.name.0) triples)
  Ok (record { fields = laid_out 0 triples; length = total triples })
