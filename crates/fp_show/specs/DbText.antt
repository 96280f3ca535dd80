-- The text of all databases, line by line: the main storage databases, and behind them the data entry databases.
use Rattle.std.specs.Prelude.{ℕ, ◌+◌, ◌*◌, List, [], ◌∷◌, ◌++◌, length, replicate, flat_map, codes, slice_get}
use Rattle.std.specs.List.{join_with_byte}
use Rattle.std.specs.Option.{option_map_or}
use Rattle.std.specs.Fmt.{decimal}
use Rattle.fp_model.specs.declared.definitions.MsdbDef.{MsdbDef}
use Rattle.fp_model.specs.declared.definitions.SegDef.{SegDef}
use Rattle.fp_model.specs.declared.definitions.AreaDef.{AreaDef}
use Rattle.fp_model.specs.declared.definitions.DedbDef.{DedbDef}
use Rattle.fp_model.specs.declared.definitions.Defs.{Defs}
use Rattle.fp_model.specs.declared.database.Root.{Root}
use Rattle.fp_model.specs.declared.database.AreaEnds.{AreaEnds}
use Rattle.fp_model.specs.declared.database.Dedb.{Dedb}
use Rattle.fp_model.specs.declared.database.Msdb.{Msdb}
use Rattle.fp_model.specs.declared.database.Db.{Db}
use Rattle.fp_model.specs.Order.{Step, Occurrence, sequence}
use Rattle.fp_show.specs.FieldText.{line, name_text, field_texts}

-- a text for each definition and its state, one behind the other; none for what lacks its partner
abbrev pub each_text : {D S : Type 0} → (D → S → List ℕ) → List D → List S → List ℕ
each_text text [] states = []
each_text text (def ∷ defs) [] = []
each_text text (def ∷ defs) (state ∷ states) = text def state ++ each_text text defs states

-- ---- main storage databases

-- its name, and how many segments it has
abbrev pub msdb_head : MsdbDef → ℕ → List ℕ
msdb_head def segments = line (codes "msdb " ++ name_text def.name ++ codes " " ++ decimal segments)

-- a segment: two blanks, and its fields with blanks between them
abbrev pub msdb_line : MsdbDef → List ℕ → List ℕ
msdb_line def segment = line (codes "  " ++ join_with_byte 32 (field_texts def.fields segment))

abbrev pub msdb_text : MsdbDef → Msdb → List ℕ
msdb_text def msdb = msdb_head def (length msdb.segments) ++ flat_map (msdb_line def) msdb.segments

-- ---- data entry databases

-- an area: its name, and the ends of its sequential part
abbrev pub area_line : AreaDef → AreaEnds → List ℕ
area_line def ends =
    line
    (codes "area " ++ name_text def.name ++ codes " begin " ++ decimal ends.begin ++ codes " end " ++ decimal ends.end)

-- the name of a database, and its areas
abbrev pub dedb_head : DedbDef → List AreaEnds → List ℕ
dedb_head def areas = line (codes "dedb " ++ name_text def.name) ++ each_text area_line def.areas areas

-- a segment of a level: two blanks for each level, the name of its type, and its fields with blanks between them
abbrev pub segment_line : SegDef → ℕ → List ℕ → List ℕ
segment_line def level bytes =
    line (replicate (2 * level) 32 ++ join_with_byte 32 (name_text def.name ∷ field_texts def.fields bytes))

-- the type of the last step of a path; of no step, the given one
abbrev pub last_type : ℕ → List Step → ℕ
last_type type [] = type
last_type type (step ∷ steps) = last_type step.segment steps

-- a segment of a type that is defined; a root has level 1
abbrev pub typed_line : List SegDef → ℕ → ℕ → List ℕ → List ℕ
typed_line types type level bytes = option_map_or (λ def. segment_line def level bytes) (slice_get types type) []

-- a segment occurrence: its path has a step for each level down to it
abbrev pub occurrence_line : List SegDef → Occurrence → List ℕ
occurrence_line types o = typed_line types (last_type 0 o.path) (length o.path) o.bytes

-- an anchor: its number, and its segments in hierarchical order; nothing where it has no root
abbrev pub anchor_text : List SegDef → ℕ → List Root → List ℕ
anchor_text types anchor [] = []
anchor_text types anchor (root ∷ roots) =
    line (codes "anchor " ++ decimal anchor) ++ flat_map (occurrence_line types) (sequence types (root ∷ roots))

-- anchors, numbered from a given one on
abbrev pub anchors_text : List SegDef → ℕ → List (List Root) → List ℕ
anchors_text types anchor [] = []
anchors_text types anchor (roots ∷ anchors) = anchor_text types anchor roots ++ anchors_text types (anchor + 1) anchors

-- all areas come before the anchors, which are numbered within the database
abbrev pub dedb_text : DedbDef → Dedb → List ℕ
dedb_text def dedb = dedb_head def dedb.areas ++ anchors_text def.segments 0 dedb.anchors

-- ---- the whole

abbrev pub db_text : Defs → Db → List ℕ
db_text defs db = each_text msdb_text defs.msdbs db.msdbs ++ each_text dedb_text defs.dedbs db.dedbs
