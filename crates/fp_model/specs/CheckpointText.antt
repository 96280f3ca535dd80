-- The bytes of a checkpoint: the main storage databases as they were at one place of the log.
use Rattle.std.specs.Prelude.{map, ◌≡◌, ℕ, ◌<◌, ◌≤◌, ◌^◌, List, [], ◌∷◌, ◌++◌, length, ◌==◌, if◌then◌else◌, IsTrue, codes, slice_index}
use Rattle.std.specs.List.{flat_map, zip, AllZip, AllByRecursion}
use Rattle.fp_model.specs.State.{ascend, key_of}
use Rattle.fp_model.specs.Spellings.{be16, be32, be64, long_text}
use Rattle.fp_model.specs.Names.{IsName}
use Rattle.fp_model.specs.LogText.{IsFormat, of_format}
use Rattle.fp_model.specs.Lasts.{Last}
use Rattle.fp_model.specs.declared.database.Msdb.{Msdb}
use Rattle.fp_model.specs.declared.definitions.MsdbDef.{MsdbDef}

-- one database: the length of a segment, the number of segments, and the segments
abbrev pub msdb_text : MsdbDef → Msdb → List ℕ
msdb_text def msdb = be16 def.length ++ be32 (length msdb.segments) ++ flat_map (λ segment. segment) msdb.segments

-- What a checkpoint keeps: its number, the place of a gate in the log, the number of entries before that gate, the
-- databases as they are there, and the last number of each terminal.
pub record Checkpoint : Type 0 where
  pub number : ℕ
  pub at : ℕ
  pub count : ℕ
  pub msdbs : List Msdb
  pub lasts : List Last

-- the last number of a terminal: its name, the number, and the reply line
abbrev pub last_text : Last → List ℕ
last_text last = last.lterm.0 ++ be64 last.number ++ long_text last.line

-- the terminals behind their number; format 1 has no numbers
abbrev pub lasts_text : ℕ → List Last → List ℕ
lasts_text format lasts = if format == 2 then be64 (length lasts) ++ flat_map last_text lasts else []

-- a checkpoint without its gate: its letters and its parts, the databases behind their number
abbrev pub checkpoint_rest : ℕ → List MsdbDef → Checkpoint → List ℕ
checkpoint_rest format defs c =
    of_format (codes "IMSFPCK") format ++ be64 c.number ++ be64 c.at ++ be64 c.count
    ++ length c.msdbs ∷ flat_map (λ each. msdb_text each.0 each.1) (zip defs c.msdbs) ++ lasts_text format c.lasts

-- an open checkpoint
abbrev pub checkpoint_text : ℕ → List MsdbDef → Checkpoint → List ℕ
checkpoint_text format defs c = 1 ∷ checkpoint_rest format defs c

-- a data set is open where it has a byte 0 and that is 1
abbrev pub IsOpen : List ℕ → Type 0
IsOpen bytes = slice_index bytes 0 ≡ 1

-- a database as its definition has it: each segment has the defined length, and keys ascend
pub record IsMsdbOf (def : MsdbDef) (msdb : Msdb) : Type 0 where
  pub lengths : AllByRecursion (λ segment. length segment ≡ def.length) msdb.segments
  pub in_order : IsTrue (ascend (map (key_of def.fields) msdb.segments))

-- each terminal's name, number and line as their fields hold them, the names ascending
pub record AreLasts (lasts : List Last) : Type 0 where
  pub few : length lasts < 2 ^ 64
  pub names : AllByRecursion (λ (last : Last). IsName last.lterm) lasts
  pub numbers : AllByRecursion (λ (last : Last). last.number < 2 ^ 64) lasts
  pub lines : AllByRecursion (λ (last : Last). length last.line < 2 ^ 16) lasts
  pub in_order : IsTrue (ascend (map (λ last. last.lterm.0) lasts))

-- what a checkpoint may hold: other numbers are damage
pub record IsCheckpoint (format : ℕ) (defs : List MsdbDef) (c : Checkpoint) : Type 0 where
  pub is_format : IsFormat format
  pub number_fits : c.number < 2 ^ 64
  pub place : c.at ≤ 2 ^ 62
  pub entries : c.count ≤ c.at
  pub few : AllByRecursion (λ (msdb : Msdb). length msdb.segments < 2 ^ 32) c.msdbs
  pub databases : AllZip IsMsdbOf defs c.msdbs
  pub terminals : AreLasts c.lasts
  pub unnumbered : format ≡ 1 → c.lasts ≡ []
