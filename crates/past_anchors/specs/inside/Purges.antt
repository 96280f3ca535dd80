-- A Purge of one area in its database.
use Rattle.std.specs.Prelude.{Contains, ◌≡◌, ℕ, ◌+◌, ◌-◌, ◌≤◌, ◌<◌, List, map, take, drop, ◌++◌, length, min, Bool, true, false, nat_lt, Some, slice_get, slice_set}
use Rattle.std.specs.List.{AllByRecursion}
use Rattle.std.specs.Option.{option_map_or}
use Rattle.fp_model.specs.Commit.{in_anchors, kept_from}
use Rattle.fp_model.specs.Shape.{are_newest_first}
use Rattle.fp_model.specs.State.{Area, areas_of}
use Rattle.fp_model.specs.WellFormed.{AreDefs}
use Rattle.fp_model.specs.declared.database.AreaEnds.{AreaEnds}
use Rattle.fp_model.specs.declared.database.Dedb.{Dedb}
use Rattle.fp_model.specs.declared.database.Root.{Root}
use Rattle.fp_model.specs.declared.database.SeqItem.{SeqItem}
use Rattle.fp_model.specs.declared.definitions.Defs.{Defs}
use Rattle.past_anchors.specs.Databases.{AreDedbsOf}

-- serials fall between some ends
pub record AreFalling (items : List SeqItem) : Type 0 where
  pub begin : ℕ
  pub end : ℕ
  pub newest : are_newest_first begin end items ≡ true

-- at each root they do
abbrev pub AllFall : List Root → Type 0
AllFall roots = AllByRecursion (λ root. AreFalling root.seqs) roots

-- and at each root of some anchors from one on
abbrev pub FallFrom : ℕ → ℕ → List (List Root) → Type 0
FallFrom first n anchors = (at : ℕ) (roots : List Root) → first ≤ at → at < first + n
    → slice_get anchors at ≡ Some roots → AllFall roots

-- whether the oldest has a serial below a begin
abbrev pub ends_below : ℕ → List SeqItem → Bool
ends_below begin items =
    option_map_or (λ (item : SeqItem). nat_lt item.serial begin) (slice_get items (length items - 1)) false

-- so many elements from one on changed
abbrev pub changed_from : {X : Type 0} → ℕ → ℕ → (X → X) → List X → List X
changed_from first n change xs = take first xs ++ map change (take n (drop first xs)) ++ drop (first + n) xs

-- begin moves up by n, at most to the end
abbrev pub moved_up : ℕ → AreaEnds → AreaEnds
moved_up n ends = record ends { begin = min ends.end (ends.begin + n) }

-- a database with an area purged that has these ends
abbrev pub with_purged : Area → ℕ → AreaEnds → Dedb → Dedb
with_purged area n ends dedb = record {
  anchors = in_anchors area (map (kept_from (moved_up n ends).begin)) dedb.anchors;
  areas = slice_set dedb.areas area.number (moved_up n ends);
}

-- it is an area of definitions, whose shape the databases have
pub record IsAreaIn (dedbs : List Dedb) (area : Area) : Type 0 where
  pub defs : Defs
  pub good : AreDefs defs
  pub shape : AreDedbsOf defs dedbs
  pub there : Contains (areas_of defs) area
