-- Which data sets are areas, and what calls on an area need of its definition.
use Rattle.std.specs.Prelude.{◌≡◌, ℕ, ◌+◌, ◌-◌, ◌<◌, nat_le, nat_lt, ◌==◌, ◌&&◌, Bool, true, if◌then◌else◌, List, [], ◌∷◌, ◌++◌, map, slice_get, slice_index, Option, Some, None, IsTrue}
use Rattle.std.specs.List.{AllByRecursion}
use Rattle.std.specs.Option.{option_map_or}
use Rattle.ci_space.specs.declared.intervals.Shape.{Shape}
use Rattle.ci_space.specs.Head.{ends_of}
use Rattle.ci_space.specs.Interval.{is_size}
use Rattle.ci_overflow.specs.Places.{first_independent}
use Rattle.fp_model.specs.declared.definitions.AreaDef.{AreaDef}
use Rattle.fp_model.specs.declared.definitions.DedbDef.{DedbDef}
use Rattle.fp_model.specs.declared.definitions.Defs.{Defs}
use Rattle.fp_model.specs.declared.definitions.SegDef.{SegDef}
use Rattle.fp_model.specs.Order.{sequential_type}
use Rattle.fp_model.specs.State.{Area, areas_from, first_area_set}
use Rattle.fp_model.specs.WellFormed.{has_sequential, sequential_intervals}
use Rattle.anchor_elements.specs.Elements.{AreTypes, segment_length}
use Rattle.root_anchor.specs.Chains.{anchor_count}
use Rattle.seq_dependents.specs.declared.part.Part.{Part}
use Rattle.seq_dependents.specs.Slots.{HoldsCapacity}
use Rattle.area_redo.specs.Redo.{Layout}
use Rattle.area_states.specs.declared.place.Place.{Place}

-- ---- the areas that definitions give

-- where the parts of an area stand
abbrev pub shape_of : DedbDef → AreaDef → Shape
shape_of def area = record {
  ci = def.ci;
  uows = area.uows;
  base = area.base;
  overflow = area.overflow;
  seq_cis = sequential_intervals def.ci def.segments area.capacity;
}

abbrev pub place_of : DedbDef → Area → Place
place_of def area = record {
  dedb = area.dedb;
  number = area.number;
  first_anchor = area.first_anchor;
  shape = shape_of def area.def;
  capacity = area.def.capacity;
  segments = def.segments;
}

-- the areas of databases from a given one on
abbrev pub places_from : ℕ → List DedbDef → List Place
places_from dedb [] = []
places_from dedb (d ∷ ds) = map (place_of d) (areas_from dedb 0 0 d.areas) ++ places_from (dedb + 1) ds

-- all areas, in order of definition
abbrev pub places_of : Defs → List Place
places_of defs = places_from 0 defs.dedbs

-- ---- one area

-- the length of the segments of the sequential type
abbrev pub sequential_length : List SegDef → ℕ
sequential_length types = option_map_or (segment_length types) (sequential_type types) 0

-- its sequential part
abbrev pub part_of : Place → Part
part_of place =
    record { shape = place.shape; capacity = place.capacity; segment = sequential_length place.segments }

-- Its intervals have a size that intervals may have, there is a base interval in each unit of work, an empty interval
-- holds a segment of each type. Where it has a capacity, there is a sequential type, and the sequential intervals hold
-- so many slots.
pub record IsPlace (place : Place) : Type 0 where
  pub size : IsTrue (is_size place.shape.ci)
  pub base : 0 < place.shape.base
  pub types : AreTypes place.shape.ci place.segments
  pub sequential : 0 < place.capacity → has_sequential place.segments ≡ true
  pub slots : 0 < place.capacity → HoldsCapacity (part_of place)

abbrev pub ArePlaces : List Place → Type 0
ArePlaces places = AllByRecursion IsPlace places

-- whether an anchor of a database lies in the area
abbrev pub has_anchor : Place → ℕ → ℕ → Bool
has_anchor place dedb anchor =
    place.dedb == dedb && nat_le place.first_anchor anchor
    && nat_lt anchor (place.first_anchor + anchor_count place.shape)

-- it does, and has this number within it
pub record LiesIn (place : Place) (dedb anchor number : ℕ) : Type 0 where
  pub has : has_anchor place dedb anchor ≡ true
  pub is_number : anchor ≡ place.first_anchor + number
  pub below : number < anchor_count place.shape

-- ---- the data sets

-- the area of a data set; None where it is none
abbrev pub place_at : List Place → ℕ → Option Place
place_at places set = if nat_lt set first_area_set then None else slice_get places (set - first_area_set)

-- the size of its intervals
abbrev pub size_of : Option Place → ℕ
size_of None = 0
size_of (Some place) = place.shape.ci

-- how many intervals it has, by the bytes of its control: those it was formatted with, and the independent overflow
-- intervals, whose number control has
abbrev pub counted_by : Option Place → List ℕ → ℕ
counted_by None control = 0
counted_by (Some place) control = first_independent place.shape + slice_index (ends_of control) 2

abbrev pub layout_of : List Place → Layout
layout_of places =
    record { size = λ set. size_of (place_at places set); counted = λ set. counted_by (place_at places set) }
