-- Which databases the bytes of areas stand for, and the states behind entries.
use Rattle.std.specs.Prelude.{◌≡◌, ℕ, ◌+◌, ◌<◌, List, [], ◌∷◌, length, Some, unwrap_or, slice_get}
use Rattle.std.specs.Option.{option_map_or}
use Rattle.fp_model.specs.declared.calls.AnchorChange.{AnchorChange}
use Rattle.fp_model.specs.declared.database.AreaEnds.{AreaEnds}
use Rattle.fp_model.specs.declared.database.Dedb.{Dedb}
use Rattle.fp_model.specs.declared.database.Db.{Db}
use Rattle.fp_model.specs.declared.log.Entry.{Entry}
use Rattle.fp_model.specs.State.{roots_at, first_ends}
use Rattle.held_intervals.specs.Holding.{listed}
use Rattle.area_redo.specs.Redo.{AreaBytes, Layout, count_in, redone}
use Rattle.area_states.specs.declared.place.Place.{Place}
use Rattle.area_states.specs.Places.{place_at, layout_of}
use Rattle.area_states.specs.States.{AreaState, HasState}

-- the ends that databases have of an area
abbrev pub ends_in : Db → Place → AreaEnds
ends_in db place =
    option_map_or (λ d. unwrap_or (slice_get d.areas place.number) first_ends)
    (slice_get db.dedbs place.dedb) first_ends

-- what databases have in an area
abbrev pub state_of : Place → Db → AreaState
state_of place db = record {
  roots = λ anchor. roots_at db place.dedb (place.first_anchor + anchor);
  begin = (ends_in db place).begin;
  end = (ends_in db place).end;
}

-- the databases have the anchor of a change
pub record HasAnchorOf (db : Db) (c : AnchorChange) : Type 0 where
  pub dedb : Dedb
  pub is_dedb : slice_get db.dedbs c.dedb ≡ Some dedb
  pub below : c.anchor < length dedb.anchors

-- the intervals of an area that its control counts
abbrev pub area_in : Layout → AreaBytes → ℕ → List (List ℕ)
area_in layout bytes set = listed (count_in layout bytes set) (bytes set)

-- the bytes of every area are whole and stand for these databases
abbrev pub AreFor : List Place → AreaBytes → Db → Type 0
AreFor places bytes db =
    (set : ℕ) (place : Place) → place_at places set ≡ Some place
    → HasState place (area_in (layout_of places) bytes set) (state_of place db)

-- and so they do behind each entry: there is one state more than entries, the oldest first
abbrev pub ForStates : List Place → AreaBytes → List Entry → List Db → Type 0
ForStates places bytes entries [] = ⊥
ForStates places bytes [] (db ∷ states) = AreFor places bytes db × (states ≡ [])
ForStates places bytes (e ∷ entries) (db ∷ states) =
    AreFor places bytes db × ForStates places (redone e.items bytes) entries states

-- the last of some states
abbrev pub last_of : Db → List Db → Db
last_of db [] = db
last_of db (d ∷ states) = last_of d states
