-- Why an anchor of an area can't be read, and which interval is at fault.
use Rattle.std.specs.Prelude.{◌≡◌, ℕ, ◌≤◌, List}
use Rattle.root_anchor.specs.declared.places.RootPlace.{RootPlace}
use Rattle.root_anchor.specs.Damage.{ChainFails}
use Rattle.root_anchor.specs.Roots.{HasRootAt}
use Rattle.seq_dependents.specs.Control.{end_of}
use Rattle.seq_dependents.specs.Faults.{IsAtFault}
use Rattle.area_states.specs.declared.place.Place.{Place}
use Rattle.area_states.specs.Places.{part_of}

-- a root of the anchor stands in this interval, and says a newest serial that no one got yet: one at or past the end
pub record HasRootPastEnd (place : Place) (area : List (List ℕ)) (anchor ci : ℕ) : Type 0 where
  pub number : ℕ
  pub root : RootPlace
  pub has : HasRootAt place.shape place.segments area anchor number root
  pub here : root.ci ≡ ci
  pub past : end_of area ≤ root.newest

-- The anchor can't be read, and this interval is at fault: its pointers give no roots; or control, a sequential interval
-- or the slot of a kept serial is damaged; or a root says a newest serial at or past the end.
pub data IsUnreadable (place : Place) (area : List (List ℕ)) (anchor ci : ℕ) : Type 0 where
  in_chain : ChainFails place.shape place.segments area anchor ci → IsUnreadable place area anchor ci
  in_part : IsAtFault (part_of place) area ci → IsUnreadable place area anchor ci
  in_root : HasRootPastEnd place area anchor ci → IsUnreadable place area anchor ci
