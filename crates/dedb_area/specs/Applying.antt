-- What items of the log make of the intervals at hand.
use Rattle.std.specs.Prelude.{◌≡◌, ⊤, ℕ, ◌+◌, ◌*◌, ◌≤◌, ◌^◌, if◌then◌else◌, List, [], length, take, slice_get, Option, Some}
use Rattle.fp_model.specs.declared.log.Item.{Item}
use Rattle.fp_model.specs.declared.log.Item.TheVariants.{Segment, Image, Range}
use Rattle.ci_pool.specs.declared.cell.Waiting.{Waiting}
use Rattle.ci_pool.specs.Cells.{renewed}
use Rattle.ci_pool.specs.Held.{Held, pending_at, bytes_of, bytes_or}
use Rattle.area_redo.specs.Redo.{names, redone_at}
use Rattle.area_states.specs.declared.place.Place.{Place}
use Rattle.area_states.specs.Places.{place_at}

-- the newest bytes of an interval that is pending
abbrev pub pending_bytes : Option Waiting → List ℕ
pending_bytes w = bytes_or (bytes_of w) []

-- how an interval is pending behind items, of the entry at a place, that some of them may name
abbrev pub with_items_at : ℕ → ℕ → ℕ → List Item → Option Waiting → Option Waiting
with_items_at place set ci items w =
    if names set ci items then Some (renewed place (redone_at set ci items (pending_bytes w)) w) else w

-- all intervals are pending as these items make them
abbrev pub IsApplied : ℕ → List Item → Held → Held → Type 0
IsApplied place items before after =
    (set ci : ℕ) → pending_at after set ci ≡ with_items_at place set ci items (pending_at before set ci)

-- an interval of an area, of the area's size, that ends at or before byte 2^62
pub record IsFitInterval (places : List Place) (set ci size : ℕ) : Type 0 where
  pub place : Place
  pub is_place : place_at places set ≡ Some place
  pub is_size : size ≡ place.shape.ci
  pub ends : (ci + 1) * size ≤ 2 ^ 62

-- an image is an interval of an area
abbrev pub IsFitImage : List Place → Item → Type 0
IsFitImage places (Segment msdb key bytes) = ⊤
IsFitImage places (Image set ci bytes) = IsFitInterval places set ci (length bytes)
IsFitImage places (Range set ci at bytes) = ⊤

-- a range lies within its interval, of which an image was applied
pub record LiesWithin (w : Option Waiting) (at count : ℕ) : Type 0 where
  pub waiting : Waiting
  pub is : w ≡ Some waiting
  pub within : at + count ≤ length waiting.bytes

-- Each range lies within its interval, of which an image was applied before; `before` is the pool as the items begin.
abbrev pub AreAppliable : ℕ → Held → List Item → Type 0
AreAppliable place before items =
    (n set ci at : ℕ) (bytes : List ℕ) → slice_get items n ≡ Some (Range set ci at bytes)
    → LiesWithin (with_items_at place set ci (take n items) (pending_at before set ci)) at (length bytes)

-- one of the items is a range of the interval that doesn't
pub record LacksImage (place : ℕ) (before : Held) (items : List Item) (set ci : ℕ) : Type 0 where
  pub n : ℕ
  pub at : ℕ
  pub bytes : List ℕ
  pub is : slice_get items n ≡ Some (Range set ci at bytes)
  pub lacks : ¬ LiesWithin (with_items_at place set ci (take n items) (pending_at before set ci)) at (length bytes)
