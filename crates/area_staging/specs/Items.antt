-- The item of a changed interval, and which intervals have one since the mark.
use Rattle.std.specs.Prelude.{◌≡◌, ◌≢◌, ℕ, ◌+◌, ◌-◌, ◌<◌, ◌≤◌, Bool, true, false, nat_lt, if◌then◌else◌, List, [], ◌∷◌, length, get_or, take, drop, slice_get, Option, Some, None, unwrap_or}
use Rattle.fp_model.specs.State.{first_area_set}
use Rattle.fp_model.specs.declared.log.Item.{Item}
use Rattle.fp_model.specs.declared.log.Item.TheVariants.{Image, Range}

-- ---- the mark

abbrev pub flag_at : Option (List Bool) → ℕ → Bool
flag_at None ci = false
flag_at (Some flags) ci = unwrap_or (slice_get flags ci) false

-- whether an interval has an item since the mark, by the flags of each area's intervals; one without a flag has none
abbrev pub is_imaged : List (List Bool) → ℕ → ℕ → Bool
is_imaged imaged set ci =
    if nat_lt set first_area_set then false else flag_at (slice_get imaged (set - first_area_set)) ci

-- the interval has a flag
pub record HasFlag (imaged : List (List Bool)) (set ci : ℕ) : Type 0 where
  pub flags : List Bool
  pub is : slice_get imaged (set - first_area_set) ≡ Some flags
  pub below : ci < length flags

-- ---- an item

-- the bytes from one place to another are all that differ: the first and the last of them do
pub record DiffersIn (old new : List ℕ) (first last : ℕ) : Type 0 where
  pub some : first < last
  pub within : last ≤ length new
  pub below : (i : ℕ) → i < first → get_or old i 0 ≡ get_or new i 0
  pub behind : (i : ℕ) → last ≤ i → get_or old i 0 ≡ get_or new i 0
  pub first_differs : get_or old first 0 ≢ get_or new first 0
  pub last_differs : get_or old (last - 1) 0 ≢ get_or new (last - 1) 0

-- a range from the first byte that differs to the last
pub record IsRangeOf (set ci : ℕ) (old new : List ℕ) (item : Item) : Type 0 where
  pub first : ℕ
  pub last : ℕ
  pub differs : DiffersIn old new first last
  pub is : item ≡ Range set ci first (take (last - first) (drop first new))

-- The item of an interval with other bytes than before: its image where it has no item since the mark, else a range.
abbrev pub IsItemOf : Bool → ℕ → ℕ → List ℕ → List ℕ → Item → Type 0
IsItemOf false set ci old new item = item ≡ Image set ci new
IsItemOf true set ci old new item = IsRangeOf set ci old new item

-- The bytes of a range that begins at this place: the first and the last of them differ from those that stood there.
pub record DiffersAtEnds (old : List ℕ) (at : ℕ) (new : List ℕ) : Type 0 where
  pub some : 0 < length new
  pub first : get_or new 0 0 ≢ get_or old at 0
  pub last : get_or new (length new - 1) 0 ≢ get_or old (at + (length new - 1)) 0

-- there is one exactly where the bytes are other
abbrev pub IsChange : Bool → ℕ → ℕ → List ℕ → List ℕ → Option Item → Type 0
IsChange imaged set ci old new None = new ≡ old
IsChange imaged set ci old new (Some item) = (new ≢ old) × IsItemOf imaged set ci old new item

-- the item as a list
abbrev pub items_in : Option Item → List Item
items_in None = []
items_in (Some item) = item ∷ []
