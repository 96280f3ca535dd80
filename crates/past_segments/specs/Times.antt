-- The values of keys at every place, and the database that they show there.
use Rattle.std.specs.Prelude.{◌≡◌, ⊤, ℕ, ◌<◌, ◌≤◌, List, [], ◌∷◌, map, take, Bool, true, nat_le, ◌&&◌, if◌then◌else◌, Option, None, IfSome, fold}
use Rattle.std.specs.List.{AllByRecursion, filter_map, list_any}
use Rattle.fp_model.specs.declared.database.Msdb.{Msdb}
use Rattle.fp_model.specs.State.{ascend}
use Rattle.fp_model.specs.Texts.{same_text}
use Rattle.past_segments.specs.declared.slot.Version.{Version}
use Rattle.past_segments.specs.declared.slot.Slot.{Slot}

-- ---- one key

-- the value at a place: the last of those from there or before
abbrev pub value_at : ℕ → List Version → Option (List ℕ)
value_at place versions = fold (λ value v. if nat_le v.from place then v.segment else value) None versions

-- each stands from a later place than those before it
abbrev pub Rises : List Version → Type 0
Rises [] = ⊤
Rises (v ∷ vs) = AllByRecursion (λ (w : Version). v.from < w.from) vs × Rises vs

-- none stands from behind a place
abbrev pub EndsBy : ℕ → List Version → Type 0
EndsBy place versions = AllByRecursion (λ (v : Version). v.from ≤ place) versions

-- each segment has this key, which is its first bytes
abbrev pub HasKey : ℕ → List ℕ → List Version → Type 0
HasKey count key versions = AllByRecursion (λ (v : Version). IfSome v.segment (λ s. take count s ≡ key)) versions

pub record FitsSlot (count : ℕ) (slot : Slot) : Type 0 where
  pub rises : Rises slot.versions
  pub has_key : HasKey count slot.key slot.versions

-- ---- a database

-- the length of its keys, and its keys with their values, keys ascending
pub record Past : Type 0 where
  pub count : ℕ
  pub slots : List Slot

pub record AreSlots (count : ℕ) (slots : List Slot) : Type 0 where
  pub in_order : ascend (map (λ (slot : Slot). slot.key) slots) ≡ true
  pub each : AllByRecursion (FitsSlot count) slots

-- the segments at a place
abbrev pub segments_at : ℕ → List Slot → List (List ℕ)
segments_at place slots = filter_map (λ (slot : Slot). value_at place slot.versions) slots

-- the database at a place
abbrev pub database_at : ℕ → Past → Msdb
database_at place past = record { segments = segments_at place past.slots }

-- no value of any key stands from behind a place
abbrev pub IsSettledBy : ℕ → Past → Type 0
IsSettledBy place past = AllByRecursion (λ (slot : Slot). EndsBy place slot.versions) past.slots

-- whether a key has a value that stands from a place or behind it
abbrev pub is_late : ℕ → Past → List ℕ → Bool
is_late place past key =
    list_any (λ (slot : Slot). same_text slot.key key && list_any (λ (v : Version). nat_le place v.from) slot.versions)
    past.slots
