-- What a commit, and what a Purge, makes of the state of an area.
use Rattle.std.specs.Prelude.{◌≡◌, ◌≢◌, ◌⊎◌, ⊤, ℕ, ◌+◌, ◌-◌, ◌<◌, Bool, true, false, ◌==◌, if◌then◌else◌, List, [], ◌∷◌, length, map, min, fold, filter, Contains}
use Rattle.std.specs.List.{AllByRecursion}
use Rattle.fp_model.specs.declared.calls.AnchorChange.{AnchorChange}
use Rattle.fp_model.specs.declared.calls.SeqInsert.{SeqInsert}
use Rattle.fp_model.specs.declared.database.AreaEnds.{AreaEnds}
use Rattle.fp_model.specs.declared.database.Root.{Root}
use Rattle.fp_model.specs.declared.database.SeqItem.{SeqItem}
use Rattle.fp_model.specs.Commit.{is_too_full, with_newest, kept_from}
use Rattle.fp_model.specs.Order.{root_key}
use Rattle.fp_model.specs.State.{ascend, change_key}
use Rattle.ci_overflow.specs.Lists.{bytes_at}
use Rattle.root_changes.specs.Differing.{RootsDiffer}
use Rattle.root_anchor.specs.Chains.{anchor_count, newest}
use Rattle.root_anchor.specs.Stored.{are_storable}
use Rattle.area_states.specs.declared.place.Place.{Place}
use Rattle.area_states.specs.Places.{has_anchor, sequential_length}
use Rattle.area_states.specs.States.{AreaState, newest_serial}

-- ---- changed anchors

-- with other roots at an anchor, counted from 0 within the area
abbrev pub with_roots_at : ℕ → List Root → AreaState → AreaState
with_roots_at anchor roots state = record state { roots = λ a. if a == anchor then roots else state.roots a }

-- a change of another area changes nothing here
abbrev pub with_change : Place → AreaState → AnchorChange → AreaState
with_change place state c =
    if has_anchor place c.dedb c.anchor then with_roots_at (c.anchor - place.first_anchor) c.roots state else state

abbrev pub with_changes : Place → List AnchorChange → AreaState → AreaState
with_changes place changes state = fold (with_change place) state changes

-- a root as an anchor keeps it: of its sequential list the newest serial alone
abbrev pub kept_root : Root → Root
kept_root root = record root { seqs = newest (newest_serial root.seqs) }

-- the changed roots may be stored: they have the form of their types
abbrev pub IsStorable : Place → AnchorChange → Type 0
IsStorable place c =
    has_anchor place c.dedb c.anchor ≡ true → are_storable place.segments (map kept_root c.roots) ≡ true

-- the sequential list of a changed root is empty, or one that a root of the anchor has
abbrev pub HasListOf : List Root → Root → Type 0
HasListOf now root = (root.seqs ≡ []) ⊎ ((other : Root) × Contains now other × (root.seqs ≡ other.seqs))

abbrev pub KeepsLists : Place → AreaState → AnchorChange → Type 0
KeepsLists place state c =
    has_anchor place c.dedb c.anchor ≡ true
    → AllByRecursion (HasListOf (state.roots (c.anchor - place.first_anchor))) c.roots

-- so is that of each, as the changes before it leave the area
abbrev pub AllKeepLists : Place → AreaState → List AnchorChange → Type 0
AllKeepLists place state [] = ⊤
AllKeepLists place state (c ∷ changes) =
    KeepsLists place state c × AllKeepLists place (with_change place state c) changes

-- ---- one segment alone

-- the roots that a change brings differ in one segment from those that the area has there
abbrev pub ChangesOne : Place → AreaState → AnchorChange → Type 0
ChangesOne place state c =
    has_anchor place c.dedb c.anchor ≡ true → RootsDiffer (state.roots (c.anchor - place.first_anchor)) c.roots

-- of an area at most one interval changes, and none is added
pub record OneChanges (old new : List (List ℕ)) : Type 0 where
  pub ci : ℕ
  pub others : (k : ℕ) → k ≢ ci → bytes_at new k ≡ bytes_at old k
  pub same_number : length new ≡ length old

-- ---- sequential inserts

-- whether an insert is one of this area
abbrev pub takes : Place → SeqInsert → Bool
takes place i = has_anchor place i.dedb i.anchor

-- the insert gets the serial at the end, in front of the list of the root of its key, and the end moves on
abbrev pub numbered_at : Place → SeqInsert → AreaState → AreaState
numbered_at place i state =
    let item : SeqItem = record { serial = state.end; bytes = i.bytes } in
    let roots : List Root = state.roots (i.anchor - place.first_anchor) in
    record (with_roots_at (i.anchor - place.first_anchor)
    (change_key (root_key place.segments) i.key (with_newest item) roots) state) { end = state.end + 1 }

abbrev pub with_insert : Place → AreaState → SeqInsert → AreaState
with_insert place state i = if takes place i then numbered_at place i state else state

-- in call order
abbrev pub with_inserts : Place → List SeqInsert → AreaState → AreaState
with_inserts place inserts state = fold (with_insert place) state inserts

-- the two ends
abbrev pub ends_of : AreaState → AreaEnds
ends_of state = record { begin = state.begin; end = state.end }

-- how many there are of this area
abbrev pub count_of : Place → List SeqInsert → ℕ
count_of place inserts = length (filter (takes place) inserts)

-- a segment of the sequential type, for an anchor of this area, which has a sequential part
abbrev pub IsInsertable : Place → SeqInsert → Type 0
IsInsertable place i =
    takes place i ≡ true → (0 < place.capacity) × (length i.bytes ≡ sequential_length place.segments)

-- the sequential part has room for so many inserts of this area
abbrev pub HasRoom : Place → AreaState → ℕ → Type 0
HasRoom place state n = is_too_full place.capacity (ends_of state) n ≡ false

-- These numbers say that it is too full for them: its ends, and how many they are.
pub record IsTooFull (place : Place) (state : AreaState) (inserts : List SeqInsert) (begin end n : ℕ) : Type 0 where
  pub is_begin : begin ≡ state.begin
  pub is_end : end ≡ state.end
  pub is_count : n ≡ count_of place inserts
  pub some : 0 < n
  pub too_full : is_too_full place.capacity (ends_of state) n ≡ true

-- the keys of the roots of each anchor ascend
abbrev pub AreOrdered : Place → AreaState → Type 0
AreOrdered place state =
    (anchor : ℕ) → anchor < anchor_count place.shape
    → ascend (map (root_key place.segments) (state.roots anchor)) ≡ true

-- ---- Purge

-- the serials that are kept from a new begin on
abbrev pub begun_at : ℕ → AreaState → AreaState
begun_at begin state = record state { begin = begin; roots = λ a. map (kept_from begin) (state.roots a) }

-- begin moves up by n, at most to the end, and older serials leave their roots
abbrev pub purged : ℕ → AreaState → AreaState
purged n state = begun_at (min state.end (state.begin + n)) state
