-- The root of a key among those of an anchor.
use Rattle.std.specs.Prelude.{◌≡◌, ◌⊎◌, ℕ, ◌<◌, List, [], ◌∷◌, true, false, map, slice_get, IfNone, IfSome, Some}
use Rattle.std.specs.List.{AllByRecursion}
use Rattle.fp_model.specs.declared.database.Root.{Root}
use Rattle.fp_model.specs.declared.database.SeqItem.{SeqItem}
use Rattle.fp_model.specs.declared.definitions.SegDef.{SegDef}
use Rattle.fp_model.specs.Order.{root_key}
use Rattle.fp_model.specs.State.{ascend}
use Rattle.fp_model.specs.Texts.{same_text}
use Rattle.root_anchor.specs.Chains.{newest as serial_list}
use Rattle.root_anchor.specs.Formed.{HasRoots}
use Rattle.area_states.specs.declared.finding.Found.{Found}
use Rattle.area_states.specs.declared.place.Place.{Place}
use Rattle.area_states.specs.States.{newest_serial}

-- the root of this number has this key
pub record IsRootOf (types : List SegDef) (key : List ℕ) (roots : List Root) (number : ℕ) : Type 0 where
  pub root : Root
  pub is_there : slice_get roots number ≡ Some root
  pub has_key : same_text (root_key types root) key ≡ true

-- no root has it
abbrev pub NoneHas : List SegDef → List ℕ → List Root → Type 0
NoneHas types key roots = AllByRecursion (λ root. same_text (root_key types root) key ≡ false) roots

-- and this is its newest serial
pub record HasNewest (types : List SegDef) (key : List ℕ) (roots : List Root) (newest number : ℕ) : Type 0 where
  pub is_root : IsRootOf types key roots number
  pub is_newest : newest ≡ newest_serial is_root.root.seqs

-- The root of a key was looked for among those of an anchor: its number and its newest serial, or 0 where there is none.
-- Where keys ascend, it was found if there is one.
pub record IsFound (place : Place) (area : List (List ℕ)) (anchor : ℕ) (key : List ℕ) (found : Found) : Type 0 where
  pub kept : List Root
  pub has : HasRoots place.shape place.segments area anchor kept
  pub some : IfSome found.number (HasNewest place.segments key kept found.newest)
  pub none : ascend (map (root_key place.segments) kept) ≡ true → IfNone found.number (NoneHas place.segments key kept)
  pub newest : IfNone found.number (found.newest ≡ 0)

-- ---- roots as an anchor keeps them

-- The serial that stands for a sequential list: its newest one. For an empty list none, or one that is below begin.
abbrev pub IsSerialFor : ℕ → List SeqItem → ℕ → Type 0
IsSerialFor begin [] serial = (serial ≡ 0) ⊎ (serial < begin)
IsSerialFor begin (item ∷ items) serial = serial ≡ item.serial

-- An anchor of an area with this begin has this root, but for what is below it: its bytes, and a serial that stands for
-- its sequential list.
pub record IsOwnOf (begin : ℕ) (root kept : Root) : Type 0 where
  pub bytes : root.bytes ≡ kept.bytes
  pub serial : ℕ
  pub is_serial : IsSerialFor begin root.seqs serial
  pub seqs : kept.seqs ≡ serial_list serial

-- the root of this number has this list
pub record HasSeqsAt (roots : List Root) (number : ℕ) (seqs : List SeqItem) : Type 0 where
  pub root : Root
  pub is_there : slice_get roots number ≡ Some root
  pub has_list : root.seqs ≡ seqs

-- An anchor of an area with this begin keeps the first root as the second, of its sequential list one serial alone.
pub record IsKeptAs (begin : ℕ) (root kept : Root) : Type 0 where
  pub bytes : root.bytes ≡ kept.bytes
  pub children : root.children ≡ kept.children
  pub serial : ℕ
  pub is_serial : IsSerialFor begin root.seqs serial
  pub seqs : kept.seqs ≡ serial_list serial
