-- Which data set has the newest open checkpoint, and what is wrong with one.
use Rattle.std.specs.Prelude.{◌≡◌, ◌≢◌, ◌⊎◌, ℕ, ◌<◌, ◌≤◌, ◌++◌, List, length, drop, Some, None, slice_index}
use Rattle.checkpoint_format.specs.Given.{loaded_as}
use Rattle.checkpoint_format.specs.Reading.{head_at, rest_at}
use Rattle.checkpoint_format.specs.declared.checkpoint.Loaded.{Loaded}
use Rattle.fp_model.specs.CheckpointText.{IsCheckpoint, IsOpen, checkpoint_rest}
use Rattle.fp_model.specs.declared.definitions.MsdbDef.{MsdbDef}
use Rattle.fp_site.specs.Disk.{read_range}
use Rattle.msdb_checkpoint.specs.Steps.{other_set}

-- a data set's gate is absent, or isn't 1
abbrev pub IsNotOpen : List ℕ → Type 0
IsNotOpen bytes = slice_index bytes 0 ≢ 1

-- an open data set's letters and number are as they should be, by its gate and the 16 bytes behind it,
pub record HasNumber (bytes : List ℕ) (number : ℕ) : Type 0 where
  pub gate : IsOpen bytes
  pub long : 17 ≤ length bytes
  pub format : ℕ
  pub rest : List ℕ
  pub head : head_at (drop 1 (read_range bytes 0 17)) ≡ Some ((format, number), rest)

-- or they aren't
pub record HasBadHead (bytes : List ℕ) : Type 0 where
  pub gate : IsOpen bytes
  pub bad : (length bytes < 17) ⊎ (head_at (drop 1 (read_range bytes 0 17)) ≡ None)

-- The data set with the newest open checkpoint: the other one is closed, or has a lower number. Of two with one number
-- it is data set 1.
pub record IsNewest (contents : ℕ → List ℕ) (set : ℕ) : Type 0 where
  pub is_set : (set ≡ 1) ⊎ (set ≡ 2)
  pub number : ℕ
  pub has : HasNumber (contents set) number
  pub other : IsNotOpen (contents (other_set set))
      ⊎ ((m : ℕ) × HasNumber (contents (other_set set)) m × (m ≤ number) × (set ≡ 2 → m < number))

-- what stands behind the gate is a checkpoint of these databases, this one
abbrev pub HasCheckpoint : List MsdbDef → List ℕ → Loaded → Type 0
HasCheckpoint defs bytes loaded = (rest : List ℕ)
    × (rest_at defs (drop 1 bytes) ≡ Some ((loaded.format, loaded_as loaded), rest))

-- the data set begins with this checkpoint, open, and it keeps the rules
abbrev pub IsWhole : List MsdbDef → List ℕ → Loaded → Type 0
IsWhole defs bytes loaded =
    ((rest : List ℕ) × (drop 1 bytes ≡ checkpoint_rest loaded.format defs (loaded_as loaded) ++ rest))
    × IsCheckpoint loaded.format defs (loaded_as loaded)

-- or none
abbrev pub HasNoCheckpoint : List MsdbDef → List ℕ → Type 0
HasNoCheckpoint defs bytes = rest_at defs (drop 1 bytes) ≡ None

-- data set 1 or 2 has an open checkpoint with bad letters or no number
pub record IsBadSet (contents : ℕ → List ℕ) (set : ℕ) : Type 0 where
  pub is_set : (set ≡ 1) ⊎ (set ≡ 2)
  pub bad : HasBadHead (contents set)

-- what is damaged: an open data set's letters or number, or the whole of the newest one
abbrev pub IsDamagedSet : List MsdbDef → (ℕ → List ℕ) → ℕ → Type 0
IsDamagedSet defs contents set = IsBadSet contents set
    ⊎ (IsNewest contents set × HasNoCheckpoint defs (contents set))

-- By what is told, and by the numbers: no data sets but 1 and 2 were read.
abbrev pub ReadsCheckpoints : (ℕ → Type 0) → (ℕ → Type 0) → (ℕ → ℕ) → (ℕ → ℕ) → Type 0
ReadsCheckpoints told_before told_now before now = (set : ℕ) → told_now set → told_before set
    × ((set ≡ 1 → ⊥) → (set ≡ 2 → ⊥) → now set ≡ before set)
