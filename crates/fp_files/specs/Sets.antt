-- The data sets of a site, by their numbers.
use Rattle.std.specs.Prelude.{◌≡◌, ◌≢◌, ◌<◌, ◌≤◌, ℕ, List, [], IsSome, map, Some, false, length, slice_index_or, true}
use Rattle.fp_files.specs.Calls.{HostCall, IsLonger, WritesOnce, is_synced, newest, owes_sync, writes_of}
use Rattle.fp_files.specs.Calls.HostCall.{Wrote}
use Rattle.fp_files.specs.declared.data_set.DataSet.{DataSet}

-- each data set has the number of its place
abbrev pub AreNumbered : List DataSet → Type 0
AreNumbered sets = (k : ℕ) (d : DataSet) → k < length sets → (slice_index_or sets k d).set ≡ k

-- What is lost stays lost, and no data set goes.
pub record StayLost (old new : List DataSet) : Type 0 where
  pub no_fewer : length old ≤ length new
  pub lost : (k : ℕ) (d : DataSet) → k < length old → (slice_index_or old k d).is_lost ≡ true
      → (slice_index_or new k d).is_lost ≡ true

-- the calls that were made of each data set stay, and others come behind them
abbrev pub AreLonger : List DataSet → List DataSet → Type 0
AreLonger old new = (k : ℕ) (d : DataSet) → k < length old
    → IsLonger (slice_index_or old k d).calls.events (slice_index_or new k d).calls.events

-- the writes of each data set; a data set that isn't in the list has none
abbrev pub writes_in : List DataSet → ℕ → List HostCall
writes_in sets k = slice_index_or (map (λ d. writes_of d.calls.events) sets) k []

-- no data set was written
abbrev pub AreUnwritten : List DataSet → List DataSet → Type 0
AreUnwritten old new = (k : ℕ) → writes_in new k ≡ writes_in old k

-- No data set but this one was written, and this one at most once, with these bytes at this offset.
pub record WriteOnce (old new : List DataSet) (set at : ℕ) (bytes : List ℕ) : Type 0 where
  pub others : (k : ℕ) → k ≢ set → writes_in new k ≡ writes_in old k
  pub once : WritesOnce at bytes (writes_in old set) (writes_in new set)

-- this data set is lost
pub record IsLost (sets : List DataSet) (set : ℕ) : Type 0 where
  pub place : set < length sets
  pub lost : (d : DataSet) → (slice_index_or sets set d).is_lost ≡ true

-- This data set was synced since its file was last made or written, and its name is durable. The file that is open, if
-- there is one, was synced since it was last written.
pub record IsSynced (sets : List DataSet) (set : ℕ) : Type 0 where
  pub place : set < length sets
  pub file : (d : DataSet) → IsSome (slice_index_or sets set d).file
      → is_synced (slice_index_or sets set d).calls.events ≡ true
  pub owes : (d : DataSet) → owes_sync (slice_index_or sets set d).calls.events ≡ false
  pub named : (d : DataSet) → (slice_index_or sets set d).has_durable_name ≡ true

-- the newest call on this data set wrote these bytes at this offset
pub record HasWritten (sets : List DataSet) (set at : ℕ) (bytes : List ℕ) : Type 0 where
  pub place : set < length sets
  pub newest_call : (d : DataSet) → newest (slice_index_or sets set d).calls.events ≡ Some (Wrote at bytes)

-- this data set is known to have this many bytes
pub record HasLength (sets : List DataSet) (set n : ℕ) : Type 0 where
  pub place : set < length sets
  pub known : (d : DataSet) → (slice_index_or sets set d).length ≡ Some n
