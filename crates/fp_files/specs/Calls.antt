-- The calls of the system that were made of a data set, of the parts of a source, or of the output, the newest first.
use Rattle.std.specs.Prelude.{◌⊎◌, ℕ, Bool, true, false, List, [], ◌∷◌, Option, Some, None, ◌≡◌, ◌==◌, ◌||◌, length, if◌then◌else◌}
use Rattle.fp_source.specs.declared.part.Part.{Part}
use Rattle.fp_files.specs.declared.folder.Access.{Access}
use Rattle.fp_files.specs.declared.folder.Access.TheVariants.{Change, Look}

pub data HostCall : Type 0 where
  -- these bytes were written to the file at this offset
  Wrote : ℕ → List ℕ → HostCall
  -- some of these bytes, or none, were written to the file at this offset, and then that failed
  WroteSome : ℕ → List ℕ → HostCall
  -- the file was synced, and the system answered Ok
  Synced : HostCall
  -- the file was asked for its length, and had this many bytes
  Measured : ℕ → HostCall
  -- each of so many bytes of the file was read and written back where it was
  Rewrote : ℕ → HostCall
  -- some bytes of the file, or none, were read and written back where they were, and then that failed
  RewroteSome : HostCall
  -- the folder was synced, and the system answered Ok
  FolderSynced : HostCall
  -- the file was made
  Made : HostCall
  -- the folder was locked, for this access, and stays so
  Locked : Access → HostCall
  -- bytes were read from the file, or could not be
  Read : HostCall
  -- the file of this part was read, and gave this many bytes
  PartRead : Part → ℕ → HostCall
  -- text was taken in for the output
  Sent : HostCall
  -- all text that was taken in was written to the output
  WroteOut : HostCall
  -- no call of the system: the calls behind it are of the data set of this number
  OfSet : ℕ → HostCall

-- the newest call
abbrev pub newest : List HostCall → Option HostCall
newest [] = None
newest (call ∷ earlier) = Some call

-- whether the file was synced since it was last written
abbrev pub is_synced : List HostCall → Bool
is_synced [] = false
is_synced (Synced ∷ earlier) = true
is_synced (Wrote at bytes ∷ earlier) = false
is_synced (WroteSome at bytes ∷ earlier) = false
is_synced (Rewrote count ∷ earlier) = false
is_synced (RewroteSome ∷ earlier) = false
is_synced (call ∷ earlier) = is_synced earlier

-- whether the file was made or written, all of it or some, and wasn't synced since
abbrev pub owes_sync : List HostCall → Bool
owes_sync [] = false
owes_sync (Synced ∷ earlier) = false
owes_sync (Wrote at bytes ∷ earlier) = true
owes_sync (WroteSome at bytes ∷ earlier) = true
owes_sync (Rewrote count ∷ earlier) = true
owes_sync (RewroteSome ∷ earlier) = true
owes_sync (Made ∷ earlier) = true
owes_sync (call ∷ earlier) = owes_sync earlier

-- whether the folder was synced since the file was made
abbrev pub is_named : List HostCall → Bool
is_named [] = false
is_named (FolderSynced ∷ earlier) = true
is_named (Made ∷ earlier) = false
is_named (call ∷ earlier) = is_named earlier

-- whether the newest of some calls asked for the length of the file, and it was this
abbrev pub begins_measured : ℕ → List HostCall → Bool
begins_measured length (Measured n ∷ earlier) = n == length
begins_measured length calls = false

-- whether the newest of some calls rewrote the file, as long as it was found to be
abbrev pub begins_rewritten : List HostCall → Bool
begins_rewritten (Rewrote count ∷ earlier) = begins_measured count earlier
begins_rewritten calls = false

-- whether the file was made here, or was rewritten and directly behind that synced
abbrev pub is_settled : List HostCall → Bool
is_settled [] = false
is_settled (Made ∷ earlier) = true
is_settled (Synced ∷ earlier) = begins_rewritten earlier || is_settled earlier
is_settled (call ∷ earlier) = is_settled earlier

-- whether the folder was locked
abbrev pub is_locked : List HostCall → Bool
is_locked [] = false
is_locked (Locked access ∷ earlier) = true
is_locked (call ∷ earlier) = is_locked earlier

-- whether the folder was locked so that no other program uses it
abbrev pub is_alone : List HostCall → Bool
is_alone [] = false
is_alone (Locked Change ∷ earlier) = true
is_alone (Locked Look ∷ earlier) = false
is_alone (call ∷ earlier) = is_alone earlier

-- the length that the file was found to have, if nothing was written since
abbrev pub known_length : List HostCall → Option ℕ
known_length [] = None
known_length (Measured length ∷ earlier) = Some length
known_length (Wrote at bytes ∷ earlier) = None
known_length (WroteSome at bytes ∷ earlier) = None
known_length (Rewrote count ∷ earlier) = None
known_length (RewroteSome ∷ earlier) = None
known_length (Made ∷ earlier) = None
known_length (call ∷ earlier) = known_length earlier

-- whether all was written to the output, and no text was taken in since
abbrev pub is_written_out : List HostCall → Bool
is_written_out [] = false
is_written_out (Sent ∷ earlier) = false
is_written_out (WroteOut ∷ earlier) = true
is_written_out (call ∷ earlier) = is_written_out earlier

-- the call of this number, counted from 0 as they were made
abbrev pub numbered : List HostCall → ℕ → Option HostCall
numbered [] n = None
numbered (call ∷ earlier) n = if n == length earlier then Some call else numbered earlier n

-- Each call of the old list has the same number in the new one: these are the old ones, and others behind them.
abbrev pub IsLonger : List HostCall → List HostCall → Type 0
IsLonger old new = (n : ℕ) (call : HostCall) → numbered old n ≡ Some call → numbered new n ≡ Some call

-- The calls are of this data set: that is noted directly behind the lock, under number 1. It stays so where others come
-- behind them.
abbrev pub AreOf : ℕ → List HostCall → Type 0
AreOf set calls = numbered calls 1 ≡ Some (OfSet set)

-- the writes among some calls, but for those of a rewrite
abbrev pub writes_of : List HostCall → List HostCall
writes_of [] = []
writes_of (Wrote at bytes ∷ earlier) = Wrote at bytes ∷ writes_of earlier
writes_of (WroteSome at bytes ∷ earlier) = WroteSome at bytes ∷ writes_of earlier
writes_of (call ∷ earlier) = writes_of earlier

-- the writes are as before, or one more was made or failed, of these bytes at this offset
abbrev pub WritesOnce : ℕ → List ℕ → List HostCall → List HostCall → Type 0
WritesOnce at bytes old new =
    (new ≡ old) ⊎ ((new ≡ Wrote at bytes ∷ old) ⊎ (new ≡ WroteSome at bytes ∷ old))
