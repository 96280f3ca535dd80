-- What bodies and proofs need of Calls, beside what contracts say.
use Rattle.std.specs.Prelude.{ℕ, List, ◌≡◌, ◌==◌, if◌then◌else◌, slice_index}
use Rattle.fp_source.specs.declared.part.Part.{Part}
use Rattle.fp_files.specs.declared.folder.Access.{Access}
use Rattle.fp_files.specs.declared.folder.Access.TheVariants.{Change, Look}
use Rattle.fp_source.specs.declared.part.Part.TheVariants.{Definitions, Scripts, Schedule, Messages}
use Rattle.fp_files.specs.Calls.{HostCall, Wrote, WroteSome, Synced, Measured, Rewrote, RewroteSome, FolderSynced, Made, Locked, Read, PartRead, Sent, WroteOut, OfSet, IsLonger, is_synced, owes_sync, is_named, is_settled, is_locked, is_alone, known_length, writes_of}

-- the part of a number
abbrev pub part_of : ℕ → Part
part_of n =
    if n == 0 then Definitions else
    if n == 1 then Scripts else
    if n == 2 then Schedule else
    Messages

-- the access of a number
abbrev pub access_of : ℕ → Access
access_of n =
    if n == 0 then Change else
    Look

-- the call of some numbers and bytes
abbrev pub call_of : List ℕ → List ℕ → HostCall
call_of numbers bytes =
    if slice_index numbers 0 == 0 then Wrote (slice_index numbers 1) bytes else
    if slice_index numbers 0 == 1 then Synced else
    if slice_index numbers 0 == 2 then Rewrote (slice_index numbers 1) else
    if slice_index numbers 0 == 3 then FolderSynced else
    if slice_index numbers 0 == 4 then Made else
    if slice_index numbers 0 == 5 then Locked (access_of (slice_index numbers 1)) else
    if slice_index numbers 0 == 6 then Read else
    if slice_index numbers 0 == 7 then PartRead (part_of (slice_index numbers 1)) (slice_index numbers 2) else
    if slice_index numbers 0 == 8 then Sent else
    if slice_index numbers 0 == 9 then WroteOut else
    if slice_index numbers 0 == 10 then RewroteSome else
    if slice_index numbers 0 == 11 then WroteSome (slice_index numbers 1) bytes else
    if slice_index numbers 0 == 12 then Measured (slice_index numbers 1) else
    OfSet (slice_index numbers 1)

-- what reads of a file leave of what was known of the calls before
pub record OnlyReads (old new : List HostCall) : Type 0 where
  pub kept : IsLonger old new
  pub synced : is_synced new ≡ is_synced old
  pub owes : owes_sync new ≡ owes_sync old
  pub named : is_named new ≡ is_named old
  pub settled : is_settled new ≡ is_settled old
  pub locked : is_locked new ≡ is_locked old
  pub alone : is_alone new ≡ is_alone old
  pub length : known_length new ≡ known_length old
  pub writes : writes_of new ≡ writes_of old
