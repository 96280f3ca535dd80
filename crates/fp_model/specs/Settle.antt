-- Settling at the sync point: a queue of deferred calls on whole main storage databases.
use Rattle.std.specs.Prelude.{ℕ, ◌+◌, List, [], ◌∷◌, Bool, true, false, ◌&&◌, ◌||◌, ◌==◌, nat_lt, if◌then◌else◌, Option, Some, None, slice_get, slice_set}
use Rattle.fp_model.specs.declared.definitions.MsdbDef.{MsdbDef}
use Rattle.fp_model.specs.declared.database.Msdb.{Msdb}
use Rattle.fp_model.specs.declared.calls.Deferred.{Deferred}
use Rattle.fp_model.specs.declared.calls.Deferred.TheVariants.{Fld, Repl, Isrt, Dlet}
use Rattle.fp_model.specs.declared.calls.Resource.{Resource}
use Rattle.fp_model.specs.declared.calls.Resource.TheVariants.{Segment, Anchor}
use Rattle.fp_model.specs.State.{is_below, segment_of, with_segment, without_segment}
use Rattle.fp_model.specs.Fsas.{Failure, fsas_in, list_on, first_failure}

-- what settling comes to: the new databases, or the place of the call and of the FSA that fail, and the bytes found
pub data Settled : Type 0 where
  Stands : List Msdb → Settled
  VerifyFails : ℕ → ℕ → List ℕ → Settled

-- what one call of the queue comes to: the new databases, or the FSA that fails and the bytes found
pub data Applied : Type 0 where
  Becomes : List Msdb → Applied
  Fails : ℕ → List ℕ → Applied

-- the failure where the segment is absent: the FSA 65,535, and nothing found
abbrev pub absent : Option Failure
absent = Some (record { place = 65535; found = [] })

module _ (defs : List MsdbDef) where
  -- the databases with one of them changed
  abbrev pub with_msdb : ℕ → (MsdbDef → Msdb → Msdb) → List Msdb → List Msdb
  with_msdb number change msdbs = elim (slice_get defs number) [
    | None ↦ msdbs
    | Some def ↦ elim (slice_get msdbs number) [
      | None ↦ msdbs
      | Some msdb ↦ slice_set msdbs number (change def msdb)
    ]
  ]

  -- how a field call fails on the segment of a key
  abbrev pub fld_on : MsdbDef → Msdb → List ℕ → List ℕ → Option Failure
  fld_on def msdb key fsas = elim (segment_of def msdb key) [
    | None ↦ absent
    | Some segment ↦ first_failure def 0 (fsas_in fsas) segment
  ]

  -- that failure in the databases as settled so far
  abbrev pub fld_failure : ℕ → List ℕ → List ℕ → List Msdb → Option Failure
  fld_failure number key fsas msdbs = elim (slice_get defs number) [
    | None ↦ absent
    | Some def ↦ elim (slice_get msdbs number) [ None ↦ absent | Some msdb ↦ fld_on def msdb key fsas ]
  ]

  -- the database with the changes of a field call made
  abbrev pub with_field_changes : List ℕ → List ℕ → MsdbDef → Msdb → Msdb
  with_field_changes key fsas def msdb = elim (segment_of def msdb key) [
    | None ↦ msdb
    | Some segment ↦ with_segment def (list_on def (fsas_in fsas) segment).segment msdb
  ]

  -- one call: a field call fails or makes its changes; the others put their segment
  abbrev pub applied : Deferred → List Msdb → Applied
  applied (Fld number key fsas) msdbs = elim (fld_failure number key fsas msdbs) [
    | None ↦ Becomes (with_msdb number (with_field_changes key fsas) msdbs)
    | Some failure ↦ Fails failure.place failure.found
  ]
  applied (Repl number bytes) msdbs = Becomes (with_msdb number (λ def msdb. with_segment def bytes msdb) msdbs)
  applied (Isrt number bytes) msdbs = Becomes (with_msdb number (λ def msdb. with_segment def bytes msdb) msdbs)
  applied (Dlet number key) msdbs = Becomes (with_msdb number (λ def msdb. without_segment def key msdb) msdbs)

  -- the queue whose first call has that place, each call on what those before it left
  unfoldable pub settle_from : ℕ → List Msdb → List Deferred → Settled
  settle_from place msdbs [] = Stands msdbs
  settle_from place msdbs (call ∷ calls) = elim (applied call msdbs) [
    | Becomes changed ↦ settle_from (place + 1) changed calls
    | Fails fsa found ↦ VerifyFails place fsa found
  ]

  -- the whole queue, in call order
  abbrev pub settle : List Msdb → List Deferred → Settled
  settle msdbs deferred = settle_from 0 msdbs deferred

-- ---- what a sync point locks

-- by number and then key; segments come before anchors
abbrev pub comes_before : Resource → Resource → Bool
comes_before (Segment m k) (Segment n l) = nat_lt m n || m == n && is_below k l
comes_before (Segment m k) (Anchor d a) = true
comes_before (Anchor d a) (Segment m k) = false
comes_before (Anchor d a) (Anchor e b) = nat_lt d e || d == e && nat_lt a b

-- with one more, at its place and once
abbrev pub with_resource : Resource → List Resource → List Resource
with_resource r [] = r ∷ []
with_resource r (s ∷ others) =
    if comes_before r s
    then r ∷ s ∷ others
    else (if comes_before s r then s ∷ with_resource r others else s ∷ others)

-- the segments of the queued field calls, ascending and each once
abbrev pub resources : List Deferred → List Resource
resources [] = []
resources (Fld number key fsas ∷ calls) = with_resource (Segment number key) (resources calls)
resources (Repl number bytes ∷ calls) = resources calls
resources (Isrt number bytes ∷ calls) = resources calls
resources (Dlet number key ∷ calls) = resources calls
