-- Settling: which queues may be settled, what is staged of one, and what an answer says.
use Rattle.std.specs.Prelude.{◌≡◌, ⊤, ℕ, List, [], ◌∷◌, map, count_by, Contains, Bool, true, false, ◌&&◌, is_none, IsTrue, Result, Ok, Err, None, Some, slice_get}
use Rattle.std.specs.List.{AllByRecursion}
use Rattle.fp_model.specs.FitCalls.{IsFitDeferred}
use Rattle.fp_model.specs.Items.{with_items}
use Rattle.fp_model.specs.ItemTargets.{is_ascending}
use Rattle.fp_model.specs.Settle.{Settled, Stands, VerifyFails}
use Rattle.fp_model.specs.State.{key_of}
use Rattle.fp_model.specs.WellFormed.{IsMsdbDef}
use Rattle.fp_model.specs.declared.calls.Deferred.{Deferred}
use Rattle.fp_model.specs.declared.calls.Deferred.TheVariants.{Fld, Repl, Isrt, Dlet}
use Rattle.fp_model.specs.declared.database.Msdb.{Msdb}
use Rattle.fp_model.specs.declared.definitions.MsdbDef.{MsdbDef}
use Rattle.fp_model.specs.declared.log.Item.{Item}
use Rattle.fp_model.specs.declared.log.Item.TheVariants.{Segment, Image, Range}
use Rattle.msdb_store.specs.declared.staged.VerifyFault.{VerifyFault}
use Rattle.msdb_store.specs.declared.staged.VerifyFault.TheVariants as fault
use Rattle.msdb_store.specs.Store.{IsFitSegment, IsOf, Stored, segment_in}
use Rattle.msdb_store.specs.Changes.{Changes}

-- a queue may be settled: the store is of these definitions, which keep their rules, and each call fits them
pub record CanSettle (defs : List MsdbDef) (store : Stored) (deferred : List Deferred) : Type 0 where
  pub of : IsOf defs store
  pub defined : AllByRecursion IsMsdbDef defs
  pub fit : AllByRecursion (IsFitDeferred defs) deferred

-- ---- what is staged

-- an item of a segment
abbrev pub IsSegmentItem : Item → Type 0
IsSegmentItem (Segment number key bytes) = ⊤
IsSegmentItem (Image set ci bytes) = ⊥
IsSegmentItem (Range set ci at bytes) = ⊥

-- whether there are bytes
abbrev pub has_bytes : List ℕ → Bool
has_bytes [] = false
has_bytes (b ∷ bytes) = true

-- whether an item adds a segment to the databases: it has bytes, and they lack its key
abbrev pub adds : List MsdbDef → List Msdb → Item → Bool
adds defs msdbs (Segment number key bytes) = has_bytes bytes && is_none (segment_in defs msdbs number key)
adds defs msdbs (Image set ci bytes) = false
adds defs msdbs (Range set ci at bytes) = false

-- Changes that these databases may be given: items of segments, ascending, and the number of segments that they add.
pub record IsStaged (defs : List MsdbDef) (msdbs : List Msdb) (staged : Changes) : Type 0 where
  pub segments : AllByRecursion IsSegmentItem staged.items
  pub fit : AllByRecursion (IsFitSegment defs) staged.items
  pub in_order : IsTrue (is_ascending staged.items)
  pub inserts : staged.inserts ≡ count_by (adds defs msdbs) staged.items

-- ---- the keys that a queue names

-- the key of a segment of a database
abbrev pub key_in : List MsdbDef → ℕ → List ℕ → List ℕ
key_in defs number bytes = elim (slice_get defs number) [ None ↦ [] | Some def ↦ key_of def.fields bytes ]

-- the database and the key that a call names
abbrev pub named : List MsdbDef → Deferred → ℕ × List ℕ
named defs (Fld number key fsas) = (number, key)
named defs (Repl number bytes) = (number, key_in defs number bytes)
named defs (Isrt number bytes) = (number, key_in defs number bytes)
named defs (Dlet number key) = (number, key)

-- a call of the queue names the key
abbrev pub IsNamed : List MsdbDef → List Deferred → ℕ → List ℕ → Type 0
IsNamed defs deferred number key = Contains (map (named defs) deferred) (number, key)

-- there is an item of the key
abbrev pub HasItem : List Item → ℕ → List ℕ → Type 0
HasItem items number key = (bytes : List ℕ) × Contains items (Segment number key bytes)

-- ---- answers

-- Ok and Verify say what the queue comes to; want of memory says nothing.
abbrev pub IsAnswer : List MsdbDef → List Msdb → Result Changes VerifyFault → Settled → Type 0
IsAnswer defs msdbs (Ok staged) settled = settled ≡ Stands (with_items defs msdbs staged.items)
IsAnswer defs msdbs (Err (fault.Verify call fsa found)) settled = settled ≡ VerifyFails call fsa found
IsAnswer defs msdbs (Err fault.Memory) settled = ⊤
