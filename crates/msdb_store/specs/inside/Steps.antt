-- Settling call by call, with the touched segments staged.
use Rattle.std.specs.Prelude.{◌≡◌, ⊤, ℕ, List, length, Result, Ok, Err}
use Rattle.std.specs.List.{AllZip, AllByRecursion}
use Rattle.fld_calls.specs.declared.arguments.SettleFault.{SettleFault}
use Rattle.fld_calls.specs.declared.arguments.SettleFault.TheVariants as fault
use Rattle.fp_model.specs.CheckpointText.{IsMsdbOf}
use Rattle.fld_calls.specs.Settling.{IsSettled}
use Rattle.fp_model.specs.Fsas.{Fsa}
use Rattle.fp_model.specs.FitCalls.{IsFitDeferred}
use Rattle.fp_model.specs.Items.{with_item}
use Rattle.fp_model.specs.Settle.{Becomes, Fails, applied}
use Rattle.fp_model.specs.WellFormed.{IsMsdbDef}
use Rattle.fp_model.specs.declared.calls.Deferred.{Deferred}
use Rattle.fp_model.specs.declared.database.Msdb.{Msdb}
use Rattle.fp_model.specs.declared.definitions.MsdbDef.{MsdbDef}
use Rattle.msdb_store.specs.Settling.{named}
use Rattle.msdb_store.specs.Store.{IsFitSegment, IsOf, Stored, segment_in}
use Rattle.msdb_store.specs.Touches.{Touch}
use Rattle.msdb_store.specs.inside.Touches.{item_of, put_touch, seen}

-- the staged segments make these databases of those of the store
pub record Stages (defs : List MsdbDef) (msdbs : List Msdb) (ts : List Touch) (now : List Msdb) : Type 0 where
  pub of : AllZip IsMsdbOf defs now
  pub fit : AllByRecursion (λ t. IsFitSegment defs (item_of t)) ts
  pub agree : (number : ℕ) (key : List ℕ) → segment_in defs now number key ≡ seen ts (segment_in defs msdbs number key)
      number key

-- a call comes to be settled on these databases
pub record AtCall (defs : List MsdbDef) (store : Stored) (ts : List Touch) (now : List Msdb) (call : Deferred) : Type 0
  where
    pub of : IsOf defs store
    pub defined : AllByRecursion IsMsdbDef defs
    pub stages : Stages defs store.msdbs ts now
    pub fit : IsFitDeferred defs call

-- the bytes that a call gives its segment, or how it fails
abbrev pub IsGiven : List MsdbDef → List Msdb → Deferred → Result (List ℕ) SettleFault → Type 0
IsGiven defs now call (Ok bytes) =
    let t : Touch = record { number = (named defs call).0; key = (named defs call).1; bytes = bytes } in
    IsFitSegment defs (item_of t) × (applied defs call now ≡ Becomes (with_item defs now (item_of t)))
IsGiven defs now call (Err (fault.Bad place found)) = applied defs call now ≡ Fails place found
IsGiven defs now call (Err fault.Memory) = ⊤

-- they are staged
abbrev pub IsStep : List MsdbDef → List Msdb → Deferred → List Touch → List Touch → Result ⊤ SettleFault → Type 0
IsStep defs now call old new (Ok done) =
    (bytes : List ℕ) × IsGiven defs now call (Ok bytes)
    × (new ≡ put_touch (record { number = (named defs call).0; key = (named defs call).1; bytes = bytes }) old)
IsStep defs now call old new (Err (fault.Bad place found)) = applied defs call now ≡ Fails place found
IsStep defs now call old new (Err fault.Memory) = ⊤

-- what settling gives, with the new bytes where none fails
abbrev pub given_as : Result ⊤ SettleFault → List ℕ → Result (List ℕ) SettleFault
given_as (Ok done) new = Ok new
given_as (Err why) new = Err why

-- a segment with the changes of a list of arguments, or how the list fails; the length stays
abbrev pub IsChanged : MsdbDef → List Fsa → List ℕ → Result (List ℕ) SettleFault → Type 0
IsChanged def fsas segment (Ok new) = IsSettled def fsas segment (Ok tt) new × (length new ≡ length segment)
IsChanged def fsas segment (Err why) = IsSettled def fsas segment (Err why) segment
