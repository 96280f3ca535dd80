-- What bodies and proofs need of Queues, beside what contracts say.
use Rattle.std.specs.Prelude.{◌≡◌, ⊤, ℕ, ◌<◌, List, [], map, Bool, true, false, ◌&&◌, ◌==◌, Result, Ok, Err, slice_get}
use Rattle.std.specs.List.{AllByRecursion, list_any}
use Rattle.std.specs.Option.{option_map_or}
use Rattle.fld_calls.specs.declared.arguments.SettleFault.{SettleFault}
use Rattle.fld_calls.specs.declared.arguments.SettleFault.TheVariants as fault
use Rattle.fp_model.specs.Settle.{Becomes, Fails, applied}
use Rattle.fp_model.specs.State.{key_of}
use Rattle.fp_model.specs.Texts.{same_text}
use Rattle.fp_model.specs.declared.calls.Deferred.{Deferred}
use Rattle.fp_model.specs.declared.calls.Deferred.TheVariants as deferred
use Rattle.fp_model.specs.declared.database.Msdb.{Msdb}
use Rattle.fp_model.specs.declared.definitions.MsdbDef.{MsdbDef}
use Rattle.past_segments.specs.Pasts.{ArePastsOf, databases_at}
use Rattle.past_segments.specs.Times.{IsSettledBy, Past, is_late}
use Rattle.past_settling.specs.declared.fault.QueueFault.{QueueFault}
use Rattle.past_settling.specs.declared.fault.QueueFault.TheVariants as queue

-- ---- what calls name

-- the key of a segment of a database
abbrev pub key_in : List MsdbDef → ℕ → List ℕ → List ℕ
key_in defs number bytes = option_map_or (λ (def : MsdbDef). key_of def.fields bytes) (slice_get defs number) []

-- whether this is that key of that database
abbrev pub is_it : ℕ → List ℕ → ℕ → List ℕ → Bool
is_it number key n k = number == n && same_text key k

-- whether a call names the segment of a key
abbrev pub names : List MsdbDef → Deferred → ℕ → List ℕ → Bool
names defs (deferred.Fld number key fsas) n k = is_it number key n k
names defs (deferred.Repl number bytes) n k = is_it number (key_in defs number bytes) n k
names defs (deferred.Isrt number bytes) n k = is_it number (key_in defs number bytes) n k
names defs (deferred.Dlet number key) n k = is_it number key n k

-- whether one of a queue does
abbrev pub any_names : List MsdbDef → List Deferred → ℕ → List ℕ → Bool
any_names defs calls n k = list_any (λ call. names defs call n k) calls

-- ---- what is left

-- whether a key has a value from a place on
abbrev pub late_at : ℕ → List Past → ℕ → List ℕ → Bool
late_at place pasts n k = option_map_or (λ past. is_late place past k) (slice_get pasts n) false

-- Changes from a place on leave this: the databases are those of their definitions, no value stands from behind the place,
-- before it all is as it was, and where a key isn't named it has a later value only if it had.
pub record LeavesAll (defs : List MsdbDef) (place : ℕ) (named : ℕ → List ℕ → Bool) (old new : List Past) : Type 0 where
  pub are : ArePastsOf defs new
  pub settled : AllByRecursion (IsSettledBy place) new
  pub before : (p : ℕ) → p < place → databases_at p new ≡ databases_at p old
  pub late : (n : ℕ) (k : List ℕ) → named n k ≡ false → late_at place new n k ≡ late_at place old n k

-- ---- what calls come to

-- a call becomes these databases, or fails so; want of memory says nothing
abbrev pub IsCall : List MsdbDef → Deferred → List Msdb → Result ⊤ SettleFault → List Msdb → Type 0
IsCall defs call old (Ok done) new = applied defs call old ≡ Becomes new
IsCall defs call old (Err (fault.Bad place found)) new = applied defs call old ≡ Fails place found
IsCall defs call old (Err fault.Memory) new = ⊤

-- how the call of this place in the queue fails
abbrev pub fault_at : ℕ → SettleFault → QueueFault
fault_at call (fault.Bad place found) = queue.Verify call place found
fault_at call fault.Memory = queue.Memory

-- ---- taken back

-- What the named keys were given from a place on is taken back: before it all is as it was, they have no later value, and
-- the others have one only if they had.
pub record TakesBack (place : ℕ) (named : ℕ → List ℕ → Bool) (old new : List Past) : Type 0 where
  pub before : (p : ℕ) → p < place → databases_at p new ≡ databases_at p old
  pub gone : (n : ℕ) (k : List ℕ) → named n k ≡ true → late_at place new n k ≡ false
  pub others : (n : ℕ) (k : List ℕ) → named n k ≡ false → late_at place new n k ≡ late_at place old n k
  pub counts : map (λ (past : Past). past.count) new ≡ map (λ (past : Past). past.count) old
