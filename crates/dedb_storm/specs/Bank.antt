-- Transactions of two regions on the sample's databases, and the anchors as those before them left them.
use Rattle.std.specs.Prelude.{◌≡◌, ℕ, ◌≤◌, List, [], true, false, ◌==◌, Some, length, slice_get}
use Rattle.std.specs.List.{AllByRecursion}
use Rattle.ci_locks.specs.Standing.{Shows}
use Rattle.ci_locks.specs.Table.{Row, standing}
use Rattle.dedb_calls.specs.Progress.{Knows}
use Rattle.dli_calls.specs.Progress.{IsWorkOf, Progress}
use Rattle.dli_tree.specs.InOrder.{any_ends}
use Rattle.fp_exits.specs.Kinds.{Kinds, has_kind}
use Rattle.fp_model.specs.Shape.{is_anchor}
use Rattle.fp_model.specs.declared.calls.Resource.{Resource}
use Rattle.fp_model.specs.Waiting.{Lock}
use Rattle.fp_model.specs.WellFormed.{IsDedbDef, IsMsdbDef}
use Rattle.fp_model.specs.declared.calls.AnchorChange.{AnchorChange}
use Rattle.fp_model.specs.declared.database.Root.{Root}
use Rattle.fp_model.specs.declared.definitions.DedbDef.{DedbDef}
use Rattle.fp_model.specs.declared.definitions.Defs.{Defs}
use Rattle.msdb_store.specs.Store.{IsOf, Stored}

-- definitions that were read, their exits, and their store
pub record IsBank (defs : Defs) (store : Stored) (kinds : Kinds) : Type 0 where
  pub msdbs : AllByRecursion IsMsdbDef defs.msdbs
  pub dedbs : AllByRecursion IsDedbDef defs.dedbs
  pub exits : AllByRecursion (λ dedb. has_kind kinds.spreaders dedb.randomizer ≡ true) defs.dedbs
  pub stored : IsOf defs.msdbs store

-- the roots of a changed anchor have its shape
abbrev pub IsKept : List DedbDef → AnchorChange → Type 0
IsKept dedbs change =
    (def : DedbDef) → slice_get dedbs change.dedb ≡ Some def → is_anchor def change.anchor any_ends change.roots ≡ true

abbrev pub AreKept : List DedbDef → List AnchorChange → Type 0
AreKept dedbs changes = AllByRecursion (IsKept dedbs) changes

-- the roots of an anchor of the first database have its shape
abbrev pub AreRootsAt : List DedbDef → ℕ → List Root → Type 0
AreRootsAt dedbs anchor roots =
    (def : DedbDef) → slice_get dedbs 0 ≡ Some def → is_anchor def anchor any_ends roots ≡ true

-- the locks of two regions as some lists say them
pub record AreLocked (locks : List Row) : Type 0 where
  pub regions : length locks ≡ 2
  pub all : List Lock
  pub requests : List Lock
  pub shows : Shows (standing locks) all requests

-- a region, as a transaction of it begins
pub record StartsAt (region : ℕ) (locks : List Row) : Type 0 where
  pub locked : AreLocked locks
  pub known : Knows ((standing locks).holds region) []

-- none is held, so each region may begin
pub record AreFree (locks : List Row) : Type 0 where
  pub locked : AreLocked locks
  pub known : (region : ℕ) → Knows ((standing locks).holds region) []

-- a transaction of a region, behind some of its calls
pub record IsGoing (defs : Defs) (region : ℕ) (work : Progress) (locks : List Row) : Type 0 where
  pub going : IsWorkOf defs work
  pub some : 1 ≤ region
  pub within : region ≤ 2
  pub locked : AreLocked locks
  pub known : Knows ((standing locks).holds region) work.anchors

-- the other regions hold what they held
abbrev pub KeepsOthers : ℕ → List Row → List Row → Type 0
KeepsOthers region old new =
    (other : ℕ) (resource : Resource) → (other == region) ≡ false
    → (standing new).holds other resource ≡ (standing old).holds other resource

-- a transaction of each region, over the same locks
pub record AreBothGoing (defs : Defs) (first second : Progress) (locks : List Row) : Type 0 where
  pub one : IsGoing defs 1 first locks
  pub two : IsGoing defs 2 second locks
