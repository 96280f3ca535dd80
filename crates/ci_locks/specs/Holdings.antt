-- Who holds each resource. A region holds one Exclusive where it is among those that do, and Share where it is among
-- the others alone.
use Rattle.std.specs.Prelude.{◌≡◌, ℕ, List, Bool, Option, IsSome, Some, None, if◌then◌else◌, option_and_then, slice_get}
use Rattle.std.specs.BTreeMap.{BTreeMap, get, get_by}
use Rattle.std.specs.Cmp.Lexicographic.{slice_cmp}
use Rattle.std.specs.Ordering.{nat_cmp, ordering_then}
use Rattle.std.specs.declared.cmp.Ordering.{Ordering}
use Rattle.fp_model.specs.declared.calls.Mode.{Mode}
use Rattle.fp_model.specs.declared.calls.Mode.TheVariants.{Share, Exclusive}
use Rattle.fp_model.specs.declared.calls.Resource.{Resource}
use Rattle.fp_model.specs.declared.calls.Resource.TheVariants.{Segment, Anchor}
use Rattle.ci_locks.specs.Sets.{has}
use Rattle.ci_locks.specs.declared.holding.Holders.{Holders}
use Rattle.ci_locks.specs.declared.holding.Holdings.{Holdings}

abbrev pub mode_by : Bool → Bool → Option Mode
mode_by share exclusive = if exclusive then Some Exclusive else if share then Some Share else None

-- how a region holds it
abbrev pub mode_of : Holders → ℕ → Option Mode
mode_of holders region = mode_by (has holders.share.0 region) (has holders.exclusive.0 region)

-- ---- anchors by database and number, segments by database and key

-- by database, and then by number
abbrev pub anchor_cmp : ℕ × ℕ → ℕ × ℕ → Ordering
anchor_cmp a b = ordering_then (nat_cmp a.0 b.0) (nat_cmp a.1 b.1)

-- what stands at a key
abbrev pub at_key : {K V : Type 0} → (K → List ℕ) → List ℕ → BTreeMap K V → Option V
at_key bytes key table = get_by (λ other. slice_cmp nat_cmp key (bytes other)) table

-- and where there is a table of its database
abbrev pub key_holders : {K V : Type 0} → (K → List ℕ) → List ℕ → Option (BTreeMap K V) → Option V
key_holders bytes key None = None
key_holders bytes key (Some table) = at_key bytes key table

abbrev pub resource_holders : {K V : Type 0} → (K → List ℕ) → BTreeMap (ℕ × ℕ) V → List (BTreeMap K V) → Resource
    → Option V
resource_holders bytes anchors segments (Anchor dedb anchor) = get anchor_cmp anchors (dedb, anchor)
resource_holders bytes anchors segments (Segment msdb key) = key_holders bytes key (slice_get segments msdb)

-- who holds a resource, if anyone does
abbrev pub holders_in : Holdings → Resource → Option Holders
holders_in holdings resource = resource_holders (λ key. key.items) holdings.anchors holdings.segments.items resource

-- how a region holds a resource
abbrev pub held_by : Holdings → ℕ → Resource → Option Mode
held_by holdings region resource = option_and_then (λ holders. mode_of holders region) (holders_in holdings resource)

-- each resource that has an entry is held: no entry outlives its last holder
abbrev pub AreHeld : Holdings → Type 0
AreHeld holdings = (resource : Resource) (holders : Holders) → holders_in holdings resource ≡ Some holders
    → (region : ℕ) × IsSome (mode_of holders region)
