-- What bodies and proofs need of Standing, beside what contracts say.
use Rattle.std.specs.Prelude.{◌≡◌, ℕ, List, filter, Bool, not, ◌&&◌, ◌==◌, Option, Some, None, if◌then◌else◌}
use Rattle.fp_model.specs.declared.calls.Mode.{Mode}
use Rattle.fp_model.specs.declared.calls.Mode.TheVariants.{Share, Exclusive}
use Rattle.fp_model.specs.declared.calls.Resource.{Resource}
use Rattle.fp_model.specs.State.{numbers_up}
use Rattle.fp_model.specs.Waiting.{Lock, same_resource}
use Rattle.ci_locks.specs.Standing.{Standing, is_in_conflict}

-- whether a region stands in the way of a request
abbrev pub in_way : Standing → Lock → ℕ → Bool
in_way s wanted region = not (region == wanted.region) && is_in_conflict (s.holds region wanted.resource) wanted.mode

-- the regions that stand in the way of a request, ascending
abbrev pub blocking : Standing → Lock → List ℕ
blocking s wanted = filter (in_way s wanted) (numbers_up s.regions 1)

-- the mode after a request for one: Exclusive stays
abbrev pub raised : Option Mode → Mode → Mode
raised None mode = mode
raised (Some Share) mode = mode
raised (Some Exclusive) mode = Exclusive

-- with another request of a region, or none
abbrev pub asking : Standing → ℕ → Option Lock → Standing
asking s region request = record s { asks = λ other. if other == region then request else s.asks other }

pub record Asks (s t : Standing) (region : ℕ) (request : Option Lock) : Type 0 where
  pub regions : t.regions ≡ s.regions
  pub holds : (other : ℕ) (resource : Resource) → t.holds other resource ≡ s.holds other resource
  pub asks : (other : ℕ) → t.asks other ≡ (if other == region then request else s.asks other)

-- with a lock gained, and no request of its region
pub record Gains (s t : Standing) (wanted : Lock) : Type 0 where
  pub regions : t.regions ≡ s.regions
  pub holds : (region : ℕ) (resource : Resource) → t.holds region resource ≡
      (if region == wanted.region && same_resource wanted.resource resource then Some
      (raised (s.holds wanted.region wanted.resource) wanted.mode) else s.holds region resource)
  pub asks : (region : ℕ) → t.asks region ≡ (if region == wanted.region then None else s.asks region)

-- with nothing of a region
pub record Frees (s t : Standing) (region : ℕ) : Type 0 where
  pub regions : t.regions ≡ s.regions
  pub holds : (other : ℕ) (resource : Resource) → t.holds other resource ≡
      (if other == region then None else s.holds other resource)
  pub asks : (other : ℕ) → t.asks other ≡ (if other == region then None else s.asks other)
