-- Who is busy and who asks, in a machine that turns led to.
use Rattle.std.specs.Prelude.{◌≡◌, ℕ, List, Some, sum_by, if◌then◌else◌}
use Rattle.fp_model.specs.declared.name.Name.{Name}
use Rattle.fp_model.specs.Rules.{Rules}
use Rattle.fp_model.specs.Waiting.{Lock}
use Rattle.fp_model.specs.Machine.{Transaction, Active, Machine, region_at, same_name}
use Rattle.fp_model.specs.Turns.{asks, wanted}

-- A request of an active region, for the lock that it wants now.
pub record IsCurrent (rules : Rules) (m : Machine) (request : Lock) : Type 0 where
  pub t : Transaction
  pub stands : region_at m request.region ≡ Some (Active t)
  pub wants : wanted rules m request.region t (asks rules t)
      ≡ Some (record { resource = request.resource; mode = request.mode })

-- how often a terminal is among others
abbrev pub times_in : List Name → Name → ℕ
times_in names name = sum_by (λ n. if same_name name n then 1 else 0) names
