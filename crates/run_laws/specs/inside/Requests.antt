-- What bodies and proofs need of Requests, beside what contracts say.
use Rattle.std.specs.Prelude.{◌≡◌, Option}
use Rattle.std.specs.List.{Contains}
use Rattle.fp_model.specs.declared.database.Db.{Db}
use Rattle.fp_model.specs.declared.calls.Call.{Call}
use Rattle.fp_model.specs.declared.calls.Mode.{Mode}
use Rattle.fp_model.specs.declared.calls.Resource.{Resource}
use Rattle.fp_model.specs.declared.name.Name.{Name}
use Rattle.fp_model.specs.Workspace.{Workspace}
use Rattle.fp_model.specs.Rules.{Rules}
use Rattle.fp_model.specs.Waiting.{Lock}
use Rattle.fp_model.specs.Machine.{Machine}
use Rattle.serial_order.specs.Laws.{View, IsSame}
use Rattle.serial_order.specs.Kept.{count}
use Rattle.run_laws.specs.Requests.{IsCurrent, times_in}

-- What each turn keeps of terminals and requests.
pub record IsTidy (rules : Rules) (m : Machine) : Type 0 where
  -- A terminal is busy as often as it has a message queued, a transaction active or an entry unsealed.
  pub busy : (name : Name) → times_in m.busy name ≡ count rules name m
  -- each request that stands is by an active region, for the lock that it wants now
  pub current : (request : Lock) → Contains m.requests request → IsCurrent rules m request

-- What it needs of the rules: which lock a call wants depends on what is held alone.
abbrev pub WantsByHeld : Rules → View → Type 0
WantsByHeld rules view =
    (db db2 : Db) (own : Workspace) (held : Resource → Option Mode) (call : Call)
    → IsSame view held db db2
    → rules.need db2 own held call ≡ rules.need db own held call
