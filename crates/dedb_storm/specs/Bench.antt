-- A transaction of the only region, with its locks.
use Rattle.std.specs.Prelude.{◌≡◌, List, length}
use Rattle.ci_locks.specs.Standing.{Shows}
use Rattle.ci_locks.specs.Table.{Row, standing}
use Rattle.fp_model.specs.declared.definitions.DedbDef.{DedbDef}
use Rattle.fp_model.specs.Waiting.{Lock}
use Rattle.dedb_calls.specs.Progress.{DedbProgress, IsDedbWorkOf, Knows}

pub record IsUnderWay (defs : List DedbDef) (work : DedbProgress) (locks : List Row) : Type 0 where
  pub going : IsDedbWorkOf defs work
  pub region : length locks ≡ 1
  pub all : List Lock
  pub requests : List Lock
  pub shows : Shows (standing locks) all requests
  pub known : Knows ((standing locks).holds 1) work.anchors
