-- An answered call leaves a workspace that fits.
use Rattle.std.proofs.Common.{ℕ, Option, ◌∙◌, ap}
use Rattle.fp_model.specs.declared.calls.Call.{Call}
use Rattle.fp_model.specs.declared.database.Db.{Db}
use Rattle.fp_model.specs.declared.definitions.Defs.{Defs}
use Rattle.fp_model.specs.Calls.{Target, database_of, msdb_at, reply_on, reply_to, target_of}
use Rattle.fp_model.specs.FitCalls.{FitsTarget, IsTied}
use Rattle.fp_model.specs.Shape.{IsDbOf}
use Rattle.fp_model.specs.WellFormed.{AreDefs}
use Rattle.fp_model.specs.Workspace.{Workspace}
use Rattle.state_laws.specs.Workspaces.{FitsWorkspace}
use Rattle.state_laws.proofs.DedbReplies.{dedb_keeps}
use Rattle.state_laws.proofs.MsdbReplies.{msdb_keeps}
use Rattle.state_laws.proofs.Targets.{IsTarget, is_dedb, is_msdb, is_nowhere, its_target}

module _ (defs : Defs) (now visible : Db) (shown : ℕ → Option ℕ) (own : Workspace) (c : Call) (are : AreDefs defs)
    (good : IsDbOf defs now) (f : FitsWorkspace defs now own) (tied : IsTied defs shown own) where
  target_keeps : (t : Target) → IsTarget defs (database_of c) t → FitsTarget t (shown (database_of c)) c
      → FitsWorkspace defs now (reply_on t now visible own c).own
  target_keeps t (is_msdb def at) fit =
      msdb_keeps defs now own f (database_of c) def at (msdb_at now (database_of c))
      (msdb_at visible (database_of c)) c fit
  target_keeps t (is_dedb def dedb at number) fit =
      dedb_keeps defs now are good own f dedb def at (shown (database_of c)) c fit
      (λ place held. ap shown number ∙ tied dedb def place at held)
  target_keeps t is_nowhere fit = absurd fit

  pub answer_keeps : FitsTarget (target_of defs (database_of c)) (shown (database_of c)) c
      → FitsWorkspace defs now (reply_to defs now visible own c).own
  unfolding reply_to
  answer_keeps fit = target_keeps (target_of defs (database_of c)) (its_target defs (database_of c)) fit
