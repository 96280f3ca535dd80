-- How a draft's transaction ends, by what its queue settles to.
use Rattle.std.proofs.Common.{◌≡◌, refl, ◌∙◌, ap, ℕ, List}
use Rattle.std.specs.Prelude.{Result, Ok, Err}
use Rattle.std.specs.Result.{IsErrAnd}
use Rattle.fp_model.specs.Commit.{Settlement, settlement}
use Rattle.fp_model.specs.Serial.{settled_as}
use Rattle.fp_model.specs.Settle.{Settled, Stands, VerifyFails, settle}
use Rattle.fp_model.specs.Workspace.{Workspace}
use Rattle.fp_model.specs.declared.calls.Deferred.{Deferred}
use Rattle.fp_model.specs.declared.database.Db.{Db}
use Rattle.fp_model.specs.declared.database.Msdb.{Msdb}
use Rattle.fp_model.specs.declared.definitions.Defs.{Defs}
use Rattle.fp_model.specs.declared.log.Entry.{Entry}
use Rattle.fp_model.specs.declared.log.Outcome.TheVariants as outcome
use Rattle.msdb_store.specs.Store.{Stored}
use Rattle.sync_point.specs.Drafts.{IsDraftOf, IsEnd}
use Rattle.sync_point.specs.declared.committing.Cause.{Cause}
use Rattle.sync_point.specs.declared.committing.Cause.TheVariants as cause
use Rattle.sync_point.specs.declared.committing.Draft.{Draft}
use Rattle.sync_point.proofs.Settlements.{settlement_fails, settlement_is}

-- an answer that is this cause
pub is_cause : (r : Result Entry Cause) (why : Cause) → IsErrAnd r (λ e. e ≡ why) → r ≡ Err why
is_cause (Ok entry) why h = absurd h
is_cause (Err e) why h = ap (λ (x : Cause). let y : Result Entry Cause = Err x in y) h

module _ (defs : Defs) (now : Db) (own : Workspace) (store : Stored) (draft : Draft)
    (is : IsDraftOf defs now own store draft) where
  -- the queue settles on the state as on the store
  pub on_state : (s : Settled) → settle defs.msdbs store.msdbs draft.deferred ≡ s
      → settle defs.msdbs now.msdbs own.deferred ≡ s
  on_state s e =
      ap (λ (msdbs : List Msdb). settle defs.msdbs msdbs own.deferred) is.msdbs
      ∙ ap (λ (queue : List Deferred). settle defs.msdbs store.msdbs queue) is.deferred
      ∙ e

  pub done_end : (msdbs : List Msdb) (entry : Entry) → settle defs.msdbs store.msdbs draft.deferred ≡ Stands msdbs
      → entry.outcome ≡ outcome.Done → entry.reply ≡ draft.reply
      → IsEnd now msdbs (Ok entry) (settled_as now draft.reply (settlement defs now own))
  done_end msdbs entry e done reply =
      let commits = settlement_is defs is.no_dedbs now own is.changes is.inserts msdbs (on_state (Stands msdbs) e) in
      rw (done, reply) (ap (λ (s : Settlement). settled_as now draft.reply s) commits)

  pub refused_end : (msdbs : List Msdb) (why : Cause)
      → ((call fsa : ℕ) (found : List ℕ) → why ≡ cause.Verify call fsa found
      → settle defs.msdbs store.msdbs draft.deferred ≡ VerifyFails call fsa found)
      → IsEnd now msdbs (Err why) (settled_as now draft.reply (settlement defs now own))
  refused_end msdbs (cause.Verify call fsa found) h =
      let fails = settlement_fails defs is.no_dedbs now own is.changes is.inserts call fsa found
      (on_state (VerifyFails call fsa found) (h call fsa found refl)) in
      ap (λ (s : Settlement). settled_as now draft.reply s) fails
  refused_end msdbs cause.Memory h = tt
