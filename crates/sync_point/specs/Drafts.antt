-- What the commit step makes of a draft.
use Rattle.std.specs.Prelude.{◌≡◌, ⊤, List, [], Result, Ok, Err}
use Rattle.fp_model.specs.Serial.{Ending, refused_as}
use Rattle.fp_model.specs.Workspace.{Workspace}
use Rattle.fp_model.specs.declared.database.Db.{Db}
use Rattle.fp_model.specs.declared.database.Msdb.{Msdb}
use Rattle.fp_model.specs.declared.definitions.Defs.{Defs}
use Rattle.fp_model.specs.declared.log.Entry.{Entry}
use Rattle.fp_model.specs.declared.log.Item.{Item}
use Rattle.fp_model.specs.declared.log.Outcome.TheVariants as outcome
use Rattle.msdb_store.specs.Settling.{CanSettle}
use Rattle.msdb_store.specs.Store.{Stored}
use Rattle.sync_point.specs.declared.committing.Cause.{Cause}
use Rattle.sync_point.specs.declared.committing.Cause.TheVariants as cause
use Rattle.sync_point.specs.declared.committing.Draft.{Draft}

-- The store has the databases of the state, and the draft the queue of the workspace, which has nothing else to settle.
pub record IsDraftOf (defs : Defs) (now : Db) (own : Workspace) (store : Stored) (draft : Draft) : Type 0 where
  pub able : CanSettle defs.msdbs store draft.deferred
  pub msdbs : now.msdbs ≡ store.msdbs
  pub deferred : own.deferred ≡ draft.deferred
  pub no_dedbs : defs.dedbs ≡ []
  pub changes : own.changes ≡ []
  pub inserts : own.inserts ≡ []

-- the entry of a draft that is done
abbrev pub done_entry : Draft → List Item → Entry
done_entry draft items = record {
  from = draft.from;
  outcome = outcome.Done;
  line = draft.line;
  reply = draft.reply;
  notes = draft.notes;
  items = items;
}

-- How a transaction ends on the state now, by an answer: as its entry says, with these databases behind it; or refused
-- for the verify that fails. Want of memory says nothing.
abbrev pub IsEnd : Db → List Msdb → Result Entry Cause → Ending → Type 0
IsEnd now msdbs (Ok entry) ending =
    ending ≡ record { outcome = entry.outcome; reply = entry.reply; next = record now { msdbs = msdbs } }
IsEnd now msdbs (Err (cause.Verify call fsa found)) ending = ending ≡ refused_as (outcome.Verify call fsa found) now
IsEnd now msdbs (Err cause.Memory) ending = ⊤
