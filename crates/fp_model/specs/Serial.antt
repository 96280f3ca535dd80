-- One transaction alone.
use Rattle.std.specs.Prelude.{ℕ, zero, suc, List, [], ◌∷◌, ◌++◌, Bool, true, false, unwrap_or, slice_get}
use Rattle.fp_model.specs.declared.database.Db.{Db}
use Rattle.fp_model.specs.declared.calls.Answer.{Answer}
use Rattle.fp_model.specs.declared.calls.Call.{Call}
use Rattle.fp_model.specs.declared.calls.Message.{Message}
use Rattle.fp_model.specs.declared.log.Outcome.{Outcome}
use Rattle.fp_model.specs.declared.log.Outcome.TheVariants.{Done, Verify, Roll, SeqFull}
use Rattle.fp_model.specs.Workspace.{Workspace}
use Rattle.fp_model.specs.Answers.{Replied}
use Rattle.fp_model.specs.Commit.{Settlement, Commits, FailsVerify, FillsPart}
use Rattle.fp_model.specs.Asking.{Ask, Asks, Replies, Rolls}
use Rattle.fp_model.specs.Rules.{Rules}

-- ---- how a transaction ends

-- by which outcome, with which reply, and the state behind it
pub record Ending : Type 0 where
  pub outcome : Outcome
  pub reply : List ℕ
  pub next : Db

-- refused: the state stays, and there is no reply
abbrev pub refused_as : Outcome → Db → Ending
refused_as outcome now = record { outcome = outcome; reply = []; next = now }

-- what the settlement of a transaction with this reply makes of the state now
abbrev pub settled_as : Db → List ℕ → Settlement → Ending
settled_as now reply (Commits next) = record { outcome = Done; reply = reply; next = next }
settled_as now reply (FailsVerify call fsa found) = refused_as (Verify call fsa found) now
settled_as now reply (FillsPart set begin end n) = refused_as (SeqFull set begin end n) now

-- ---- run alone

-- What running alone comes to. Stuck: the notes aren't those of its looks, or it makes more calls than its script can.
pub data Alone : Type 0 where
  Ends : Ending → Alone
  Stuck : Alone

-- The point that a transaction has come to: the answers so far, oldest first, and its workspace.
pub record Point : Type 0 where
  pub answers : List Answer
  pub own : Workspace

-- the state at a place, of states oldest first; a note of an entry lies within them
abbrev pub state_at : Db → List Db → ℕ → Db
state_at start states place = unwrap_or (slice_get states place) start

-- with one answer more
abbrev pub with_reply : Point → Replied → Point
with_reply point r = record { answers = point.answers ++ r.answer ∷ []; own = r.own }

-- the point behind a call, answered on a state, with unheld looks on a second one
abbrev pub after_call : Rules → Db → Db → Point → Call → Point
after_call rules now visible point call = with_reply point (rules.reply_to now visible point.own call)

-- as a transaction begins
abbrev pub begun : Rules → Point
begun rules = record { answers = []; own = rules.fresh }

-- Every note has to be used.
abbrev pub with_all : List ℕ → Ending → Alone
with_all [] ending = Ends ending
with_all (note ∷ notes) ending = Stuck

module _ (rules : Rules) (now : Db) (states : List Db) (message : Message) where
  -- a call; its unheld look, if it makes one, shows the state of the first note that is left
  abbrev pub called : Bool → Point → Call → List ℕ → (Point → List ℕ → Alone) → Alone
  called true point call [] goes_on = Stuck
  called true point call (note ∷ notes) goes_on =
      goes_on (after_call rules now (state_at rules.start states note) point call) notes
  called false point call notes goes_on = goes_on (after_call rules now now point call) notes

  abbrev pub asked : Ask → Point → List ℕ → (Point → List ℕ → Alone) → Alone
  asked (Asks call) point notes goes_on = called (rules.looks point.own call) point call notes goes_on
  asked (Replies reply) point notes goes_on = with_all notes (settled_as now reply (rules.settle now point.own))
  asked (Rolls code) point notes goes_on = with_all notes (refused_as (Roll code) now)

  -- how it ends from here with these notes left and fewer than n calls
  abbrev pub goes : ℕ → Point → List ℕ → Alone
  goes zero point notes = Stuck
  goes (suc n) point notes = asked (rules.ask message point.answers) point notes (goes n)

-- The message's script, run alone on the state now, its unheld looks on the states that it noted.
abbrev pub serial_run : Rules → Db → List Db → Message → List ℕ → Alone
serial_run rules now states message notes =
    goes rules now states message (suc (rules.budget message)) (begun rules) notes
