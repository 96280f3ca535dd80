-- How one entry is judged.
use Rattle.std.specs.Prelude.{◌≡◌, ⊤, ℕ, ◌+◌, ◌<◌, ◌≤◌, List, length, Bool, true, false, Option, Some, None, slice_get}
use Rattle.fp_model.specs.declared.database.Db.{Db}
use Rattle.fp_model.specs.declared.log.Outcome.{Outcome}
use Rattle.fp_model.specs.declared.scripts.Script.{Script}
use Rattle.fp_model.specs.Asking.{script_of}
use Rattle.fp_model.specs.History as history
use Rattle.fp_model.specs.History.{History, place_of, states_of}
use Rattle.fp_model.specs.Product.{rules_of}
use Rattle.fp_model.specs.Rules.{Rules}
use Rattle.past_replay.specs.States.{AreStatesOf}
use Rattle.past_segments.specs.Pasts.{databases_at}
use Rattle.fp_audit.specs.Numbers.{KnowsLines}
use Rattle.fp_audit.specs.declared.requests.Request.{Request}
use Rattle.fp_audit.specs.declared.requests.Request.TheVariants as request
use Rattle.fp_audit.specs.declared.so_far.SoFar.{SoFar}

abbrev pub rules_by : SoFar → Rules
rules_by it = rules_of it.defs.now it.scripts.now.scripts

-- It is what the entries of a history leave.
pub record Stands (it : SoFar) (h : History) : Type 0 where
  pub lines : KnowsLines it.requests.format it.requests.lasts.entries h
  pub place : it.place ≡ place_of h
  pub states : AreStatesOf it.pasts.items it.anchors it.place h.now (states_of h)

-- ---- requests

-- what a line asks for is this
abbrev pub IsRequest : Request → history.Request → Type 0
IsRequest (request.Run message script) asked = asked ≡ history.Accepts message
IsRequest (request.Refused outcome) asked = asked ≡ history.Refuses outcome

-- the script of that number is that which the message names
abbrev pub NamesScript : List Script → Request → Type 0
NamesScript scripts (request.Run message script) =
    (script < length scripts) × (slice_get scripts script ≡ script_of scripts message.tran)
NamesScript scripts (request.Refused outcome) = ⊤

-- what a message asks for that is refused by its number, or isn't
abbrev pub refused_or : Option Outcome → history.Request → history.Request
refused_or None otherwise = otherwise
refused_or (Some outcome) otherwise = history.Refuses outcome

-- ---- one entry

-- What judging an entry keeps: all but the databases, and those of main storage up to the place.
pub record Keeps (old new : SoFar) : Type 0 where
  pub requests : new.requests ≡ old.requests
  pub place : new.place ≡ old.place
  pub defs : new.defs ≡ old.defs
  pub scripts : new.scripts ≡ old.scripts
  pub before : (p : ℕ) → p ≤ old.place → databases_at p new.pasts.items ≡ databases_at p old.pasts.items

-- whether an entry may lead on, and then to this state
abbrev pub Finds : (Db → Type 0) → Db → Bool → Type 0
Finds LeadsTo next true = LeadsTo next
Finds LeadsTo next false = (other : Db) → ¬ (LeadsTo other)
