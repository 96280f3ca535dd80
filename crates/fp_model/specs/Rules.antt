-- What the order of transactions rests on: what lines ask for, what programs ask, what calls are answered, what
-- settling comes to. Serial runs, histories and turns are stated over these functions, whatever they are.
use Rattle.std.specs.Prelude.{ℕ, List, Option, Bool}
use Rattle.fp_model.specs.declared.database.Db.{Db}
use Rattle.fp_model.specs.declared.calls.Answer.{Answer}
use Rattle.fp_model.specs.declared.calls.Call.{Call}
use Rattle.fp_model.specs.declared.calls.Message.{Message}
use Rattle.fp_model.specs.declared.calls.Mode.{Mode}
use Rattle.fp_model.specs.declared.calls.Resource.{Resource}
use Rattle.fp_model.specs.declared.name.Name.{Name}
use Rattle.fp_model.specs.declared.log.Entry.{Entry}
use Rattle.fp_model.specs.Workspace.{Workspace}
use Rattle.fp_model.specs.Answers.{Replied, Needed}
use Rattle.fp_model.specs.Commit.{Settlement}
use Rattle.fp_model.specs.History.{History, Request}
use Rattle.fp_model.specs.Asking.{Ask}

pub record Rules : Type 0 where
  -- the state before any transaction, and a workspace as a transaction begins
  pub start : Db
  pub fresh : Workspace
  -- what a line asks for behind a history
  pub request_of : History → List ℕ → Request
  -- the terminal of a line, if it can be read
  pub terminal_of : List ℕ → Option Name
  -- the reply line of an entry
  pub line_of : Entry → List ℕ
  -- what the message's script asks after these answers
  pub ask : Message → List Answer → Ask
  -- its script makes at most so many calls
  pub budget : Message → ℕ
  -- the answer to a call on a state, with unheld looks on a second one
  pub reply_to : Db → Db → Workspace → Call → Replied
  -- whether the call makes an unheld look
  pub looks : Workspace → Call → Bool
  -- the first lock that the call needs and doesn't have
  pub need : Db → Workspace → (Resource → Option Mode) → Call → Option Needed
  -- the first segment that the sync point needs Exclusive and doesn't have
  pub lack : Workspace → (Resource → Option Mode) → Option Resource
  -- what the sync point comes to
  pub settle : Db → Workspace → Settlement
  -- the state after a Purge of a data set; None where it isn't an area with a sequential part
  pub purged : ℕ → ℕ → Db → Option Db
  -- whether a resource is an anchor of that data set
  pub is_in_area : ℕ → Resource → Bool
  -- the balancing group of each region, how many groups there are, and the group of a message; groups count from 1
  pub regions : List ℕ
  pub group_count : ℕ
  pub group_of : Message → ℕ
  -- the most entries of a group
  pub log_group : ℕ
  -- how often a transaction is run again, at most
  pub tries : ℕ
