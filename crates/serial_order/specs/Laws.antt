-- What the serial order of transactions needs of the functions that rules are.
use Rattle.std.specs.Prelude.{◌≡◌, ℕ, ◌<◌, ⊤, List, [], length, Bool, true, false, Option, Some, None}
use Rattle.std.specs.List.{AllByRecursion}
use Rattle.fp_model.specs.declared.database.Db.{Db}
use Rattle.fp_model.specs.declared.database.Root.{Root}
use Rattle.fp_model.specs.declared.calls.Answer.{Answer}
use Rattle.fp_model.specs.declared.calls.Call.{Call}
use Rattle.fp_model.specs.declared.calls.Message.{Message}
use Rattle.fp_model.specs.declared.calls.Mode.{Mode}
use Rattle.fp_model.specs.declared.calls.Mode.TheVariants.{Exclusive}
use Rattle.fp_model.specs.declared.calls.Resource.{Resource}
use Rattle.fp_model.specs.declared.log.Entry.{Entry}
use Rattle.fp_model.specs.declared.log.Outcome.{Outcome}
use Rattle.fp_model.specs.declared.log.Outcome.TheVariants as outcome
use Rattle.fp_model.specs.declared.name.Name.{Name}
use Rattle.fp_model.specs.History.{History, Accepts, Refuses, with_entry}
use Rattle.fp_model.specs.Workspace.{Workspace}
use Rattle.fp_model.specs.Answers.{Needed}
use Rattle.fp_model.specs.Commit.{Commits}
use Rattle.fp_model.specs.Asking.{Asks}
use Rattle.fp_model.specs.Rules.{Rules}

-- What a state has at a resource: the segment of a key, if it is there, or the roots of an anchor.
pub data Seen : Type 0 where
  SegmentIs : Option (List ℕ) → Seen
  RootsAre : List Root → Seen

-- How the laws look at states and workspaces.
pub record View : Type 0 where
  -- what a state has at a resource
  pub seen : Resource → Db → Seen
  -- the resources that a workspace relies on to be held Exclusive until it is settled
  pub claims : Workspace → List Resource
  -- a call of the form that scripts ask, and a workspace that such calls lead to
  pub is_call : Call → Bool
  pub is_own : Workspace → Bool

abbrev pub IsExclusive : (Resource → Option Mode) → Resource → Type 0
IsExclusive held resource = held resource ≡ Some Exclusive

-- A workspace that calls lead to, with all that it relies on held Exclusive.
pub record IsCovered (view : View) (own : Workspace) (held : Resource → Option Mode) : Type 0 where
  pub is_own : view.is_own own ≡ true
  pub holds : AllByRecursion (IsExclusive held) (view.claims own)

-- The second state has what the first has at each resource that is held.
abbrev pub IsSame : View → (Resource → Option Mode) → Db → Db → Type 0
IsSame view held db db2 =
    (resource : Resource) → ¬ (held resource ≡ None) → view.seen resource db2 ≡ view.seen resource db

-- ---- lines

-- whether an entry changes the format in which lines are read
abbrev pub is_format : Outcome → Bool
is_format outcome.Format = true
is_format _ = false

-- by which outcomes a line is refused that asks for nothing
abbrev pub IsRefusal : Outcome → Type 0
IsRefusal outcome.Unknown = ⊤
IsRefusal (outcome.Old last) = ⊤
IsRefusal (outcome.Repeat line) = ⊤
IsRefusal _ = ⊥

-- no terminal has sent both lines
abbrev pub ShareNoTerminal : Rules → List ℕ → List ℕ → Type 0
ShareNoTerminal rules line other =
    (name : Name) → rules.terminal_of line ≡ Some name → ¬ (rules.terminal_of other ≡ Some name)

-- ---- the laws

pub record Laws (rules : Rules) (view : View) : Type 0 where
  -- a message keeps its line, and is that of the line's terminal
  pub lines : (h : History) (line : List ℕ) (message : Message)
      → rules.request_of h line ≡ Accepts message
      → message.line ≡ line
  pub terminals : (h : History) (line : List ℕ) (message : Message)
      → rules.request_of h line ≡ Accepts message
      → rules.terminal_of line ≡ Some message.lterm
  -- what a line asks for changes only by a Format, and by entries of its own terminal
  pub stays : (h : History) (e : Entry) (next : Db) (line : List ℕ)
      → is_format e.outcome ≡ false
      → ShareNoTerminal rules e.line line
      → rules.request_of (with_entry e next h) line ≡ rules.request_of h line
  -- a line is refused only where it asks for nothing, and one without text has no terminal
  pub refuses : (h : History) (line : List ℕ) (outcome : Outcome)
      → rules.request_of h line ≡ Refuses outcome
      → IsRefusal outcome
  pub no_text : rules.terminal_of [] ≡ None
  -- a script that asks a call was answered fewer than it may make, and the call has its form
  pub ends : (message : Message) (answers : List Answer) (call : Call)
      → rules.ask message answers ≡ Asks call
      → length answers < rules.budget message
  pub asked : (message : Message) (answers : List Answer) (call : Call)
      → rules.ask message answers ≡ Asks call
      → view.is_call call ≡ true
  -- a transaction begins with nothing to rely on
  pub begins : (held : Resource → Option Mode) → IsCovered view rules.fresh held
  -- A call that needs no further lock is answered alike on any state that agrees at what is held. An unheld look needs
  -- the state that it shows.
  pub answers : (db db2 visible visible2 : Db) (own : Workspace) (held : Resource → Option Mode) (call : Call)
      → rules.need db own held call ≡ None
      → IsSame view held db db2
      → (rules.looks own call ≡ true → visible2 ≡ visible)
      → rules.reply_to db2 visible2 own call ≡ rules.reply_to db visible own call
  -- what its answer leaves to rely on is held
  pub covers : (db visible : Db) (own : Workspace) (held : Resource → Option Mode) (call : Call)
      → view.is_call call ≡ true
      → rules.need db own held call ≡ None
      → IsCovered view own held
      → IsCovered view (rules.reply_to db visible own call).own held
  -- a call asks for no lock on what is held Exclusive
  pub wants : (db : Db) (own : Workspace) (held : Resource → Option Mode) (call : Call) (needed : Needed)
      → rules.need db own held call ≡ Some needed
      → ¬ (held needed.resource ≡ Some Exclusive)
  -- nor does the sync point
  pub lacks : (own : Workspace) (held : Resource → Option Mode) (resource : Resource)
      → rules.lack own held ≡ Some resource
      → ¬ (held resource ≡ Some Exclusive)
  -- settling changes only what is held Exclusive
  pub settles : (db next : Db) (own : Workspace) (held : Resource → Option Mode)
      → IsCovered view own held
      → rules.lack own held ≡ None
      → rules.settle db own ≡ Commits next
      → (resource : Resource) → ¬ (held resource ≡ Some Exclusive) → view.seen resource next ≡ view.seen resource db
  -- a Purge changes only the anchors of its area
  pub purges : (set n : ℕ) (db next : Db)
      → rules.purged set n db ≡ Some next
      → (resource : Resource) → rules.is_in_area set resource ≡ false → view.seen resource next ≡ view.seen resource db
