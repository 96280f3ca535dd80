-- The machine whose turns a schedule takes: lines, queues, terminals, entries, regions, locks.
use Rattle.std.specs.Prelude.{ℕ, zero, suc, ◌+◌, ◌-◌, List, [], ◌∷◌, ◌++◌, length, map, filter, flat_map, replicate, take, drop, Bool, not, nat_lt, if◌then◌else◌, Option, Some, None, unwrap_or, slice_get, slice_set}
use Rattle.std.specs.List.{list_any}
use Rattle.std.specs.Option.{option_map_or}
use Rattle.fp_model.specs.declared.name.Name.{Name}
use Rattle.fp_model.specs.declared.database.Db.{Db}
use Rattle.fp_model.specs.declared.calls.Message.{Message}
use Rattle.fp_model.specs.declared.log.Entry.{Entry}
use Rattle.fp_model.specs.declared.log.Item.{Item}
use Rattle.fp_model.specs.declared.log.Outcome.{Outcome}
use Rattle.fp_model.specs.Texts.{same_text}
use Rattle.fp_model.specs.Rules.{Rules}
use Rattle.fp_model.specs.History.{History, Request, Accepts, Refuses, place_of, with_entry}
use Rattle.fp_model.specs.Serial.{Ending, Point}
use Rattle.fp_model.specs.Waiting.{Lock, without_region}

-- A transaction under way: how many entries stood as its last try began, its message, the point that it has come to,
-- its notes, and how often it was begun again.
pub record Transaction : Type 0 where
  pub from : ℕ
  pub message : Message
  pub point : Point
  pub notes : List ℕ
  pub tries : ℕ

pub data Region : Type 0 where
  Idle : Region
  Active : Transaction → Region

pub record Machine : Type 0 where
  -- message lines not read yet, and the one that waits for its terminal
  pub lines : List (List ℕ)
  pub held : Option (List ℕ)
  -- the messages of each balancing group, oldest first, and the terminals that wait for a reply
  pub queues : List (List Message)
  pub busy : List Name
  -- all entries with the states that they lead through, how many of them are sealed, the groups sealed in this run,
  -- and the bytes sent in it
  pub history : History
  pub sealed : ℕ
  pub groups : List (List Entry)
  pub sent : List ℕ
  -- each region, its locks and the requests that stand
  pub regions : List Region
  pub locks : List Lock
  pub requests : List Lock

-- Nothing is queued, held, busy or active, and all entries are sealed.
abbrev pub at_rest : Rules → List (List ℕ) → History → Machine
at_rest rules lines history = record {
  lines = lines;
  held = None;
  queues = replicate rules.group_count [];
  busy = [];
  history = history;
  sealed = length history.entries;
  groups = [];
  sent = [];
  regions = map (λ group. Idle) rules.regions;
  locks = [];
  requests = [];
}

-- ---- terminals

abbrev pub same_name : Name → Name → Bool
same_name a b = same_text a.0 b.0

abbrev pub is_among : List Name → Name → Bool
is_among names name = list_any (same_name name) names

abbrev pub terminal_in : Option Name → List Name
terminal_in None = []
terminal_in (Some name) = name ∷ []

-- ---- entries

-- with an entry, which makes the next state
abbrev pub with_entry_of : Entry → Db → Machine → Machine
with_entry_of e next m = record m { history = with_entry e next m.history }

-- the entry of a transaction that ends so
abbrev pub entry_of : Transaction → Ending → List ℕ → List Item → Entry
entry_of t ending notes items =
    let line : List ℕ = t.message.line in
    record { from = t.from; outcome = ending.outcome; line = line; reply = ending.reply; notes = notes; items = items }

-- region k stands at place k - 1
abbrev pub region_at : Machine → ℕ → Option Region
region_at m zero = None
region_at m (suc place) = slice_get m.regions place

abbrev pub with_region : ℕ → Region → Machine → Machine
with_region zero r m = m
with_region (suc place) r m = record m { regions = slice_set m.regions place r }

-- The region's locks and its request go.
abbrev pub without_locks : ℕ → Machine → Machine
without_locks region m =
    record m { locks = without_region region m.locks; requests = without_region region m.requests }

-- The region's transaction ends with an entry: its locks and its request go, and the region is idle.
abbrev pub ended_with : ℕ → Entry → Db → Machine → Machine
ended_with region e next m = with_entry_of e next (with_region region Idle (without_locks region m))

-- an entry that no region makes, at its own place
abbrev pub entry_here : Machine → Outcome → List ℕ → List Item → Entry
entry_here m outcome line items =
    record { from = place_of m.history; outcome = outcome; line = line; reply = []; notes = []; items = items }

-- ---- IN

-- the line that is held, or the next
abbrev pub next_line : Machine → Option (List ℕ)
next_line m = unwrap_or (option_map_or (λ line. Some (Some line)) m.held None) (slice_get m.lines 0)

-- without that line
abbrev pub without_line : Machine → Machine
without_line m = option_map_or (λ line. record m { held = None }) m.held (record m { lines = drop 1 m.lines })

abbrev pub queued_at : ℕ → Message → List (List Message) → List (List Message)
queued_at queue message queues =
    option_map_or (λ messages. slice_set queues queue (messages ++ message ∷ [])) (slice_get queues queue) queues

-- the message is queued, and its terminal waits
abbrev pub with_message : Rules → Message → Machine → Machine
with_message rules message m =
    record m { queues = queued_at (rules.group_of message - 1) message m.queues; busy = m.busy ++ message.lterm ∷ [] }

-- the line is refused, and its terminal waits, if it can be read
abbrev pub with_refusal : Rules → Outcome → List ℕ → Machine → Machine
with_refusal rules outcome line m =
    with_entry_of (entry_here m outcome line []) m.history.now
    (record m { busy = m.busy ++ terminal_in (rules.terminal_of line) })

abbrev pub with_request_of : Rules → List ℕ → Request → Machine → Machine
with_request_of rules line (Accepts message) m = with_message rules message m
with_request_of rules line (Refuses outcome) m = with_refusal rules outcome line m

-- A line waits while its terminal does. Else it is queued, or refused where it asks for nothing.
abbrev pub with_line : Rules → List ℕ → Machine → Machine
with_line rules line m =
    if list_any (is_among m.busy) (terminal_in (rules.terminal_of line)) then record m { held = Some line }
    else with_request_of rules line (rules.request_of m.history line) m

-- the machine after IN
abbrev pub taken_in : Rules → Machine → Machine
taken_in rules m = option_map_or (λ line. with_line rules line (without_line m)) (next_line m) m

-- ---- LOG and CKPT

-- the oldest entries that aren't sealed, as many as a group takes
abbrev pub next_group : Rules → Machine → List Entry
next_group rules m = take rules.log_group (drop m.sealed m.history.entries)

-- the terminals that are told of an entry
abbrev pub told : Rules → List Entry → List Name
told rules group = flat_map (λ e. terminal_in (rules.terminal_of e.line)) group

-- the group is sealed, its lines are sent, and their terminals are free
abbrev pub with_group : Rules → List Entry → Machine → Machine
with_group rules group m = record m {
  sealed = m.sealed + length group;
  groups = m.groups ++ group ∷ [];
  sent = m.sent ++ flat_map rules.line_of group;
  busy = filter (λ name. not (is_among (told rules group) name)) m.busy;
}

-- the machine after LOG: nothing changes where every entry is sealed
abbrev pub sealed_once : Rules → Machine → Machine
sealed_once rules m = if nat_lt m.sealed (place_of m.history) then with_group rules (next_group rules m) m else m

-- so many times
abbrev pub sealed_times : ℕ → Rules → Machine → Machine
sealed_times zero rules m = m
sealed_times (suc n) rules m = sealed_times n rules (sealed_once rules m)

-- LOG again and again until every entry is sealed
abbrev pub sealed_all : Rules → Machine → Machine
sealed_all rules m = sealed_times (place_of m.history - m.sealed) rules m
