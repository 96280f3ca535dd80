-- Which entries may come, one after another, and the states that they lead through.
use Rattle.std.specs.Prelude.{◌≡◌, ℕ, ◌≤◌, List, [], ◌∷◌, Some}
use Rattle.fp_model.specs.declared.database.Db.{Db}
use Rattle.fp_model.specs.declared.calls.Message.{Message}
use Rattle.fp_model.specs.declared.log.Entry.{Entry}
use Rattle.fp_model.specs.declared.log.Outcome.{Outcome}
use Rattle.fp_model.specs.declared.log.Outcome.TheVariants as outcome
use Rattle.fp_model.specs.Entries.{MayStandAt}
use Rattle.fp_model.specs.History.{History, Accepts, Refuses, beginning, with_entry, states_of, place_of}
use Rattle.fp_model.specs.Lasts.{format_at}
use Rattle.fp_model.specs.Rules.{Rules}
use Rattle.fp_model.specs.Serial.{Ends, serial_run}

-- from, notes and the place never fall, in this order
abbrev pub NeverFalls : ℕ → List ℕ → ℕ → Type 0
NeverFalls from [] place = from ≤ place
NeverFalls from (note ∷ notes) place = (from ≤ note) × NeverFalls note notes place

-- The entry's message, run alone on the state now with the states that it noted, ends as the entry says.
pub record EndsAlone (rules : Rules) (h : History) (e : Entry) (next : Db) : Type 0 where
  pub message : Message
  pub is_request : rules.request_of h e.line ≡ Accepts message
  pub in_order : NeverFalls e.from e.notes (place_of h)
  pub ends : serial_run rules h.now (states_of h) message e.notes
      ≡ Ends (record { outcome = e.outcome; reply = e.reply; next = next })

-- The entry's message was refused, and left the state as it was.
pub record WasRefused (rules : Rules) (h : History) (e : Entry) (next : Db) : Type 0 where
  pub message : Message
  pub is_request : rules.request_of h e.line ≡ Accepts message
  pub in_order : e.from ≤ place_of h
  pub same : next ≡ h.now

-- The entry's line asks for nothing, for this reason, and leaves the state as it was.
abbrev pub AsksNothing : Rules → History → Entry → Outcome → Db → Type 0
AsksNothing rules h e outcome next = (rules.request_of h e.line ≡ Refuses outcome) × (next ≡ h.now)

-- What the outcome of an entry says of the history before it and of the next state.
abbrev pub Leads : Rules → History → Entry → Outcome → Db → Type 0
Leads rules h e outcome.Done next = EndsAlone rules h e next
Leads rules h e (outcome.Verify call fsa found) next = EndsAlone rules h e next
Leads rules h e (outcome.Roll code) next = EndsAlone rules h e next
Leads rules h e (outcome.SeqFull set begin end n) next = EndsAlone rules h e next
Leads rules h e (outcome.Deadlock cycle) next = WasRefused rules h e next
Leads rules h e outcome.Device next = WasRefused rules h e next
Leads rules h e outcome.Memory next = WasRefused rules h e next
Leads rules h e outcome.Unknown next = AsksNothing rules h e outcome.Unknown next
Leads rules h e (outcome.Old last) next = AsksNothing rules h e (outcome.Old last) next
Leads rules h e (outcome.Repeat line) next = AsksNothing rules h e (outcome.Repeat line) next
Leads rules h e (outcome.Purge set n) next = rules.purged set n h.now ≡ Some next
Leads rules h e outcome.Format next = (format_at h.format h.entries ≡ 1) × (next ≡ h.now)

-- The entry may come behind the history, and makes the next state.
pub record Comes (rules : Rules) (h : History) (e : Entry) (next : Db) : Type 0 where
  pub form : MayStandAt (place_of h) e
  pub leads : Leads rules h e e.outcome next

-- The entries may come one after another behind a history, and lead to another one.
abbrev pub LeadsOn : Rules → History → List Entry → History → Type 0
LeadsOn rules h [] h2 = h2 ≡ h
LeadsOn rules h (e ∷ es) h2 = (next : Db) × Comes rules h e next × LeadsOn rules (with_entry e next h) es h2

-- A serial history: its entries lead from the start to it.
abbrev pub IsSerial : Rules → History → Type 0
IsSerial rules h = LeadsOn rules (beginning h.format rules.start) h.entries h

-- The entries, behind a front of a format, are a serial history that ends in the last state.
pub record IsSerialHistory (rules : Rules) (format : ℕ) (entries : List Entry) (last : Db) : Type 0 where
  pub history : History
  pub leads : LeadsOn rules (beginning format rules.start) entries history
  pub ends : history.now ≡ last
