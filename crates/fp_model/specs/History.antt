-- What stands: all entries, the states that they lead through, and what a line asks for behind them.
use Rattle.std.specs.Prelude.{ℕ, List, [], ◌∷◌, ◌++◌, length}
use Rattle.fp_model.specs.declared.database.Db.{Db}
use Rattle.fp_model.specs.declared.calls.Message.{Message}
use Rattle.fp_model.specs.declared.log.Entry.{Entry}
use Rattle.fp_model.specs.declared.log.Outcome.{Outcome}

-- The format of the log's front, all entries, the state before each of them, oldest first, and the state now.
pub record History : Type 0 where
  pub format : ℕ
  pub entries : List Entry
  pub past : List Db
  pub now : Db

-- no entry yet
abbrev pub beginning : ℕ → Db → History
beginning format start = record { format = format; entries = []; past = []; now = start }

-- with an entry, which makes the next state
abbrev pub with_entry : Entry → Db → History → History
with_entry e next h = record h { entries = h.entries ++ e ∷ []; past = h.past ++ h.now ∷ []; now = next }

-- all states, oldest first: that of a place is the one before the entry there
abbrev pub states_of : History → List Db
states_of h = h.past ++ h.now ∷ []

-- the place of the next entry
abbrev pub place_of : History → ℕ
place_of h = length h.entries

-- what a line asks for: a transaction, or nothing, and is refused by this outcome
pub data Request : Type 0 where
  Accepts : Message → Request
  Refuses : Outcome → Request
