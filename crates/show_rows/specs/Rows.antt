-- What the rows are of.
use Rattle.std.specs.Prelude.{ℕ, List, [], ◌∷◌, flat_map, codes}
use Rattle.fp_model.specs.declared.database.Db.{Db}
use Rattle.fp_model.specs.declared.log.Entry.{Entry}
use Rattle.fp_model.specs.declared.log.Outcome.{Outcome}
use Rattle.fp_model.specs.declared.log.Outcome.TheVariants.{Done}
use Rattle.fp_rows.specs.Hex.{with_newline}
use Rattle.fp_rows.specs.States.{a_customer, with_customers}

-- lines, one behind the other
abbrev pub lines : List (List ℕ) → List ℕ
lines texts = flat_map with_newline texts

-- what is shown of the main storage databases of the sample, before any transaction
abbrev pub msdbs_at_start : List ℕ
msdbs_at_start = lines (
    codes "msdb ACCTS 2" ∷ codes "  ACCT=A001 BAL=100" ∷ codes "  ACCT=A002 BAL=50"
    ∷ codes "msdb TELLERS 1" ∷ codes "  TNO=T001 CASH=0" ∷ [])

-- a customer with three audits, behind a Purge of two and one more
abbrev pub behind_a_purge : Db
behind_a_purge = with_customers [] (a_customer (codes "C001ANN         ") (
    record { serial = 5; bytes = codes "N6      " } ∷ record { serial = 4; bytes = codes "N4      " }
    ∷ record { serial = 3; bytes = codes "N3      " } ∷ []) ∷ []) 3 6

-- an entry that looked at nothing and changed nothing
abbrev pub an_entry : ℕ → Outcome → List ℕ → List ℕ → Entry
an_entry from outcome line reply =
    record { from = from; outcome = outcome; line = line; reply = reply; notes = []; items = [] }

-- two deposits, and a question that began between them
abbrev pub three_entries : List Entry
three_entries =
    record (an_entry 0 Done (codes "T1 DEPOSIT A001 10") (codes "NEW")) { notes = 0 ∷ [] }
    ∷ record (an_entry 1 Done (codes "T3 DEPOSIT A001 20") (codes "NEW")) { notes = 1 ∷ [] }
    ∷ record (an_entry 1 Done (codes "T2 ASK A001") (codes "110")) { notes = 1 ∷ [] }
    ∷ []
