-- Where an auditor is in the history of the entries that it was given.
use Rattle.std.specs.Prelude.{◌≡◌, List, ◌∷◌, [], ℕ}
use Rattle.fp_model.specs.declared.database.Db.{Db}
use Rattle.fp_model.specs.declared.log.Entry.{Entry}
use Rattle.fp_model.specs.History.{History, beginning, place_of, states_of, with_entry}
use Rattle.fp_model.specs.Product.{rules_of}
use Rattle.fp_model.specs.Rules.{Rules}
use Rattle.fp_model.specs.SerialHistory.{Comes, LeadsOn}
use Rattle.past_replay.specs.States.{AreStatesOf}
use Rattle.fp_audit.specs.Audit.{Audit}
use Rattle.fp_audit.specs.Numbers.{KnowsLines}
use Rattle.fp_audit.specs.declared.verdict.Verdict.TheVariants as verdict

-- the rules by which entries are legal
abbrev pub rules_in : Audit → Rules
rules_in audit = rules_of audit.defs audit.scripts

-- The auditor stands at a history: it knows what lines ask for behind it, and has its states at every place.
pub record IsAt (audit : Audit) (h : History) : Type 0 where
  pub legal : audit.verdict ≡ verdict.Legal
  pub lines : KnowsLines audit.format audit.lasts h
  pub place : audit.place ≡ place_of h
  pub states : AreStatesOf audit.pasts audit.dedbs audit.place h.now (states_of h)

-- The entry comes behind the history, and the auditor stands behind it.
pub record StandsBehind (audit : Audit) (e : Entry) (h : History) : Type 0 where
  pub next : Db
  pub comes : Comes (rules_in audit) h e next
  pub stands : IsAt audit (with_entry e next h)

-- no state comes of the entry behind the history
abbrev pub ComesNever : Rules → History → Entry → Type 0
ComesNever rules h e = (next : Db) → ¬ (Comes rules h e next)

-- an entry wasn't legal
abbrev pub HasStopped : Audit → Type 0
HasStopped audit = audit.verdict ≡ verdict.Illegal

-- there was no memory for an entry
abbrev pub IsSpent : Audit → Type 0
IsSpent audit = audit.verdict ≡ verdict.Spent

-- ---- all entries

-- The auditor has found these entries legal, behind a front of this format.
pub record HasFound (audit : Audit) (format : ℕ) (entries : List Entry) : Type 0 where
  pub history : History
  pub leads : LeadsOn (rules_in audit) (beginning format (rules_in audit).start) entries history
  pub stands : IsAt audit history

-- What `next` says of an entry to which it answers true.
pub record FindsLegal (old : Audit) (e : Entry) (new : Audit) : Type 0 where
  pub legal : (h : History) → IsAt old h → StandsBehind new e h
  pub rules : rules_in new ≡ rules_in old

-- and of one to which it answers false
abbrev pub FindsIllegal : Audit → Entry → Type 0
FindsIllegal audit e = (h : History) → IsAt audit h → ComesNever (rules_in audit) h e

-- The auditor is given these entries in turn, and finds each of them legal.
abbrev pub FindsAllLegal : Audit → List Entry → Audit → Type 0
FindsAllLegal old [] new = new ≡ old
FindsAllLegal old (e ∷ es) new = (mid : Audit) × FindsLegal old e mid × FindsAllLegal mid es new
