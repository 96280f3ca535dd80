-- Every state of a serial history has its shape.
use Rattle.std.proofs.Common.{◌≡◌, ℕ, List, [], ◌∷◌, ◌++◌, sym, subst}
use Rattle.std.specs.List.{AllByRecursion}
use Rattle.fp_model.specs.declared.database.Db.{Db}
use Rattle.fp_model.specs.declared.definitions.Defs.{Defs}
use Rattle.fp_model.specs.declared.log.Entry.{Entry}
use Rattle.fp_model.specs.declared.log.Outcome.{Outcome}
use Rattle.fp_model.specs.declared.log.Outcome.TheVariants as outcome
use Rattle.fp_model.specs.declared.scripts.Script.{Script}
use Rattle.fp_model.specs.History.{History, beginning, states_of, with_entry}
use Rattle.fp_model.specs.Product.{rules_of}
use Rattle.fp_model.specs.SerialHistory.{EndsAlone, Leads, LeadsOn}
use Rattle.fp_model.specs.Shape.{IsDbOf}
use Rattle.fp_model.specs.State.{start}
use Rattle.fp_model.specs.WellFormed.{AreDefs}
use Rattle.state_laws.specs.Talks.{ScriptsFit}
use Rattle.state_laws.proofs.Alone.{alone_good}
use Rattle.state_laws.proofs.Purging.{purge_good}
use Rattle.state_laws.proofs.Start.{start_good}
use Rattle.plain_laws.proofs.Alls.{all_append}

last_of : {X : Type 0} (P : X → Type 0) (xs : List X) (x : X) → AllByRecursion P (xs ++ x ∷ []) → P x
last_of P [] x all = all.0
last_of P (y ∷ ys) x all = last_of P ys x all.1

module _ (defs : Defs) (scripts : List Script) (are : AreDefs defs) (fit : ScriptsFit defs scripts) where
  abbrev AreGood : History → Type 0
  AreGood h = AllByRecursion (IsDbOf defs) (states_of h)

  now_good : (h : History) → AreGood h → IsDbOf defs h.now
  now_good h all = last_of (IsDbOf defs) h.past h.now all

  ended_good : (h : History) → AreGood h → (e : Entry) (next : Db) → EndsAlone (rules_of defs scripts) h e next
      → IsDbOf defs next
  ended_good h all e next ends =
      alone_good defs scripts h.now (states_of h) ends.message are (now_good h all) all (fit ends.message) e.notes
      (record { outcome = e.outcome; reply = e.reply; next = next }) ends.ends

  same_good : (h : History) → AreGood h → (next : Db) → next ≡ h.now → IsDbOf defs next
  same_good h all next same = subst (IsDbOf defs) (sym same) (now_good h all)

  -- the state behind an entry
  next_good : (h : History) → AreGood h → (e : Entry) (o : Outcome) (next : Db)
      → Leads (rules_of defs scripts) h e o next → IsDbOf defs next
  next_good h all e outcome.Done next leads = ended_good h all e next leads
  next_good h all e (outcome.Verify call fsa found) next leads = ended_good h all e next leads
  next_good h all e (outcome.Roll code) next leads = ended_good h all e next leads
  next_good h all e (outcome.SeqFull set begin end n) next leads = ended_good h all e next leads
  next_good h all e (outcome.Deadlock cycle) next leads = same_good h all next leads.same
  next_good h all e outcome.Device next leads = same_good h all next leads.same
  next_good h all e outcome.Memory next leads = same_good h all next leads.same
  next_good h all e outcome.Unknown next leads = same_good h all next leads.1
  next_good h all e (outcome.Old last) next leads = same_good h all next leads.1
  next_good h all e (outcome.Repeat line) next leads = same_good h all next leads.1
  next_good h all e (outcome.Purge set n) next leads = purge_good defs h.now (now_good h all) set n next leads
  next_good h all e outcome.Format next leads = same_good h all next leads.1

  -- and all states behind entries
  led_good : (entries : List Entry) (h h2 : History) → AreGood h → LeadsOn (rules_of defs scripts) h entries h2
      → AreGood h2
  led_good [] h h2 all leads = subst AreGood (sym leads) all
  led_good (e ∷ es) h h2 all leads =
      let next : Db = leads.0 in
      let good = next_good h all e e.outcome next leads.1.leads in
      led_good es (with_entry e next h) h2 (all_append (IsDbOf defs) (states_of h) (next ∷ []) all (good, tt)) leads.2

  pub history_good : (format : ℕ) (entries : List Entry) (h : History)
      → LeadsOn (rules_of defs scripts) (beginning format (start defs)) entries h → AreGood h
  history_good format entries h leads =
      led_good entries (beginning format (start defs)) h (start_good defs are, tt) leads

  pub last_good : (format : ℕ) (entries : List Entry) (h : History) (last : Db)
      → LeadsOn (rules_of defs scripts) (beginning format (start defs)) entries h → h.now ≡ last → IsDbOf defs last
  last_good format entries h last leads ends =
      subst (IsDbOf defs) ends (now_good h (history_good format entries h leads))
