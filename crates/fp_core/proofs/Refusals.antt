-- A transaction is refused by itself.
use Rattle.std.proofs.Common.{◌≡◌, refl, sym, ◌∙◌, ap, subst, arith, ℕ, ◌≤◌, ◌<◌, List, [], ◌∷◌, map, true}
use Rattle.std.specs.List.{AllByRecursion}
use Rattle.fp_model.specs.declared.database.Db.{Db}
use Rattle.fp_model.specs.declared.definitions.Defs.{Defs}
use Rattle.fp_model.specs.declared.calls.Message.{Message}
use Rattle.fp_model.specs.declared.events.Event.TheVariants as event
use Rattle.fp_model.specs.declared.log.Entry.{Entry}
use Rattle.fp_model.specs.declared.log.Item.{Item}
use Rattle.fp_model.specs.declared.log.Outcome.{Outcome}
use Rattle.fp_model.specs.declared.log.Outcome.TheVariants as outcome
use Rattle.fp_model.specs.declared.scripts.Script.{Script}
use Rattle.fp_model.specs.Asking.{Rolls}
use Rattle.fp_model.specs.Items.{IsFit as IsFitItem, with_items}
use Rattle.fp_model.specs.Lasts.{format_behind, uses_number}
use Rattle.fp_model.specs.LogText.{HasItsParts}
use Rattle.fp_model.specs.Machine.{Transaction, Machine, ended_with, entry_of}
use Rattle.fp_model.specs.Rules.{Rules}
use Rattle.fp_model.specs.Serial.{Ending, refused_as}
use Rattle.fp_model.specs.Turns.{Deadlocks, Does, Finishes, IsAtEnd, Retries_at_cycle, Retries_at_verify, ending_of, refused_with, tried_again, wanted}
use Rattle.log_groups.specs.Log.{LogState}
use Rattle.msdb_store.specs.Store.{IsOf, Stored}
use Rattle.fp_core.specs.declared.did.Did.TheVariants as did
use Rattle.fp_core.specs.declared.engine.Active.{Active}
use Rattle.fp_core.specs.declared.engine.Engine.{Engine}
use Rattle.fp_core.specs.inside.Acting.{HasClosed, IsAtEndOf, IsAtWork, MayEnd}
use Rattle.fp_core.specs.inside.Ending.{IsRefusal, refused_entry}
use Rattle.fp_core.specs.Relation.{IsMade, IsTransaction, StandsFor, owed_of, rules_in}
use Rattle.fp_core.specs.Turning.{IsExact, Turned}
use Rattle.fp_core.proofs.Turns.{acted}

-- ---- its entry

-- such an outcome doesn't change the format
pub refusal_format : (format : ℕ) (o : Outcome) → IsRefusal o → format_behind format o ≡ format
refusal_format format outcome.Done is = absurd is
refusal_format format outcome.Unknown is = absurd is
refusal_format format (outcome.Verify call fsa found) is = refl
refusal_format format (outcome.Roll code) is = refl
refusal_format format (outcome.SeqFull set begin end n) is = refl
refusal_format format (outcome.Deadlock cycle) is = refl
refusal_format format outcome.Device is = absurd is
refusal_format format outcome.Memory is = absurd is
refusal_format format (outcome.Purge set n) is = absurd is
refusal_format format (outcome.Old last) is = absurd is
refusal_format format (outcome.Repeat line) is = absurd is
refusal_format format outcome.Format is = absurd is

-- and it uses the number of its message
pub refusal_uses : (o : Outcome) → IsRefusal o → uses_number o ≡ true
refusal_uses outcome.Done is = absurd is
refusal_uses outcome.Unknown is = absurd is
refusal_uses (outcome.Verify call fsa found) is = refl
refusal_uses (outcome.Roll code) is = refl
refusal_uses (outcome.SeqFull set begin end n) is = refl
refusal_uses (outcome.Deadlock cycle) is = refl
refusal_uses outcome.Device is = absurd is
refusal_uses outcome.Memory is = absurd is
refusal_uses (outcome.Purge set n) is = absurd is
refusal_uses (outcome.Old last) is = absurd is
refusal_uses (outcome.Repeat line) is = absurd is
refusal_uses outcome.Format is = absurd is

has_no_items : (o : Outcome) (reply : List ℕ) (items : List Item) → IsRefusal o → HasItsParts o reply items
    → items ≡ []
has_no_items outcome.Done reply items is parts = absurd is
has_no_items outcome.Unknown reply items is parts = absurd is
has_no_items (outcome.Verify call fsa found) reply items is parts = parts.1
has_no_items (outcome.Roll code) reply items is parts = parts.1
has_no_items (outcome.SeqFull set begin end n) reply items is parts = parts.1
has_no_items (outcome.Deadlock cycle) reply items is parts = parts.1
has_no_items outcome.Device reply items is parts = absurd is
has_no_items outcome.Memory reply items is parts = absurd is
has_no_items (outcome.Purge set n) reply items is parts = absurd is
has_no_items (outcome.Old last) reply items is parts = absurd is
has_no_items (outcome.Repeat line) reply items is parts = absurd is
has_no_items outcome.Format reply items is parts = absurd is

-- it makes nothing
pub refusal_makes : (defs : Defs) (now : Db) (e : Entry) → IsRefusal e.outcome
    → HasItsParts e.outcome e.reply e.items → IsMade defs now e now
refusal_makes defs now e is parts =
    let none = has_no_items e.outcome e.reply e.items is parts in
    record {
      fit = subst (λ (xs : List Item). AllByRecursion (IsFitItem defs) xs) (sym none) tt;
      made = ap (λ (xs : List Item). with_items defs.msdbs now.msdbs xs) none;
    }

-- with its notes, it is the machine's
pub refused_is : (defs : Defs) (scripts : List Script) (a : Active) (t : Transaction) (o : Outcome) (now : Db)
    → IsTransaction defs scripts a t → refused_entry a o a.work.notes ≡ entry_of t (refused_as o now) t.notes []
refused_is defs scripts a t o now s =
    let made : ℕ → List ℕ → List ℕ → Entry = λ from line notes. record {
      from = from;
      outcome = o;
      line = line;
      reply = [];
      notes = notes;
      items = [];
    } in
    ap (λ (n : ℕ). made n a.message.line a.work.notes) s.from
    ∙ ap (λ (x : Message). made t.from x.line a.work.notes) s.message
    ∙ ap (λ (ns : List ℕ). made t.from t.message.line ns) s.notes

-- ---- nothing ends

-- The store and the log have the same databases and entries, and as much room.
pub unsettled_stands : (engine : Engine) (m : Machine) (store : Stored) (log : LogState) → StandsFor engine m
    → IsOf engine.defs.now.msdbs store
    → store.msdbs ≡ engine.store.msdbs
    → log.sealed ≡ engine.log.sealed
    → log.unsealed ≡ engine.log.unsealed
    → engine.log.spare ≤ log.spare
    → StandsFor (record engine { store = store; log = log }) m
unsettled_stands engine m store log s of msdbs sealed unsealed spare = record {
  setup = s.setup;
  held = s.held;
  held_short = s.held_short;
  queues = s.queues;
  groups = s.groups;
  takeable = s.takeable;
  busy = s.busy;
  regions = s.regions;
  numbers = s.numbers;
  locks = s.locks;
  rows = s.rows;
  of = of;
  msdbs = s.msdbs ∙ sym msdbs;
  past = s.past;
  format = s.format;
  read = s.read;
  lasts = s.lasts;
  places = s.places;
  count = rw (sealed, unsealed) s.count;
  sealed = sealed ∙ s.sealed;
  unsealed = unsealed ∙ s.unsealed;
  owed = s.owed ∙ ap (map owed_of) (sym unsealed);
  made = s.made;
  room = s.room;
  spare = omega (arith, s.spare, spare);
  slots = s.slots;
}

pub unsettled : (engine : Engine) (m : Machine) (region : ℕ) (t : Transaction) (store : Stored) (log : LogState)
    → MayEnd engine m region t
    → IsOf engine.defs.now.msdbs store
    → store.msdbs ≡ engine.store.msdbs
    → log.sealed ≡ engine.log.sealed
    → log.unsealed ≡ engine.log.unsealed
    → engine.log.spare ≤ log.spare
    → MayEnd (record engine { store = store; log = log }) m region t
unsettled engine m region t store log u of msdbs sealed unsealed spare = record {
  requests = u.requests;
  others = u.others;
  stands = unsettled_stands engine (record m { requests = u.requests }) store log u.stands of msdbs sealed unsealed
      spare;
  active = u.active;
}

-- ---- turns

module _ (engine after : Engine) (m : Machine) (region : ℕ) (t : Transaction) (same : rules_in after ≡ rules_in engine)
  where
    -- its script rolls back,
    pub rolled : (code : ℕ) → IsAtEndOf engine m region t (Rolls code)
        → StandsFor after (ended_with region (entry_of t (refused_as (outcome.Roll code) m.history.now) t.notes [])
        m.history.now m)
        → Turned (event.Region region) m after did.Refused
    rolled code e stands =
        let ending : Ending = refused_as (outcome.Roll code) m.history.now in
        let m2 : Machine = ended_with region (entry_of t ending t.notes []) m.history.now m in
        let at_end : IsAtEnd (rules_in engine) m region t ending = record {
          lacks_none = ap (wanted (rules_in engine) m region t) e.asked;
          ends = ap (ending_of (rules_in engine) m.history.now t) e.asked;
        } in
        acted after m region t (Finishes ending []) m2 e.at_work.active
        (subst (λ (rules : Rules). Does rules m region t (Finishes ending []) m2) (sym same)
        (at_end, (λ fails. absurd cc), refl, refl)) tt stands

    -- its request would close a cycle, and it begins again, or is refused,
    pub cycle_tried : (list : List ℕ) → HasClosed engine m region t list → t.tries < (rules_in engine).tries
        → StandsFor after (tried_again (rules_in engine) region t m)
        → Turned (event.Region region) m after did.Retried
    cycle_tried list h left stands =
        let m2 : Machine = tried_again (rules_in engine) region t m in
        acted after m region t (Retries_at_cycle h.needed h.cycle) m2 h.may_end.active
        (subst (λ (rules : Rules). Does rules m region t (Retries_at_cycle h.needed h.cycle) m2) (sym same)
        (h.closes, left, refl)) tt stands

    pub cycle_refused : (list : List ℕ) → HasClosed engine m region t list → (rules_in engine).tries ≤ t.tries
        → StandsFor after (ended_with region (entry_of t (refused_as (outcome.Deadlock list) m.history.now) [] [])
        m.history.now m)
        → Turned (event.Region region) m after did.Refused
    cycle_refused list h used stands =
        let m2 : Machine = refused_with (rules_in engine) m region t (outcome.Deadlock (region ∷ h.cycle)) in
        acted after m region t (Deadlocks h.needed h.cycle) m2 h.may_end.active
        (subst (λ (rules : Rules). Does rules m region t (Deadlocks h.needed h.cycle) m2) (sym same)
        (h.closes, used, refl))
        (subst (λ (rules : Rules). IsExact after.defs.now rules m region t (Deadlocks h.needed h.cycle)) (sym same)
        (sym h.is ∙ h.named))
        (subst (λ (xs : List ℕ). StandsFor after (ended_with region
        (entry_of t (refused_as (outcome.Deadlock xs) m.history.now) [] []) m.history.now m)) h.is stands)

    -- or a verify fails, and it begins again, or is refused
    pub verify_tried : (call fsa : ℕ) (found : List ℕ) → IsAtWork engine m region t
        → IsAtEnd (rules_in engine) m region t (refused_as (outcome.Verify call fsa found) m.history.now)
        → t.tries < (rules_in engine).tries
        → StandsFor after (tried_again (rules_in engine) region t m)
        → Turned (event.Region region) m after did.Retried
    verify_tried call fsa found w end left stands =
        let ending : Ending = refused_as (outcome.Verify call fsa found) m.history.now in
        let m2 : Machine = tried_again (rules_in engine) region t m in
        acted after m region t (Retries_at_verify ending) m2 w.active
        (subst (λ (rules : Rules). Does rules m region t (Retries_at_verify ending) m2) (sym same)
        (end, refl, left, refl)) tt stands

    pub verify_refused : (call fsa : ℕ) (found : List ℕ) → IsAtWork engine m region t
        → IsAtEnd (rules_in engine) m region t (refused_as (outcome.Verify call fsa found) m.history.now)
        → (rules_in engine).tries ≤ t.tries
        → StandsFor after (ended_with region (entry_of t (refused_as (outcome.Verify call fsa found) m.history.now)
        t.notes []) m.history.now m)
        → Turned (event.Region region) m after did.Refused
    verify_refused call fsa found w end used stands =
        let ending : Ending = refused_as (outcome.Verify call fsa found) m.history.now in
        let m2 : Machine = ended_with region (entry_of t ending t.notes []) m.history.now m in
        acted after m region t (Finishes ending []) m2 w.active
        (subst (λ (rules : Rules). Does rules m region t (Finishes ending []) m2) (sym same)
        (end, (λ fails. used), refl, refl)) tt stands
