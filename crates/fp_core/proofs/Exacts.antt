-- What an exact turn is: what is answered tells it, the cycle that it names is the first, and what it adds to entries.
use Rattle.std.proofs.Common.{◌≡◌, ◌⊎◌, inl, inr, refl, sym, ◌∙◌, ap, subst, ℕ, zero, suc, List, [], ◌∷◌, ◌++◌, length, Option, Some, None}
use Rattle.ci_locks.specs.Cycles.{first_cycle}
use Rattle.fp_model.specs.declared.database.Db.{Db}
use Rattle.fp_model.specs.declared.definitions.Defs.{Defs}
use Rattle.fp_model.specs.declared.events.Event.{Event}
use Rattle.fp_model.specs.declared.events.Event.TheVariants as event
use Rattle.fp_model.specs.declared.log.Entry.{Entry}
use Rattle.fp_model.specs.declared.log.Outcome.{Outcome}
use Rattle.fp_model.specs.declared.log.Outcome.TheVariants as outcome
use Rattle.fp_model.specs.Answers.{Needed}
use Rattle.fp_model.specs.Commit.{Settlement, Commits, FailsVerify, FillsPart}
use Rattle.fp_model.specs.Asking.{Ask, Asks, Replies, Rolls}
use Rattle.fp_model.specs.Machine.{Transaction, Region, Idle, Active, Machine, region_at, entry_of}
use Rattle.fp_model.specs.Rules.{Rules}
use Rattle.fp_model.specs.Serial.{Ending, refused_as, settled_as}
use Rattle.fp_model.specs.Turns.{Environment, NoFault, DeviceFault, OutOfMemory, Act, Answers, Gains, Waits, Deadlocks, Retries_at_cycle, Finishes, Retries_at_verify, Does, RegionTurn, Turn, AreItemsFor, asks, ending_of, refused_with, requests_with, wanted}
use Rattle.fp_core.specs.declared.did.Did.{Did}
use Rattle.fp_core.specs.Turning.{HasItsItems, IsDid, IsDidOfRegion, IsExact, IsExactOfRegion, IsExactTurn}
use Rattle.std.proofs.lemmas.Option.{none-some, same_Some}

-- ---- entries, and one more

pub last_same : (xs : List Entry) (a b : Entry) → xs ++ a ∷ [] ≡ xs ++ b ∷ [] → a ≡ b
last_same [] a b e = cc
last_same (x ∷ xs) a b e = last_same xs a b (let rest : xs ++ a ∷ [] ≡ xs ++ b ∷ [] = cc in rest)

not_longer : (xs : List Entry) (a : Entry) → xs ≡ xs ++ a ∷ [] → ⊥
not_longer [] a e = cc
not_longer (x ∷ xs) a e = not_longer xs a (let rest : xs ≡ xs ++ a ∷ [] = cc in rest)

abbrev entries_in : Machine → List Entry
entries_in m = m.history.entries

same_cycle : (a b : List ℕ) → outcome.Deadlock a ≡ outcome.Deadlock b → a ≡ b
same_cycle a b e = cc

-- ---- an act

module _ (defs : Defs) (rules : Rules) (m : Machine) (place : ℕ) (t : Transaction) where
  -- the entry of a deadlock names the first cycle
  names_found : (act : Act) (after : Machine) (needed : Needed) (cycle : List ℕ)
      → Does rules m (suc place) t act after
      → IsExact defs rules m (suc place) t act
      → wanted rules m (suc place) t (asks rules t) ≡ Some needed
      → after ≡ refused_with rules m (suc place) t (outcome.Deadlock cycle)
      → cycle ≡ first_cycle (length rules.regions) (requests_with rules m (suc place) needed) m.locks (suc place)
  names_found (Answers call) after needed cycle does exact wants is = absurd (none-some needed (sym does.1 ∙ wants))
  names_found (Gains n) after needed cycle does exact wants is =
      absurd (not_longer m.history.entries (entry_of t (refused_as (outcome.Deadlock cycle) m.history.now) [] [])
      (ap entries_in (sym does.2 ∙ is)))
  names_found (Waits n) after needed cycle does exact wants is =
      absurd (not_longer m.history.entries (entry_of t (refused_as (outcome.Deadlock cycle) m.history.now) [] [])
      (ap entries_in (sym does.3 ∙ is)))
  names_found (Deadlocks n c) after needed cycle does exact wants is =
      let made : List ℕ → Entry = λ xs. entry_of t (refused_as (outcome.Deadlock xs) m.history.now) [] [] in
      let last : made (suc place ∷ c) ≡ made cycle =
      last_same m.history.entries (made (suc place ∷ c)) (made cycle) (ap entries_in (sym does.2 ∙ is)) in
      let same : suc place ∷ c ≡ cycle = same_cycle (suc place ∷ c) cycle (ap (λ (e : Entry). e.outcome) last) in
      let need : n ≡ needed = same_Some n needed (sym does.0.wants ∙ wants) in
      sym same ∙ exact
      ∙ ap (λ (x : Needed). first_cycle (length rules.regions) (requests_with rules m (suc place) x) m.locks
      (suc place)) need
  names_found (Retries_at_cycle n c) after needed cycle does exact wants is =
      absurd (not_longer m.history.entries (entry_of t (refused_as (outcome.Deadlock cycle) m.history.now) [] [])
      (ap entries_in (sym does.2 ∙ is)))
  names_found (Finishes ending items) after needed cycle does exact wants is =
      absurd (none-some needed (sym does.0.lacks_none ∙ wants))
  names_found (Retries_at_verify ending) after needed cycle does exact wants is =
      absurd (none-some needed (sym does.0.lacks_none ∙ wants))

-- ---- what an act adds

-- An exact act adds no entry, or one with its own items. Only one that is done has another state behind it.
pub data Adds (defs : Defs) (rules : Rules) (m : Machine) (t : Transaction) (m2 : Machine) : Type 0 where
  AddsNone : m2.history ≡ m.history → Adds defs rules m t m2
  AddsOne :
      (e : Entry)
      → m2.history.entries ≡ m.history.entries ++ e ∷ []
      → AreItemsFor e.outcome e.items
      → HasItsItems defs rules m t e.outcome m2.history.now e.items
      → (¬ (e.outcome ≡ outcome.Done) → m2.history.now ≡ m.history.now)
      → Adds defs rules m t m2

pub done_or_not : (o : Outcome) → (o ≡ outcome.Done) ⊎ ¬ (o ≡ outcome.Done)
done_or_not outcome.Done = inl refl
done_or_not (outcome.Verify call fsa found) = inr (λ e. cc)
done_or_not (outcome.Roll code) = inr (λ e. cc)
done_or_not (outcome.SeqFull set begin end n) = inr (λ e. cc)
done_or_not (outcome.Deadlock cycle) = inr (λ e. cc)
done_or_not outcome.Device = inr (λ e. cc)
done_or_not outcome.Memory = inr (λ e. cc)
done_or_not outcome.Unknown = inr (λ e. cc)
done_or_not (outcome.Old last) = inr (λ e. cc)
done_or_not (outcome.Repeat line) = inr (λ e. cc)
done_or_not (outcome.Purge set n) = inr (λ e. cc)
done_or_not outcome.Format = inr (λ e. cc)

-- a transaction that isn't done leaves the state
state_stays : (now : Db) (reply : List ℕ) (s : Settlement) → ¬ ((settled_as now reply s).outcome ≡ outcome.Done)
    → (settled_as now reply s).next ≡ now
state_stays now reply (Commits next) other = absurd (other refl)
state_stays now reply (FailsVerify call fsa found) other = refl
state_stays now reply (FillsPart set begin end n) other = refl

module _ (defs : Defs) (rules : Rules) (m : Machine) (place : ℕ) (t : Transaction) where
  end_stays : (ask : Ask) (ending : Ending) → ending_of rules m.history.now t ask ≡ Some ending
      → ¬ (ending.outcome ≡ outcome.Done) → ending.next ≡ m.history.now
  end_stays (Asks call) ending is other = absurd (none-some ending is)
  end_stays (Replies reply) ending is other =
      let s = rules.settle m.history.now t.point.own in
      let same : settled_as m.history.now reply s ≡ ending = same_Some (settled_as m.history.now reply s) ending is in
      sym (ap (λ (x : Ending). x.next) same)
      ∙ state_stays m.history.now reply s (λ done. other (sym (ap (λ (x : Ending). x.outcome) same) ∙ done))
  end_stays (Rolls code) ending is other =
      let made : Ending = refused_as (outcome.Roll code) m.history.now in
      sym (ap (λ (x : Ending). x.next) (same_Some made ending is))

  act_adds : (act : Act) (m2 : Machine) → Does rules m (suc place) t act m2 → IsExact defs rules m (suc place) t act
      → Adds defs rules m t m2
  act_adds (Answers call) m2 does exact = AddsNone (ap (λ (x : Machine). x.history) does.2)
  act_adds (Gains n) m2 does exact = AddsNone (ap (λ (x : Machine). x.history) does.2)
  act_adds (Waits n) m2 does exact = AddsNone (ap (λ (x : Machine). x.history) does.3)
  act_adds (Deadlocks n c) m2 does exact =
      AddsOne (entry_of t (refused_as (outcome.Deadlock (suc place ∷ c)) m.history.now) [] [])
      (ap entries_in does.2) refl tt (λ other. ap (λ (x : Machine). x.history.now) does.2)
  act_adds (Retries_at_cycle n c) m2 does exact = AddsNone (ap (λ (x : Machine). x.history) does.2)
  act_adds (Finishes ending items) m2 does exact =
      let next : m2.history.now ≡ ending.next = ap (λ (x : Machine). x.history.now) does.3 in
      AddsOne (entry_of t ending t.notes items) (ap entries_in does.3) does.2
      (subst (λ (d : Db). HasItsItems defs rules m t ending.outcome d items) (sym next) exact)
      (λ other. next ∙ end_stays (asks rules t) ending does.0.ends other)
  act_adds (Retries_at_verify ending) m2 does exact = AddsNone (ap (λ (x : Machine). x.history) does.3)

  -- whatever befalls it
  pub turn_adds : (v : Environment) (m2 : Machine) → RegionTurn rules m (suc place) (Some (Active t)) v m2
      → IsExactOfRegion defs rules m (suc place) (Some (Active t)) v m2 → Adds defs rules m t m2
  turn_adds NoFault m2 turn exact = act_adds exact.0 m2 exact.1 exact.2
  turn_adds DeviceFault m2 turn exact =
      AddsOne (entry_of t (refused_as outcome.Device m.history.now) [] []) (ap entries_in turn) refl tt
      (λ other. ap (λ (x : Machine). x.history.now) turn)
  turn_adds OutOfMemory m2 turn exact =
      AddsOne (entry_of t (refused_as outcome.Memory m.history.now) [] []) (ap entries_in turn) refl tt
      (λ other. ap (λ (x : Machine). x.history.now) turn)

-- ---- a turn

-- What is answered for a turn says that it is exact.
pub exact_of : (defs : Defs) (rules : Rules) (m : Machine) (e : Event) (v : Environment) (m2 : Machine) (given : Did)
    → IsDid defs rules m e v m2 given → IsExactTurn defs rules m e v m2
exact_of defs rules m event.In v m2 given did = tt
exact_of defs rules m (event.Region region) v m2 given did = by (region_at m region) v did
  where
    by : (o : Option Region) (v : Environment) → IsDidOfRegion defs rules m region o v m2 given
        → IsExactOfRegion defs rules m region o v m2
    by None v did = tt
    by (Some Idle) v did = tt
    by (Some (Active t)) NoFault did = (did.0, did.1, did.2)
    by (Some (Active t)) DeviceFault did = tt
    by (Some (Active t)) OutOfMemory did = tt
exact_of defs rules m event.Log v m2 given did = tt
exact_of defs rules m event.Out v m2 given did = tt
exact_of defs rules m event.Ckpt v m2 given did = tt
exact_of defs rules m (event.Purge set n) v m2 given did = absurd did

not_deadlock : (o : Outcome) (cycle : List ℕ) → ¬ (o ≡ outcome.Deadlock cycle) → (m : Machine) (place : ℕ)
    → (t : Transaction) (rules : Rules)
    → ¬ (refused_with rules m (suc place) t o ≡ refused_with rules m (suc place) t (outcome.Deadlock cycle))
not_deadlock o cycle apart m place t rules is =
    let made : Outcome → Entry = λ x. entry_of t (refused_as x m.history.now) [] [] in
    apart (ap (λ (e : Entry). e.outcome)
    (last_same m.history.entries (made o) (made (outcome.Deadlock cycle)) (ap entries_in is)))

module _ (defs : Defs) (rules : Rules) (m : Machine) (v : Environment) (after : Machine) where
  -- The cycle that an entry of an exact turn names is the first.
  pub names_first : (e : Event) → Turn rules m e v after → IsExactTurn defs rules m e v after
      → (region : ℕ) (t : Transaction) (needed : Needed) (cycle : List ℕ)
      → e ≡ event.Region region
      → region_at m region ≡ Some (Active t)
      → wanted rules m region t (asks rules t) ≡ Some needed
      → after ≡ refused_with rules m region t (outcome.Deadlock cycle)
      → cycle ≡ first_cycle (length rules.regions) (requests_with rules m region needed) m.locks region
  names_first e turn exact zero t needed cycle here there wants is = absurd (none-some (Active t) there)
  names_first e turn exact (suc place) t needed cycle here there wants is =
      by v
      (subst (λ (o : Option Region). RegionTurn rules m (suc place) o v after) there
      (subst (λ (x : Event). Turn rules m x v after) here turn))
      (subst (λ (o : Option Region). IsExactOfRegion defs rules m (suc place) o v after) there
      (subst (λ (x : Event). IsExactTurn defs rules m x v after) here exact))
    where
      by : (w : Environment) → RegionTurn rules m (suc place) (Some (Active t)) w after
          → IsExactOfRegion defs rules m (suc place) (Some (Active t)) w after
          → cycle ≡ first_cycle (length rules.regions) (requests_with rules m (suc place) needed) m.locks (suc place)
      by NoFault turn act = names_found defs rules m place t act.0 after needed cycle act.1 act.2 wants is
      by DeviceFault turn act = absurd (not_deadlock outcome.Device cycle (λ e. cc) m place t rules (sym turn ∙ is))
      by OutOfMemory turn act = absurd (not_deadlock outcome.Memory cycle (λ e. cc) m place t rules (sym turn ∙ is))
