-- Nothing befalling it, each event that may be taken has a turn.
use Rattle.std.proofs.Common.{◌≡◌, ℕ, zero, suc, ◌+◌, ◌<◌, ◌≤◌, [], length, Option, Some, None, ◌⊎◌, inl, inr, refl, sym, ◌∙◌, ap, subst, Bool, true, false, arith}
use Rattle.std.specs.Prelude.{nat_lt}
use Rattle.std.proofs.lemmas.Grind.{common_steps}
use Rattle.fp_model.specs.declared.events.Event.TheVariants as event
use Rattle.fp_model.specs.declared.log.Outcome.{Outcome}
use Rattle.fp_model.specs.declared.log.Outcome.TheVariants as outcome
use Rattle.fp_model.specs.Answers.{Needed}
use Rattle.fp_model.specs.Asking.{Ask, Asks, Replies, Rolls}
use Rattle.fp_model.specs.Rules.{Rules}
use Rattle.fp_model.specs.Serial.{Ending, refused_as, settled_as}
use Rattle.fp_model.specs.Waiting.{Lock, is_blocked, waits, with_request}
use Rattle.fp_model.specs.Machine.{Transaction, Region, Idle, Active, Machine}
use Rattle.fp_model.specs.Turns.{NoFault, Act, Answers, Gains, Waits, Deadlocks, Retries_at_cycle, Finishes, Retries_at_verify, AreItemsFor, is_verify_failure, asks, wanted, ending_of, as_lock, Does, messages_for, begins_in, RegionTurn, Turn}
use Rattle.serial_order.proofs.Lists.{true_is_not_false}
use Rattle.drain_laws.proofs.Cycles.{cycle_or_none}
use Rattle.plain_laws.proofs.Places.{get_there}
use Rattle.std.proofs.lemmas.Bool.{cases_Bool}

-- no items are items of every outcome
no_items : (o : Outcome) → AreItemsFor o []
no_items outcome.Done = tt
no_items (outcome.Verify call fsa found) = refl
no_items (outcome.Roll code) = refl
no_items (outcome.SeqFull set begin end n) = refl
no_items (outcome.Deadlock cycle) = refl
no_items outcome.Device = refl
no_items outcome.Memory = refl
no_items outcome.Unknown = refl
no_items (outcome.Old last) = refl
no_items (outcome.Repeat line) = refl
no_items (outcome.Purge set n) = refl
no_items outcome.Format = refl

-- tries are left, or none is
tries_left : (rules : Rules) (t : Transaction) → (t.tries < rules.tries) ⊎ (rules.tries ≤ t.tries)
tries_left rules t = by (nat_lt t.tries rules.tries) refl
  where
    by : (b : Bool) → nat_lt t.tries rules.tries ≡ b → (t.tries < rules.tries) ⊎ (rules.tries ≤ t.tries)
    by true is = inl (grind (arith, common_steps, is))
    by false is = inr (grind (arith, common_steps, is))

module _ (rules : Rules) (m : Machine) (region : ℕ) (t : Transaction) where
  -- an act, and where it leads
  abbrev HasAct : Type 0
  HasAct = (act : Act) × ((m2 : Machine) × Does rules m region t act m2)

  -- a lock is lacking
  needs : (needed : Needed) → wanted rules m region t (asks rules t) ≡ Some needed → HasAct
  needs needed is =
      let l : Lock = as_lock rules region needed in
      elim (cases_Bool (is_blocked m.locks l)) [
        | inr free ↦ (Gains needed, (_, (is, free, refl)))
        | inl blocked ↦ elim (cycle_or_none (waits (with_request l m.requests) m.locks) region) [
          | inl c ↦ elim (tries_left rules t) [
            | inl left ↦ (
              Retries_at_cycle needed c.cycle,
              (_, (record { wants = is; closes = c.closes; distinct = c.distinct }, left, refl)),
            )
            | inr none ↦ (
              Deadlocks needed c.cycle,
              (_, (record { wants = is; closes = c.closes; distinct = c.distinct }, none, refl)),
            )
          ]
          | inr none ↦ (Waits needed, (_, (is, blocked, none, refl)))
        ]
      ]

  -- the script is at its end
  ends : (ending : Ending) → wanted rules m region t (asks rules t) ≡ None
      → ending_of rules m.history.now t (asks rules t) ≡ Some ending
      → HasAct
  ends ending free is = elim (cases_Bool (is_verify_failure ending.outcome)) [
    | inl fails ↦ elim (tries_left rules t) [
      | inl left ↦ (Retries_at_verify ending, (_, (record { lacks_none = free; ends = is }, fails, left, refl)))
      | inr none ↦ (
        Finishes ending [],
        (_, (record { lacks_none = free; ends = is }, (λ same. none), no_items ending.outcome, refl)),
      )
    ]
    | inr other ↦ (
      Finishes ending [],
      (
        _,
        (
          record { lacks_none = free; ends = is },
          (λ same. absurd (true_is_not_false (sym same ∙ other))),
          no_items ending.outcome,
          refl,
        ),
      ),
    )
  ]

  goes_by : (ask : Ask) → asks rules t ≡ ask → (o : Option Needed) → wanted rules m region t (asks rules t) ≡ o → HasAct
  goes_by ask is (Some needed) wants = needs needed wants
  goes_by (Asks call) is None free = (Answers call, (_, (is, free, refl)))
  goes_by (Replies reply) is None free =
      ends (settled_as m.history.now reply (rules.settle m.history.now t.point.own)) free
      (ap (λ (a : Ask). ending_of rules m.history.now t a) is)
  goes_by (Rolls code) is None free =
      ends (refused_as (outcome.Roll code) m.history.now) free
      (ap (λ (a : Ask). ending_of rules m.history.now t a) is)

  -- An active region has something to do.
  pub act_there_is : HasAct
  act_there_is = goes_by (asks rules t) refl (wanted rules m region t (asks rules t)) refl

-- a region's turn
region_turn_there_is : (rules : Rules) (m : Machine) (region : ℕ) (r : Region)
    → (m2 : Machine) × RegionTurn rules m region (Some r) NoFault m2
region_turn_there_is rules m region Idle = (begins_in rules m region (messages_for rules m region), refl)
region_turn_there_is rules m region (Active t) =
    let a = act_there_is rules m region t in (a.1.0, (a.0, a.1.1))

pub turn_there_is : (rules : Rules) (m : Machine) (region : ℕ) → 1 ≤ region → region < 1 + length m.regions
    → (m2 : Machine) × Turn rules m (event.Region region) NoFault m2
turn_there_is rules m zero low high = absurd (omega (arith, low))
turn_there_is rules m (suc place) low high =
    let found = get_there m.regions place (omega (arith, high)) in
    let turn = region_turn_there_is rules m (suc place) found.0 in
    (turn.0, subst (λ (o : Option Region). RegionTurn rules m (suc place) o NoFault turn.0) (sym found.1) turn.1)
