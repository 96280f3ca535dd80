-- The run of a deposit, turn by turn.
use Rattle.std.proofs.Common.{◌≡◌, List, [], ◌∷◌, ◌++◌, refl, lit≤}
use Rattle.std.specs.Prelude.{codes}
use Rattle.std.specs.Fmt.{digits}
use Rattle.fp_model.specs.declared.calls.Call.{Call}
use Rattle.fp_model.specs.declared.calls.Call.TheVariants as call
use Rattle.fp_model.specs.declared.calls.Mode.TheVariants.{Exclusive}
use Rattle.fp_model.specs.declared.calls.Resource.TheVariants.{Segment}
use Rattle.fp_model.specs.declared.events.Event.TheVariants.{In, Region, Log}
use Rattle.fp_model.specs.declared.log.Outcome.TheVariants as outcome
use Rattle.fp_model.specs.Spellings.{be16}
use Rattle.fp_model.specs.Fsas.{list_on, first_failure}
use Rattle.fp_model.specs.Settle.{settle_from}
use Rattle.fp_model.specs.Answers.{Needed}
use Rattle.fp_model.specs.Calls.{reply_to, looks_unheld, need_of}
use Rattle.fp_model.specs.Commit.{settlement, lacking}
use Rattle.fp_model.specs.Serial.{Ending}
use Rattle.fp_model.specs.Machine.{Machine, Transaction, Active, taken_in, with_region, entry_of, ended_with, sealed_once}
use Rattle.fp_model.specs.Turns.{Answers, Gains, Finishes, Does, begins_in, messages_for, with_answer, begun_in, as_lock}
use Rattle.fp_model.specs.Runs.{RunStep}
use Rattle.fp_rows.specs.Hex.{hex}
use Rattle.fp_rows.specs.Sample as sample
use Rattle.fp_rows.specs.States.{RunsCalmly, sample_rules, at_rest_with_a_deposit, with_balance}
use Rattle.fp_rows.proofs.Asks.{deposit_asks, deposit_replies}
use Rattle.fp_rows.proofs.MachineSteps.{calm}

-- the machines after each turn
abbrev taken : Machine
taken = taken_in sample_rules at_rest_with_a_deposit

abbrev transaction : Transaction
transaction = begun_in sample_rules at_rest_with_a_deposit (sample.message_for sample.deposit_script (codes "A001 10"))
    0

abbrev begun_by_one : Machine
begun_by_one = begins_in sample_rules taken 1 (messages_for sample_rules taken 1)

abbrev field_call : Call
field_call = call.Fld 0 (codes "A001") (hex (codes "42414c2020202020 20 2b 0002 3130 20"))

abbrev after_answer : Transaction
after_answer = with_answer sample_rules begun_by_one transaction field_call

abbrev with_first : Machine
with_first = with_region 1 (Active after_answer) begun_by_one

abbrev the_lock : Needed
the_lock = record { resource = Segment 0 (codes "A001"); mode = Exclusive }

abbrev locked : Machine
locked = record with_first { locks = as_lock sample_rules 1 the_lock ∷ [] }

abbrev ending : Ending
ending = record { outcome = outcome.Done; reply = codes "NEW"; next = with_balance (codes "0000110c") }

abbrev committed : Machine
committed = ended_with 1 (entry_of after_answer ending after_answer.notes sample.deposit.items) ending.next locked

answers : Does sample_rules begun_by_one 1 transaction (Answers field_call) with_first
unfolding reply_to looks_unheld need_of list_on be16 digits
answers = (simp (deposit_asks) refl, simp (deposit_asks) refl, refl)

gains : Does sample_rules with_first 1 after_answer (Gains the_lock) locked
unfolding reply_to looks_unheld lacking list_on be16 digits
gains = (simp (deposit_replies) refl, refl, refl)

commits : Does sample_rules locked 1 after_answer (Finishes ending sample.deposit.items) committed
unfolding reply_to looks_unheld lacking settlement settle_from list_on first_failure be16 digits
commits = (
  record { lacks_none = simp (deposit_replies) refl; ends = simp (deposit_replies) refl },
  (λ fails. lit≤ tt),
  tt,
  refl,
)

-- the steps of the run
abbrev deposit_steps : List RunStep
deposit_steps =
    calm In taken ∷ calm (Region 1) begun_by_one ∷ calm (Region 1) with_first ∷ calm (Region 1) locked
    ∷ calm (Region 1) committed ∷ calm Log (sealed_once sample_rules committed) ∷ []

pub deposit_by_turns : (m : Machine)
    × (RunsCalmly sample_rules at_rest_with_a_deposit (In ∷ Region 1 ∷ Region 1 ∷ Region 1 ∷ Region 1 ∷ Log ∷ []) m
    × ((m.sent ≡ codes "T1 OK NEW" ++ 10 ∷ [])
    × ((m.groups ≡ (sample.deposit ∷ []) ∷ [])
    × (m.history.now ≡ with_balance (codes "0000110c")))))
unfolding reply_to looks_unheld list_on be16 digits
deposit_by_turns = (
  sealed_once sample_rules committed,
  (
    record {
      steps = deposit_steps;
      takes = refl;
      is_calm = refl;
      runs = (
        refl,
        (
          refl,
          (
            (Answers field_call, answers),
            (
              (Gains the_lock, gains),
              ((Finishes ending sample.deposit.items, commits), (refl, refl)),
            ),
          ),
        ),
      );
    },
    (refl, (refl, refl)),
  ),
)
