-- The run of two withdrawals from one account, turn by turn.
use Rattle.std.proofs.Common.{◌≡◌, List, [], ◌∷◌, ◌++◌, refl, lit≤}
use Rattle.std.specs.Prelude.{codes}
use Rattle.std.specs.Fmt.{digits}
use Rattle.fp_model.specs.declared.calls.Call.{Call}
use Rattle.fp_model.specs.declared.calls.Call.TheVariants as call
use Rattle.fp_model.specs.declared.calls.Message.{Message}
use Rattle.fp_model.specs.declared.calls.Mode.TheVariants.{Exclusive}
use Rattle.fp_model.specs.declared.calls.Resource.TheVariants.{Segment}
use Rattle.fp_model.specs.declared.events.Event.TheVariants.{In, Region, Log}
use Rattle.fp_model.specs.declared.log.Outcome.TheVariants as outcome
use Rattle.fp_model.specs.Spellings.{be16}
use Rattle.fp_model.specs.Fsas.{list_on, first_failure}
use Rattle.fp_model.specs.Settle.{settle_from}
use Rattle.fp_model.specs.Answers.{Needed}
use Rattle.fp_model.specs.Calls.{reply_to, looks_unheld, need_of}
use Rattle.fp_model.specs.Commit.{settlement, lacking}
use Rattle.fp_model.specs.Serial.{Ending, refused_as}
use Rattle.fp_model.specs.Machine.{Machine, Transaction, Active, taken_in, with_region, entry_of, ended_with, sealed_once}
use Rattle.fp_model.specs.Turns.{Answers, Gains, Finishes, Does, begins_in, with_answer, begun_in}
use Rattle.fp_model.specs.Runs.{RunStep}
use Rattle.fp_rows.specs.Hex.{hex, named}
use Rattle.fp_rows.specs.Sample as sample
use Rattle.fp_rows.specs.States.{RunsCalmly, sample_rules, at_rest_with_two_withdrawals, with_balance, segment_item}
use Rattle.fp_rows.proofs.Asks.{withdrawal_asks, withdrawal_replies}
use Rattle.fp_rows.proofs.MachineSteps.{calm, gained}

abbrev first_asked : Message
first_asked =
    record (sample.message_for sample.wdraw_script (codes "A001 60"))
    { lterm = named (codes "T1"); line = codes "T1 WDRAW A001 60" }

abbrev second_asked : Message
second_asked =
    record (sample.message_for sample.wdraw_script (codes "A001 60"))
    { lterm = named (codes "T2"); line = codes "T2 WDRAW A001 60" }

abbrev field_call : Call
field_call =
    call.Fld 0 (codes "A001") (hex (codes "42414c2020202020 20 48 0002 3630 2a 42414c2020202020 20 2d 0002 3630 20"))

abbrev the_lock : Needed
the_lock = record { resource = Segment 0 (codes "A001"); mode = Exclusive }

-- ---- the machines after each turn

abbrev m1 : Machine
m1 = taken_in sample_rules at_rest_with_two_withdrawals

abbrev m2 : Machine
m2 = taken_in sample_rules m1

abbrev first0 : Transaction
first0 = begun_in sample_rules m2 first_asked 0

abbrev m3 : Machine
m3 = begins_in sample_rules m2 1 (first_asked ∷ second_asked ∷ [])

abbrev second0 : Transaction
second0 = begun_in sample_rules m3 second_asked 0

abbrev m4 : Machine
m4 = begins_in sample_rules m3 2 (second_asked ∷ [])

-- both look before either commits
abbrev first1 : Transaction
first1 = with_answer sample_rules m4 first0 field_call

abbrev m5 : Machine
m5 = with_region 1 (Active first1) m4

abbrev second1 : Transaction
second1 = with_answer sample_rules m5 second0 field_call

abbrev m6 : Machine
m6 = with_region 2 (Active second1) m5

-- the first commits, and the second meets what is left
abbrev m7 : Machine
m7 = gained 1 the_lock m6

abbrev paid : Ending
paid = record { outcome = outcome.Done; reply = codes "PAID 60"; next = with_balance (codes "0000040c") }

abbrev m8 : Machine
m8 = ended_with 1 (entry_of first1 paid first1.notes (segment_item (codes "0000040c") ∷ [])) paid.next m7

abbrev m9 : Machine
m9 = gained 2 the_lock m8

abbrev failed : Ending
failed = refused_as (outcome.Verify 0 0 (hex (codes "0000040c"))) paid.next

abbrev m10 : Machine
m10 = ended_with 2 (entry_of second1 failed second1.notes []) failed.next m9

turn5 : Does sample_rules m4 1 first0 (Answers field_call) m5
unfolding reply_to looks_unheld need_of list_on be16 digits
turn5 = (
  simp (withdrawal_asks first_asked.lterm first_asked.line) refl,
  simp (withdrawal_asks first_asked.lterm first_asked.line) refl,
  refl,
)

turn6 : Does sample_rules m5 2 second0 (Answers field_call) m6
unfolding reply_to looks_unheld need_of list_on be16 digits
turn6 = (
  simp (withdrawal_asks second_asked.lterm second_asked.line) refl,
  simp (withdrawal_asks second_asked.lterm second_asked.line) refl,
  refl,
)

turn7 : Does sample_rules m6 1 first1 (Gains the_lock) m7
unfolding reply_to looks_unheld lacking list_on be16 digits
turn7 = (simp (withdrawal_replies first_asked.lterm first_asked.line) refl, refl, refl)

turn8 : Does sample_rules m7 1 first1 (Finishes paid (segment_item (codes "0000040c") ∷ [])) m8
unfolding reply_to looks_unheld lacking settlement settle_from list_on first_failure be16 digits
turn8 = (
  record {
    lacks_none = simp (withdrawal_replies first_asked.lterm first_asked.line) refl;
    ends = simp (withdrawal_replies first_asked.lterm first_asked.line) refl;
  },
  (λ fails. lit≤ tt),
  tt,
  refl,
)

turn9 : Does sample_rules m8 2 second1 (Gains the_lock) m9
unfolding reply_to looks_unheld lacking list_on be16 digits
turn9 = (simp (withdrawal_replies second_asked.lterm second_asked.line) refl, refl, refl)

turn10 : Does sample_rules m9 2 second1 (Finishes failed []) m10
unfolding reply_to looks_unheld lacking settlement settle_from list_on first_failure be16 digits
turn10 = (
  record {
    lacks_none = simp (withdrawal_replies second_asked.lterm second_asked.line) refl;
    ends = simp (withdrawal_replies second_asked.lterm second_asked.line) refl;
  },
  (λ fails. lit≤ tt),
  refl,
  refl,
)

-- the steps of the run
abbrev withdrawal_steps : List RunStep
withdrawal_steps =
    calm In m1 ∷ calm In m2 ∷ calm (Region 1) m3 ∷ calm (Region 2) m4 ∷ calm (Region 1) m5 ∷ calm (Region 2) m6
    ∷ calm (Region 1) m7 ∷ calm (Region 1) m8 ∷ calm (Region 2) m9 ∷ calm (Region 2) m10
    ∷ calm Log (sealed_once sample_rules m10) ∷ []

pub withdrawals_by_turns : (m : Machine)
    × (RunsCalmly sample_rules at_rest_with_two_withdrawals
    (In ∷ In ∷ Region 1 ∷ Region 2 ∷ Region 1 ∷ Region 2 ∷ Region 1 ∷ Region 1 ∷ Region 2 ∷ Region 2 ∷ Log ∷ [])
    m
    × (m.sent ≡ codes "T1 OK PAID 60" ++ 10 ∷ codes "T2 NO VERIFY" ++ 10 ∷ []))
unfolding reply_to looks_unheld list_on be16 digits
withdrawals_by_turns = (
  sealed_once sample_rules m10,
  (
    record {
      steps = withdrawal_steps;
      takes = refl;
      is_calm = refl;
      runs = (
        refl,
        (
          refl,
          (
            refl,
            (
              refl,
              (
                (Answers field_call, turn5),
                (
                  (Answers field_call, turn6),
                  (
                    (Gains the_lock, turn7),
                    (
                      (Finishes paid (segment_item (codes "0000040c") ∷ []), turn8),
                      ((Gains the_lock, turn9), ((Finishes failed [], turn10), (refl, refl))),
                    ),
                  ),
                ),
              ),
            ),
          ),
        ),
      );
    },
    refl,
  ),
)
