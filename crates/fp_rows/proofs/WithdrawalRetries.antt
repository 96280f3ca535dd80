-- The run of two withdrawals from one account, turn by turn: the second fails its verify and is run again.
use Rattle.std.proofs.Common.{◌≡◌, List, [], ◌∷◌, ◌++◌, Some, refl, lit<}
use Rattle.std.specs.Prelude.{codes, false, true, slice_get}
use Rattle.std.specs.Fmt.{digits}
use Rattle.fp_model.specs.declared.calls.Call.{Call}
use Rattle.fp_model.specs.declared.calls.Call.TheVariants as call
use Rattle.fp_model.specs.declared.calls.Message.{Message}
use Rattle.fp_model.specs.declared.calls.Mode.TheVariants.{Exclusive}
use Rattle.fp_model.specs.declared.calls.Resource.TheVariants.{Segment}
use Rattle.fp_model.specs.declared.events.Event.TheVariants.{In, Region, Log}
use Rattle.fp_model.specs.declared.log.Outcome.TheVariants as outcome
use Rattle.fp_model.specs.Spellings.{be16}
use Rattle.fp_model.specs.Fsas.{list_on, first_failure}
use Rattle.fp_model.specs.Settle.{settle_from}
use Rattle.fp_model.specs.Answers.{Needed}
use Rattle.fp_model.specs.Calls.{reply_to, looks_unheld, need_of}
use Rattle.fp_model.specs.Commit.{settlement, lacking}
use Rattle.fp_model.specs.Serial.{Ending, refused_as}
use Rattle.fp_model.specs.Machine.{Machine, Transaction, Active, taken_in, with_region, entry_of, ended_with, sealed_once}
use Rattle.fp_model.specs.Turns.{Answers, Gains, Finishes, Retries_at_verify, Does, begins_in, with_answer, begun_in, tried_again}
use Rattle.fp_model.specs.Runs.{RunStep}
use Rattle.fp_rows.specs.Hex.{hex, named}
use Rattle.fp_rows.specs.Sample as sample
use Rattle.fp_rows.specs.States.{RunsCalmly, at_start, with_balance, segment_item}
use Rattle.fp_rows.specs.Retries.{retrying, at_rest_over, two_withdrawal_lines, round}
use Rattle.fp_rows.proofs.AsksAgain.{withdrawal_asks_again, withdrawal_replies_again, withdrawal_rolls}
use Rattle.fp_rows.proofs.MachineSteps.{calm, gained}

abbrev first_asked : Message
first_asked =
    record (sample.message_for sample.wdraw_script (codes "A001 60"))
    { lterm = named (codes "T1"); line = codes "T1 WDRAW A001 60" }

abbrev second_asked : Message
second_asked =
    record (sample.message_for sample.wdraw_script (codes "A001 60"))
    { lterm = named (codes "T2"); line = codes "T2 WDRAW A001 60" }

abbrev field_call : Call
field_call = call.Fld 0 (codes "A001") (hex
    (codes "42414c2020202020 20 48 0002 3630 2a 42414c2020202020 20 2d 0002 3630 20"))

abbrev the_lock : Needed
the_lock = record { resource = Segment 0 (codes "A001"); mode = Exclusive }

-- ---- the machines after each turn

abbrev m1 : Machine
m1 = taken_in retrying (at_rest_over retrying at_start two_withdrawal_lines)

abbrev m2 : Machine
m2 = taken_in retrying m1

abbrev first0 : Transaction
first0 = begun_in retrying m2 first_asked 0

abbrev m3 : Machine
m3 = begins_in retrying m2 1 (first_asked ∷ second_asked ∷ [])

abbrev second0 : Transaction
second0 = begun_in retrying m3 second_asked 0

abbrev m4 : Machine
m4 = begins_in retrying m3 2 (second_asked ∷ [])

-- both look before either commits
abbrev first1 : Transaction
first1 = with_answer retrying m4 first0 field_call

abbrev m5 : Machine
m5 = with_region 1 (Active first1) m4

abbrev second1 : Transaction
second1 = with_answer retrying m5 second0 field_call

abbrev m6 : Machine
m6 = with_region 2 (Active second1) m5

-- the first commits, and the second meets what is left
abbrev m7 : Machine
m7 = gained 1 the_lock m6

abbrev paid : Ending
paid = record { outcome = outcome.Done; reply = codes "PAID 60"; next = with_balance (codes "0000040c") }

abbrev m8 : Machine
m8 = ended_with 1 (entry_of first1 paid first1.notes (segment_item (codes "0000040c") ∷ [])) paid.next m7

abbrev m9 : Machine
m9 = gained 2 the_lock m8

abbrev failed : Ending
failed = refused_as (outcome.Verify 0 0 (hex (codes "0000040c"))) paid.next

-- the second begins again, behind the first's entry
abbrev m10 : Machine
m10 = tried_again retrying 2 second1 m9

abbrev m11 : Machine
m11 = sealed_once retrying m10

abbrev second2 : Transaction
second2 = begun_in retrying m9 second_asked 1

-- 40 is left, and it asks for 60
abbrev second3 : Transaction
second3 = with_answer retrying m11 second2 field_call

abbrev m12 : Machine
m12 = with_region 2 (Active second3) m11

abbrev rolled : Ending
rolled = refused_as (outcome.Roll 7) paid.next

abbrev m13 : Machine
m13 = ended_with 2 (entry_of second3 rolled second3.notes []) rolled.next m12

turn5 : Does retrying m4 1 first0 (Answers field_call) m5
unfolding reply_to looks_unheld need_of list_on be16 digits
turn5 = (
  simp (withdrawal_asks_again first_asked.lterm first_asked.line) refl,
  simp (withdrawal_asks_again first_asked.lterm first_asked.line) refl,
  refl,
)

turn6 : Does retrying m5 2 second0 (Answers field_call) m6
unfolding reply_to looks_unheld need_of list_on be16 digits
turn6 = (
  simp (withdrawal_asks_again second_asked.lterm second_asked.line) refl,
  simp (withdrawal_asks_again second_asked.lterm second_asked.line) refl,
  refl,
)

turn7 : Does retrying m6 1 first1 (Gains the_lock) m7
unfolding reply_to looks_unheld lacking list_on be16 digits
turn7 = (simp (withdrawal_replies_again first_asked.lterm first_asked.line) refl, refl, refl)

turn8 : Does retrying m7 1 first1 (Finishes paid (segment_item (codes "0000040c") ∷ [])) m8
unfolding reply_to looks_unheld lacking settlement settle_from list_on first_failure be16 digits
turn8 = (
  record {
    lacks_none = simp (withdrawal_replies_again first_asked.lterm first_asked.line) refl;
    ends = simp (withdrawal_replies_again first_asked.lterm first_asked.line) refl;
  },
  (λ fails. let wrong : false ≡ true = fails in cc),
  tt,
  refl,
)

turn9 : Does retrying m8 2 second1 (Gains the_lock) m9
unfolding reply_to looks_unheld lacking list_on be16 digits
turn9 = (simp (withdrawal_replies_again second_asked.lterm second_asked.line) refl, refl, refl)

turn10 : Does retrying m9 2 second1 (Retries_at_verify failed) m10
unfolding reply_to looks_unheld lacking settlement settle_from list_on first_failure be16 digits
turn10 = (
  record {
    lacks_none = simp (withdrawal_replies_again second_asked.lterm second_asked.line) refl;
    ends = simp (withdrawal_replies_again second_asked.lterm second_asked.line) refl;
  },
  refl,
  lit< tt,
  refl,
)

turn12 : Does retrying m11 2 second2 (Answers field_call) m12
unfolding reply_to looks_unheld need_of list_on be16 digits
turn12 = (
  simp (withdrawal_asks_again second_asked.lterm second_asked.line) refl,
  simp (withdrawal_asks_again second_asked.lterm second_asked.line) refl,
  refl,
)

turn13 : Does retrying m12 2 second3 (Finishes rolled []) m13
unfolding reply_to looks_unheld lacking settlement settle_from list_on first_failure be16 digits
turn13 = (
  record {
    lacks_none = simp (withdrawal_rolls second_asked.lterm second_asked.line) refl;
    ends = simp (withdrawal_rolls second_asked.lterm second_asked.line) refl;
  },
  (λ fails. let wrong : false ≡ true = fails in cc),
  refl,
  refl,
)

-- the steps of the run
abbrev withdrawal_steps : List RunStep
withdrawal_steps =
    calm In m1 ∷ calm In m2 ∷ calm (Region 1) m3 ∷ calm (Region 2) m4 ∷ calm (Region 1) m5 ∷ calm (Region 2) m6
    ∷ calm (Region 1) m7 ∷ calm (Region 1) m8 ∷ calm (Region 2) m9 ∷ calm (Region 2) m10 ∷ calm Log m11
    ∷ calm In m11 ∷ calm (Region 1) m11 ∷ calm (Region 2) m12 ∷ calm Log m12 ∷ calm In m12 ∷ calm (Region 1) m12
    ∷ calm (Region 2) m13 ∷ calm Log (sealed_once retrying m13) ∷ []

pub withdrawals_again_by_turns : (m : Machine)
    × (RunsCalmly retrying (at_rest_over retrying at_start two_withdrawal_lines)
    (In ∷ In ∷ Region 1 ∷ Region 2 ∷ Region 1 ∷ Region 2 ∷ Region 1 ∷ Region 1 ∷ Region 2 ∷ Region 2 ∷ Log
    ∷ round ++ round)
    m
    × ((slice_get m.history.entries 1 ≡ Some
    (record {
      from = 1;
      outcome = outcome.Roll 7;
      line = codes "T2 WDRAW A001 60";
      reply = [];
      notes = 1
          ∷ [];
      items = [];
    }))
    × (m.sent ≡ codes "T1 OK PAID 60" ++ 10 ∷ codes "T2 NO ROLB 7" ++ 10 ∷ [])))
unfolding reply_to looks_unheld list_on be16 digits
withdrawals_again_by_turns = (
  sealed_once retrying m13,
  (
    record {
      steps = withdrawal_steps;
      takes = refl;
      is_calm = refl;
      runs = (
        refl,
        (
          refl,
          (
            refl,
            (
              refl,
              (
                (Answers field_call, turn5),
                (
                  (Answers field_call, turn6),
                  (
                    (Gains the_lock, turn7),
                    (
                      (Finishes paid (segment_item (codes "0000040c") ∷ []), turn8),
                      (
                        (Gains the_lock, turn9),
                        (
                          (Retries_at_verify failed, turn10),
                          (
                            refl,
                            (
                              refl,
                              (
                                refl,
                                (
                                  (Answers field_call, turn12),
                                  (
                                    refl,
                                    (
                                      refl,
                                      (
                                        refl,
                                        (
                                          (Finishes rolled [], turn13),
                                          (refl, refl),
                                        ),
                                      ),
                                    ),
                                  ),
                                ),
                              ),
                            ),
                          ),
                        ),
                      ),
                    ),
                  ),
                ),
              ),
            ),
          ),
        ),
      );
    },
    (refl, refl),
  ),
)
