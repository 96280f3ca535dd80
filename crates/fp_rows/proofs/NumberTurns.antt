-- Two runs of numbered lines, turn by turn: a deposit, and then its line again, a higher number and an old one.
use Rattle.std.proofs.Common.{◌≡◌, ℕ, List, [], ◌∷◌, ◌++◌, Option, Some, None, refl, lit≤}
use Rattle.std.specs.Prelude.{codes, false}
use Rattle.std.specs.Fmt.{digits}
use Rattle.fp_model.specs.declared.calls.Call.{Call}
use Rattle.fp_model.specs.declared.calls.Call.TheVariants as call
use Rattle.fp_model.specs.declared.calls.Get.TheVariants.{Unique}
use Rattle.fp_model.specs.declared.calls.Message.{Message}
use Rattle.fp_model.specs.declared.calls.Mode.TheVariants.{Exclusive}
use Rattle.fp_model.specs.declared.calls.Resource.TheVariants.{Segment}
use Rattle.fp_model.specs.declared.log.Entry.{Entry}
use Rattle.fp_model.specs.declared.events.Event.TheVariants.{In, Region, Log}
use Rattle.fp_model.specs.declared.log.Outcome.TheVariants as outcome
use Rattle.fp_model.specs.Spellings.{be16}
use Rattle.fp_model.specs.Fsas.{list_on, first_failure}
use Rattle.fp_model.specs.Settle.{settle_from}
use Rattle.fp_model.specs.Answers.{Needed}
use Rattle.fp_model.specs.Asking.{Asks, Replies, ask}
use Rattle.fp_model.specs.Calls.{reply_to, looks_unheld, need_of}
use Rattle.fp_model.specs.Commit.{settlement, lacking}
use Rattle.fp_model.specs.History.{beginning, with_entry}
use Rattle.fp_model.specs.Serial.{Ending}
use Rattle.fp_model.specs.Machine.{Machine, Transaction, Idle, Active, at_rest, taken_in, with_region, entry_of, ended_with, sealed_once}
use Rattle.fp_model.specs.Turns.{Answers, Gains, Finishes, Does, begins_in, with_answer, begun_in}
use Rattle.fp_model.specs.Runs.{RunStep}
use Rattle.fp_model.proofs.ProgramLemmas.{run_roll}
use Rattle.fp_rows.specs.Hex.{hex, named}
use Rattle.fp_rows.specs.Sample as sample
use Rattle.fp_rows.specs.States.{RunsCalmly, sample_rules, at_start, with_balance}
use Rattle.fp_rows.specs.Retries.{round}
use Rattle.fp_rows.specs.Numbered.{asking, asking_three, behind_one, behind_repeat, repeated_one, old_two, three_lines, entries_of_both_runs}
use Rattle.fp_rows.proofs.MachineSteps.{calm, gained}

-- ---- what the scripts ask, whatever the line and the number were

-- a deposit of T1
abbrev depositing : List ℕ → Option ℕ → Message
depositing line number =
    record (sample.message_for sample.deposit_script (codes "A001 10")) { line = line; number = number }

abbrev field_call : Call
field_call = call.Fld 0 (codes "A001") (hex (codes "42414c2020202020 20 2b 0002 3130 20"))

abbrev look : Call
look = call.Get Unique false 0 (record { segment = 0; key = Some (codes "A001") } ∷ [])

deposit_asks : (line : List ℕ) (number : Option ℕ) → ask sample.sample_defs sample.deposit_script.statements
    (depositing line number) [] ≡ Asks field_call
unfolding ask be16 digits
deposit_asks line number = simp (run_roll) refl

deposit_replies : (line : List ℕ) (number : Option ℕ) → ask sample.sample_defs sample.deposit_script.statements
    (depositing line number) (sample.lettered (codes "  ") (codes " ") ∷ []) ≡ Replies (codes "NEW")
unfolding ask be16 digits
deposit_replies line number = simp (run_roll) refl

asking_asks : (line : List ℕ) (number : Option ℕ) → ask sample.sample_defs sample.ask_script.statements
    (asking line number) [] ≡ Asks look
unfolding ask be16 digits
asking_asks line number = simp (run_roll) refl

asking_replies : (line : List ℕ) (number : Option ℕ) → ask sample.sample_defs sample.ask_script.statements
    (asking line number) (sample.showing 0 (hex (codes "41303031 0000110c")) ∷ []) ≡ Replies (codes "110")
unfolding ask be16 digits
asking_replies line number = simp (run_roll) refl

-- ---- the first run

abbrev first_line : List ℕ
first_line = codes "T1 1 DEPOSIT A001 10"

abbrev m0 : Machine
m0 = at_rest sample_rules (first_line ∷ []) (beginning 2 at_start)

abbrev m1 : Machine
m1 = taken_in sample_rules m0

abbrev deposit0 : Transaction
deposit0 = begun_in sample_rules m1 (depositing first_line (Some 1)) 0

abbrev m2 : Machine
m2 = begins_in sample_rules m1 1 (depositing first_line (Some 1) ∷ [])

abbrev deposit1 : Transaction
deposit1 = with_answer sample_rules m2 deposit0 field_call

abbrev m3 : Machine
m3 = with_region 1 (Active deposit1) m2

abbrev the_lock : Needed
the_lock = record { resource = Segment 0 (codes "A001"); mode = Exclusive }

abbrev m4 : Machine
m4 = gained 1 the_lock m3

abbrev new : Ending
new = record { outcome = outcome.Done; reply = codes "NEW"; next = with_balance (codes "0000110c") }

abbrev m5 : Machine
m5 = ended_with 1 (entry_of deposit1 new deposit1.notes sample.deposit.items) new.next m4

turn3 : Does sample_rules m2 1 deposit0 (Answers field_call) m3
unfolding reply_to looks_unheld need_of list_on be16 digits
turn3 = (simp (deposit_asks first_line (Some 1)) refl, simp (deposit_asks first_line (Some 1)) refl, refl)

turn4 : Does sample_rules m3 1 deposit1 (Gains the_lock) m4
unfolding reply_to looks_unheld lacking list_on be16 digits
turn4 = (simp (deposit_replies first_line (Some 1)) refl, refl, refl)

turn5 : Does sample_rules m4 1 deposit1 (Finishes new sample.deposit.items) m5
unfolding reply_to looks_unheld lacking settlement settle_from list_on first_failure be16 digits
turn5 = (
  record {
    lacks_none = simp (deposit_replies first_line (Some 1)) refl;
    ends = simp (deposit_replies first_line (Some 1)) refl;
  },
  (λ fails. lit≤ tt),
  tt,
  refl,
)

abbrev first_steps : List RunStep
first_steps =
    calm In m1 ∷ calm (Region 1) m2 ∷ calm (Region 1) m3 ∷ calm (Region 1) m4 ∷ calm (Region 1) m5
    ∷ calm Log (sealed_once sample_rules m5) ∷ []

pub first_run : (m : Machine)
    × (RunsCalmly sample_rules (at_rest sample_rules (codes "T1 1 DEPOSIT A001 10" ∷ []) (beginning 2 at_start))
    (In ∷ Region 1 ∷ Region 1 ∷ Region 1 ∷ Region 1 ∷ Log ∷ []) m
    × ((m.history ≡ behind_one) × (m.sent ≡ codes "T1 OK NEW" ++ 10 ∷ [])))
unfolding reply_to looks_unheld list_on be16 digits
first_run = (
  sealed_once sample_rules m5,
  (
    record {
      steps = first_steps;
      takes = refl;
      is_calm = refl;
      runs = (
        refl,
        (
          refl,
          (
            (Answers field_call, turn3),
            (
              (Gains the_lock, turn4),
              ((Finishes new sample.deposit.items, turn5), (refl, refl)),
            ),
          ),
        ),
      );
    },
    (refl, refl),
  ),
)

-- ---- the second run

abbrev second_line : List ℕ
second_line = codes "T1 3 ASK A001"

abbrev third_line : List ℕ
third_line = codes "T1 2 ASK A001"

-- the repeat, and its line
abbrev n1 : Machine
n1 = record {
  lines = second_line ∷ third_line ∷ [];
  held = None;
  queues = [] ∷ [];
  busy = named (codes "T1") ∷ [];
  history = behind_repeat;
  sealed = 1;
  groups = [];
  sent = [];
  regions = Idle ∷ Idle ∷ [];
  locks = [];
  requests = [];
}

abbrev n2 : Machine
n2 = record n1 { busy = []; sealed = 2; groups = (repeated_one ∷ []) ∷ []; sent = codes "T1 OK NEW" ++ 10 ∷ [] }

-- number 3 is queued, and begins
abbrev n3 : Machine
n3 = record n2 {
  lines = third_line ∷ [];
  queues = (asking second_line (Some 3) ∷ []) ∷ [];
  busy = named (codes "T1") ∷ [];
}

abbrev asking0 : Transaction
asking0 = begun_in sample_rules n2 (asking second_line (Some 3)) 0

abbrev n4 : Machine
n4 = record n3 { queues = [] ∷ []; regions = Active asking0 ∷ Idle ∷ [] }

-- number 2 waits for its terminal
abbrev n5 : Machine
n5 = record n4 { lines = []; held = Some third_line }

abbrev asking1 : Transaction
asking1 = with_answer sample_rules n5 asking0 look

abbrev n6 : Machine
n6 = record n5 { regions = Active asking1 ∷ Idle ∷ [] }

abbrev shown : Ending
shown = record { outcome = outcome.Done; reply = codes "110"; next = with_balance (codes "0000110c") }

abbrev asked_again : Entry
asked_again = record asking_three { from = 2; notes = 2 ∷ [] }

abbrev n7 : Machine
n7 = record n6 {
  history = with_entry asked_again shown.next behind_repeat;
  regions = Idle ∷ Idle ∷ [];
}

abbrev n8 : Machine
n8 = record n7 {
  busy = [];
  sealed = 3;
  groups = (repeated_one ∷ []) ∷ (asked_again ∷ []) ∷ [];
  sent = codes "T1 OK NEW" ++ 10 ∷ codes "T1 OK 110" ++ 10 ∷ [];
}

-- and is refused
abbrev n9 : Machine
n9 = record n8 {
  held = None;
  busy = named (codes "T1") ∷ [];
  history = with_entry old_two shown.next n7.history;
}

abbrev n10 : Machine
n10 = record n9 {
  busy = [];
  sealed = 4;
  groups = (repeated_one ∷ []) ∷ (asked_again ∷ []) ∷ (old_two ∷ []) ∷ [];
  sent = codes "T1 OK NEW" ++ 10 ∷ codes "T1 OK 110" ++ 10 ∷ codes "T1 NO OLD 3" ++ 10 ∷ [];
}

look_turn : Does sample_rules n5 1 asking0 (Answers look) n6
unfolding reply_to looks_unheld need_of be16 digits
look_turn = (simp (asking_asks second_line (Some 3)) refl, simp (asking_asks second_line (Some 3)) refl, refl)

last_turn : Does sample_rules n6 1 asking1 (Finishes shown []) n7
unfolding reply_to looks_unheld lacking settlement settle_from be16 digits
last_turn = (
  record {
    lacks_none = simp (asking_replies second_line (Some 3)) refl;
    ends = simp (asking_replies second_line (Some 3)) refl;
  },
  (λ fails. lit≤ tt),
  tt,
  refl,
)

abbrev second_steps : List RunStep
second_steps =
    calm In n1 ∷ calm (Region 1) n1 ∷ calm (Region 2) n1 ∷ calm Log n2 ∷ calm In n3 ∷ calm (Region 1) n4
    ∷ calm (Region 2) n4 ∷ calm Log n4 ∷ calm In n5 ∷ calm (Region 1) n6 ∷ calm (Region 2) n6 ∷ calm Log n6
    ∷ calm In n6 ∷ calm (Region 1) n7 ∷ calm (Region 2) n7 ∷ calm Log n8 ∷ calm In n9 ∷ calm (Region 1) n9
    ∷ calm (Region 2) n9 ∷ calm Log n10 ∷ []

pub second_run : (m : Machine)
    × (RunsCalmly sample_rules (at_rest sample_rules three_lines behind_one)
    (round ++ round ++ round ++ round ++ round) m
    × ((m.history.entries ≡ entries_of_both_runs)
    × (m.sent ≡ codes "T1 OK NEW" ++ 10 ∷ codes "T1 OK 110" ++ 10 ∷ codes "T1 NO OLD 3" ++ 10 ∷ [])))
unfolding reply_to looks_unheld be16 digits
second_run = (
  n10,
  (
    record {
      steps = second_steps;
      takes = refl;
      is_calm = refl;
      runs = (
        refl,
        (
          refl,
          (
            refl,
            (
              refl,
              (
                refl,
                (
                  refl,
                  (
                    refl,
                    (
                      refl,
                      (
                        refl,
                        (
                          (Answers look, look_turn),
                          (
                            refl,
                            (
                              refl,
                              (
                                refl,
                                (
                                  (Finishes shown [], last_turn),
                                  (refl, (refl, (refl, (refl, (refl, (refl, refl)))))),
                                ),
                              ),
                            ),
                          ),
                        ),
                      ),
                    ),
                  ),
                ),
              ),
            ),
          ),
        ),
      );
    },
    (refl, refl),
  ),
)
