-- The run of two transactions that hold two customers each, in opposite orders, turn by turn.
use Rattle.std.proofs.Common.{◌≡◌, ℕ, List, [], ◌∷◌, ◌++◌, Option, Some, None, refl, ap, ◌∙◌, lit≤}
use Rattle.std.specs.Prelude.{codes}
use Rattle.fp_model.specs.declared.database.Db.{Db}
use Rattle.fp_model.specs.declared.calls.Message.{Message}
use Rattle.fp_model.specs.declared.calls.Mode.TheVariants.{Exclusive}
use Rattle.fp_model.specs.declared.calls.Resource.TheVariants.{Anchor}
use Rattle.fp_model.specs.declared.events.Event.TheVariants.{In, Region, Log}
use Rattle.fp_model.specs.declared.log.Outcome.TheVariants as outcome
use Rattle.fp_model.specs.Answers.{Needed}
use Rattle.fp_model.specs.Calls.{reply_to, looks_unheld, need_of}
use Rattle.fp_model.specs.Commit.{settlement, lacking}
use Rattle.fp_model.specs.Settle.{settle_from}
use Rattle.fp_model.specs.Asking.{Ask, Asks, Replies}
use Rattle.fp_model.specs.Serial.{Ending}
use Rattle.fp_model.specs.Machine.{Machine, Transaction, Active, taken_in, with_region, entry_of, ended_with, sealed_once}
use Rattle.fp_model.specs.Turns.{Answers, Gains, Waits, Deadlocks, Finishes, Does, begins_in, with_answer, begun_in, refused_with, asks, wanted, ending_of}
use Rattle.fp_model.specs.Runs.{RunStep}
use Rattle.fp_rows.specs.Hex.{named}
use Rattle.fp_rows.specs.Sample as sample
use Rattle.fp_rows.specs.States.{RunsCalmly, sample_rules, at_rest_with_two_holders, with_two}
use Rattle.fp_rows.proofs.Asks.{customer_held, two_ask_first, two_ask_second, two_reply, others_ask_first, others_ask_second}
use Rattle.fp_rows.proofs.MachineSteps.{calm, gained, waiting}
use Rattle.fp_rows.proofs.TwoWaiting.{no_cycle, two_apart, a_cycle}

abbrev first_asked : Message
first_asked =
    record (sample.message_for sample.two_script (codes "C001 C003"))
    { lterm = named (codes "T1"); line = codes "T1 TWO C001 C003" }

abbrev second_asked : Message
second_asked =
    record (sample.message_for sample.two_script (codes "C003 C001"))
    { lterm = named (codes "T2"); line = codes "T2 TWO C003 C001" }

abbrev of_anchor : ℕ → Needed
of_anchor anchor = record { resource = Anchor 0 anchor; mode = Exclusive }

-- ---- the machines after each turn

abbrev m1 : Machine
m1 = taken_in sample_rules at_rest_with_two_holders

abbrev m2 : Machine
m2 = taken_in sample_rules m1

abbrev first0 : Transaction
first0 = begun_in sample_rules m2 first_asked 0

abbrev m3 : Machine
m3 = begins_in sample_rules m2 1 (first_asked ∷ second_asked ∷ [])

abbrev m4 : Machine
m4 = gained 1 (of_anchor 6) m3

abbrev second0 : Transaction
second0 = begun_in sample_rules m4 second_asked 0

abbrev m5 : Machine
m5 = begins_in sample_rules m4 2 (second_asked ∷ [])

abbrev m6 : Machine
m6 = gained 2 (of_anchor 0) m5

abbrev first1 : Transaction
first1 = with_answer sample_rules m6 first0 (customer_held (codes "C001"))

abbrev m7 : Machine
m7 = with_region 1 (Active first1) m6

abbrev second1 : Transaction
second1 = with_answer sample_rules m7 second0 (customer_held (codes "C003"))

abbrev m8 : Machine
m8 = with_region 2 (Active second1) m7

-- the first waits for the second, and the second would wait for the first
abbrev m9 : Machine
m9 = waiting 1 (of_anchor 0) m8

abbrev m10 : Machine
m10 = refused_with sample_rules m9 2 second1 (outcome.Deadlock (2 ∷ 1 ∷ []))

abbrev m11 : Machine
m11 = gained 1 (of_anchor 0) m10

abbrev first2 : Transaction
first2 = with_answer sample_rules m11 first1 (customer_held (codes "C003"))

abbrev m12 : Machine
m12 = with_region 1 (Active first2) m11

abbrev both : Ending
both = record { outcome = outcome.Done; reply = codes "BOTH"; next = with_two }

abbrev m13 : Machine
m13 = ended_with 1 (entry_of first2 both first2.notes []) with_two m12

-- ---- the turns

-- what a transaction wants, by what it asks
from_asks : (m : Machine) (region : ℕ) (t : Transaction) (a : Ask) (o : Option Needed)
    → asks sample_rules t ≡ a → wanted sample_rules m region t a ≡ o
    → wanted sample_rules m region t (asks sample_rules t) ≡ o
from_asks m region t a o e f = ap (λ (q : Ask). wanted sample_rules m region t q) e ∙ f

-- how it ends, by what it asks
ends_from : (now : Db) (t : Transaction) (a : Ask) (o : Option Ending)
    → asks sample_rules t ≡ a → ending_of sample_rules now t a ≡ o
    → ending_of sample_rules now t (asks sample_rules t) ≡ o
ends_from now t a o e f = ap (λ (q : Ask). ending_of sample_rules now t q) e ∙ f

turn4 : Does sample_rules m3 1 first0 (Gains (of_anchor 6)) m4
unfolding reply_to looks_unheld need_of
turn4 = (
  from_asks m3 1 first0 (Asks (customer_held (codes "C001"))) (Some (of_anchor 6))
      (two_ask_first first_asked.lterm first_asked.line) refl,
  refl,
  refl,
)

turn6 : Does sample_rules m5 2 second0 (Gains (of_anchor 0)) m6
unfolding reply_to looks_unheld need_of
turn6 = (
  from_asks m5 2 second0 (Asks (customer_held (codes "C003"))) (Some (of_anchor 0))
      (others_ask_first second_asked.lterm second_asked.line) refl,
  refl,
  refl,
)

turn7 : Does sample_rules m6 1 first0 (Answers (customer_held (codes "C001"))) m7
unfolding reply_to looks_unheld need_of
turn7 = (
  two_ask_first first_asked.lterm first_asked.line,
  from_asks m6 1 first0 (Asks (customer_held (codes "C001"))) None
      (two_ask_first first_asked.lterm first_asked.line) refl,
  refl,
)

turn8 : Does sample_rules m7 2 second0 (Answers (customer_held (codes "C003"))) m8
unfolding reply_to looks_unheld need_of
turn8 = (
  others_ask_first second_asked.lterm second_asked.line,
  from_asks m7 2 second0 (Asks (customer_held (codes "C003"))) None
      (others_ask_first second_asked.lterm second_asked.line) refl,
  refl,
)

turn9 : Does sample_rules m8 1 first1 (Waits (of_anchor 0)) m9
unfolding reply_to looks_unheld need_of
turn9 = (
  from_asks m8 1 first1 (Asks (customer_held (codes "C003"))) (Some (of_anchor 0))
      (two_ask_second first_asked.lterm first_asked.line) refl,
  refl,
  no_cycle,
  refl,
)

turn10 : Does sample_rules m9 2 second1 (Deadlocks (of_anchor 6) (1 ∷ [])) m10
unfolding reply_to looks_unheld need_of
turn10 = (
  record {
    wants = from_asks m9 2 second1 (Asks (customer_held (codes "C001"))) (Some (of_anchor 6))
        (others_ask_second second_asked.lterm second_asked.line) refl;
    closes = a_cycle;
    distinct = two_apart;
  },
  lit≤ tt,
  refl,
)

turn11 : Does sample_rules m10 1 first1 (Gains (of_anchor 0)) m11
unfolding reply_to looks_unheld need_of
turn11 = (
  from_asks m10 1 first1 (Asks (customer_held (codes "C003"))) (Some (of_anchor 0))
      (two_ask_second first_asked.lterm first_asked.line) refl,
  refl,
  refl,
)

turn12 : Does sample_rules m11 1 first1 (Answers (customer_held (codes "C003"))) m12
unfolding reply_to looks_unheld need_of
turn12 = (
  two_ask_second first_asked.lterm first_asked.line,
  from_asks m11 1 first1 (Asks (customer_held (codes "C003"))) None
      (two_ask_second first_asked.lterm first_asked.line) refl,
  refl,
)

turn13 : Does sample_rules m12 1 first2 (Finishes both []) m13
unfolding reply_to looks_unheld need_of lacking settlement settle_from
turn13 = (
  record {
    lacks_none = from_asks m12 1 first2 (Replies (codes "BOTH")) None
        (two_reply first_asked.lterm first_asked.line) refl;
    ends = ends_from with_two first2 (Replies (codes "BOTH")) (Some both) (two_reply first_asked.lterm first_asked.line)
        refl;
  },
  (λ fails. lit≤ tt),
  tt,
  refl,
)

-- the steps of the run
abbrev holder_steps : List RunStep
holder_steps =
    calm In m1 ∷ calm In m2 ∷ calm (Region 1) m3 ∷ calm (Region 1) m4 ∷ calm (Region 2) m5 ∷ calm (Region 2) m6
    ∷ calm (Region 1) m7 ∷ calm (Region 2) m8 ∷ calm (Region 1) m9 ∷ calm (Region 2) m10 ∷ calm (Region 1) m11
    ∷ calm (Region 1) m12 ∷ calm (Region 1) m13 ∷ calm Log (sealed_once sample_rules m13) ∷ []

pub holders_by_turns : (m : Machine)
    × (RunsCalmly sample_rules at_rest_with_two_holders
    (In ∷ In ∷ Region 1 ∷ Region 1 ∷ Region 2 ∷ Region 2 ∷ Region 1 ∷ Region 2
    ∷ Region 1 ∷ Region 2 ∷ Region 1 ∷ Region 1 ∷ Region 1 ∷ Log ∷ [])
    m
    × (m.sent ≡ codes "T2 NO DEADLOCK" ++ 10 ∷ codes "T1 OK BOTH" ++ 10 ∷ []))
unfolding reply_to looks_unheld
holders_by_turns = (
  sealed_once sample_rules m13,
  (
    record {
      steps = holder_steps;
      takes = refl;
      is_calm = refl;
      runs = (
        refl,
        (
          refl,
          (
            refl,
            (
              (Gains (of_anchor 6), turn4),
              (
                refl,
                (
                  (Gains (of_anchor 0), turn6),
                  (
                    (Answers (customer_held (codes "C001")), turn7),
                    (
                      (Answers (customer_held (codes "C003")), turn8),
                      (
                        (Waits (of_anchor 0), turn9),
                        (
                          (Deadlocks (of_anchor 6) (1 ∷ []), turn10),
                          (
                            (Gains (of_anchor 0), turn11),
                            (
                              (Answers (customer_held (codes "C003")), turn12),
                              ((Finishes both [], turn13), (refl, refl)),
                            ),
                          ),
                        ),
                      ),
                    ),
                  ),
                ),
              ),
            ),
          ),
        ),
      );
    },
    refl,
  ),
)
