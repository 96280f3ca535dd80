-- Two transactions that hold a customer each and want the other's, turn by turn: the second is run again.
use Rattle.std.proofs.Common.{◌≡◌, ℕ, List, [], ◌∷◌, ◌++◌, Option, Some, None, refl, ap, ◌∙◌, lit<, lit≤}
use Rattle.std.specs.Prelude.{codes, false, true}
use Rattle.fp_model.specs.declared.database.Db.{Db}
use Rattle.fp_model.specs.declared.calls.Message.{Message}
use Rattle.fp_model.specs.declared.calls.Mode.TheVariants.{Exclusive}
use Rattle.fp_model.specs.declared.calls.Resource.TheVariants.{Anchor}
use Rattle.fp_model.specs.declared.events.Event.TheVariants.{In, Region, Log}
use Rattle.fp_model.specs.declared.log.Outcome.TheVariants as outcome
use Rattle.fp_model.specs.Answers.{Needed}
use Rattle.fp_model.specs.Calls.{reply_to, looks_unheld, need_of}
use Rattle.fp_model.specs.Commit.{settlement, lacking}
use Rattle.fp_model.specs.Settle.{settle_from}
use Rattle.fp_model.specs.Asking.{Ask, Asks, Replies}
use Rattle.fp_model.specs.Serial.{Ending}
use Rattle.fp_model.specs.Machine.{Machine, Transaction, Active, taken_in, with_region, entry_of, ended_with, sealed_once}
use Rattle.fp_model.specs.Turns.{Answers, Gains, Waits, Retries_at_cycle, Finishes, Does, begins_in, with_answer, begun_in, tried_again, asks, wanted, ending_of}
use Rattle.fp_model.specs.Runs.{RunStep}
use Rattle.fp_rows.specs.Hex.{named}
use Rattle.fp_rows.specs.Sample as sample
use Rattle.fp_rows.specs.States.{RunsCalmly, with_two}
use Rattle.fp_rows.proofs.MachineSteps.{calm, gained, waiting}
use Rattle.fp_rows.proofs.TwoWaiting.{no_cycle, two_apart, a_cycle}
use Rattle.fp_rows.specs.Retries.{retrying, at_rest_over, two_customer_lines, round}
use Rattle.fp_rows.proofs.Asks.{customer_held}
use Rattle.fp_rows.proofs.AsksAgain.{two_asks_first, two_asks_second, two_replies, others_asks_first, others_asks_second, others_reply}

abbrev first_asked : Message
first_asked =
    record (sample.message_for sample.two_script (codes "C001 C003"))
    { lterm = named (codes "T1"); line = codes "T1 TWO C001 C003" }

abbrev second_asked : Message
second_asked =
    record (sample.message_for sample.two_script (codes "C003 C001"))
    { lterm = named (codes "T2"); line = codes "T2 TWO C003 C001" }

abbrev of_anchor : ℕ → Needed
of_anchor anchor = record { resource = Anchor 0 anchor; mode = Exclusive }

-- ---- the machines after each turn

abbrev m0 : Machine
m0 = at_rest_over retrying with_two two_customer_lines

abbrev m1 : Machine
m1 = taken_in retrying m0

abbrev m2 : Machine
m2 = taken_in retrying m1

abbrev first0 : Transaction
first0 = begun_in retrying m2 first_asked 0

abbrev m3 : Machine
m3 = begins_in retrying m2 1 (first_asked ∷ second_asked ∷ [])

abbrev m4 : Machine
m4 = gained 1 (of_anchor 6) m3

abbrev second0 : Transaction
second0 = begun_in retrying m4 second_asked 0

abbrev m5 : Machine
m5 = begins_in retrying m4 2 (second_asked ∷ [])

abbrev m6 : Machine
m6 = gained 2 (of_anchor 0) m5

abbrev first1 : Transaction
first1 = with_answer retrying m6 first0 (customer_held (codes "C001"))

abbrev m7 : Machine
m7 = with_region 1 (Active first1) m6

abbrev second1 : Transaction
second1 = with_answer retrying m7 second0 (customer_held (codes "C003"))

abbrev m8 : Machine
m8 = with_region 2 (Active second1) m7

-- the first waits for the second, and the second would wait for the first
abbrev m9 : Machine
m9 = waiting 1 (of_anchor 0) m8

abbrev both : Ending
both = record { outcome = outcome.Done; reply = codes "BOTH"; next = with_two }

-- with one it begins again, and has both when the first has ended
abbrev r10 : Machine
r10 = tried_again retrying 2 second1 m9

abbrev r11 : Machine
r11 = gained 1 (of_anchor 0) r10

abbrev first3 : Transaction
first3 = with_answer retrying r11 first1 (customer_held (codes "C003"))

abbrev r12 : Machine
r12 = with_region 1 (Active first3) r11

abbrev r13 : Machine
r13 = ended_with 1 (entry_of first3 both first3.notes []) both.next r12

abbrev r14 : Machine
r14 = sealed_once retrying r13

abbrev again0 : Transaction
again0 = begun_in retrying m9 second_asked 1

abbrev r15 : Machine
r15 = gained 2 (of_anchor 0) r14

abbrev again1 : Transaction
again1 = with_answer retrying r15 again0 (customer_held (codes "C003"))

abbrev r16 : Machine
r16 = with_region 2 (Active again1) r15

abbrev r17 : Machine
r17 = gained 2 (of_anchor 6) r16

abbrev again2 : Transaction
again2 = with_answer retrying r17 again1 (customer_held (codes "C001"))

abbrev r18 : Machine
r18 = with_region 2 (Active again2) r17

abbrev r19 : Machine
r19 = ended_with 2 (entry_of again2 both again2.notes []) both.next r18

-- ---- the turns

-- what a transaction wants, by what it asks
from_asks : (m : Machine) (region : ℕ) (t : Transaction) (a : Ask) (o : Option Needed)
    → asks retrying t ≡ a → wanted retrying m region t a ≡ o
    → wanted retrying m region t (asks retrying t) ≡ o
from_asks m region t a o e f = ap (λ (q : Ask). wanted retrying m region t q) e ∙ f

-- how it ends, by what it asks
ends_from : (now : Db) (t : Transaction) (a : Ask) (o : Option Ending)
    → asks retrying t ≡ a → ending_of retrying now t a ≡ o
    → ending_of retrying now t (asks retrying t) ≡ o
ends_from now t a o e f = ap (λ (q : Ask). ending_of retrying now t q) e ∙ f

turn4 : Does retrying m3 1 first0 (Gains (of_anchor 6)) m4
unfolding reply_to looks_unheld need_of
turn4 = (
  from_asks m3 1 first0 (Asks (customer_held (codes "C001"))) (Some (of_anchor 6))
      (two_asks_first first_asked.lterm first_asked.line) refl,
  refl,
  refl,
)

turn6 : Does retrying m5 2 second0 (Gains (of_anchor 0)) m6
unfolding reply_to looks_unheld need_of
turn6 = (
  from_asks m5 2 second0 (Asks (customer_held (codes "C003"))) (Some (of_anchor 0))
      (others_asks_first second_asked.lterm second_asked.line) refl,
  refl,
  refl,
)

turn7 : Does retrying m6 1 first0 (Answers (customer_held (codes "C001"))) m7
unfolding reply_to looks_unheld need_of
turn7 = (
  two_asks_first first_asked.lterm first_asked.line,
  from_asks m6 1 first0 (Asks (customer_held (codes "C001"))) None
      (two_asks_first first_asked.lterm first_asked.line) refl,
  refl,
)

turn8 : Does retrying m7 2 second0 (Answers (customer_held (codes "C003"))) m8
unfolding reply_to looks_unheld need_of
turn8 = (
  others_asks_first second_asked.lterm second_asked.line,
  from_asks m7 2 second0 (Asks (customer_held (codes "C003"))) None
      (others_asks_first second_asked.lterm second_asked.line) refl,
  refl,
)

turn9 : Does retrying m8 1 first1 (Waits (of_anchor 0)) m9
unfolding reply_to looks_unheld need_of
turn9 = (
  from_asks m8 1 first1 (Asks (customer_held (codes "C003"))) (Some (of_anchor 0))
      (two_asks_second first_asked.lterm first_asked.line) refl,
  refl,
  no_cycle,
  refl,
)

retry10 : Does retrying m9 2 second1 (Retries_at_cycle (of_anchor 6) (1 ∷ [])) r10
unfolding reply_to looks_unheld need_of
retry10 = (
  record {
    wants = from_asks m9 2 second1 (Asks (customer_held (codes "C001"))) (Some (of_anchor 6))
        (others_asks_second second_asked.lterm second_asked.line) refl;
    closes = a_cycle;
    distinct = two_apart;
  },
  lit< tt,
  refl,
)

retry11 : Does retrying r10 1 first1 (Gains (of_anchor 0)) r11
unfolding reply_to looks_unheld need_of
retry11 = (
  from_asks r10 1 first1 (Asks (customer_held (codes "C003"))) (Some (of_anchor 0))
      (two_asks_second first_asked.lterm first_asked.line) refl,
  refl,
  refl,
)

retry12 : Does retrying r11 1 first1 (Answers (customer_held (codes "C003"))) r12
unfolding reply_to looks_unheld need_of
retry12 = (
  two_asks_second first_asked.lterm first_asked.line,
  from_asks r11 1 first1 (Asks (customer_held (codes "C003"))) None
      (two_asks_second first_asked.lterm first_asked.line) refl,
  refl,
)

retry13 : Does retrying r12 1 first3 (Finishes both []) r13
unfolding reply_to looks_unheld need_of lacking settlement settle_from
retry13 = (
  record {
    lacks_none = from_asks r12 1 first3 (Replies (codes "BOTH")) None
        (two_replies first_asked.lterm first_asked.line) refl;
    ends = ends_from with_two first3 (Replies (codes "BOTH")) (Some both)
        (two_replies first_asked.lterm first_asked.line) refl;
  },
  (λ fails. let wrong : false ≡ true = fails in cc),
  tt,
  refl,
)

retry15 : Does retrying r14 2 again0 (Gains (of_anchor 0)) r15
unfolding reply_to looks_unheld need_of
retry15 = (
  from_asks r14 2 again0 (Asks (customer_held (codes "C003"))) (Some (of_anchor 0))
      (others_asks_first second_asked.lterm second_asked.line) refl,
  refl,
  refl,
)

retry16 : Does retrying r15 2 again0 (Answers (customer_held (codes "C003"))) r16
unfolding reply_to looks_unheld need_of
retry16 = (
  others_asks_first second_asked.lterm second_asked.line,
  from_asks r15 2 again0 (Asks (customer_held (codes "C003"))) None
      (others_asks_first second_asked.lterm second_asked.line) refl,
  refl,
)

retry17 : Does retrying r16 2 again1 (Gains (of_anchor 6)) r17
unfolding reply_to looks_unheld need_of
retry17 = (
  from_asks r16 2 again1 (Asks (customer_held (codes "C001"))) (Some (of_anchor 6))
      (others_asks_second second_asked.lterm second_asked.line) refl,
  refl,
  refl,
)

retry18 : Does retrying r17 2 again1 (Answers (customer_held (codes "C001"))) r18
unfolding reply_to looks_unheld need_of
retry18 = (
  others_asks_second second_asked.lterm second_asked.line,
  from_asks r17 2 again1 (Asks (customer_held (codes "C001"))) None
      (others_asks_second second_asked.lterm second_asked.line) refl,
  refl,
)

retry19 : Does retrying r18 2 again2 (Finishes both []) r19
unfolding reply_to looks_unheld need_of lacking settlement settle_from
retry19 = (
  record {
    lacks_none = from_asks r18 2 again2 (Replies (codes "BOTH")) None
        (others_reply second_asked.lterm second_asked.line) refl;
    ends = ends_from with_two again2 (Replies (codes "BOTH")) (Some both)
        (others_reply second_asked.lterm second_asked.line) refl;
  },
  (λ fails. lit≤ tt),
  tt,
  refl,
)

-- ---- the run

abbrev retried_steps : List RunStep
retried_steps =
    calm In m1 ∷ calm In m2 ∷ calm (Region 1) m3 ∷ calm (Region 1) m4 ∷ calm (Region 2) m5 ∷ calm (Region 2) m6
    ∷ calm (Region 1) m7 ∷ calm (Region 2) m8 ∷ calm (Region 1) m9 ∷ calm (Region 2) r10 ∷ calm (Region 1) r11
    ∷ calm (Region 1) r12 ∷ calm (Region 1) r13 ∷ calm Log r14 ∷ calm In r14 ∷ calm (Region 1) r14
    ∷ calm (Region 2) r15 ∷ calm Log r15 ∷ calm In r15 ∷ calm (Region 1) r15 ∷ calm (Region 2) r16
    ∷ calm Log r16 ∷ calm In r16 ∷ calm (Region 1) r16 ∷ calm (Region 2) r17 ∷ calm Log r17 ∷ calm In r17
    ∷ calm (Region 1) r17 ∷ calm (Region 2) r18 ∷ calm Log r18 ∷ calm In r18 ∷ calm (Region 1) r18
    ∷ calm (Region 2) r19 ∷ calm Log (sealed_once retrying r19) ∷ []

pub holders_again_by_turns : (m : Machine)
    × (RunsCalmly retrying (at_rest_over retrying with_two two_customer_lines)
    (In ∷ In ∷ Region 1 ∷ Region 1 ∷ Region 2 ∷ Region 2 ∷ Region 1 ∷ Region 2
    ∷ Region 1 ∷ Region 2 ∷ Region 1 ∷ Region 1 ∷ Region 1 ∷ Log ∷ round ++ round ++ round ++ round ++ round)
    m
    × (m.sent ≡ codes "T1 OK BOTH" ++ 10 ∷ codes "T2 OK BOTH" ++ 10 ∷ []))
unfolding reply_to looks_unheld
holders_again_by_turns = (
  sealed_once retrying r19,
  (
    record {
      steps = retried_steps;
      takes = refl;
      is_calm = refl;
      runs = (
        refl,
        (
          refl,
          (
            refl,
            (
              (Gains (of_anchor 6), turn4),
              (
                refl,
                (
                  (Gains (of_anchor 0), turn6),
                  (
                    (Answers (customer_held (codes "C001")), turn7),
                    (
                      (Answers (customer_held (codes "C003")), turn8),
                      (
                        (Waits (of_anchor 0), turn9),
                        (
                          (Retries_at_cycle (of_anchor 6) (1 ∷ []), retry10),
                          (
                            (Gains (of_anchor 0), retry11),
                            (
                              (Answers (customer_held (codes "C003")), retry12),
                              (
                                (Finishes both [], retry13),
                                (
                                  refl,
                                  (
                                    refl,
                                    (
                                      refl,
                                      (
                                        (Gains (of_anchor 0), retry15),
                                        (
                                          refl,
                                          (
                                            refl,
                                            (
                                              refl,
                                              (
                                                (Answers (customer_held (codes "C003")), retry16),
                                                (
                                                  refl,
                                                  (
                                                    refl,
                                                    (
                                                      refl,
                                                      (
                                                        (Gains (of_anchor 6), retry17),
                                                        (
                                                          refl,
                                                          (
                                                            refl,
                                                            (
                                                              refl,
                                                              (
                                                                (Answers (customer_held (codes "C001")), retry18),
                                                                (
                                                                  refl,
                                                                  (
                                                                    refl,
                                                                    (
                                                                      refl,
                                                                      ((Finishes both [], retry19), (refl, refl)),
                                                                    ),
                                                                  ),
                                                                ),
                                                              ),
                                                            ),
                                                          ),
                                                        ),
                                                      ),
                                                    ),
                                                  ),
                                                ),
                                              ),
                                            ),
                                          ),
                                        ),
                                      ),
                                    ),
                                  ),
                                ),
                              ),
                            ),
                          ),
                        ),
                      ),
                    ),
                  ),
                ),
              ),
            ),
          ),
        ),
      );
    },
    refl,
  ),
)
