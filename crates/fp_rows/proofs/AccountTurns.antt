-- Two transactions that hold an account each and want the other's, turn by turn: refused, and run again.
use Rattle.std.proofs.Common.{◌≡◌, ℕ, List, [], ◌∷◌, ◌++◌, Option, Some, None, refl, ap, ◌∙◌, lit<, lit≤}
use Rattle.std.specs.Prelude.{codes, map, false, true}
use Rattle.fp_model.specs.declared.database.Db.{Db}
use Rattle.fp_model.specs.declared.calls.Message.{Message}
use Rattle.fp_model.specs.declared.calls.Mode.TheVariants.{Exclusive}
use Rattle.fp_model.specs.declared.calls.Resource.TheVariants.{Segment}
use Rattle.fp_model.specs.declared.events.Event.TheVariants.{In, Region, Log}
use Rattle.fp_model.specs.declared.log.Outcome.TheVariants as outcome
use Rattle.fp_model.specs.Answers.{Needed}
use Rattle.fp_model.specs.Calls.{reply_to, looks_unheld, need_of}
use Rattle.fp_model.specs.Commit.{settlement, lacking}
use Rattle.fp_model.specs.Settle.{settle_from}
use Rattle.fp_model.specs.Asking.{Ask, Asks, Replies}
use Rattle.fp_model.specs.Serial.{Ending}
use Rattle.fp_model.specs.Machine.{Machine, Transaction, Active, taken_in, with_region, entry_of, ended_with, sealed_once}
use Rattle.fp_model.specs.Turns.{Answers, Gains, Waits, Deadlocks, Retries_at_cycle, Finishes, Does, begins_in, with_answer, begun_in, refused_with, tried_again, asks, wanted, ending_of}
use Rattle.fp_model.specs.Runs.{RunStep}
use Rattle.fp_rows.specs.Hex.{named}
use Rattle.fp_rows.specs.Sample as sample
use Rattle.fp_rows.specs.States.{RunsCalmly, at_start}
use Rattle.fp_rows.proofs.MachineSteps.{calm, gained, waiting}
use Rattle.fp_rows.proofs.TwoWaiting.{no_cycle, two_apart, a_cycle}
use Rattle.fp_rows.specs.Retries.{hold_script, hold_rules, at_rest_over, two_account_lines, round}
use Rattle.fp_rows.proofs.AsksAgain.{account_held, hold_asks_first, hold_asks_second, hold_replies, others_hold_first, others_hold_second, others_hold_reply}

abbrev first_asked : Message
first_asked =
    record (sample.message_for hold_script (codes "A001 A002"))
    { lterm = named (codes "T1"); line = codes "T1 HOLD A001 A002" }

abbrev second_asked : Message
second_asked =
    record (sample.message_for hold_script (codes "A002 A001"))
    { lterm = named (codes "T2"); line = codes "T2 HOLD A002 A001" }

abbrev of_account : List ℕ → Needed
of_account key = record { resource = Segment 0 key; mode = Exclusive }

-- ---- the machines after each turn

abbrev m0 : ℕ → Machine
m0 n = at_rest_over (hold_rules n) at_start two_account_lines

abbrev m1 : ℕ → Machine
m1 n = taken_in (hold_rules n) (m0 n)

abbrev m2 : ℕ → Machine
m2 n = taken_in (hold_rules n) (m1 n)

abbrev first0 : ℕ → Transaction
first0 n = begun_in (hold_rules n) (m2 n) first_asked 0

abbrev m3 : ℕ → Machine
m3 n = begins_in (hold_rules n) (m2 n) 1 (first_asked ∷ second_asked ∷ [])

abbrev m4 : ℕ → Machine
m4 n = gained 1 (of_account (codes "A001")) (m3 n)

abbrev second0 : ℕ → Transaction
second0 n = begun_in (hold_rules n) (m4 n) second_asked 0

abbrev m5 : ℕ → Machine
m5 n = begins_in (hold_rules n) (m4 n) 2 (second_asked ∷ [])

abbrev m6 : ℕ → Machine
m6 n = gained 2 (of_account (codes "A002")) (m5 n)

abbrev first1 : ℕ → Transaction
first1 n = with_answer (hold_rules n) (m6 n) (first0 n) (account_held (codes "A001"))

abbrev m7 : ℕ → Machine
m7 n = with_region 1 (Active (first1 n)) (m6 n)

abbrev second1 : ℕ → Transaction
second1 n = with_answer (hold_rules n) (m7 n) (second0 n) (account_held (codes "A002"))

abbrev m8 : ℕ → Machine
m8 n = with_region 2 (Active (second1 n)) (m7 n)

-- the first waits for the second, and the second would wait for the first
abbrev m9 : ℕ → Machine
m9 n = waiting 1 (of_account (codes "A002")) (m8 n)

abbrev both : Ending
both = record { outcome = outcome.Done; reply = codes "BOTH"; next = at_start }

-- without a further try the second is refused
abbrev m10 : Machine
m10 = refused_with (hold_rules 0) (m9 0) 2 (second1 0) (outcome.Deadlock (2 ∷ 1 ∷ []))

abbrev m11 : Machine
m11 = gained 1 (of_account (codes "A002")) m10

abbrev first2 : Transaction
first2 = with_answer (hold_rules 0) m11 (first1 0) (account_held (codes "A002"))

abbrev m12 : Machine
m12 = with_region 1 (Active first2) m11

abbrev m13 : Machine
m13 = ended_with 1 (entry_of first2 both first2.notes []) both.next m12

-- with one it begins again, and has both when the first has ended
abbrev r10 : Machine
r10 = tried_again (hold_rules 1) 2 (second1 1) (m9 1)

abbrev r11 : Machine
r11 = gained 1 (of_account (codes "A002")) r10

abbrev first3 : Transaction
first3 = with_answer (hold_rules 1) r11 (first1 1) (account_held (codes "A002"))

abbrev r12 : Machine
r12 = with_region 1 (Active first3) r11

abbrev r13 : Machine
r13 = ended_with 1 (entry_of first3 both first3.notes []) both.next r12

abbrev r14 : Machine
r14 = sealed_once (hold_rules 1) r13

abbrev again0 : Transaction
again0 = begun_in (hold_rules 1) (m9 1) second_asked 1

abbrev r15 : Machine
r15 = gained 2 (of_account (codes "A002")) r14

abbrev again1 : Transaction
again1 = with_answer (hold_rules 1) r15 again0 (account_held (codes "A002"))

abbrev r16 : Machine
r16 = with_region 2 (Active again1) r15

abbrev r17 : Machine
r17 = gained 2 (of_account (codes "A001")) r16

abbrev again2 : Transaction
again2 = with_answer (hold_rules 1) r17 again1 (account_held (codes "A001"))

abbrev r18 : Machine
r18 = with_region 2 (Active again2) r17

abbrev r19 : Machine
r19 = ended_with 2 (entry_of again2 both again2.notes []) both.next r18

-- ---- the turns

-- what a transaction wants, by what it asks
from_asks : (n : ℕ) (m : Machine) (region : ℕ) (t : Transaction) (a : Ask) (o : Option Needed)
    → asks (hold_rules n) t ≡ a → wanted (hold_rules n) m region t a ≡ o
    → wanted (hold_rules n) m region t (asks (hold_rules n) t) ≡ o
from_asks n m region t a o e f = ap (λ (q : Ask). wanted (hold_rules n) m region t q) e ∙ f

-- how it ends, by what it asks
ends_from : (n : ℕ) (now : Db) (t : Transaction) (a : Ask) (o : Option Ending)
    → asks (hold_rules n) t ≡ a → ending_of (hold_rules n) now t a ≡ o
    → ending_of (hold_rules n) now t (asks (hold_rules n) t) ≡ o
ends_from n now t a o e f = ap (λ (q : Ask). ending_of (hold_rules n) now t q) e ∙ f

turn4 : (n : ℕ) → Does (hold_rules n) (m3 n) 1 (first0 n) (Gains (of_account (codes "A001"))) (m4 n)
unfolding reply_to looks_unheld need_of
turn4 n = (
  from_asks n (m3 n) 1 (first0 n) (Asks (account_held (codes "A001"))) (Some (of_account (codes "A001")))
      (hold_asks_first n first_asked.lterm first_asked.line) refl,
  refl,
  refl,
)

turn6 : (n : ℕ) → Does (hold_rules n) (m5 n) 2 (second0 n) (Gains (of_account (codes "A002"))) (m6 n)
unfolding reply_to looks_unheld need_of
turn6 n = (
  from_asks n (m5 n) 2 (second0 n) (Asks (account_held (codes "A002"))) (Some (of_account (codes "A002")))
      (others_hold_first n second_asked.lterm second_asked.line) refl,
  refl,
  refl,
)

turn7 : (n : ℕ) → Does (hold_rules n) (m6 n) 1 (first0 n) (Answers (account_held (codes "A001"))) (m7 n)
unfolding reply_to looks_unheld need_of
turn7 n = (
  hold_asks_first n first_asked.lterm first_asked.line,
  from_asks n (m6 n) 1 (first0 n) (Asks (account_held (codes "A001"))) None
      (hold_asks_first n first_asked.lterm first_asked.line) refl,
  refl,
)

turn8 : (n : ℕ) → Does (hold_rules n) (m7 n) 2 (second0 n) (Answers (account_held (codes "A002"))) (m8 n)
unfolding reply_to looks_unheld need_of
turn8 n = (
  others_hold_first n second_asked.lterm second_asked.line,
  from_asks n (m7 n) 2 (second0 n) (Asks (account_held (codes "A002"))) None
      (others_hold_first n second_asked.lterm second_asked.line) refl,
  refl,
)

turn9 : (n : ℕ) → Does (hold_rules n) (m8 n) 1 (first1 n) (Waits (of_account (codes "A002"))) (m9 n)
unfolding reply_to looks_unheld need_of
turn9 n = (
  from_asks n (m8 n) 1 (first1 n) (Asks (account_held (codes "A002"))) (Some (of_account (codes "A002")))
      (hold_asks_second n first_asked.lterm first_asked.line) refl,
  refl,
  no_cycle,
  refl,
)

turn10 : Does (hold_rules 0) (m9 0) 2 (second1 0) (Deadlocks (of_account (codes "A001")) (1 ∷ [])) m10
unfolding reply_to looks_unheld need_of
turn10 = (
  record {
    wants = from_asks 0 (m9 0) 2 (second1 0) (Asks (account_held (codes "A001"))) (Some (of_account (codes "A001")))
        (others_hold_second 0 second_asked.lterm second_asked.line) refl;
    closes = a_cycle;
    distinct = two_apart;
  },
  lit≤ tt,
  refl,
)

turn11 : Does (hold_rules 0) m10 1 (first1 0) (Gains (of_account (codes "A002"))) m11
unfolding reply_to looks_unheld need_of
turn11 = (
  from_asks 0 m10 1 (first1 0) (Asks (account_held (codes "A002"))) (Some (of_account (codes "A002")))
      (hold_asks_second 0 first_asked.lterm first_asked.line) refl,
  refl,
  refl,
)

turn12 : Does (hold_rules 0) m11 1 (first1 0) (Answers (account_held (codes "A002"))) m12
unfolding reply_to looks_unheld need_of
turn12 = (
  hold_asks_second 0 first_asked.lterm first_asked.line,
  from_asks 0 m11 1 (first1 0) (Asks (account_held (codes "A002"))) None
      (hold_asks_second 0 first_asked.lterm first_asked.line) refl,
  refl,
)

turn13 : Does (hold_rules 0) m12 1 first2 (Finishes both []) m13
unfolding reply_to looks_unheld need_of lacking settlement settle_from
turn13 = (
  record {
    lacks_none = from_asks 0 m12 1 first2 (Replies (codes "BOTH")) None
        (hold_replies 0 first_asked.lterm first_asked.line) refl;
    ends = ends_from 0 at_start first2 (Replies (codes "BOTH")) (Some both)
        (hold_replies 0 first_asked.lterm first_asked.line) refl;
  },
  (λ fails. lit≤ tt),
  tt,
  refl,
)

retry10 : Does (hold_rules 1) (m9 1) 2 (second1 1) (Retries_at_cycle (of_account (codes "A001")) (1 ∷ [])) r10
unfolding reply_to looks_unheld need_of
retry10 = (
  record {
    wants = from_asks 1 (m9 1) 2 (second1 1) (Asks (account_held (codes "A001"))) (Some (of_account (codes "A001")))
        (others_hold_second 1 second_asked.lterm second_asked.line) refl;
    closes = a_cycle;
    distinct = two_apart;
  },
  lit< tt,
  refl,
)

retry11 : Does (hold_rules 1) r10 1 (first1 1) (Gains (of_account (codes "A002"))) r11
unfolding reply_to looks_unheld need_of
retry11 = (
  from_asks 1 r10 1 (first1 1) (Asks (account_held (codes "A002"))) (Some (of_account (codes "A002")))
      (hold_asks_second 1 first_asked.lterm first_asked.line) refl,
  refl,
  refl,
)

retry12 : Does (hold_rules 1) r11 1 (first1 1) (Answers (account_held (codes "A002"))) r12
unfolding reply_to looks_unheld need_of
retry12 = (
  hold_asks_second 1 first_asked.lterm first_asked.line,
  from_asks 1 r11 1 (first1 1) (Asks (account_held (codes "A002"))) None
      (hold_asks_second 1 first_asked.lterm first_asked.line) refl,
  refl,
)

retry13 : Does (hold_rules 1) r12 1 first3 (Finishes both []) r13
unfolding reply_to looks_unheld need_of lacking settlement settle_from
retry13 = (
  record {
    lacks_none = from_asks 1 r12 1 first3 (Replies (codes "BOTH")) None
        (hold_replies 1 first_asked.lterm first_asked.line) refl;
    ends = ends_from 1 at_start first3 (Replies (codes "BOTH")) (Some both)
        (hold_replies 1 first_asked.lterm first_asked.line) refl;
  },
  (λ fails. let wrong : false ≡ true = fails in cc),
  tt,
  refl,
)

retry15 : Does (hold_rules 1) r14 2 again0 (Gains (of_account (codes "A002"))) r15
unfolding reply_to looks_unheld need_of
retry15 = (
  from_asks 1 r14 2 again0 (Asks (account_held (codes "A002"))) (Some (of_account (codes "A002")))
      (others_hold_first 1 second_asked.lterm second_asked.line) refl,
  refl,
  refl,
)

retry16 : Does (hold_rules 1) r15 2 again0 (Answers (account_held (codes "A002"))) r16
unfolding reply_to looks_unheld need_of
retry16 = (
  others_hold_first 1 second_asked.lterm second_asked.line,
  from_asks 1 r15 2 again0 (Asks (account_held (codes "A002"))) None
      (others_hold_first 1 second_asked.lterm second_asked.line) refl,
  refl,
)

retry17 : Does (hold_rules 1) r16 2 again1 (Gains (of_account (codes "A001"))) r17
unfolding reply_to looks_unheld need_of
retry17 = (
  from_asks 1 r16 2 again1 (Asks (account_held (codes "A001"))) (Some (of_account (codes "A001")))
      (others_hold_second 1 second_asked.lterm second_asked.line) refl,
  refl,
  refl,
)

retry18 : Does (hold_rules 1) r17 2 again1 (Answers (account_held (codes "A001"))) r18
unfolding reply_to looks_unheld need_of
retry18 = (
  others_hold_second 1 second_asked.lterm second_asked.line,
  from_asks 1 r17 2 again1 (Asks (account_held (codes "A001"))) None
      (others_hold_second 1 second_asked.lterm second_asked.line) refl,
  refl,
)

retry19 : Does (hold_rules 1) r18 2 again2 (Finishes both []) r19
unfolding reply_to looks_unheld need_of lacking settlement settle_from
retry19 = (
  record {
    lacks_none = from_asks 1 r18 2 again2 (Replies (codes "BOTH")) None
        (others_hold_reply 1 second_asked.lterm second_asked.line) refl;
    ends = ends_from 1 at_start again2 (Replies (codes "BOTH")) (Some both)
        (others_hold_reply 1 second_asked.lterm second_asked.line) refl;
  },
  (λ fails. lit≤ tt),
  tt,
  refl,
)

-- ---- the runs

abbrev refused_steps : List RunStep
refused_steps =
    calm In (m1 0) ∷ calm In (m2 0) ∷ calm (Region 1) (m3 0) ∷ calm (Region 1) (m4 0) ∷ calm (Region 2) (m5 0)
    ∷ calm (Region 2) (m6 0) ∷ calm (Region 1) (m7 0) ∷ calm (Region 2) (m8 0) ∷ calm (Region 1) (m9 0)
    ∷ calm (Region 2) m10 ∷ calm (Region 1) m11 ∷ calm (Region 1) m12 ∷ calm (Region 1) m13
    ∷ calm Log (sealed_once (hold_rules 0) m13) ∷ []

pub accounts_by_turns : (m : Machine)
    × (RunsCalmly (hold_rules 0) (at_rest_over (hold_rules 0) at_start two_account_lines)
    (In ∷ In ∷ Region 1 ∷ Region 1 ∷ Region 2 ∷ Region 2 ∷ Region 1 ∷ Region 2
    ∷ Region 1 ∷ Region 2 ∷ Region 1 ∷ Region 1 ∷ Region 1 ∷ Log ∷ [])
    m
    × ((map (λ e. e.outcome) m.history.entries ≡ outcome.Deadlock (2 ∷ 1 ∷ []) ∷ outcome.Done ∷ [])
    × (m.sent ≡ codes "T2 NO DEADLOCK" ++ 10 ∷ codes "T1 OK BOTH" ++ 10 ∷ [])))
unfolding reply_to looks_unheld
accounts_by_turns = (
  sealed_once (hold_rules 0) m13,
  (
    record {
      steps = refused_steps;
      takes = refl;
      is_calm = refl;
      runs = (
        refl,
        (
          refl,
          (
            refl,
            (
              (Gains (of_account (codes "A001")), turn4 0),
              (
                refl,
                (
                  (Gains (of_account (codes "A002")), turn6 0),
                  (
                    (Answers (account_held (codes "A001")), turn7 0),
                    (
                      (Answers (account_held (codes "A002")), turn8 0),
                      (
                        (Waits (of_account (codes "A002")), turn9 0),
                        (
                          (Deadlocks (of_account (codes "A001")) (1 ∷ []), turn10),
                          (
                            (Gains (of_account (codes "A002")), turn11),
                            (
                              (Answers (account_held (codes "A002")), turn12),
                              ((Finishes both [], turn13), (refl, refl)),
                            ),
                          ),
                        ),
                      ),
                    ),
                  ),
                ),
              ),
            ),
          ),
        ),
      );
    },
    (refl, refl),
  ),
)

abbrev retried_steps : List RunStep
retried_steps =
    calm In (m1 1) ∷ calm In (m2 1) ∷ calm (Region 1) (m3 1) ∷ calm (Region 1) (m4 1) ∷ calm (Region 2) (m5 1)
    ∷ calm (Region 2) (m6 1) ∷ calm (Region 1) (m7 1) ∷ calm (Region 2) (m8 1) ∷ calm (Region 1) (m9 1)
    ∷ calm (Region 2) r10 ∷ calm (Region 1) r11 ∷ calm (Region 1) r12 ∷ calm (Region 1) r13 ∷ calm Log r14
    ∷ calm In r14 ∷ calm (Region 1) r14 ∷ calm (Region 2) r15 ∷ calm Log r15 ∷ calm In r15 ∷ calm (Region 1) r15
    ∷ calm (Region 2) r16 ∷ calm Log r16 ∷ calm In r16 ∷ calm (Region 1) r16 ∷ calm (Region 2) r17
    ∷ calm Log r17 ∷ calm In r17 ∷ calm (Region 1) r17 ∷ calm (Region 2) r18 ∷ calm Log r18 ∷ calm In r18
    ∷ calm (Region 1) r18 ∷ calm (Region 2) r19 ∷ calm Log (sealed_once (hold_rules 1) r19) ∷ []

pub accounts_again_by_turns : (m : Machine)
    × (RunsCalmly (hold_rules 1) (at_rest_over (hold_rules 1) at_start two_account_lines)
    (In ∷ In ∷ Region 1 ∷ Region 1 ∷ Region 2 ∷ Region 2 ∷ Region 1 ∷ Region 2
    ∷ Region 1 ∷ Region 2 ∷ Region 1 ∷ Region 1 ∷ Region 1 ∷ Log ∷ round ++ round ++ round ++ round ++ round)
    m
    × (m.sent ≡ codes "T1 OK BOTH" ++ 10 ∷ codes "T2 OK BOTH" ++ 10 ∷ []))
unfolding reply_to looks_unheld
accounts_again_by_turns = (
  sealed_once (hold_rules 1) r19,
  (
    record {
      steps = retried_steps;
      takes = refl;
      is_calm = refl;
      runs = (
        refl,
        (
          refl,
          (
            refl,
            (
              (Gains (of_account (codes "A001")), turn4 1),
              (
                refl,
                (
                  (Gains (of_account (codes "A002")), turn6 1),
                  (
                    (Answers (account_held (codes "A001")), turn7 1),
                    (
                      (Answers (account_held (codes "A002")), turn8 1),
                      (
                        (Waits (of_account (codes "A002")), turn9 1),
                        (
                          (Retries_at_cycle (of_account (codes "A001")) (1 ∷ []), retry10),
                          (
                            (Gains (of_account (codes "A002")), retry11),
                            (
                              (Answers (account_held (codes "A002")), retry12),
                              (
                                (Finishes both [], retry13),
                                (
                                  refl,
                                  (
                                    refl,
                                    (
                                      refl,
                                      (
                                        (Gains (of_account (codes "A002")), retry15),
                                        (
                                          refl,
                                          (
                                            refl,
                                            (
                                              refl,
                                              (
                                                (Answers (account_held (codes "A002")), retry16),
                                                (
                                                  refl,
                                                  (
                                                    refl,
                                                    (
                                                      refl,
                                                      (
                                                        (Gains (of_account (codes "A001")), retry17),
                                                        (
                                                          refl,
                                                          (
                                                            refl,
                                                            (
                                                              refl,
                                                              (
                                                                (Answers (account_held (codes "A001")), retry18),
                                                                (
                                                                  refl,
                                                                  (
                                                                    refl,
                                                                    (
                                                                      refl,
                                                                      (
                                                                        (Finishes both [], retry19),
                                                                        (refl, refl),
                                                                      ),
                                                                    ),
                                                                  ),
                                                                ),
                                                              ),
                                                            ),
                                                          ),
                                                        ),
                                                      ),
                                                    ),
                                                  ),
                                                ),
                                              ),
                                            ),
                                          ),
                                        ),
                                      ),
                                    ),
                                  ),
                                ),
                              ),
                            ),
                          ),
                        ),
                      ),
                    ),
                  ),
                ),
              ),
            ),
          ),
        ),
      );
    },
    refl,
  ),
)
