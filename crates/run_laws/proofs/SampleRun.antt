-- The sample run, turn by turn.
use Rattle.std.proofs.Common.{◌≡◌, ℕ, List, [], ◌∷◌, ◌++◌, subst, Option, Some, None, inl, inr, refl, sym, ◌∙◌, ap, arith, true, false}
use Rattle.std.specs.Prelude.{◌==◌, codes, map}
use Rattle.std.specs.Fmt.{digits}
use Rattle.std.specs.List.{Contains, IsDistinct}
use Rattle.fp_model.specs.declared.database.Db.{Db}
use Rattle.fp_model.specs.declared.calls.Mode.{Mode}
use Rattle.fp_model.specs.declared.calls.Mode.TheVariants.{Share, Exclusive}
use Rattle.fp_model.specs.declared.calls.Resource.TheVariants.{Segment, Anchor}
use Rattle.fp_model.specs.declared.events.Event.{Event}
use Rattle.fp_model.specs.declared.events.Event.TheVariants.{In, Region, Log, Purge}
use Rattle.fp_model.specs.declared.log.Outcome.{Outcome}
use Rattle.fp_model.specs.declared.log.Outcome.TheVariants as outcome
use Rattle.fp_model.specs.declared.calls.Call.{Call}
use Rattle.fp_model.specs.Spellings.{be16}
use Rattle.fp_model.specs.State.{start}
use Rattle.fp_model.specs.Fsas.{list_on, first_failure}
use Rattle.fp_model.specs.Settle.{settle_from}
use Rattle.fp_model.specs.Serial.{Ending, refused_as}
use Rattle.fp_model.specs.Answers.{Needed}
use Rattle.fp_model.specs.Calls.{reply_to, looks_unheld, need_of}
use Rattle.fp_model.specs.Commit.{settlement, lacking, purged}
use Rattle.fp_model.specs.Asking.{Ask, Asks, Replies}
use Rattle.fp_model.specs.Waiting.{is_blocked, without_region, with_request, waits, WaitsAlong, IsCycle}
use Rattle.fp_model.specs.Machine.{Machine, Transaction, Region as RegionState, Active, region_at, taken_in, with_region, with_entry_of, entry_here, entry_of, ended_with, sealed_once}
use Rattle.fp_model.specs.Turns.{NoFault, Act, Answers, Gains, Waits, Deadlocks, Retries_at_cycle, Finishes, Retries_at_verify, AreItemsFor, is_verify_failure, ClosesCycle, IsAtEnd, Does, RegionTurn, Turn, ending_of, tried_again, requests_with, begins_in, with_answer, begun_in, as_lock, asks, wanted}
use Rattle.fp_model.specs.Runs.{RunStep, step_events, Runs}
use Rattle.run_laws.specs.Sample.{sample_defs, sample_rules, at_start, the_events, no_faults, the_entries}
use Rattle.serial_order.proofs.Lists.{true_is_not_false}
use Rattle.run_laws.proofs.SampleAsks.{to_change, to_cross, to_verify, to_upgrade, hold_of, change_of_b, verify_of_b, root_get, change_asks_a, change_asks_b, change_asks_repl, change_replies, cross_asks_b, cross_asks_a, verify_asks, verify_replies, verify_meets_change, upgrade_looks, upgrade_holds, upgrade_replies}
use Rattle.plain_laws.proofs.Alls.{contains_cases, contains_first, contains_later, contains_nothing}

-- ---- the locks that are needed

-- a segment, and the anchor
abbrev of_segment : List ℕ → Needed
of_segment key = record { resource = Segment 0 key; mode = Exclusive }

abbrev of_anchor : Mode → Needed
of_anchor mode = record { resource = Anchor 0 0; mode = mode }

-- the machine with a lock gained, or with a request that stands
abbrev gained : ℕ → Needed → Machine → Machine
gained region needed m =
    record m { locks = as_lock sample_rules region needed ∷ m.locks; requests = without_region region m.requests }

abbrev waiting : ℕ → Needed → Machine → Machine
waiting region needed m = record m { requests = with_request (as_lock sample_rules region needed) m.requests }

-- the state after B was changed
abbrev changed : Db
changed = record (start sample_defs) { msdbs = record { segments = codes "A0" ∷ codes "B1" ∷ [] } ∷ [] }

-- ---- the machines after each turn, and the transactions in them

-- four lines are read
abbrev m1 : Machine
m1 = taken_in sample_rules at_start

abbrev m2 : Machine
m2 = taken_in sample_rules m1

abbrev m3 : Machine
m3 = taken_in sample_rules m2

abbrev m4 : Machine
m4 = taken_in sample_rules m3

abbrev change0 : Transaction
change0 = begun_in sample_rules m4 to_change 0

-- three regions begin
abbrev m5 : Machine
m5 = begins_in sample_rules m4 1 (to_change ∷ to_cross ∷ to_verify ∷ to_upgrade ∷ [])

abbrev cross0 : Transaction
cross0 = begun_in sample_rules m5 to_cross 0

abbrev m6 : Machine
m6 = begins_in sample_rules m5 2 (to_cross ∷ to_verify ∷ to_upgrade ∷ [])

abbrev verify0 : Transaction
verify0 = begun_in sample_rules m6 to_verify 0

abbrev m7 : Machine
m7 = begins_in sample_rules m6 3 (to_verify ∷ to_upgrade ∷ [])

-- the first holds A, the second B; the third looks at B
abbrev m8 : Machine
m8 = gained 1 (of_segment (codes "A")) m7

abbrev change1 : Transaction
change1 = with_answer sample_rules m8 change0 (hold_of (codes "A"))

abbrev m9 : Machine
m9 = with_region 1 (Active change1) m8

abbrev m10 : Machine
m10 = gained 2 (of_segment (codes "B")) m9

abbrev cross1 : Transaction
cross1 = with_answer sample_rules m10 cross0 (hold_of (codes "B"))

abbrev m11 : Machine
m11 = with_region 2 (Active cross1) m10

abbrev verify1 : Transaction
verify1 = with_answer sample_rules m11 verify0 verify_of_b

abbrev m12 : Machine
m12 = with_region 3 (Active verify1) m11

-- the first waits for B, and the second would wait for A: it begins again
abbrev m13 : Machine
m13 = waiting 1 (of_segment (codes "B")) m12

abbrev m14 : Machine
m14 = tried_again sample_rules 2 cross1 m13

abbrev cross2 : Transaction
cross2 = begun_in sample_rules m13 to_cross 1

-- it takes B once more, and is refused at the same cycle
abbrev m15 : Machine
m15 = gained 2 (of_segment (codes "B")) m14

abbrev cross3 : Transaction
cross3 = with_answer sample_rules m15 cross2 (hold_of (codes "B"))

abbrev m16 : Machine
m16 = with_region 2 (Active cross3) m15

abbrev cross_ends : Ending
cross_ends = refused_as (outcome.Deadlock (2 ∷ 1 ∷ [])) m16.history.now

abbrev m17 : Machine
m17 = ended_with 2 (entry_of cross3 cross_ends [] []) m16.history.now m16

-- the first holds B, changes it and commits
abbrev m18 : Machine
m18 = gained 1 (of_segment (codes "B")) m17

abbrev change2 : Transaction
change2 = with_answer sample_rules m18 change1 (hold_of (codes "B"))

abbrev m19 : Machine
m19 = with_region 1 (Active change2) m18

abbrev change3 : Transaction
change3 = with_answer sample_rules m19 change2 change_of_b

abbrev m20 : Machine
m20 = with_region 1 (Active change3) m19

abbrev change_ends : Ending
change_ends = record { outcome = outcome.Done; reply = codes "CHANGED"; next = changed }

abbrev m21 : Machine
m21 = ended_with 1 (entry_of change3 change_ends change3.notes []) changed m20

-- the third meets the change: it begins again, and sees it
abbrev m22 : Machine
m22 = gained 3 (of_segment (codes "B")) m21

abbrev verify_fails : Ending
verify_fails = refused_as (outcome.Verify 0 0 (codes "1")) m22.history.now

abbrev m23 : Machine
m23 = tried_again sample_rules 3 verify1 m22

abbrev verify2 : Transaction
verify2 = begun_in sample_rules m22 to_verify 1

abbrev verify3 : Transaction
verify3 = with_answer sample_rules m23 verify2 verify_of_b

abbrev m24 : Machine
m24 = with_region 3 (Active verify3) m23

abbrev verify_ends : Ending
verify_ends = record { outcome = outcome.Done; reply = codes "SEEN"; next = changed }

abbrev m25 : Machine
m25 = ended_with 3 (entry_of verify3 verify_ends verify3.notes []) changed m24

abbrev upgrade0 : Transaction
upgrade0 = begun_in sample_rules m25 to_upgrade 0

-- the first region takes the fourth line, shares the anchor and holds it
abbrev m26 : Machine
m26 = begins_in sample_rules m25 1 (to_upgrade ∷ [])

abbrev m27 : Machine
m27 = gained 1 (of_anchor Share) m26

abbrev upgrade1 : Transaction
upgrade1 = with_answer sample_rules m27 upgrade0 (root_get false)

abbrev m28 : Machine
m28 = with_region 1 (Active upgrade1) m27

abbrev m29 : Machine
m29 = gained 1 (of_anchor Exclusive) m28

abbrev upgrade2 : Transaction
upgrade2 = with_answer sample_rules m29 upgrade1 (root_get true)

abbrev m30 : Machine
m30 = with_region 1 (Active upgrade2) m29

abbrev upgrade_ends : Ending
upgrade_ends = record { outcome = outcome.Done; reply = codes "HELD"; next = changed }

abbrev m31 : Machine
m31 = ended_with 1 (entry_of upgrade2 upgrade_ends upgrade2.notes []) changed m30

-- the area is purged, and the entries are sealed
abbrev m32 : Machine
m32 = with_entry_of (entry_here m31 (outcome.Purge 3 1) [] []) changed m31

abbrev m33 : Machine
m33 = sealed_once sample_rules m32

-- ---- who waits

-- the only pair
is_that_pair : (p : ℕ × ℕ) → Contains ((1, 2) ∷ []) p → (p.0 ≡ 1) × (p.1 ≡ 2)
is_that_pair p c = elim (contains_cases (1, 2) [] p c) [
  | inl same ↦ (ap (λ (q : ℕ × ℕ). q.0) (sym same), ap (λ (q : ℕ × ℕ). q.1) (sym same))
  | inr none ↦ absurd (contains_nothing p none)
]

-- where only the first waits for the second, nobody waits for himself
only_first : (r : ℕ) (rs : List ℕ) (goal : ℕ) → WaitsAlong ((1, 2) ∷ []) r rs goal → r ≡ 1
only_first r [] goal w = (is_that_pair (r, goal) w).0
only_first r (c ∷ cs) goal w = (is_that_pair (r, c) w.0).0

-- where only the first waits there is no cycle
no_cycle_yet : (cycle : List ℕ) → ¬ IsCycle ((1, 2) ∷ []) (1 ∷ cycle)
no_cycle_yet [] w = let two : 1 ≡ 2 = (is_that_pair (1, 1) w).1 in absurd (omega (arith, two))
no_cycle_yet (c ∷ cs) w =
    let two : c ≡ 2 = (is_that_pair (1, c) w.0).1 in
    let one : c ≡ 1 = only_first c cs 1 w.1 in
    absurd (omega (arith, two, one))

-- the regions of the cycle
two_apart : IsDistinct ◌==◌ (2 ∷ 1 ∷ [])
unfolding IsDistinct
two_apart = ((refl, tt), (tt, tt))

-- ---- the turns

-- what a transaction wants, by what it asks
from_asks : (m : Machine) (region : ℕ) (t : Transaction) (a : Ask) (o : Option Needed)
    → asks sample_rules t ≡ a
    → wanted sample_rules m region t a ≡ o
    → wanted sample_rules m region t (asks sample_rules t) ≡ o
from_asks m region t a o e f = ap (λ (q : Ask). wanted sample_rules m region t q) e ∙ f

-- a script that replies is at its end where it lacks nothing
at_end : (m : Machine) (region : ℕ) (t : Transaction) (reply : List ℕ) (ending : Ending)
    → asks sample_rules t ≡ Replies reply
    → wanted sample_rules m region t (Replies reply) ≡ None
    → ending_of sample_rules m.history.now t (Replies reply) ≡ Some ending
    → IsAtEnd sample_rules m region t ending
at_end m region t reply ending replies lacks ends = record {
  lacks_none = from_asks m region t (Replies reply) None replies lacks;
  ends = ap (λ (a : Ask). ending_of sample_rules m.history.now t a) replies ∙ ends;
}

module _ (m : Machine) (region : ℕ) (t : Transaction) (active : region_at m region ≡ Some (Active t)) where
  -- an act is a turn of its region
  acts : (act : Act) (m2 : Machine) → Does sample_rules m region t act m2
      → Turn sample_rules m (Region region) NoFault m2
  acts act m2 does =
      subst (λ (r : Option RegionState). RegionTurn sample_rules m region r NoFault m2) (sym active) (act, does)

  -- a lock that nothing blocks is gained
  gains : (ask : Ask) (needed : Needed)
      → asks sample_rules t ≡ ask
      → wanted sample_rules m region t ask ≡ Some needed
      → is_blocked m.locks (as_lock sample_rules region needed) ≡ false
      → Turn sample_rules m (Region region) NoFault (gained region needed m)
  gains ask needed is wants free =
      acts (Gains needed) (gained region needed m) (from_asks m region t ask (Some needed) is wants, free, refl)

  -- a call for which nothing is wanted is answered
  answers : (call : Call)
      → asks sample_rules t ≡ Asks call
      → wanted sample_rules m region t (Asks call) ≡ None
      → Turn sample_rules m (Region region) NoFault (with_region region (Active (with_answer sample_rules m t call)) m)
  answers call is none =
      acts (Answers call) (with_region region (Active (with_answer sample_rules m t call)) m)
      (is, from_asks m region t (Asks call) None is none, refl)

  -- a script that replies comes to its end
  finishes : (reply : List ℕ) (ending : Ending)
      → asks sample_rules t ≡ Replies reply
      → wanted sample_rules m region t (Replies reply) ≡ None
      → ending_of sample_rules m.history.now t (Replies reply) ≡ Some ending
      → ending.outcome ≡ outcome.Done
      → Turn sample_rules m (Region region) NoFault (ended_with region (entry_of t ending t.notes []) ending.next m)
  finishes reply ending replies lacks ends done =
      acts (Finishes ending []) (ended_with region (entry_of t ending t.notes []) ending.next m) (
        at_end m region t reply ending replies lacks ends,
        (λ fails. absurd (true_is_not_false (sym fails ∙ ap is_verify_failure done))),
        subst (λ (o : Outcome). AreItemsFor o []) (sym done) tt,
        refl,
      )

-- the first and the second take their locks
turn8 : Turn sample_rules m7 (Region 1) NoFault m8
unfolding reply_to looks_unheld need_of list_on first_failure settle_from settlement lacking purged be16 digits
turn8 = gains m7 1 change0 refl (Asks (hold_of (codes "A"))) (of_segment (codes "A")) change_asks_a refl refl

turn9 : Turn sample_rules m8 (Region 1) NoFault m9
unfolding reply_to looks_unheld need_of list_on first_failure settle_from settlement lacking purged be16 digits
turn9 = answers m8 1 change0 refl (hold_of (codes "A")) change_asks_a refl

turn10 : Turn sample_rules m9 (Region 2) NoFault m10
unfolding reply_to looks_unheld need_of list_on first_failure settle_from settlement lacking purged be16 digits
turn10 = gains m9 2 cross0 refl (Asks (hold_of (codes "B"))) (of_segment (codes "B")) cross_asks_b refl refl

turn11 : Turn sample_rules m10 (Region 2) NoFault m11
unfolding reply_to looks_unheld need_of list_on first_failure settle_from settlement lacking purged be16 digits
turn11 = answers m10 2 cross0 refl (hold_of (codes "B")) cross_asks_b refl

-- the third looks at B
turn12 : Turn sample_rules m11 (Region 3) NoFault m12
unfolding reply_to looks_unheld need_of list_on first_failure settle_from settlement lacking purged be16 digits
turn12 = answers m11 3 verify0 refl verify_of_b verify_asks refl

-- the first waits
turn13 : Turn sample_rules m12 (Region 1) NoFault m13
unfolding reply_to looks_unheld need_of list_on first_failure settle_from settlement lacking purged be16 digits
turn13 = acts m12 1 change1 refl (Waits (of_segment (codes "B"))) m13 (
  from_asks m12 1 change1 (Asks (hold_of (codes "B")))
      (Some (of_segment (codes "B"))) change_asks_b refl,
  refl,
  no_cycle_yet,
  refl,
)

-- the second would close the cycle with the first, as often as it comes here
closes_cycle : (m : Machine) (t : Transaction)
    → asks sample_rules t ≡ Asks (hold_of (codes "A"))
    → wanted sample_rules m 2 t (Asks (hold_of (codes "A"))) ≡ Some (of_segment (codes "A"))
    → waits (requests_with sample_rules m 2 (of_segment (codes "A"))) m.locks ≡ (2, 1) ∷ (1, 2) ∷ []
    → ClosesCycle sample_rules m 2 t (of_segment (codes "A")) (1 ∷ [])
closes_cycle m t asks_a wants_a pairs =
    let pairs_of : List (ℕ × ℕ) = (2, 1) ∷ (1, 2) ∷ [] in
    let there : Contains pairs_of (2, 1) = contains_first (2, 1) ((1, 2) ∷ []) in
    let back : Contains pairs_of (1, 2) = contains_later (2, 1) ((1, 2) ∷ []) (1, 2) (contains_first (1, 2) []) in
    record {
      wants = from_asks m 2 t (Asks (hold_of (codes "A"))) (Some (of_segment (codes "A"))) asks_a wants_a;
      closes = subst (λ (ps : List (ℕ × ℕ)). IsCycle ps (2 ∷ 1 ∷ [])) (sym pairs) (there, back);
      distinct = two_apart;
    }

-- so it begins again
turn14 : Turn sample_rules m13 (Region 2) NoFault m14
unfolding reply_to looks_unheld need_of list_on first_failure settle_from settlement lacking purged be16 digits
turn14 = acts m13 2 cross1 refl (Retries_at_cycle (of_segment (codes "A")) (1 ∷ [])) m14
    (closes_cycle m13 cross1 cross_asks_a refl refl, omega arith, refl)

-- it takes B once more, and is refused
turn15 : Turn sample_rules m14 (Region 2) NoFault m15
unfolding reply_to looks_unheld need_of list_on first_failure settle_from settlement lacking purged be16 digits
turn15 = gains m14 2 cross2 refl (Asks (hold_of (codes "B"))) (of_segment (codes "B")) cross_asks_b refl refl

turn16 : Turn sample_rules m15 (Region 2) NoFault m16
unfolding reply_to looks_unheld need_of list_on first_failure settle_from settlement lacking purged be16 digits
turn16 = answers m15 2 cross2 refl (hold_of (codes "B")) cross_asks_b refl

turn17 : Turn sample_rules m16 (Region 2) NoFault m17
unfolding reply_to looks_unheld need_of list_on first_failure settle_from settlement lacking purged be16 digits
turn17 = acts m16 2 cross3 refl (Deadlocks (of_segment (codes "A")) (1 ∷ [])) m17
    (closes_cycle m16 cross3 cross_asks_a refl refl, omega arith, refl)

-- the first goes on and commits
turn18 : Turn sample_rules m17 (Region 1) NoFault m18
unfolding reply_to looks_unheld need_of list_on first_failure settle_from settlement lacking purged be16 digits
turn18 = gains m17 1 change1 refl (Asks (hold_of (codes "B"))) (of_segment (codes "B")) change_asks_b refl refl

turn19 : Turn sample_rules m18 (Region 1) NoFault m19
unfolding reply_to looks_unheld need_of list_on first_failure settle_from settlement lacking purged be16 digits
turn19 = answers m18 1 change1 refl (hold_of (codes "B")) change_asks_b refl

turn20 : Turn sample_rules m19 (Region 1) NoFault m20
unfolding reply_to looks_unheld need_of list_on first_failure settle_from settlement lacking purged be16 digits
turn20 = answers m19 1 change2 refl change_of_b change_asks_repl refl

turn21 : Turn sample_rules m20 (Region 1) NoFault m21
unfolding reply_to looks_unheld need_of list_on first_failure settle_from settlement lacking purged be16 digits
turn21 = finishes m20 1 change3 refl (codes "CHANGED") change_ends change_replies refl refl refl

-- the third meets the change, begins again, and sees it
turn22 : Turn sample_rules m21 (Region 3) NoFault m22
unfolding reply_to looks_unheld need_of list_on first_failure settle_from settlement lacking purged be16 digits
turn22 = gains m21 3 verify1 refl (Replies (codes "SEEN")) (of_segment (codes "B")) verify_replies refl refl

turn23 : Turn sample_rules m22 (Region 3) NoFault m23
unfolding reply_to looks_unheld need_of list_on first_failure settle_from settlement lacking purged be16 digits
turn23 = acts m22 3 verify1 refl (Retries_at_verify verify_fails) m23
    (at_end m22 3 verify1 (codes "SEEN") verify_fails verify_replies refl refl, refl, omega arith, refl)

turn24 : Turn sample_rules m23 (Region 3) NoFault m24
unfolding reply_to looks_unheld need_of list_on first_failure settle_from settlement lacking purged be16 digits
turn24 = answers m23 3 verify2 refl verify_of_b verify_asks refl

turn25 : Turn sample_rules m24 (Region 3) NoFault m25
unfolding reply_to looks_unheld need_of list_on first_failure settle_from settlement lacking purged be16 digits
turn25 = finishes m24 3 verify3 refl (codes "SEEN") verify_ends verify_meets_change refl refl refl

-- the fourth line
turn27 : Turn sample_rules m26 (Region 1) NoFault m27
unfolding reply_to looks_unheld need_of list_on first_failure settle_from settlement lacking purged be16 digits
turn27 = gains m26 1 upgrade0 refl (Asks (root_get false)) (of_anchor Share) upgrade_looks refl refl

turn28 : Turn sample_rules m27 (Region 1) NoFault m28
unfolding reply_to looks_unheld need_of list_on first_failure settle_from settlement lacking purged be16 digits
turn28 = answers m27 1 upgrade0 refl (root_get false) upgrade_looks refl

turn29 : Turn sample_rules m28 (Region 1) NoFault m29
unfolding reply_to looks_unheld need_of list_on first_failure settle_from settlement lacking purged be16 digits
turn29 = gains m28 1 upgrade1 refl (Asks (root_get true)) (of_anchor Exclusive) upgrade_holds refl refl

turn30 : Turn sample_rules m29 (Region 1) NoFault m30
unfolding reply_to looks_unheld need_of list_on first_failure settle_from settlement lacking purged be16 digits
turn30 = answers m29 1 upgrade1 refl (root_get true) upgrade_holds refl

turn31 : Turn sample_rules m30 (Region 1) NoFault m31
unfolding reply_to looks_unheld need_of list_on first_failure settle_from settlement lacking purged be16 digits
turn31 = finishes m30 1 upgrade2 refl (codes "HELD") upgrade_ends upgrade_replies refl refl refl

-- ---- the run

-- a step that nothing befalls
abbrev step : Event → Machine → RunStep
step event after = record { event = event; environment = NoFault; after = after }

-- two runs one behind the other
runs_join : (m : Machine) (a b : List RunStep) (mid m2 : Machine)
    → Runs sample_rules m a mid → Runs sample_rules mid b m2 → Runs sample_rules m (a ++ b) m2
runs_join m [] b mid m2 first then_on = subst (λ (x : Machine). Runs sample_rules x b m2) first then_on
runs_join m (s ∷ a) b mid m2 first then_on = (first.0, runs_join s.after a b mid m2 first.1 then_on)

-- four lines are read, three regions begin
abbrev beginning_steps : List RunStep
beginning_steps =
    step In m1 ∷ step In m2 ∷ step In m3 ∷ step In m4 ∷ step (Region 1) m5 ∷ step (Region 2) m6 ∷ step
    (Region 3) m7 ∷ []

beginning_runs : Runs sample_rules at_start beginning_steps m7
unfolding reply_to looks_unheld need_of list_on first_failure settle_from settlement lacking purged be16 digits
beginning_runs = (refl, (refl, (refl, (refl, (refl, (refl, (refl, refl)))))))

-- they take their locks, and look
abbrev meeting_steps : List RunStep
meeting_steps =
    step (Region 1) m8 ∷ step (Region 1) m9 ∷ step (Region 2) m10 ∷ step (Region 2) m11 ∷ step (Region 3) m12 ∷ []

meeting_runs : Runs sample_rules m7 meeting_steps m12
unfolding reply_to looks_unheld need_of list_on first_failure settle_from settlement lacking purged be16 digits
meeting_runs = (turn8, (turn9, (turn10, (turn11, (turn12, refl)))))

-- a wait, and a cycle twice
abbrev crossing_steps : List RunStep
crossing_steps =
    step (Region 1) m13 ∷ step (Region 2) m14 ∷ step (Region 2) m15 ∷ step (Region 2) m16 ∷ step (Region 2) m17 ∷ []

crossing_runs : Runs sample_rules m12 crossing_steps m17
unfolding reply_to looks_unheld need_of list_on first_failure settle_from settlement lacking purged be16 digits
crossing_runs = (turn13, (turn14, (turn15, (turn16, (turn17, refl)))))

-- a commit
abbrev changing_steps : List RunStep
changing_steps =
    step (Region 1) m18 ∷ step (Region 1) m19 ∷ step (Region 1) m20 ∷ step (Region 1) m21 ∷ []

changing_runs : Runs sample_rules m17 changing_steps m21
unfolding reply_to looks_unheld need_of list_on first_failure settle_from settlement lacking purged be16 digits
changing_runs = (turn18, (turn19, (turn20, (turn21, refl))))

-- a verify that fails, and another try
abbrev verifying_steps : List RunStep
verifying_steps =
    step (Region 3) m22 ∷ step (Region 3) m23 ∷ step (Region 3) m24 ∷ step (Region 3) m25 ∷ []

verifying_runs : Runs sample_rules m21 verifying_steps m25
unfolding reply_to looks_unheld need_of list_on first_failure settle_from settlement lacking purged be16 digits
verifying_runs = (turn22, (turn23, (turn24, (turn25, refl))))

-- a lock shared, and then whole
abbrev upgrading_steps : List RunStep
upgrading_steps =
    step (Region 1) m26 ∷ step (Region 1) m27 ∷ step (Region 1) m28 ∷ step (Region 1) m29 ∷ step (Region 1) m30 ∷ step
    (Region 1) m31 ∷ []

upgrading_runs : Runs sample_rules m25 upgrading_steps m31
unfolding reply_to looks_unheld need_of list_on first_failure settle_from settlement lacking purged be16 digits
upgrading_runs = (refl, (turn27, (turn28, (turn29, (turn30, (turn31, refl))))))

-- a Purge, and a group
abbrev closing_steps : List RunStep
closing_steps =
    step (Purge 3 1) m32 ∷ step Log m33 ∷ []

closing_runs : Runs sample_rules m31 closing_steps m33
unfolding reply_to looks_unheld need_of list_on first_failure settle_from settlement lacking purged be16 digits
closing_runs = (record { items = []; next = changed; is_purged = refl; after = refl }, (refl, refl))

abbrev the_steps : List RunStep
the_steps =
    beginning_steps ++ meeting_steps ++ crossing_steps ++ changing_steps ++ verifying_steps ++ upgrading_steps
    ++ closing_steps

-- the steps are turns
the_runs : Runs sample_rules at_start the_steps m33
the_runs =
    let from_m25 = runs_join m25 upgrading_steps closing_steps m31 m33 upgrading_runs closing_runs in
    let from_m21 = runs_join m21 verifying_steps (upgrading_steps ++ closing_steps) m25 m33 verifying_runs from_m25 in
    let last_steps : List RunStep = verifying_steps ++ upgrading_steps ++ closing_steps in
    let from_m17 = runs_join m17 changing_steps last_steps m21 m33 changing_runs from_m21 in
    let from_m12 = runs_join m12 crossing_steps (changing_steps ++ last_steps) m17 m33 crossing_runs from_m17 in
    let later_steps : List RunStep = crossing_steps ++ changing_steps ++ last_steps in
    let from_m7 = runs_join m7 meeting_steps later_steps m12 m33 meeting_runs from_m12 in
    runs_join at_start beginning_steps (meeting_steps ++ later_steps) m7 m33 beginning_runs from_m7

-- The sample run, with its outcomes.
pub sample_run : (steps : List RunStep) × (m : Machine)
    × (Runs sample_rules at_start steps m
    × (step_events steps ≡ the_events)
    × (map (λ step. step.environment) steps ≡ no_faults)
    × (m.history.entries ≡ the_entries))
unfolding reply_to looks_unheld need_of list_on first_failure settle_from settlement lacking purged be16 digits
sample_run = (the_steps, m33, (the_runs, refl, refl, refl))
