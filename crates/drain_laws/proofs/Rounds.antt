-- A round leaves less to do, unless the machine is drained.
use Rattle.std.proofs.Common.{◌≡◌, ℕ, zero, suc, ◌+◌, ◌*◌, ◌<◌, ◌≤◌, List, [], ◌∷◌, ◌++◌, length, map, Some, ◌⊎◌, inl, inr, refl, sym, ◌∙◌, ap, subst, true, not, nat_eq, arith}
use Rattle.std.specs.List.{Contains}
use Rattle.std.proofs.lemmas.Bool.{cases_eq}
use Rattle.fp_model.specs.declared.events.Event.{Event}
use Rattle.fp_model.specs.declared.events.Event.TheVariants as event
use Rattle.fp_model.specs.State.{numbers_up}
use Rattle.fp_model.specs.History.{place_of}
use Rattle.fp_model.specs.Rules.{Rules}
use Rattle.fp_model.specs.Waiting.{Lock, is_blocked, without_region, with_request}
use Rattle.fp_model.specs.Machine.{Idle, Machine, region_at, taken_in}
use Rattle.fp_model.specs.Turns.{Environment, NoFault, DeviceFault, OutOfMemory, messages_for, Turn}
use Rattle.fp_model.specs.Runs.{RunStep, step_events, TakesOf, machine_after, Runs, round, IsDrained, Drains, DrainsInPart}
use Rattle.fp_model.proofs.FrameLemmas.{turn_keeps as turn_leaves}
use Rattle.fp_model.proofs.RunLemmas.{last_machine}
use Rattle.serial_order.specs.Laws.{View, Laws}
use Rattle.serial_order.specs.Kept.{HaveNoCycle}
use Rattle.serial_order.proofs.Lists.{eqb_other, filter_contains}
use Rattle.drain_laws.specs.Measure.{Gauge, line_weight, work_inside, work_with, work_left}
use Rattle.drain_laws.specs.Live.{EndLaws, IsReached}
use Rattle.drain_laws.specs.Rounds.{GoesRound, GoesRounds, RoundMoves, ReadsLine, HasLess}
use Rattle.drain_laws.proofs.Falls.{times_suc, Moves, Does_some, Has_to_wait, Has_nothing, region_moves, log_moves}
use Rattle.drain_laws.proofs.Lines.{InMoves, Reads, Takes_held, Is_stuck, Has_none, in_moves}
use Rattle.drain_laws.proofs.Live.{same_region, frame, turn_live}
use Rattle.drain_laws.proofs.InOrder.{ordered_alike, turn_ordered}
use Rattle.drain_laws.proofs.Stands.{Rests, Idles, Waits_for, IsStill, no_line_waits, is_drained}
use Rattle.plain_laws.proofs.Alls.{contains_first, contains_later}

-- ---- steps

-- the round behind IN, from a region on
abbrev pub behind_in : ℕ → ℕ → List Event
behind_in n from = map event.Region (numbers_up n from) ++ event.Log ∷ []

-- Turns of these events, one after another: a run whose events are known, event by event.
abbrev pub Takes : Rules → Machine → List Event → List RunStep → Machine → Type 0
Takes rules m [] [] m2 = m2 ≡ m
Takes rules m [] (step ∷ steps) m2 = ⊥
Takes rules m (e ∷ es) [] m2 = ⊥
Takes rules m (e ∷ es) (step ∷ steps) m2 = Turn rules m e step.environment step.after
    × Takes rules step.after es steps m2

nothing_is_not : (e : Event) (es : List Event) → [] ≡ e ∷ es → ⊥
nothing_is_not e es is = cc

first_is : (d e : Event) (ds es : List Event) → d ∷ ds ≡ e ∷ es → d ≡ e
first_is d e ds es is = cc

others_are : (d e : Event) (ds es : List Event) → d ∷ ds ≡ e ∷ es → ds ≡ es
others_are d e ds es is = cc

-- a run takes the events of its steps
pub takes_of : (rules : Rules) (m : Machine) (events : List Event) (steps : List RunStep) (m2 : Machine)
    → step_events steps ≡ events → Runs rules m steps m2 → Takes rules m events steps m2
takes_of rules m [] [] m2 is runs = runs
takes_of rules m [] (step ∷ steps) m2 is runs = absurd (nothing_is_not step.event (step_events steps) (sym is))
takes_of rules m (e ∷ es) [] m2 is runs = absurd (nothing_is_not e es is)
takes_of rules m (e ∷ es) (step ∷ steps) m2 is runs = (
  subst (λ (d : Event). Turn rules m d step.environment step.after) (first_is step.event e (step_events steps) es is)
      runs.0,
  takes_of rules step.after es steps m2 (others_are step.event e (step_events steps) es is) runs.1,
)

-- the lines stay behind IN
pub behind_lines : (rules : Rules) (n from : ℕ) (steps : List RunStep) (m m2 : Machine)
    → Takes rules m (behind_in n from) steps m2
    → m2.lines ≡ m.lines
behind_lines rules zero from [] m m2 runs = absurd runs
behind_lines rules zero from (s ∷ []) m m2 runs =
    ap (λ (x : Machine). x.lines) runs.1 ∙ (turn_leaves rules m event.Log s.environment s.after runs.0).0.lines
behind_lines rules zero from (s ∷ r ∷ steps) m m2 runs = absurd runs.1
behind_lines rules (suc n) from [] m m2 runs = absurd runs
behind_lines rules (suc n) from (s ∷ steps) m m2 runs =
    behind_lines rules n (from + 1) steps s.after m2 runs.1
    ∙ (turn_leaves rules m (event.Region from) s.environment s.after runs.0).0.lines

module _ (rules : Rules) (gauge : Gauge) (laws : EndLaws rules gauge) (view : View) (order : Laws rules view) where
  pub reached_then : (m : Machine) (e : Event) (v : Environment) (m2 : Machine) → IsReached rules gauge m
      → Turn rules m e v m2
      → IsReached rules gauge m2
  reached_then m e v m2 h turn = record {
    in_order = turn_ordered rules view order m e v m2 turn h.in_order;
    live = turn_live rules gauge laws view order m e v m2 h.in_order.sealed turn h.live;
  }

  pub reached_after : (m : Machine) (steps : List RunStep) (m2 : Machine) → IsReached rules gauge m
      → Runs rules m steps m2
      → IsReached rules gauge m2
  reached_after m [] m2 h runs = subst (λ (x : Machine). IsReached rules gauge x) (sym runs) h
  reached_after m (step ∷ steps) m2 h runs =
      reached_after step.after steps m2 (reached_then m step.event step.environment step.after h runs.0) runs.1

  takes_reached : (m : Machine) (es : List Event) (steps : List RunStep) (m2 : Machine) → IsReached rules gauge m
      → Takes rules m es steps m2
      → IsReached rules gauge m2
  takes_reached m [] [] m2 h runs = subst (λ (x : Machine). IsReached rules gauge x) (sym runs) h
  takes_reached m [] (s ∷ steps) m2 h runs = absurd runs
  takes_reached m (e ∷ es) [] m2 h runs = absurd runs
  takes_reached m (e ∷ es) (s ∷ steps) m2 h runs =
      takes_reached s.after es steps m2 (reached_then m e s.environment s.after h runs.0) runs.1

  -- what is left inside
  abbrev inside : Machine → ℕ
  inside m = work_inside rules gauge m

  -- ---- one turn

  turn_moves : (m : Machine) (region : ℕ) (v : Environment) (m2 : Machine) → IsReached rules gauge m
      → Turn rules m (event.Region region) v m2
      → Moves rules gauge laws m region m2
  turn_moves m zero v m2 h turn = absurd turn
  turn_moves m (suc place) v m2 h turn = region_moves rules gauge laws view order m place _ v m2 h.live refl turn

  -- no turn of a region leaves more
  region_not_more : (m : Machine) (region : ℕ) (m2 : Machine) → Moves rules gauge laws m region m2
      → inside m2 ≤ inside m
  region_not_more m region m2 (Does_some f) = omega (arith, f)
  region_not_more m region m2 (Has_to_wait w) =
      subst (λ (x : Machine). inside x ≤ inside m) (sym w.after) (omega arith)
  region_not_more m region m2 (Has_nothing n) =
      subst (λ (x : Machine). inside x ≤ inside m) (sym n.after) (omega arith)

  -- nor one of the log
  log_not_more : (m : Machine) (v : Environment) (m2 : Machine) → Turn rules m event.Log v m2 → inside m2 ≤ inside m
  log_not_more m NoFault m2 turn =
      subst (λ (x : Machine). inside x ≤ inside m) (sym turn) (elim (log_moves rules gauge laws m) [
        | inl f ↦ omega (arith, f)
        | inr same ↦ subst (λ (x : Machine). inside x ≤ inside m) (sym same.0) (omega arith)
      ])
  log_not_more m DeviceFault m2 turn = absurd turn
  log_not_more m OutOfMemory m2 turn = absurd turn

  -- ---- the regions and the log

  -- nothing more
  behind_not_more : (n from : ℕ) (steps : List RunStep) (m m2 : Machine) → IsReached rules gauge m
      → Takes rules m (behind_in n from) steps m2
      → inside m2 ≤ inside m
  behind_not_more zero from [] m m2 h runs = absurd runs
  behind_not_more zero from (s ∷ []) m m2 h runs =
      subst (λ (x : Machine). inside x ≤ inside m) (sym runs.1) (log_not_more m s.environment s.after runs.0)
  behind_not_more zero from (s ∷ r ∷ steps) m m2 h runs = absurd runs.1
  behind_not_more (suc n) from [] m m2 h runs = absurd runs
  behind_not_more (suc n) from (s ∷ steps) m m2 h runs =
      let first = region_not_more m from s.after (turn_moves m from s.environment s.after h runs.0) in
      let behind = reached_then m (event.Region from) s.environment s.after h runs.0 in
      let rest = behind_not_more n (from + 1) steps s.after m2 behind runs.1 in
      omega (arith, first, rest)

  -- with other requests
  abbrev asking : Machine → List Lock → Machine
  asking m q = record m { requests = q }

  -- All stood still: the machine is as it was, but for the requests, and n regions from one on rest.
  record AllStill (m : Machine) (q : List Lock) (from n : ℕ) (m2 : Machine) : Type 0 where
    requests : List Lock
    after : m2 ≡ asking m requests
    rests : (k : ℕ) → from ≤ k → k < from + n → Rests rules gauge laws m requests k
    old : (w : Lock) → Contains q w → w.region < from → Contains requests w
    sealed : place_of m.history ≤ m.sealed

  -- the log alone
  log_stands : (m : Machine) (q : List Lock) (from : ℕ) (v : Environment) (m2 : Machine)
      → Turn rules (asking m q) event.Log v m2
      → (inside m2 < inside m) ⊎ AllStill m q from 0 m2
  log_stands m q from NoFault m2 turn = elim (log_moves rules gauge laws (asking m q)) [
    | inl f ↦ inl (subst (λ (x : Machine). inside x < inside m) (sym turn) f)
    | inr same ↦ inr (record {
      requests = q;
      after = turn ∙ same.0;
      rests = λ k low high. absurd (omega (arith, low, high));
      old = λ w c low. c;
      sealed = same.1;
    })
  ]
  log_stands m q from DeviceFault m2 turn = absurd turn
  log_stands m q from OutOfMemory m2 turn = absurd turn

  -- one region more that rests: it waits
  one_waits : (m : Machine) (q : List Lock) (from n : ℕ) (m2 : Machine) (wanted : Lock)
      → wanted.region ≡ from
      → is_blocked m.locks wanted ≡ true
      → AllStill m (with_request wanted q) (from + 1) n m2
      → AllStill m q from (suc n) m2
  one_waits m q from n m2 wanted of blocked a = record {
    requests = a.requests;
    after = a.after;
    rests = λ k low high. elim (cases_eq k from) [
      | inl same ↦ Waits_for wanted
          (a.old wanted (contains_first wanted (without_region wanted.region q)) (omega (arith, of)))
          (of ∙ sym same) blocked
      | inr ne ↦ a.rests k (omega (arith, low, ne)) (omega (arith, high))
    ];
    old = λ w c low. (
        let others : not (nat_eq w.region wanted.region) ≡ true
        = ap not (eqb_other w.region wanted.region (λ e. absurd (omega (arith, e, of, low)))) in
        let kept = filter_contains (λ (l : Lock). not (nat_eq l.region wanted.region)) q w c others in
        a.old w (contains_later wanted (without_region wanted.region q) w kept) (omega (arith, low)));
    sealed = a.sealed;
  }

  -- it has nothing to take
  one_idles : (m : Machine) (q : List Lock) (from n : ℕ) (m2 : Machine) → region_at m from ≡ Some Idle
      → messages_for rules m from ≡ []
      → AllStill m q (from + 1) n m2
      → AllStill m q from (suc n) m2
  one_idles m q from n m2 idle nothing a = record {
    requests = a.requests;
    after = a.after;
    rests = λ k low high. elim (cases_eq k from) [
      | inl same ↦ subst (λ (r : ℕ). Rests rules gauge laws m a.requests r) (sym same) (Idles idle nothing)
      | inr ne ↦ a.rests k (omega (arith, low, ne)) (omega (arith, high))
    ];
    old = λ w c low. a.old w c (omega (arith, low));
    sealed = a.sealed;
  }

  -- Less is left, or all stood still.
  behind_moves : (n from : ℕ) (steps : List RunStep) (m : Machine) (q : List Lock) (m2 : Machine)
      → IsReached rules gauge (asking m q)
      → Takes rules (asking m q) (behind_in n from) steps m2
      → (inside m2 < inside m) ⊎ AllStill m q from n m2
  behind_moves zero from [] m q m2 h runs = absurd runs
  behind_moves zero from (s ∷ []) m q m2 h runs =
      log_stands m q from s.environment m2
      (subst (λ (x : Machine). Turn rules (asking m q) event.Log s.environment x) (sym runs.1) runs.0)
  behind_moves zero from (s ∷ r ∷ steps) m q m2 h runs = absurd runs.1
  behind_moves (suc n) from [] m q m2 h runs = absurd runs
  behind_moves (suc n) from (s ∷ steps) m q m2 h runs =
      by (turn_moves (asking m q) from s.environment s.after h runs.0)
      (λ r e. behind_moves n (from + 1) steps m r m2
      (subst (λ (x : Machine). IsReached rules gauge x) e after)
      (subst (λ (x : Machine). Takes rules x (behind_in n (from + 1)) steps m2) e runs.1))
    where
      after : IsReached rules gauge s.after
      after = reached_then (asking m q) (event.Region from) s.environment s.after h runs.0

      by : Moves rules gauge laws (asking m q) from s.after
          → ((r : List Lock) → s.after ≡ asking m r → (inside m2 < inside m) ⊎ AllStill m r (from + 1) n m2)
          → (inside m2 < inside m) ⊎ AllStill m q from (suc n) m2
      by (Does_some f) later =
          let rest = behind_not_more n (from + 1) steps s.after m2 after runs.1 in inl (omega (arith, f, rest))
      by (Has_to_wait w) later = elim (later (with_request w.wanted q) w.after) [
        | inl f ↦ inl f
        | inr a ↦ inr (one_waits m q from n m2 w.wanted w.of w.is_held a)
      ]
      by (Has_nothing i) later = elim (later q i.after) [
        | inl f ↦ inl f
        | inr a ↦ inr (one_idles m q from n m2 (same_region (asking m q) m from Idle refl i.idle) i.nothing a)
      ]

  -- ---- the round

  -- one in which all stands still leaves no cycle
  is_still : (m m2 : Machine) → IsReached rules gauge m2 → AllStill m m.requests 1 (length rules.regions) m2
      → (requests : List Lock) × IsStill rules gauge laws m requests
  is_still m m2 h a = (
    a.requests,
    record {
      rests = a.rests;
      sealed = a.sealed;
      no_cycle = subst (λ (x : Machine). HaveNoCycle x.requests x.locks) a.after h.in_order.no_cycle;
    },
  )

  takes_round : (m : Machine) (steps : List RunStep) (m2 : Machine) → IsReached rules gauge m
      → (¬ IsDrained rules m)
      → Takes rules m (round rules) steps m2
      → RoundMoves rules gauge m m2
  takes_round m [] m2 h left runs = absurd runs
  takes_round m (s ∷ steps) m2 h left runs = by_environment s.environment refl
    where
      n : ℕ
      n = length rules.regions

      mid : Machine
      mid = s.after

      there : IsReached rules gauge s.after
      there = reached_then m event.In s.environment s.after h runs.0

      stuck : s.after ≡ m → ((requests : List Lock) → IsStill rules gauge laws m requests → ⊥)
          → RoundMoves rules gauge m m2
      stuck same not_still =
          let here : Takes rules m (behind_in n 1) steps m2
          = subst (λ (x : Machine). Takes rules x (behind_in n 1) steps m2) same runs.1 in
          elim (behind_moves n 1 steps m m.requests m2 h here) [
            | inl f ↦ HasLess (behind_lines rules n 1 steps m m2 here) f
            | inr a ↦ (let still = is_still m m2 (takes_reached m (behind_in n 1) steps m2 h here) a in
                absurd (not_still still.0 still.1))
          ]

      by : InMoves rules gauge m (taken_in rules m) → s.after ≡ taken_in rules m → RoundMoves rules gauge m m2
      by (Reads lines more) is =
          let less = behind_not_more n 1 steps s.after m2 there runs.1 in
          let same : m2.lines ≡ (taken_in rules m).lines
          = behind_lines rules n 1 steps s.after m2 runs.1 ∙ ap (λ (x : Machine). x.lines) is in
          let mids : inside s.after ≡ inside (taken_in rules m) = ap (λ (x : Machine). inside x) is in
          ReadsLine (lines ∙ ap (λ (ls : List (List ℕ)). length ls + 1) (sym same)) (omega (arith, less, mids, more))
      by (Takes_held lines fewer) is =
          let less = behind_not_more n 1 steps s.after m2 there runs.1 in
          let mids : inside s.after ≡ inside (taken_in rules m) = ap (λ (x : Machine). inside x) is in
          HasLess (behind_lines rules n 1 steps s.after m2 runs.1 ∙ ap (λ (x : Machine). x.lines) is ∙ lines)
          (omega (arith, less, mids, fewer))
      by (Is_stuck line held waits same) is =
          stuck (is ∙ same) (λ requests still. no_line_waits rules gauge laws m requests h.live still line waits)
      by (Has_none free none same) is =
          stuck (is ∙ same)
          (λ requests still. left (is_drained rules gauge laws m requests h.live still h.in_order.sealed none
          free))

      by_environment : (v : Environment) → s.environment ≡ v → RoundMoves rules gauge m m2
      by_environment v is = by_turn v (subst (λ (w : Environment). Turn rules m event.In w s.after) is runs.0)
        where
          by_turn : (w : Environment) → Turn rules m event.In w s.after → RoundMoves rules gauge m m2
          by_turn NoFault turn = by (in_moves rules gauge m) turn
          by_turn DeviceFault turn = absurd turn
          by_turn OutOfMemory turn = absurd turn

  -- A round reads a line, or leaves less to do inside.
  pub round_moves : (m : Machine) (steps : List RunStep) (m2 : Machine) → IsReached rules gauge m
      → GoesRound rules m steps m2
      → RoundMoves rules gauge m m2
  round_moves m steps m2 h goes =
      takes_round m steps m2 h goes.left (takes_of rules m (round rules) steps m2 goes.events goes.runs)

  -- so the whole falls, also where more lines may be read than there are
  falls_by : (m m2 : Machine) (lines lines2 : ℕ) → lines + length m2.lines ≡ lines2 + length m.lines
      → RoundMoves rules gauge m m2
      → work_with rules gauge lines2 m2 < work_with rules gauge lines m
  falls_by m m2 lines lines2 same (ReadsLine read more) =
      let w : ℕ = line_weight rules gauge in
      let e : lines * w ≡ lines2 * w + w
      = ap (λ (k : ℕ). k * w) (let f : lines ≡ lines2 + 1 = omega (arith, same, read) in f) ∙ times_suc lines2 w in
      omega (arith, e, more)
  falls_by m m2 lines lines2 same (HasLess stay less) =
      let w : ℕ = line_weight rules gauge in
      let n : length m2.lines ≡ length m.lines = ap (λ (ls : List (List ℕ)). length ls) stay in
      let e : lines2 * w ≡ lines * w
      = ap (λ (k : ℕ). k * w) (let f : lines2 ≡ lines = omega (arith, same, n) in f) in
      omega (arith, e, less)

  -- A round leaves less to do, whatever befalls its turns.
  pub round_falls : (m : Machine) (steps : List RunStep) (m2 : Machine) (lines lines2 : ℕ)
      → IsReached rules gauge m
      → GoesRound rules m steps m2
      → lines + length m2.lines ≡ lines2 + length m.lines
      → work_with rules gauge lines2 m2 < work_with rules gauge lines m
  round_falls m steps m2 lines lines2 h goes same =
      falls_by m m2 lines lines2 same (round_moves m steps m2 h goes)

  -- So rounds are no more than there is left to do.
  pub rounds_fall : (rounds : List (List RunStep)) (m m2 : Machine) → IsReached rules gauge m
      → GoesRounds rules m rounds m2
      → length rounds + work_left rules gauge m2 ≤ work_left rules gauge m
  rounds_fall [] m m2 h goes =
      let e : work_left rules gauge m2 ≤ work_left rules gauge m
      = subst (λ (x : Machine). work_left rules gauge x ≤ work_left rules gauge m) (sym goes) (omega arith) in
      omega (arith, e)
  rounds_fall (steps ∷ rounds) m m2 h goes =
      let mid : Machine = machine_after m steps in
      let first = round_falls m steps mid (length m.lines) (length mid.lines) h goes.0 (omega arith) in
      let others = rounds_fall rounds mid m2 (reached_after m steps mid h goes.0.runs) goes.1 in
      omega (arith, first, others)

  -- where rounds lead is reached
  pub reached_by_rounds : (rounds : List (List RunStep)) (m m2 : Machine) → IsReached rules gauge m
      → GoesRounds rules m rounds m2
      → IsReached rules gauge m2
  reached_by_rounds [] m m2 h goes = subst (λ (x : Machine). IsReached rules gauge x) (sym goes) h
  reached_by_rounds (steps ∷ rounds) m m2 h goes =
      reached_by_rounds rounds (machine_after m steps) m2
      (reached_after m steps (machine_after m steps) h goes.0.runs) goes.1

-- A drain is rounds, as many as there are, to a drained machine.
pub drains_are : (rules : Rules) (rounds : List (List RunStep)) (m m2 : Machine) → Drains rules m rounds m2
    → GoesRounds rules m rounds m2
drains_are rules [] m m2 drains = drains.1
drains_are rules (steps ∷ rounds) m m2 drains = (
  record { left = drains.0; events = drains.1; runs = drains.2 },
  drains_are rules rounds (machine_after m steps) m2 drains.3,
)

-- and back
pub rounds_drain : (rules : Rules) (rounds : List (List RunStep)) (m m2 : Machine) → GoesRounds rules m rounds m2
    → IsDrained rules m2 → Drains rules m rounds m2
rounds_drain rules [] m m2 goes drained = (subst (λ (x : Machine). IsDrained rules x) goes drained, goes)
rounds_drain rules (steps ∷ rounds) m m2 goes drained = (
  goes.0.left,
  goes.0.events,
  goes.0.runs,
  rounds_drain rules rounds (machine_after m steps) m2 goes.1 drained,
)

-- One that ended early is whole rounds to a machine that isn't drained, and a part.
pub part_rounds : (rules : Rules) (rounds : List (List RunStep)) (m : Machine) (part : List RunStep) (m2 : Machine)
    → DrainsInPart rules m rounds part m2
    → (mid : Machine) × (GoesRounds rules m rounds mid × ((¬ IsDrained rules mid) × Runs rules mid part m2))
part_rounds rules [] m part m2 drains = (m, (refl, (drains.0, drains.1.2)))
part_rounds rules (steps ∷ rounds) m part m2 drains =
    let rest = part_rounds rules rounds (machine_after m steps) part m2 drains.3 in
    (rest.0, ((record { left = drains.0; events = drains.1; runs = drains.2 }, rest.1.0), rest.1.1))

-- One round more at the end.
pub rounds_more : (rules : Rules) (rounds : List (List RunStep)) (m mid : Machine) (steps : List RunStep) (m2 : Machine)
    → GoesRounds rules m rounds mid
    → GoesRound rules mid steps m2
    → GoesRounds rules m (rounds ++ steps ∷ []) m2
rounds_more rules [] m mid steps m2 goes one =
    let to : m2 ≡ machine_after mid steps = last_machine rules mid steps m2 one.runs in
    let first = subst (λ (x : Machine). GoesRound rules mid steps x) to one in
    subst (λ (x : Machine). GoesRound rules x steps (machine_after x steps) × (m2 ≡ machine_after x steps)) goes
    (first, to)
rounds_more rules (s ∷ rounds) m mid steps m2 goes one =
    (goes.0, rounds_more rules rounds (machine_after m s) mid steps m2 goes.1 one)

-- Rounds to a machine that isn't drained, and a part of one more.
pub rounds_drain_in_part : (rules : Rules) (rounds : List (List RunStep)) (m mid : Machine) (part : List RunStep)
    (left : List Event) (m2 : Machine) → GoesRounds rules m rounds mid
    → (¬ IsDrained rules mid)
    → TakesOf (round rules) part left
    → Runs rules mid part m2
    → DrainsInPart rules m rounds part m2
rounds_drain_in_part rules [] m mid part left m2 goes undone takes runs = (
  subst (λ (x : Machine). ¬ IsDrained rules x) goes undone,
  (left, takes, subst (λ (x : Machine). Runs rules x part m2) goes runs),
)
rounds_drain_in_part rules (s ∷ rounds) m mid part left m2 goes undone takes runs = (
  goes.0.left,
  goes.0.events,
  goes.0.runs,
  rounds_drain_in_part rules rounds (machine_after m s) mid part left m2 goes.1 undone takes runs,
)

-- A machine with other lines left is reached too.
pub relined : (rules : Rules) (gauge : Gauge) (m : Machine) (lines : List (List ℕ))
    → IsReached rules gauge m
    → IsReached rules gauge (record m { lines = lines })
relined rules gauge m lines h =
    let m2 : Machine = record m { lines = lines } in
    record {
      in_order = ordered_alike rules m m2 refl h.in_order.no_cycle h.in_order.sealed h.in_order;
      live = frame rules gauge m m2 refl refl h.live.holders h.live.waits h.live;
    }
