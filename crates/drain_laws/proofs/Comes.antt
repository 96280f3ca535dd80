-- From every machine that is reached there is a drain, and however rounds go on, they come to its end.
use Rattle.std.proofs.Common.{◌≡◌, ℕ, zero, suc, ◌+◌, ◌<◌, ◌≤◌, List, [], ◌∷◌, length, Option, Some, None, ◌⊎◌, inl, inr, refl, sym, ap, subst, Bool, true, false, arith}
use Rattle.std.specs.List.{list_all, AllByRecursion}
use Rattle.std.proofs.lemmas.Bool.{cases_eq}
use Rattle.fp_model.specs.declared.calls.Message.{Message}
use Rattle.fp_model.specs.declared.events.Event.{Event}
use Rattle.fp_model.specs.declared.events.Event.TheVariants as event
use Rattle.fp_model.specs.History.{place_of}
use Rattle.fp_model.specs.Rules.{Rules}
use Rattle.fp_model.specs.Machine.{Machine, taken_in, sealed_once}
use Rattle.fp_model.specs.Turns.{NoFault}
use Rattle.fp_model.specs.Runs.{RunStep, step_events, machine_after, Runs, round, is_idle, is_empty, IsDrained, Drains, DrainsInPart}
use Rattle.serial_order.specs.Laws.{View, Laws}
use Rattle.serial_order.proofs.Lists.{true_is_not_false}
use Rattle.drain_laws.specs.Measure.{Gauge, work_left}
use Rattle.drain_laws.specs.Live.{EndLaws, IsReached}
use Rattle.drain_laws.specs.Rounds.{AreFair, GoesRound, GoesRounds}
use Rattle.drain_laws.proofs.Existence.{turn_there_is}
use Rattle.drain_laws.proofs.Rounds.{behind_in, reached_then, reached_after, round_falls, rounds_fall, reached_by_rounds, drains_are, part_rounds}

-- ---- whether it is drained

list_or : {X : Type 0} (xs : List X) → (xs ≡ []) ⊎ (¬ (xs ≡ []))
list_or [] = inl refl
list_or (x ∷ xs) = inr (λ e. cons_is_not_nil x xs e)
  where
    cons_is_not_nil : {X : Type 0} (x : X) (xs : List X) → ¬ ((x ∷ xs) ≡ [])
    cons_is_not_nil x xs e = cc

option_or : {X : Type 0} (o : Option X) → (o ≡ None) ⊎ (¬ (o ≡ None))
option_or None = inl refl
option_or (Some x) = inr (λ e. some_is_not_none x e)
  where
    some_is_not_none : {X : Type 0} (x : X) → ¬ (Some x ≡ None)
    some_is_not_none x e = cc

bool_or : (b : Bool) → (b ≡ true) ⊎ (¬ (b ≡ true))
bool_or true = inl refl
bool_or false = inr (λ e. true_is_not_false (sym e))

pub drained_or : (rules : Rules) (m : Machine) → IsDrained rules m ⊎ (¬ IsDrained rules m)
drained_or rules m = elim (list_or m.lines) [
  | inr some ↦ inr (λ d. some d.no_line)
  | inl lines ↦ elim (option_or m.held) [
    | inr some ↦ inr (λ d. some d.no_held)
    | inl held ↦ elim (bool_or (list_all (λ (ms : List Message). is_empty rules ms) m.queues)) [
      | inr some ↦ inr (λ d. some d.no_message)
      | inl queues ↦ elim (bool_or (list_all (is_idle rules) m.regions)) [
        | inr some ↦ inr (λ d. some d.no_active)
        | inl regions ↦ elim (cases_eq m.sealed (place_of m.history)) [
          | inr some ↦ inr (λ d. some d.no_unsealed)
          | inl sealed ↦ inl (record {
            no_line = lines;
            no_held = held;
            no_message = queues;
            no_active = regions;
            no_unsealed = sealed;
          })
        ]
      ]
    ]
  ]
]

-- ---- rounds

-- a run leads to the machine behind its last step
led_to : (rules : Rules) (m : Machine) (steps : List RunStep) (m2 : Machine) → Runs rules m steps m2
    → machine_after m steps ≡ m2
led_to rules m [] m2 runs = sym runs
led_to rules m (step ∷ steps) m2 runs = led_to rules step.after steps m2 runs.1

module _ (rules : Rules) (gauge : Gauge) (laws : EndLaws rules gauge) (view : View) (order : Laws rules view) where
  -- a run with these events
  abbrev HasRun : Machine → List Event → Type 0
  HasRun m events = (steps : List RunStep) × ((m2 : Machine) × ((step_events steps ≡ events) × (Runs rules m steps m2
      × AreFair steps)))

  -- a round behind IN
  behind_there_is : (n from : ℕ) (m : Machine) → IsReached rules gauge m → 1 ≤ from
      → from + n ≤ 1 + length rules.regions
      → HasRun m (behind_in n from)
  behind_there_is zero from m h low high = (
    record { event = event.Log; environment = NoFault; after = sealed_once rules m } ∷ [],
    (sealed_once rules m, (refl, ((refl, refl), (refl, tt)))),
  )
  behind_there_is (suc n) from m h low high =
      let first = turn_there_is rules m from low (omega (arith, high, h.live.regions)) in
      let behind = reached_then rules gauge laws view order m (event.Region from) NoFault first.0 h first.1 in
      let rest = behind_there_is n (from + 1) first.0 behind (omega (arith, low)) (omega (arith, high)) in (
        record { event = event.Region from; environment = NoFault; after = first.0 } ∷ rest.0,
        (
          rest.1.0,
          (
            ap (λ (es : List Event). event.Region from ∷ es) rest.1.1.0,
            ((first.1, rest.1.1.1.0), (refl, rest.1.1.1.1)),
          ),
        ),
      )

  -- There is a round.
  pub round_there_is : (m : Machine) → IsReached rules gauge m → HasRun m (round rules)
  round_there_is m h =
      let mid : Machine = taken_in rules m in
      let behind = reached_then rules gauge laws view order m event.In NoFault mid h refl in
      let rest = behind_there_is (length rules.regions) 1 mid behind (omega arith) (omega arith) in (
        record { event = event.In; environment = NoFault; after = mid } ∷ rest.0,
        (rest.1.0, (ap (λ (es : List Event). event.In ∷ es) rest.1.1.0, ((refl, rest.1.1.1.0), (refl, rest.1.1.1.1)))),
      )

  -- A way to go on from each machine that isn't drained, whatever befalls the turns.
  abbrev pub GoesOn : Type 0
  GoesOn =
      (m : Machine) → IsReached rules gauge m → (¬ IsDrained rules m)
      → (steps : List RunStep) × ((m2 : Machine) × GoesRound rules m steps m2)

  abbrev pub HasDrain : Machine → Type 0
  HasDrain m = (rounds : List (List RunStep)) × ((m2 : Machine) × Drains rules m rounds m2)

  comes_by : GoesOn → (n : ℕ) (m : Machine) → IsReached rules gauge m → work_left rules gauge m ≤ n → HasDrain m
  comes_by next zero m h few = elim (drained_or rules m) [
    | inl done ↦ ([], (m, (done, refl)))
    | inr left ↦ (
        let r = next m h left in
        let less = round_falls rules gauge laws view order m r.0 r.1.0 (length m.lines) (length r.1.0.lines) h r.1.1
        (omega arith) in
        absurd (omega (arith, few, less)))
  ]
  comes_by next (suc n) m h few = elim (drained_or rules m) [
    | inl done ↦ ([], (m, (done, refl)))
    | inr left ↦ (
        let r = next m h left in
        let less = round_falls rules gauge laws view order m r.0 r.1.0 (length m.lines) (length r.1.0.lines) h r.1.1
        (omega arith) in
        let rest = comes_by next n r.1.0
        (reached_after rules gauge laws view order m r.0 r.1.0 h r.1.1.runs) (omega (arith, few, less)) in
        let to : machine_after m r.0 ≡ r.1.0 = led_to rules m r.0 r.1.0 r.1.1.runs in (
          r.0 ∷ rest.0,
          (
            rest.1.0,
            (
              left,
              r.1.1.events,
              subst (λ (x : Machine). Runs rules m r.0 x) (sym to) r.1.1.runs,
              subst (λ (x : Machine). Drains rules x rest.0 rest.1.0) (sym to) rest.1.1,
            ),
          ),
        ))
  ]

  -- However the rounds go on, they come to a drained machine.
  pub drain_comes : GoesOn → (m : Machine) → IsReached rules gauge m → HasDrain m
  drain_comes next m h = comes_by next (work_left rules gauge m) m h (omega arith)

  -- a drain in which nothing befalls a turn
  abbrev pub HasFairDrain : Machine → Type 0
  HasFairDrain m =
      (rounds : List (List RunStep))
      × ((m2 : Machine) × (Drains rules m rounds m2 × AllByRecursion AreFair rounds))

  fair_by : (n : ℕ) (m : Machine) → IsReached rules gauge m → work_left rules gauge m ≤ n → HasFairDrain m
  fair_by zero m h few = elim (drained_or rules m) [
    | inl done ↦ ([], (m, ((done, refl), tt)))
    | inr left ↦ (
        let r = round_there_is m h in
        let less = round_falls rules gauge laws view order m r.0 r.1.0 (length m.lines) (length r.1.0.lines) h
        (record { left = left; events = r.1.1.0; runs = r.1.1.1.0 }) (omega arith) in
        absurd (omega (arith, few, less)))
  ]
  fair_by (suc n) m h few = elim (drained_or rules m) [
    | inl done ↦ ([], (m, ((done, refl), tt)))
    | inr left ↦ (
        let r = round_there_is m h in
        let less = round_falls rules gauge laws view order m r.0 r.1.0 (length m.lines) (length r.1.0.lines) h
        (record { left = left; events = r.1.1.0; runs = r.1.1.1.0 }) (omega arith) in
        let rest = fair_by n r.1.0
        (reached_after rules gauge laws view order m r.0 r.1.0 h r.1.1.1.0) (omega (arith, few, less)) in
        let to : machine_after m r.0 ≡ r.1.0 = led_to rules m r.0 r.1.0 r.1.1.1.0 in (
          r.0 ∷ rest.0,
          (
            rest.1.0,
            (
              (
                left,
                r.1.1.0,
                subst (λ (x : Machine). Runs rules m r.0 x) (sym to) r.1.1.1.0,
                subst (λ (x : Machine). Drains rules x rest.0 rest.1.0) (sym to) rest.1.1.0,
              ),
              (r.1.1.1.1, rest.1.1.1),
            ),
          ),
        ))
  ]

  -- There is one.
  pub drain_there_is : (m : Machine) → IsReached rules gauge m → HasFairDrain m
  drain_there_is m h = fair_by (work_left rules gauge m) m h (omega arith)

  -- ---- how many rounds there are

  pub rounds_within : (rounds : List (List RunStep)) (m m2 : Machine) → IsReached rules gauge m
      → GoesRounds rules m rounds m2
      → length rounds + work_left rules gauge m2 ≤ work_left rules gauge m
  rounds_within rounds m m2 h goes = rounds_fall rules gauge laws view order rounds m m2 h goes

  pub drain_within : (rounds : List (List RunStep)) (m m2 : Machine) → IsReached rules gauge m
      → Drains rules m rounds m2
      → length rounds ≤ work_left rules gauge m
  drain_within rounds m m2 h drains =
      let e = rounds_fall rules gauge laws view order rounds m m2 h (drains_are rules rounds m m2 drains) in
      omega (arith, e)

  -- a machine that isn't drained has something left to do
  some_left : (m : Machine) → IsReached rules gauge m → (¬ IsDrained rules m) → 0 < work_left rules gauge m
  some_left m h left =
      let r = round_there_is m h in
      let less = round_falls rules gauge laws view order m r.0 r.1.0 (length m.lines) (length r.1.0.lines) h
      (record { left = left; events = r.1.1.0; runs = r.1.1.1.0 }) (omega arith) in
      omega (arith, less)

  pub part_within : (rounds : List (List RunStep)) (m : Machine) (part : List RunStep) (m2 : Machine)
      → IsReached rules gauge m
      → DrainsInPart rules m rounds part m2
      → length rounds < work_left rules gauge m
  part_within rounds m part m2 h drains =
      let parts = part_rounds rules rounds m part m2 drains in
      let e = rounds_fall rules gauge laws view order rounds m parts.0 h parts.1.0 in
      let behind = reached_by_rounds rules gauge laws view order rounds m parts.0 h parts.1.0 in
      let some = some_left parts.0 behind parts.1.1.0 in
      omega (arith, e, some)
