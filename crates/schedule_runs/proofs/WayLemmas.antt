-- Turns in a row, rounds of the drain, and a first part of one, as ways that a run goes.
use Rattle.std.proofs.Common.{◌≡◌, refl, sym, ◌∙◌, ap, subst, arith, ℕ, ◌+◌, List, [], ◌∷◌, ◌++◌, length, map}
use Rattle.std.specs.Prelude.{filter, if◌then◌else◌}
use Rattle.std.specs.List.{AllByRecursion}
use Rattle.std.proofs.lemmas.List.{append-nil, length-append}
use Rattle.std.proofs.lemmas.List.Elements.{filter-append}
use Rattle.drain_laws.specs.Rounds.{GoesRounds}
use Rattle.fp_model.specs.declared.definitions.Defs.{Defs}
use Rattle.fp_model.specs.declared.events.Event.{Event}
use Rattle.fp_model.specs.Machine.{Machine}
use Rattle.fp_model.specs.Rules.{Rules}
use Rattle.fp_model.specs.Runs.{Drains, IsDrained, RunStep, Runs, TakesOf, device_faults, is_device_fault, machine_after, round, step_events}
use Rattle.fp_model.specs.Turns.{Environment, NoFault, DeviceFault, OutOfMemory}
use Rattle.fp_site.specs.Disk.{Disk}
use Rattle.message_lines.specs.declared.lines.Lines.{Lines}
use Rattle.fp_core.specs.declared.did.Did.{Did}
use Rattle.fp_core.specs.declared.engine.Engine.{Engine}
use Rattle.fp_core.specs.Draining.{AreCalm, Drained, IsInDrain}
use Rattle.fp_core.specs.Relation.{StandsFor, rules_in}
use Rattle.fp_core.specs.Standing.{Origin}
use Rattle.fp_core.specs.Turning.{AreExact, RoundsAreExact, Turned}
use Rattle.fp_core.proofs.Exacts.{exact_of}
use Rattle.schedule_runs.specs.Ways as ways
use Rattle.schedule_runs.specs.Ways.{Comes, Goes, faults_in, next_event}

-- ---- one way behind another

pub goes_behind : {defs : Defs} {rules : Rules} {events mid : List Event} {m here : Machine} {vs : List Environment}
    → Goes defs rules events m vs mid here → (ws : List Environment) (left : List Event) (m2 : Machine)
    → Goes defs rules mid here ws left m2 → Goes defs rules events m (vs ++ ws) left m2
goes_behind ways.here ws left m2 more = more
goes_behind (ways.turn t exact rest) ws left m2 more = ways.turn t exact (goes_behind rest ws left m2 more)
goes_behind (ways.again undone rest) ws left m2 more = ways.again undone (goes_behind rest ws left m2 more)

pub faults_both : (vs ws : List Environment) → faults_in vs ≡ 0 → faults_in ws ≡ 0 → faults_in (vs ++ ws) ≡ 0
faults_both vs ws none none2 =
    let whole : faults_in (vs ++ ws) ≡ faults_in vs + faults_in ws
    = ap (λ (xs : List Environment). length xs) (filter-append is_device_fault vs ws)
    ∙ length-append (filter is_device_fault vs) (filter is_device_fault ws) in
    omega (arith, whole, none, none2)

-- one turn that no fault of the device befalls
pub calm_turn : (v : Environment) → ¬ (v ≡ DeviceFault) → faults_in (v ∷ []) ≡ 0
calm_turn NoFault none = refl
calm_turn DeviceFault none = absurd (none refl)
calm_turn OutOfMemory none = refl

-- ---- steps

-- what befell steps
abbrev pub environments_of : List RunStep → List Environment
environments_of steps = map (λ (step : RunStep). step.environment) steps

-- of rounds of them
abbrev pub environments_in : List (List RunStep) → List Environment
environments_in [] = []
environments_in (steps ∷ rounds) = environments_of steps ++ environments_in rounds

pub calm_steps : (steps : List RunStep) → faults_in (environments_of steps) ≡ device_faults steps
calm_steps [] = refl
calm_steps (s ∷ steps) =
    by s.environment (filter is_device_fault (environments_of steps))
    (filter (λ (step : RunStep). is_device_fault step.environment) steps) (calm_steps steps)
  where
    by : (v : Environment) (vs : List Environment) (rest : List RunStep) → length vs ≡ length rest
        → length (if is_device_fault v then v ∷ vs else vs) ≡ length (if is_device_fault v then s ∷ rest else rest)
    by NoFault vs rest e = e
    by DeviceFault vs rest e = omega (arith, e)
    by OutOfMemory vs rest e = e

pub goes_steps : (defs : Defs) (rules : Rules) (steps : List RunStep) (m m2 : Machine) (left : List Event)
    → Runs rules m steps m2 → AreExact defs rules m steps
    → Goes defs rules (step_events steps ++ left) m (environments_of steps) left m2
goes_steps defs rules [] m m2 left runs exact =
    subst (λ (x : Machine). Goes defs rules left m [] left x) (sym runs) ways.here
goes_steps defs rules (s ∷ steps) m m2 left runs exact =
    ways.turn runs.0 exact.0 (goes_steps defs rules steps s.after m2 left runs.1 exact.1)

-- and back
pub steps_of : {defs : Defs} {rules : Rules} {events left : List Event} {m here : Machine} {vs : List Environment}
    → Goes defs rules events m vs left here
    → (steps : List RunStep) × (Runs rules m steps here × (AreExact defs rules m steps × (environments_of steps ≡ vs)))
steps_of ways.here = ([], (refl, (tt, refl)))
steps_of (ways.turn {e = e} {v = v} {mid = mid} t exact rest) =
    let more = steps_of rest in (
      record { event = e; environment = v; after = mid } ∷ more.0,
      ((t, more.1.0), ((exact, more.1.1.0), ap (λ (xs : List Environment). v ∷ xs) more.1.1.1)),
    )
steps_of (ways.again undone rest) = steps_of rest

-- ---- rounds

pub goes_rounds : (defs : Defs) (rules : Rules) (rounds : List (List RunStep)) (m m2 : Machine)
    → GoesRounds rules m rounds m2 → RoundsAreExact defs rules m rounds
    → Goes defs rules [] m (environments_in rounds) [] m2
goes_rounds defs rules [] m m2 goes exact =
    subst (λ (x : Machine). Goes defs rules [] m [] [] x) (sym goes) ways.here
goes_rounds defs rules (steps ∷ rounds) m m2 goes exact =
    let mid = machine_after m steps in
    goes_behind (ways.again goes.0.left
    (subst (λ (es : List Event). Goes defs rules es m (environments_of steps) [] mid)
    (append-nil (step_events steps) ∙ goes.0.events)
    (goes_steps defs rules steps m mid [] goes.0.runs exact.0)))
    (environments_in rounds) [] m2 (goes_rounds defs rules rounds mid m2 goes.1 exact.1)

pub calm_rounds : (rounds : List (List RunStep)) → AllByRecursion AreCalm rounds
    → faults_in (environments_in rounds) ≡ 0
calm_rounds [] calm = refl
calm_rounds (steps ∷ rounds) calm =
    faults_both (environments_of steps) (environments_in rounds) (calm_steps steps ∙ calm.0)
    (calm_rounds rounds calm.1)

-- a drain is rounds, to a machine that is drained
pub drain_rounds : (defs : Defs) (rules : Rules) (rounds : List (List RunStep)) (m m2 : Machine)
    → Drains rules m rounds m2 → RoundsAreExact defs rules m rounds
    → Goes defs rules [] m (environments_in rounds) [] m2 × IsDrained rules m2
drain_rounds defs rules [] m m2 drains exact = (
  subst (λ (x : Machine). Goes defs rules [] m [] [] x) (sym drains.1) ways.here,
  subst (λ (x : Machine). IsDrained rules x) (sym drains.1) drains.0,
)
drain_rounds defs rules (steps ∷ rounds) m m2 drains exact =
    let mid = machine_after m steps in
    let rest = drain_rounds defs rules rounds mid m2 drains.3 exact.1 in (
      goes_behind (ways.again drains.0
          (subst (λ (es : List Event). Goes defs rules es m (environments_of steps) [] mid)
          (append-nil (step_events steps) ∙ drains.1)
          (goes_steps defs rules steps m mid [] drains.2 exact.0)))
          (environments_in rounds) [] m2 rest.0,
      rest.1,
    )

-- ---- within a drain

-- A way to here, before this event.
pub record IsBefore (defs : Defs) (rules : Rules) (m here : Machine) (e : Event) : Type 0 where
  pub left : List Event
  pub environments : List Environment
  pub goes : Goes defs rules [] m environments left here
  pub calm : faults_in environments ≡ 0
  pub next : next_event left ≡ e

pub is_before : (defs : Defs) (rules : Rules) (m here : Machine) (e : Event) → IsInDrain defs rules m here e
    → IsBefore defs rules m here e
is_before defs rules m here e i = by i.part i.runs i.begun i.next i.calm.1 i.exact.1
  where
    by : (part : List RunStep) → Runs rules i.behind part here → (¬ (part ≡ []) → ¬ IsDrained rules i.behind)
        → TakesOf (round rules) part (e ∷ i.left) → AreCalm part → AreExact defs rules i.behind part
        → IsBefore defs rules m here e
    by [] runs begun next calm exact = record {
      left = [];
      environments = environments_in i.rounds;
      goes = subst (λ (x : Machine). Goes defs rules [] m (environments_in i.rounds) [] x) (sym runs)
          (goes_rounds defs rules i.rounds m i.behind i.whole i.exact.0);
      calm = calm_rounds i.rounds i.calm.0;
      next = ap next_event next;
    }
    by (s ∷ part) runs begun next calm exact = record {
      left = e ∷ i.left;
      environments = environments_in i.rounds ++ environments_of (s ∷ part);
      goes = goes_behind (goes_rounds defs rules i.rounds m i.behind i.whole i.exact.0) (environments_of (s ∷ part))
          (e ∷ i.left) here
          (ways.again (begun (λ none. absurd cc))
          (subst (λ (es : List Event). Goes defs rules es i.behind (environments_of (s ∷ part)) (e ∷ i.left) here)
          (sym next) (goes_steps defs rules (s ∷ part) i.behind here (e ∷ i.left) runs exact)));
      calm = faults_both (environments_in i.rounds) (environments_of (s ∷ part)) (calm_rounds i.rounds i.calm.0)
          (calm_steps (s ∷ part) ∙ calm);
      next = refl;
    }

-- ---- runs that come to a machine

-- one behind another
pub comes_behind : (defs : Defs) (rules : Rules) (events : List Event) (m : Machine) (part : List Event)
    (mid : Machine) (left : List Event) (here : Machine)
    → Comes defs rules events m part mid → Comes defs rules part mid left here → Comes defs rules events m left here
comes_behind defs rules events m part mid left here c more = record {
  environments = c.environments ++ more.environments;
  goes = goes_behind c.goes more.environments left here more.goes;
  calm = faults_both c.environments more.environments c.calm more.calm;
  made = more.made;
}

-- no turn yet
pub comes_still : (rules : Rules) (events : List Event) (engine : Engine) (m : Machine) → StandsFor engine m
    → Comes engine.defs.now rules events m events m
comes_still rules events engine m stands = record {
  environments = [];
  goes = ways.here;
  calm = refl;
  made = stands.made;
}

-- the turn of the next event
pub comes_turn : (e : Event) (left : List Event) (m : Machine) (engine : Engine) (given : Did)
    → (t : Turned e m engine given) → Comes engine.defs.now (rules_in engine) (e ∷ left) m left t.after
comes_turn e left m engine given t = record {
  environments = t.environment ∷ [];
  goes = ways.turn t.turn
      (exact_of engine.defs.now (rules_in engine) m e t.environment t.after given t.is_did) ways.here;
  calm = calm_turn t.environment t.no_device;
  made = t.stands.made;
}

-- a whole drain
pub comes_drained : (origin : Origin) (m : Machine) (old new : Disk) (lines : Lines) (left : List ℕ) (engine : Engine)
    → (d : Drained origin m old new lines left engine)
    → Comes engine.defs.now (rules_in engine) [] m [] d.after
comes_drained origin m old new lines left engine d = record {
  environments = environments_in d.rounds;
  goes = (drain_rounds engine.defs.now (rules_in engine) d.rounds m d.after d.drains d.exact).0;
  calm = calm_rounds d.rounds d.calm;
  made = d.beside.at.parts.made;
}

-- a part of one
pub comes_within : (defs : Defs) (rules : Rules) (m here : Machine) (e : Event) (i : IsInDrain defs rules m here e)
    (b : IsBefore defs rules m here e) → Comes defs rules [] m b.left here
comes_within defs rules m here e i b = record {
  environments = b.environments;
  goes = b.goes;
  calm = b.calm;
  made = i.made;
}
