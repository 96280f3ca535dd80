-- Turns in a row, and a round.
use Rattle.std.proofs.Common.{◌≡◌, refl, sym, ◌∙◌, ap, subst, arith, ℕ, suc, ◌+◌, ◌<◌, List, [], ◌∷◌, ◌++◌, length, Some}
use Rattle.std.specs.Prelude.{map, filter, Result, Ok, Err, IfErr, OnErr}
use Rattle.std.specs.Result.{IsErrAnd}
use Rattle.std.proofs.lemmas.List.{length-append, map-append}
use Rattle.std.proofs.lemmas.List.Elements.{filter-append}
use Rattle.fp_model.specs.declared.definitions.Defs.{Defs}
use Rattle.fp_model.specs.declared.events.Event.{Event}
use Rattle.fp_model.specs.declared.events.Event.TheVariants as event
use Rattle.fp_model.specs.Machine.{Idle, Machine, region_at}
use Rattle.fp_model.specs.Rules.{Rules}
use Rattle.fp_model.specs.Runs.{IsDrained, RunStep, Runs, device_faults, is_device_fault, step_events}
use Rattle.fp_model.specs.State.{numbers_up}
use Rattle.fp_model.specs.Turns.{Environment, NoFault, DeviceFault, OutOfMemory, Turn}
use Rattle.fp_model.proofs.FrameLemmas.{turn_keeps}
use Rattle.message_lines.specs.Lines.{lines_given}
use Rattle.message_lines.specs.declared.lines.Lines.{Lines}
use Rattle.fp_core.specs.declared.did.Did.{Did}
use Rattle.fp_core.specs.declared.engine.Engine.{Engine}
use Rattle.fp_core.specs.Draining.{AreCalm}
use Rattle.fp_core.specs.Relation.{StandsFor, rules_in}
use Rattle.fp_core.specs.inside.Rounding.{HasRound, StoppedAmong, TookTurns, turns_of}
use Rattle.fp_core.specs.Standing.{Stepped}
use Rattle.fp_core.specs.Turning.{AreExact, IsExactTurn, Turned}
use Rattle.fp_core.proofs.Exacts.{exact_of}
use Rattle.ci_locks.proofs.SetLemmas.{numbers_last}

-- ---- steps, and one more

-- the step of a turn
abbrev pub step_of : Event → Environment → Machine → RunStep
step_of e environment after = record { event = e; environment = environment; after = after }

pub run_more : (rules : Rules) (m : Machine) (steps : List RunStep) (mid : Machine) (step : RunStep)
    → Runs rules m steps mid → Turn rules mid step.event step.environment step.after
    → Runs rules m (steps ++ step ∷ []) step.after
run_more rules m [] mid step runs turn =
    (subst (λ (x : Machine). Turn rules x step.event step.environment step.after) runs turn, refl)
run_more rules m (s ∷ steps) mid step runs turn = (runs.0, run_more rules s.after steps mid step runs.1 turn)

pub exact_more : (defs : Defs) (rules : Rules) (m : Machine) (steps : List RunStep) (mid : Machine) (step : RunStep)
    → Runs rules m steps mid → AreExact defs rules m steps
    → IsExactTurn defs rules mid step.event step.environment step.after
    → AreExact defs rules m (steps ++ step ∷ [])
exact_more defs rules m [] mid step runs exact more =
    (subst (λ (x : Machine). IsExactTurn defs rules x step.event step.environment step.after) runs more, tt)
exact_more defs rules m (s ∷ steps) mid step runs exact more =
    (exact.0, exact_more defs rules s.after steps mid step runs.1 exact.1 more)

-- exact by the same definitions and rules
exact_by : (d d2 : Defs) (r r2 : Rules) (m : Machine) (steps : List RunStep) → d ≡ d2 → r ≡ r2 → AreExact d r m steps
    → AreExact d2 r2 m steps
exact_by d d2 r r2 m steps same same2 exact =
    subst (λ (x : Defs). AreExact x r2 m steps) same (subst (λ (x : Rules). AreExact d x m steps) same2 exact)

pub events_more : (steps : List RunStep) (step : RunStep) → step_events (steps ++ step ∷ []) ≡ step_events steps ++
    step.event ∷ []
events_more steps step = map-append (λ (s : RunStep). s.event) steps (step ∷ [])

pub calm_both : (steps steps2 : List RunStep) → AreCalm steps → AreCalm steps2 → AreCalm (steps ++ steps2)
calm_both steps steps2 calm calm2 =
    let whole : device_faults (steps ++ steps2) ≡ device_faults steps + device_faults steps2
    = ap (λ (ss : List RunStep). length ss) (filter-append (λ (s : RunStep). is_device_fault s.environment) steps
    steps2)
    ∙ length-append (filter (λ (s : RunStep). is_device_fault s.environment) steps)
    (filter (λ (s : RunStep). is_device_fault s.environment) steps2) in
    omega (arith, whole, calm, calm2)

pub calm_one : (e : Event) (environment : Environment) (after : Machine) → ¬ (environment ≡ DeviceFault)
    → AreCalm (step_of e environment after ∷ [])
calm_one e NoFault after none = refl
calm_one e DeviceFault after none = absurd (none refl)
calm_one e OutOfMemory after none = refl

-- ---- the turns of regions

pub turns_last : (n next : ℕ) → next ≡ n + 1 → turns_of next ≡ turns_of n ++ event.Region next ∷ []
turns_last n next e =
    let s : next ≡ suc n = omega (arith, e) in
    ap (λ (k : ℕ). turns_of k) s ∙ ap (λ (ks : List ℕ). map event.Region ks) (numbers_last n 1)
    ∙ map-append event.Region (numbers_up n 1) ((1 + n) ∷ [])
    ∙ ap (λ (k : ℕ). turns_of n ++ event.Region k ∷ []) (let f : 1 + n ≡ next = omega (arith, e) in f)

-- none at first
abbrev pub none_turned : (m : Machine) (engine : Engine) → StandsFor engine m → TookTurns (turns_of 0) m engine
none_turned m engine s =
    record {
      steps = [];
      after = m;
      are = refl;
      runs = refl;
      calm = refl;
      exact = tt;
      stands = s;
      lines = refl;
      groups = refl;
      sent = refl;
    }

-- and one more each time
pub one_turned : (m : Machine) (old new : Engine) (n next region : ℕ) (given : Did) → next ≡ n + 1 → region ≡ n + 1
    → rules_in new ≡ rules_in old → new.defs.now ≡ old.defs.now
    → (t : TookTurns (turns_of n) m old)
    → Turned (event.Region region) t.after new given
    → TookTurns (turns_of next) m new
one_turned m old new n next region given up is rules defs t turned =
    let step = step_of (event.Region region) turned.environment turned.after in
    let keeps = turn_keeps (rules_in new) t.after (event.Region region) turned.environment turned.after turned.turn in
    let runs = subst (λ (r : Rules). Runs r m t.steps t.after) (sym rules) t.runs in
    record {
      steps = t.steps ++ step ∷ [];
      after = turned.after;
      are = events_more t.steps step ∙ ap (λ (es : List Event). es ++ event.Region region ∷ []) t.are
          ∙ ap (λ (k : ℕ). turns_of n ++ event.Region k ∷ []) (let e : region ≡ next = omega (arith, up, is) in e)
          ∙ sym (turns_last n next up);
      runs = run_more (rules_in new) m t.steps t.after step runs turned.turn;
      calm = calm_both t.steps (step ∷ []) t.calm
          (calm_one (event.Region region) turned.environment turned.after turned.no_device);
      exact = exact_more new.defs.now (rules_in new) m t.steps t.after step runs
          (exact_by old.defs.now new.defs.now (rules_in old) (rules_in new) m t.steps (sym defs) (sym rules) t.exact)
          (exact_of new.defs.now (rules_in new) t.after (event.Region region) turned.environment turned.after given
          turned.is_did);
      stands = turned.stands;
      lines = keeps.0.lines ∙ t.lines;
      groups = keeps.1.groups ∙ t.groups;
      sent = keeps.1.sent ∙ t.sent;
    }

-- one region more found no memory
pub stopped_among : (m : Machine) (old new : Engine) (n : ℕ) → rules_in new ≡ rules_in old
    → new.defs.now ≡ old.defs.now
    → n < length new.defs.now.regions → (t : TookTurns (turns_of n) m old) → StandsFor new t.after
    → region_at t.after (suc n) ≡ Some Idle → StoppedAmong m new
stopped_among m old new n rules defs few t stands idle = record {
  count = n;
  few = few;
  took = record {
    steps = t.steps;
    after = t.after;
    are = t.are;
    runs = subst (λ (r : Rules). Runs r m t.steps t.after) (sym rules) t.runs;
    calm = t.calm;
    exact = exact_by old.defs.now new.defs.now (rules_in old) (rules_in new) m t.steps (sym defs) (sym rules) t.exact;
    stands = stands;
    lines = t.lines;
    groups = t.groups;
    sent = t.sent;
  };
  idle = idle;
}

pub on_err_sure : {A E : Type 0} (P : Type 0) (r : Result A E) → P → OnErr r P
on_err_sure P (Ok a) h = tt
on_err_sure P (Err e) h = h

-- ---- a round

module _ (rules : Rules) (m : Machine) (old_lines lines : Lines) (first second : Engine) (given : Did)
    (same : rules_in first ≡ rules) (same2 : rules_in second ≡ rules)
    (stepped : Stepped event.In m old_lines lines first given) where
  -- IN and the turns of regions, so many
  abbrev pub part_of : (n : ℕ) → TookTurns (turns_of n) stepped.turned.after second → List RunStep
  part_of n took = step_of event.In stepped.turned.environment stepped.turned.after ∷ took.steps

  pub part_runs : (n : ℕ) (took : TookTurns (turns_of n) stepped.turned.after second)
      → Runs rules m (part_of n took) took.after
  part_runs n took = (
    subst (λ (r : Rules). Turn r m event.In stepped.turned.environment stepped.turned.after) same stepped.turned.turn,
    subst (λ (r : Rules). Runs r stepped.turned.after took.steps took.after) same2 took.runs,
  )

  pub part_calm : (n : ℕ) (took : TookTurns (turns_of n) stepped.turned.after second) → AreCalm (part_of n took)
  part_calm n took =
      calm_both (step_of event.In stepped.turned.environment stepped.turned.after ∷ []) took.steps
      (calm_one event.In stepped.turned.environment stepped.turned.after stepped.turned.no_device) took.calm

  pub part_exact : (defs : Defs) → second.defs.now ≡ defs
      → (n : ℕ) (took : TookTurns (turns_of n) stepped.turned.after second)
      → AreExact defs rules m (part_of n took)
  part_exact defs same_defs n took = (
    tt,
    exact_by second.defs.now defs (rules_in second) rules stepped.turned.after took.steps same_defs same2
        took.exact,
  )

  pub part_events : (n : ℕ) (took : TookTurns (turns_of n) stepped.turned.after second)
      → step_events (part_of n took) ≡ event.In ∷ turns_of n
  part_events n took = ap (λ (es : List Event). event.In ∷ es) took.are

  -- with LOG it is a round
  abbrev pub makes_round : (defs : Defs) → second.defs.now ≡ defs
      → (new : Engine) (given2 : Did) → rules_in new ≡ rules → (¬ IsDrained rules m)
      → (took : TookTurns (turns_of (length rules.regions)) stepped.turned.after second)
      → Turned event.Log took.after new given2
      → HasRound defs rules m old_lines lines new
  makes_round defs same_defs new given2 same3 left took turned =
      let n = length rules.regions in
      let step = step_of event.Log turned.environment turned.after in
      record {
        steps = part_of n took ++ step ∷ [];
        after = turned.after;
        goes = record {
          left = left;
          events = events_more (part_of n took) step ∙ ap (λ (es : List Event). es ++ event.Log ∷ [])
              (part_events n took);
          runs = run_more rules m (part_of n took) took.after step (part_runs n took)
              (subst (λ (r : Rules). Turn r took.after event.Log turned.environment turned.after) same3 turned.turn);
        };
        calm = calm_both (part_of n took) (step ∷ []) (part_calm n took)
            (calm_one event.Log turned.environment turned.after turned.no_device);
        exact = exact_more defs rules m (part_of n took) took.after step (part_runs n took)
            (part_exact defs same_defs n took) tt;
        stands = turned.stands;
        given =
            ap (λ (ls : List (List ℕ)). lines_given lines + length ls)
            ((turn_keeps (rules_in new) took.after event.Log turned.environment turned.after turned.turn).0.lines
            ∙ took.lines)
            ∙ stepped.given;
      }

-- a stop that comes from this one
pub if_err_from : {A E : Type 0} (P : E → Type 0) (r : Result A E) (e : E) → IsErrAnd r (λ x. x ≡ e) → P e → IfErr r P
if_err_from P (Ok a) e is h = tt
if_err_from P (Err x) e is h = subst P (sym is) h
