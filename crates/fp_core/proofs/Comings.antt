-- Rounds of the drain beside a site and a source, and what a stop or a crash in them leaves.
use Rattle.std.proofs.Common.{◌≡◌, refl, sym, ◌∙◌, ap, subst, arith, ℕ, zero, suc, ◌+◌, ◌<◌, List, [], ◌∷◌, ◌++◌, length, inl, inr, Some}
use Rattle.std.specs.Prelude.{map, Bool, true, false, Option}
use Rattle.std.specs.List.{AllByRecursion}
use Rattle.std.proofs.lemmas.List.{append_assoc, map-append}
use Rattle.drain_laws.specs.Rounds.{GoesRounds}
use Rattle.drain_laws.proofs.Rounds.{rounds_drain, rounds_more}
use Rattle.fp_model.specs.declared.definitions.Defs.{Defs}
use Rattle.fp_model.specs.declared.events.Event.{Event}
use Rattle.fp_model.specs.declared.events.Event.TheVariants as event
use Rattle.fp_model.specs.Machine.{Idle, Machine, region_at}
use Rattle.fp_model.specs.Rules.{Rules}
use Rattle.fp_model.specs.Runs.{Drains, IsDrained, RunStep, machine_after, round}
use Rattle.fp_model.specs.State.{numbers_up}
use Rattle.fp_model.proofs.FrameLemmas.{turn_keeps}
use Rattle.fp_site.specs.Disk.{Disk, IsLawful, Snapshot}
use Rattle.fp_site.specs.Moments.{Through}
use Rattle.fp_site.proofs.Runs.{joined, started, weaker}
use Rattle.message_lines.specs.Lines.{lines_ahead, lines_given}
use Rattle.message_lines.specs.declared.lines.Lines.{Lines}
use Rattle.fp_core.specs.declared.did.Did.{Did}
use Rattle.fp_core.specs.declared.engine.Engine.{Engine}
use Rattle.fp_core.specs.declared.stop.Stop.{Stop}
use Rattle.fp_core.specs.declared.stop.Stop.TheVariants as stops
use Rattle.fp_core.specs.Draining.{AreCalm, DrainStopped, Drained, IsInDrain, IsLeftByDrain, IsLeftByStep}
use Rattle.fp_core.specs.Relation.{AreMade, StandsFor, rules_in}
use Rattle.fp_core.specs.inside.Rounding.{BeganBy, HasCome, TookTurns, WentBeside, turns_of}
use Rattle.fp_core.specs.Standing.{IsLeft, IsStill, IsWithin, Leaves, MayStop, Origin, StandsAt, StandsBeside, Stepped, seals_of}
use Rattle.fp_core.specs.inside.Standing.{SteppedAt}
use Rattle.fp_core.specs.Turning.{RoundsAreExact}
use Rattle.fp_core.proofs.Rounds.{makes_round, part_calm, part_events, part_exact, part_of, part_runs}
use Rattle.fp_core.proofs.Steps.{left_alone, still_at}
use Rattle.plain_laws.proofs.Alls.{all_append}

-- ---- rounds behind rounds

pub goes_both : (rules : Rules) (rounds : List (List RunStep)) (m mid : Machine) (rounds2 : List (List RunStep))
    (m2 : Machine)
    → GoesRounds rules m rounds mid → GoesRounds rules mid rounds2 m2 → GoesRounds rules m (rounds ++ rounds2) m2
goes_both rules [] m mid rounds2 m2 goes more = subst (λ (x : Machine). GoesRounds rules x rounds2 m2) goes more
goes_both rules (steps ∷ rounds) m mid rounds2 m2 goes more =
    (goes.0, goes_both rules rounds (machine_after m steps) mid rounds2 m2 goes.1 more)

pub exact_both : (defs : Defs) (rules : Rules) (rounds : List (List RunStep)) (m mid : Machine)
    (rounds2 : List (List RunStep)) → GoesRounds rules m rounds mid
    → RoundsAreExact defs rules m rounds → RoundsAreExact defs rules mid rounds2
    → RoundsAreExact defs rules m (rounds ++ rounds2)
exact_both defs rules [] m mid rounds2 goes exact more =
    subst (λ (x : Machine). RoundsAreExact defs rules x rounds2) goes more
exact_both defs rules (steps ∷ rounds) m mid rounds2 goes exact more =
    (exact.0, exact_both defs rules rounds (machine_after m steps) mid rounds2 goes.1 exact.1 more)

-- one step of a drain behind the rounds of another
in_behind : (defs : Defs) (rules : Rules) (rounds : List (List RunStep)) (m mid here : Machine) (e : Event)
    → GoesRounds rules m rounds mid
    → AllByRecursion AreCalm rounds → RoundsAreExact defs rules m rounds
    → IsInDrain defs rules mid here e → IsInDrain defs rules m here e
in_behind defs rules rounds m mid here e goes calm exact i = record {
  rounds = rounds ++ i.rounds;
  behind = i.behind;
  whole = goes_both rules rounds m mid i.rounds i.behind goes i.whole;
  part = i.part;
  runs = i.runs;
  begun = i.begun;
  left = i.left;
  next = i.next;
  calm = (all_append AreCalm rounds i.rounds calm i.calm.0, i.calm.1);
  exact = (exact_both defs rules rounds m mid i.rounds goes exact i.exact.0, i.exact.1);
  made = i.made;
}

module _ (origin : Origin) (defs : Defs) (rules : Rules) (m : Machine) (old : Disk) (old_lines : Lines) where
  -- nothing yet
  abbrev pub none_come : (left : List ℕ) (engine : Engine) → StandsBeside origin old old_lines left engine m
      → HasCome origin defs rules m old old old_lines old_lines left engine
  none_come left engine beside = record {
    rounds = [];
    after = m;
    goes = refl;
    calm = tt;
    exact = tt;
    beside = beside;
    given = refl;
    others = λ set other. refl;
  }

  module _ (mid : Disk) (mid_lines : Lines) (mid_left : List ℕ) (engine : Engine)
      (come : HasCome origin defs rules m old mid old_lines mid_lines mid_left engine) where
    -- rounds behind rounds
    abbrev pub come_both : (new : Disk) (lines : Lines) (left : List ℕ) (next : Engine)
        → HasCome origin defs rules come.after mid new mid_lines lines left next
        → HasCome origin defs rules m old new old_lines lines left next
    come_both new lines left next more = record {
      rounds = come.rounds ++ more.rounds;
      after = more.after;
      goes = goes_both rules come.rounds m come.after more.rounds more.after come.goes more.goes;
      calm = all_append AreCalm come.rounds more.rounds come.calm more.calm;
      exact = exact_both defs rules come.rounds m come.after more.rounds come.goes come.exact more.exact;
      beside = more.beside;
      given = more.given ∙ come.given;
      others = λ set other. more.others set other ∙ come.others set other;
    }

    -- a stop behind them
    pub stopped_behind : (new : Disk) (stop : Stop)
        → DrainStopped origin defs rules come.after mid_lines mid new stop
        → DrainStopped origin defs rules m old_lines old new stop
    stopped_behind new stop d = record {
      here = d.here;
      event = d.event;
      in_drain = in_behind defs rules come.rounds m come.after d.here d.event come.goes come.calm come.exact d.in_drain;
      may = d.may;
      first = λ number is. omega (arith, d.first number is, come.given);
      idle = d.idle;
      within = record {
        text = d.within.text;
        sent = d.within.sent;
        groups = d.within.groups;
        others = λ set other. d.within.others set other ∙ come.others set other;
      };
      rest = d.rest;
      still = d.still;
    }

    -- a crash behind them
    left_behind : (law : IsLawful mid) (first : Through old mid (IsLeftByDrain origin defs rules m old))
        (s : Snapshot)
        → IsLeftByDrain origin defs rules come.after mid s → IsLeftByDrain origin defs rules m old s
    left_behind law first s (inl left) =
        first.each s (law.earlier old.moment mid.moment s first.later (law.counts_now s left))
    left_behind law first s (inr step) =
        let in_drain = in_behind defs rules come.rounds m come.after step.here step.event come.goes come.calm
        come.exact step.in_drain in
        let is = step.is_left in
        inr (by in_drain is (first.each is.before
        (law.earlier old.moment mid.moment is.before first.later (law.counts_now is.before is.was_left))))
      where
        by : {here : Machine} {e : Event} → IsInDrain defs rules m here e
            → (is : IsLeft origin rules here (seals_of e here) mid s)
            → IsLeftByDrain origin defs rules m old is.before → IsLeftByStep origin defs rules m old s
        by {here} {e} in_drain is (inl left) = record {
          here = here;
          event = e;
          in_drain = in_drain;
          is_left = record {
            text = is.text;
            sent = λ told. is.sent (first.tells_sent told);
            groups = is.groups;
            before = is.before;
            was_left = left;
            others = is.others;
          };
        }
        by {here} {e} in_drain is (inr before) = record {
          here = here;
          event = e;
          in_drain = in_drain;
          is_left = record {
            text = is.text;
            sent = λ told. is.sent (first.tells_sent told);
            groups = is.groups;
            before = before.is_left.before;
            was_left = before.is_left.was_left;
            others = λ set other. is.others set other ∙ before.is_left.others set other;
          };
        }

    pub moments_both : (new : Disk) → IsLawful mid
        → Through old mid (IsLeftByDrain origin defs rules m old)
        → Through mid new (IsLeftByDrain origin defs rules come.after mid)
        → Through old new (IsLeftByDrain origin defs rules m old)
    moments_both new law first second =
        joined (IsLeftByDrain origin defs rules m old) old mid new first
        (weaker (IsLeftByDrain origin defs rules come.after mid) (IsLeftByDrain origin defs rules m old) mid new
        (λ s left. left_behind law first s left) second)

  -- where no call of the site was made
  pub moments_none : IsLawful old → Through old old (IsLeftByDrain origin defs rules m old)
  moments_none law = started (IsLeftByDrain origin defs rules m old) old law (λ s left. inl left)

-- the same from an engine that runs by the same rules and definitions
module _ {origin : Origin} {defs : Defs} {rules : Rules} {m : Machine} {old : Disk} {old_lines : Lines} {mid : Disk}
    {mid_lines : Lines} {mid_left : List ℕ} {engine : Engine}
    (come : HasCome origin defs rules m old mid old_lines mid_lines mid_left engine)
    (same : rules_in engine ≡ rules) (same_defs : engine.defs.now ≡ defs) (new : Disk) where
  pub came_on : {lines : Lines} {left : List ℕ} {next : Engine} {more : Bool}
      → WentBeside origin engine.defs.now (rules_in engine) come.after mid new mid_lines lines left next more
      → WentBeside origin defs rules m old new old_lines lines left next more
  came_on {lines} {left} {next} {more} went =
      let w = subst (λ (d : Defs). WentBeside origin d rules come.after mid new mid_lines lines left next more)
      same_defs
      (subst (λ (r : Rules). WentBeside origin engine.defs.now r come.after mid new mid_lines lines left next more) same
      went) in
      record {
        come = come_both origin defs rules m old old_lines mid mid_lines mid_left engine come new lines left next
            w.come;
        drained = w.drained;
      }

  pub stopped_on : (stop : Stop)
      → DrainStopped origin engine.defs.now (rules_in engine) come.after mid_lines mid new stop
      → DrainStopped origin defs rules m old_lines old new stop
  stopped_on stop d =
      stopped_behind origin defs rules m old old_lines mid mid_lines mid_left engine come new stop
      (subst (λ (x : Defs). DrainStopped origin x rules come.after mid_lines mid new stop) same_defs
      (subst (λ (r : Rules). DrainStopped origin engine.defs.now r come.after mid_lines mid new stop) same d))

  pub moments_on : IsLawful mid → Through old mid (IsLeftByDrain origin defs rules m old)
      → Through mid new (IsLeftByDrain origin engine.defs.now (rules_in engine) come.after mid)
      → Through old new (IsLeftByDrain origin defs rules m old)
  moments_on law first second =
      moments_both origin defs rules m old old_lines mid mid_lines mid_left engine come new law first
      (subst (λ (d : Defs). Through mid new (IsLeftByDrain origin d rules come.after mid)) same_defs
      (subst (λ (r : Rules). Through mid new (IsLeftByDrain origin engine.defs.now r come.after mid)) same second))

-- what a drain comes to
pub drained_by : (origin : Origin) (defs : Defs) (rules : Rules) (m : Machine) (old new : Disk)
    (old_lines lines : Lines) (left : List ℕ) (engine : Engine) → engine.defs.now ≡ defs → rules_in engine ≡ rules
    → (come : HasCome origin defs rules m old new old_lines lines left engine) → IsDrained rules come.after
    → Drained origin m old new lines left engine
drained_by origin defs rules m old new old_lines lines left engine same_defs same come done =
    let drains = rounds_drain rules come.rounds m come.after come.goes done in
    record {
      rounds = come.rounds;
      after = come.after;
      drains = subst (λ (r : Rules). Drains r m come.rounds come.after) (sym same) drains;
      calm = come.calm;
      exact = subst (λ (d : Defs). RoundsAreExact d (rules_in engine) m come.rounds) (sym same_defs)
          (subst (λ (r : Rules). RoundsAreExact defs r m come.rounds) (sym same) come.exact);
      beside = come.beside;
      others = come.others;
    }

-- ---- within one round

-- before it
pub in_first : (rules : Rules) (m : Machine) (engine : Engine) → StandsFor engine m
    → IsInDrain engine.defs.now rules m m event.In
in_first rules m engine stands = record {
  rounds = [];
  behind = m;
  whole = refl;
  part = [];
  runs = refl;
  begun = λ some. absurd (some refl);
  left = map event.Region (numbers_up (length rules.regions) 1) ++ event.Log ∷ [];
  next = refl;
  calm = (tt, refl);
  exact = (tt, tt);
  made = stands.made;
}

-- the numbers up to one, that one, and others
numbers_split : (n k from : ℕ) → k < n → (rest : List ℕ) × (numbers_up n from ≡ numbers_up k from ++ (from + k) ∷ rest)
numbers_split zero k from few = absurd (omega (arith, few))
numbers_split (suc n) zero from few =
    (numbers_up n (from + 1), ap (λ (j : ℕ). j ∷ numbers_up n (from + 1)) (let e : from ≡ from + 0 = omega arith in e))
numbers_split (suc n) (suc k) from few =
    let split = numbers_split n k (from + 1) (omega (arith, few)) in (
      split.0,
      ap (λ (ks : List ℕ). from ∷ ks) split.1
          ∙ ap (λ (j : ℕ). from ∷ numbers_up k (from + 1) ++ j ∷ split.0)
          (let e : from + 1 + k ≡ from + suc k = omega arith in e),
    )

turns_split : (n k : ℕ) → k < n → (rest : List Event) × (turns_of n ≡ turns_of k ++ event.Region (k + 1) ∷ rest)
turns_split n k few =
    let split = numbers_split n k 1 few in (
      map event.Region split.0,
      ap (λ (ks : List ℕ). map event.Region ks) split.1
          ∙ map-append event.Region (numbers_up k 1) ((1 + k) ∷ split.0)
          ∙ ap (λ (j : ℕ). turns_of k ++ event.Region j ∷ map event.Region split.0)
          (let e : 1 + k ≡ k + 1 = omega arith in e),
    )

module _ (defs : Defs) (rules : Rules) (m : Machine) (old_lines lines : Lines) (first second : Engine) (given : Did)
    (same : rules_in first ≡ rules) (same2 : rules_in second ≡ rules) (same_defs : second.defs.now ≡ defs)
    (stepped : Stepped event.In m old_lines lines first given) (left : ¬ IsDrained rules m) where
  in_part : (n : ℕ) (took : TookTurns (turns_of n) stepped.turned.after second) (e : Event) (rest : List Event)
      → round rules ≡ (event.In ∷ turns_of n) ++ e ∷ rest
      → IsInDrain defs rules m took.after e
  in_part n took e rest next = record {
    rounds = [];
    behind = m;
    whole = refl;
    part = part_of rules m old_lines lines first second given same same2 stepped n took;
    runs = part_runs rules m old_lines lines first second given same same2 stepped n took;
    begun = λ some. left;
    left = rest;
    next = next ∙ ap (λ (es : List Event). es ++ e ∷ rest)
        (sym (part_events rules m old_lines lines first second given same same2 stepped n took));
    calm = (tt, part_calm rules m old_lines lines first second given same same2 stepped n took);
    exact = (tt, part_exact rules m old_lines lines first second given same same2 stepped defs same_defs n took);
    made = subst (λ (d : Defs). AreMade d took.after) same_defs took.stands.made;
  }

  -- before LOG
  pub in_log : (took : TookTurns (turns_of (length rules.regions)) stepped.turned.after second)
      → IsInDrain defs rules m took.after event.Log
  in_log took = in_part (length rules.regions) took event.Log [] refl

  -- before the turn of a region
  pub in_region : (k : ℕ) → k < length rules.regions → (took : TookTurns (turns_of k) stepped.turned.after second)
      → IsInDrain defs rules m took.after (event.Region (k + 1))
  in_region k few took =
      let split = turns_split (length rules.regions) k few in
      in_part k took (event.Region (k + 1)) (split.0 ++ event.Log ∷ [])
      (ap (λ (es : List Event). event.In ∷ es ++ event.Log ∷ []) split.1
      ∙ append_assoc (event.In ∷ turns_of k) (event.Region (k + 1) ∷ split.0) (event.Log ∷ []))

-- ---- engine, site and source in a round

module _ (origin : Origin) (disk : Disk) (left : List ℕ) (m : Machine) (lines : Lines) where
  -- behind IN
  pub in_stands : (old first : Engine) (old_lines : Lines) (more : Bool) → first.log.gate ≡ old.log.gate
      → StandsAt origin disk old m → (by : BeganBy m old_lines lines left first more)
      → StandsBeside origin disk lines left first by.began.stepped.turned.after
  in_stands old first old_lines more gate at by =
      let t = by.began.stepped.turned in
      let keeps = turn_keeps (rules_in first) m event.In t.environment t.after t.turn in
      record {
        at = still_at origin disk left m old first t.after at t.stands gate keeps.0.groups keeps.0.sent;
        lines_are = by.lines_are;
      }

  -- behind the turns of regions
  pub turns_stand : (first second : Engine) (events : List Event) → second.log.gate ≡ first.log.gate
      → StandsBeside origin disk lines left first m → (took : TookTurns events m second)
      → StandsBeside origin disk lines left second took.after
  turns_stand first second events gate beside took = record {
    at = still_at origin disk left m first second took.after beside.at took.stands gate took.groups took.sent;
    lines_are = took.lines ∙ beside.lines_are;
  }

  -- behind LOG
  pub log_stands : (engine : Engine) (given : Did) → m.lines ≡ lines_ahead lines left
      → (s : SteppedAt origin event.Log m disk engine given) → StandsBeside origin disk lines left engine s.turned.after
  log_stands engine given ahead s =
      let t = s.turned in
      record {
        at = s.at;
        lines_are = (turn_keeps (rules_in engine) m event.Log t.environment t.after t.turn).0.lines ∙ ahead;
      }

-- ---- a round beside them

-- none, where the machine is drained
pub came_off : (origin : Origin) (defs : Defs) (rules : Rules) (m : Machine) (disk : Disk) (old_lines lines : Lines)
    (left : List ℕ)
    (engine : Engine) (more : Bool) → rules_in engine ≡ rules → more ≡ false
    → (by : BeganBy m old_lines lines left engine more)
    → StandsBeside origin disk lines left engine by.began.stepped.turned.after
    → WentBeside origin defs rules m disk disk old_lines lines left engine more
came_off origin defs rules m disk old_lines lines left engine more same off by beside =
    let done = by.began.done off in
    record {
      come = record {
        rounds = [];
        after = m;
        goes = refl;
        calm = tt;
        exact = tt;
        beside = subst (λ (x : Machine). StandsBeside origin disk lines left engine x) done.1 beside;
        given = subst (λ (x : Machine). lines_given lines + length x.lines ≡ lines_given old_lines + length m.lines)
            done.1 by.began.stepped.given;
        others = λ set other. refl;
      };
      drained = λ e. subst (λ (r : Rules). IsDrained r m) same done.0;
    }

-- ---- a stop in it

module _ (origin : Origin) (rules : Rules) (m : Machine) (old_lines : Lines) (disk : Disk) (stop : Stop)
    (law : IsLawful disk) where
  -- the site stands as it did before the step
  still_there : (engine : Engine) (here : Machine) → StandsAt origin disk engine here → IsStill origin disk here
  still_there engine here at = record { gate = engine.log.gate; at_rest = at.at_rest; sent = at.sent }

  -- in IN
  pub stopped_in : (engine : Engine) → StandsAt origin disk engine m → MayStop event.In engine.held stop
      → ((number : ℕ) → stop ≡ stops.LineFault number → number ≡ lines_given old_lines + 1)
      → DrainStopped origin engine.defs.now rules m old_lines disk disk stop
  stopped_in engine at may number = record {
    here = m;
    event = event.In;
    in_drain = in_first rules m engine at.parts;
    may = subst (λ h. MayStop event.In h stop) at.parts.held may;
    first = λ n is. omega (arith, number n is);
    idle = λ region is. absurd cc;
    within = (left_alone origin rules m 0 disk engine law at).within;
    rest = λ calm. at.at_rest.durable;
    still = λ calm. still_there engine m at;
  }

  -- in the turn of a region, for want of memory
  pub stopped_region : (defs : Defs) (engine : Engine) (here : Machine) (region : ℕ) → stop ≡ stops.Memory
      → StandsAt origin disk engine here
      → IsInDrain defs rules m here (event.Region region)
      → region_at here region ≡ Some Idle
      → DrainStopped origin defs rules m old_lines disk disk stop
  stopped_region defs engine here region is at i idle = record {
    here = here;
    event = event.Region region;
    in_drain = i;
    may = subst (λ (s : Stop). MayStop (event.Region region) here.held s) (sym is) tt;
    first = λ n e. absurd cc;
    idle = λ other e.
        subst (λ (n : ℕ). region_at here n ≡ Some Idle) (let same : region ≡ other = cc in same) idle;
    within = (left_alone origin rules here 0 disk engine law at).within;
    rest = λ calm. at.at_rest.durable;
    still = λ calm. still_there engine here at;
  }

-- in LOG
no_line_in_log : (held : Option (List ℕ)) (stop : Stop) (number : ℕ) → MayStop event.Log held stop
    → stop ≡ stops.LineFault number
    → ⊥
no_line_in_log held stop number may is = subst (MayStop event.Log held) is may

-- ---- LOG

-- IN and the turns of all regions were taken, from a machine that isn't drained, and no call of the site was made.
pub record IsBeforeLog (origin : Origin) (rules : Rules) (m : Machine) (disk : Disk) (old_lines lines : Lines)
    (left : List ℕ) (engine : Engine) : Type 0 where
  pub first : Engine
  pub given : Did
  pub same : rules_in first ≡ rules
  pub stepped : Stepped event.In m old_lines lines first given
  pub undone : ¬ IsDrained rules m
  pub took : TookTurns (turns_of (length rules.regions)) stepped.turned.after engine
  pub beside : StandsBeside origin disk lines left engine took.after

pub before_log : {origin : Origin} {m : Machine} {disk : Disk} {old_lines lines : Lines} {left : List ℕ}
    {old first second : Engine} {more : Bool}
    → rules_in first ≡ rules_in old → first.defs ≡ old.defs
    → first.log.gate ≡ old.log.gate → second.log.gate ≡ first.log.gate
    → StandsAt origin disk old m
    → BeganBy m old_lines lines left first more → more ≡ true
    → ((mid : Machine) → StandsFor first mid → TookTurns (turns_of (length first.defs.now.regions)) mid second)
    → IsBeforeLog origin (rules_in old) m disk old_lines lines left second
before_log {origin} {m} {disk} {old_lines} {lines} {left} {old} {first} {second} {more} same defs gate gate2 at by on
    turned =
    let after = by.began.stepped.turned.after in
    let count : length first.defs.now.regions ≡ length old.defs.now.regions = ap (λ d. length d.now.regions) defs in
    let took = subst (λ (n : ℕ). TookTurns (turns_of n) after second) count
    (turned after by.began.stepped.turned.stands) in
    record {
      first = first;
      given = by.began.did;
      same = same;
      stepped = by.began.stepped;
      undone = subst (λ (r : Rules). ¬ IsDrained r m) same (by.began.goes on);
      took = took;
      beside = turns_stand origin disk left after lines first second (turns_of (length old.defs.now.regions)) gate2
          (in_stands origin disk left m lines old first old_lines more gate at by) took;
    }

module _ {origin : Origin} {rules : Rules} {m : Machine} {old new : Disk} {old_lines lines : Lines} {left : List ℕ}
    {engine : Engine} (same : rules_in engine ≡ rules) (b : IsBeforeLog origin rules m old old_lines lines left engine)
    {defs : Defs} (same_defs : engine.defs.now ≡ defs)
    (leaves : Leaves origin (rules_in engine) b.took.after 1 old new) where
  at_log : IsInDrain defs rules m b.took.after event.Log
  at_log = in_log defs rules m old_lines lines b.first engine b.given b.same same same_defs b.stepped b.undone b.took

  -- a stop in it
  pub stopped_log : (stop : Stop) → MayStop event.Log engine.held stop
      → DrainStopped origin defs rules m old_lines old new stop
  stopped_log stop may = record {
    here = b.took.after;
    event = event.Log;
    in_drain = at_log;
    may = subst (λ h. MayStop event.Log h stop) b.took.stands.held may;
    first = λ n is. absurd (no_line_in_log engine.held stop n may is);
    idle = λ region is. absurd cc;
    within = subst (λ (r : Rules). IsWithin origin r b.took.after 1 old new) same leaves.within;
    rest = λ calm. absurd (calm tt);
    still = λ calm. absurd (calm tt);
  }

  -- what a crash leaves
  pub moments_log : Through old new (IsLeftByDrain origin defs rules m old)
  moments_log =
      weaker (IsLeft origin (rules_in engine) b.took.after 1 old) (IsLeftByDrain origin defs rules m old) old new
      (λ s left. inr (record {
        here = b.took.after;
        event = event.Log;
        in_drain = at_log;
        is_left = subst (λ (r : Rules). IsLeft origin r b.took.after 1 old s) same left;
      })) leaves.moments

  -- a whole round
  pub went_on : (next : Engine) (given : Did) → rules_in next ≡ rules
      → SteppedAt origin event.Log b.took.after new next given
      → WentBeside origin defs rules m old new old_lines lines left next true
  went_on next given same2 sealed =
      let round = makes_round rules m old_lines lines b.first engine b.given b.same same b.stepped defs same_defs next
      given same2 b.undone b.took sealed.turned in
      let beside = log_stands origin new left b.took.after lines next given b.beside.lines_are sealed in
      record {
        come = record {
          rounds = round.steps ∷ [];
          after = round.after;
          goes = rounds_more rules [] m m round.steps round.after refl round.goes;
          calm = (round.calm, tt);
          exact = (round.exact, tt);
          beside = beside;
          given = round.given;
          others = leaves.within.others;
        };
        drained = λ off. absurd cc;
      }
