-- A run beside a site and a source: one step more, a stop in one, a crash in one; and the drain behind all events.
use Rattle.std.proofs.Common.{◌≡◌, refl, sym, ◌∙◌, subst, arith, ℕ, ◌+◌, List, [], ◌∷◌, ◌++◌, inl, inr, Some}
use Rattle.std.specs.Prelude.{Result, Ok, Err, OnOk}
use Rattle.drain_laws.specs.Live.{IsReached}
use Rattle.drain_laws.specs.ProductGauge.{gauge_of}
use Rattle.drain_laws.proofs.OfSystem.{turn_of}
use Rattle.fp_model.specs.declared.definitions.Defs.{Defs}
use Rattle.fp_model.specs.declared.events.Event.{Event}
use Rattle.fp_model.specs.declared.events.Event.TheVariants as event
use Rattle.fp_model.specs.Machine.{Idle, Machine, region_at}
use Rattle.fp_model.specs.Rules.{Rules}
use Rattle.fp_model.specs.Runs.{IsDrained}
use Rattle.fp_site.specs.Disk.{Disk, IsDurable, IsLawful, Snapshot}
use Rattle.fp_site.specs.Moments.{Through}
use Rattle.fp_site.proofs.Runs.{joined, weaker}
use Rattle.message_lines.specs.Lines.{buffered, lines_given, to_come}
use Rattle.message_lines.specs.declared.lines.Lines.{Lines}
use Rattle.fp_core.specs.declared.did.Did.{Did}
use Rattle.fp_core.specs.declared.engine.Engine.{Engine}
use Rattle.fp_core.specs.declared.stop.Stop.{Stop}
use Rattle.fp_core.specs.declared.stop.Stop.TheVariants as stops
use Rattle.fp_core.specs.Draining.{DrainStopped, Drained, IsLeftByDrain, IsReachedBy}
use Rattle.fp_core.specs.Relation.{rules_in}
use Rattle.fp_core.specs.Sparing.{IsSealing}
use Rattle.fp_core.specs.Standing.{IsLeft, IsStill, IsWithin, Leaves, MayStop, Origin, StandsBeside, SteppedBeside, seals_of}
use Rattle.fp_core.specs.Turning.{Turned}
use Rattle.fp_core.proofs.Steps.{left_alone}
use Rattle.schedule_runs.specs.Standing.{IsDone, IsLeftOnWay, IsStopped}
use Rattle.schedule_runs.specs.inside.Standing.{StandsOnWay}
use Rattle.schedule_runs.specs.Ways.{Comes, next_event}
use Rattle.schedule_runs.proofs.WayLemmas.{comes_behind, comes_drained, comes_still, comes_turn, comes_within, drain_rounds, is_before}
use Rattle.fp_core.proofs.Bounds.{reached_too}

-- ---- what a drain rests on

-- a turn keeps it
pub reached_turn : (old new : Engine) (e : Event) (m : Machine) (given : Did) → rules_in new ≡ rules_in old
    → new.defs.now ≡ old.defs.now → IsReached (rules_in old) (gauge_of old.defs.now) m
    → (t : Turned e m new given) → IsReachedBy new t.after
reached_turn old new e m given same defs h t =
    let setup = t.stands.setup in
    record {
      stands = t.stands;
      reached = turn_of new.defs.now new.scripts.now.scripts setup.defined setup.cheap m e t.environment t.after
          (reached_too old new m same defs h) t.turn;
    }

module _ (origin : Origin) (events : List Event) (m : Machine) (old : Disk) (old_lines : Lines) (first : Engine) where
  -- the definitions and rules of the run
  abbrev defs : Defs
  defs = first.defs.now

  abbrev rules : Rules
  rules = rules_in first

  -- a crash in the run
  abbrev Left : Snapshot → Type 0
  Left s = IsLeftOnWay origin first.defs.now (rules_in first) events m old s

  -- ---- at the start

  module _ (bytes : List ℕ) (beside : StandsBeside origin old old_lines bytes first m) where
    pub none_on_way : IsReachedBy first m
        → StandsOnWay origin defs rules events m old old_lines events old old_lines bytes first
    none_on_way reached = record {
      here = m;
      comes = comes_still rules events first m beside.at.parts;
      beside = beside;
      reached = reached;
      given = refl;
      others = λ set other. refl;
    }

    pub none_left : IsLawful old → Through old old Left
    none_left law =
        let most = seals_of (next_event events) m in
        weaker (IsLeft origin rules m most old) Left old old
        (λ s is. record {
          left = events;
          here = m;
          comes = comes_still rules events first m beside.at.parts;
          is_left = is;
        })
        (left_alone origin rules m most old first law beside.at).moments

  -- ---- further on

  module _ (part : List Event) (mid : Disk) (mid_lines : Lines) (mid_bytes : List ℕ) (engine : Engine)
      (same : rules_in engine ≡ rules_in first) (same_defs : engine.defs.now ≡ first.defs.now)
      (on : StandsOnWay origin first.defs.now (rules_in first) events m old old_lines part mid mid_lines mid_bytes
      engine) where
    -- what a crash left behind the way so far is left behind the whole
    left_behind : (law : IsLawful mid) → Through old mid Left → (left : List Event) (here : Machine)
        → Comes defs rules part on.here left here → (s : Snapshot)
        → IsLeft origin rules here (seals_of (next_event left) here) mid s → Left s
    left_behind law before left here more s is =
        let old_left = before.each is.before (law.earlier old.moment mid.moment is.before before.later
        (law.counts_now is.before is.was_left)) in
        record {
          left = left;
          here = here;
          comes = comes_behind defs rules events m part on.here left here on.comes more;
          is_left = record {
            text = is.text;
            sent = λ told. is.sent (before.tells_sent told);
            groups = is.groups;
            before = old_left.is_left.before;
            was_left = old_left.is_left.was_left;
            others = λ set other. is.others set other ∙ old_left.is_left.others set other;
          };
        }

    within_behind : (new : Disk) (here : Machine) (most : ℕ) → IsWithin origin rules here most mid new
        → IsWithin origin rules here most old new
    within_behind new here most w = record {
      text = w.text;
      sent = w.sent;
      groups = w.groups;
      others = λ set other. w.others set other ∙ on.others set other;
    }

    -- ---- one step

    module _ (new : Disk) (leaves : Leaves origin (rules_in engine) on.here (seals_of (next_event part) on.here) mid
        new)
      where
        leaves_so : Leaves origin rules on.here (seals_of (next_event part) on.here) mid new
        leaves_so =
            subst (λ (r : Rules). Leaves origin r on.here (seals_of (next_event part) on.here) mid new) same leaves

        still : Comes defs rules part on.here part on.here
        still = subst (λ (d : Defs). Comes d rules part on.here part on.here) same_defs
            (comes_still rules part engine on.here on.reached.stands)

        -- a crash in it
        pub moments_step : IsLawful mid → Through old mid Left → Through old new Left
        moments_step law before =
            joined Left old mid new before
            (weaker (IsLeft origin rules on.here (seals_of (next_event part) on.here) mid) Left mid new
            (λ s is. left_behind law before part on.here still s is) leaves_so.moments)

        -- a stop in it
        pub stopped_step : (stop : Stop) → MayStop (next_event part) engine.held stop
            → ((number : ℕ) → stop ≡ stops.LineFault number → number ≡ lines_given mid_lines + 1)
            → ((region : ℕ) → next_event part ≡ event.Region region → region_at on.here region ≡ Some Idle)
            → (¬ IsSealing (next_event part) → new ≡ mid)
            → IsStopped origin defs rules events m old old_lines new stop
        stopped_step stop may number idle same_disk = record {
          left = part;
          here = on.here;
          comes = on.comes;
          may = subst (λ (h : _). MayStop (next_event part) h stop) on.reached.stands.held may;
          first = λ n is. omega (arith, number n is, on.given);
          within = within_behind new on.here (seals_of (next_event part) on.here) leaves_so.within;
          idle = idle;
          rest = λ calm. subst (λ (x : Disk). IsDurable x 0) (sym (same_disk calm)) on.beside.at.at_rest.durable;
          still = λ calm. subst (λ (x : Disk). IsStill origin x on.here) (sym (same_disk calm))
              (record { gate = engine.log.gate; at_rest = on.beside.at.at_rest; sent = on.beside.at.sent });
        }

    -- its end
    pub one_on_way : (e : Event) (left : List Event) (new : Disk) (lines : Lines) (bytes : List ℕ) (next : Engine)
        (given : Did) → part ≡ e ∷ left → rules_in next ≡ rules_in engine → next.defs.now ≡ engine.defs.now
        → Leaves origin (rules_in engine) on.here (seals_of e on.here) mid new
        → SteppedBeside origin e on.here new mid_lines lines bytes next given
        → StandsOnWay origin defs rules events m old old_lines left new lines bytes next
    one_on_way e left new lines bytes next given is same2 defs2 leaves stepped =
        let t = stepped.stepped.turned in
        let more : Comes defs rules part on.here left t.after
        = subst (λ (es : List Event). Comes defs rules es on.here left t.after) (sym is)
        (subst (λ (d : Defs). Comes d rules (e ∷ left) on.here left t.after) (defs2 ∙ same_defs)
        (subst (λ (r : Rules). Comes next.defs.now r (e ∷ left) on.here left t.after) (same2 ∙ same)
        (comes_turn e left on.here next given t))) in
        record {
          here = t.after;
          comes = comes_behind defs rules events m part on.here left t.after on.comes more;
          beside = stepped.beside;
          reached = reached_turn engine next e on.here given same2 defs2 on.reached.reached t;
          given = stepped.stepped.given ∙ on.given;
          others = λ set other. leaves.within.others set other ∙ on.others set other;
        }

    -- ---- the drain

    module _ (none : part ≡ []) (new : Disk) where
      on_drain : Comes defs rules events m [] on.here
      on_drain = subst (λ (es : List Event). Comes defs rules events m es on.here) none on.comes

      -- a crash in it
      left_drain : (law : IsLawful mid) → Through old mid Left → (s : Snapshot)
          → IsLeftByDrain origin defs rules on.here mid s → Left s
      left_drain law before s (inl left) =
          let alone = left_alone origin rules on.here (seals_of (next_event part) on.here) mid engine law on.beside.at
          in
          let still = subst (λ (d : Defs). Comes d rules part on.here part on.here) same_defs
          (comes_still rules part engine on.here on.reached.stands) in
          left_behind law before part on.here still s (alone.moments.each s (law.counts_now s left))
      left_drain law before s (inr step) =
          let b = is_before defs rules on.here step.here step.event step.in_drain in
          let more = subst (λ (es : List Event). Comes defs rules es on.here b.left step.here) (sym none)
          (comes_within defs rules on.here step.here step.event step.in_drain b) in
          left_behind law before b.left step.here more s
          (subst (λ (e : Event). IsLeft origin rules step.here (seals_of e step.here) mid s) (sym b.next) step.is_left)

      pub moments_drain : IsLawful mid → Through old mid Left
          → Through mid new (IsLeftByDrain origin engine.defs.now (rules_in engine) on.here mid)
          → Through old new Left
      moments_drain law before drain =
          joined Left old mid new before
          (weaker (IsLeftByDrain origin defs rules on.here mid) Left mid new (λ s is. left_drain law before s is)
          (subst (λ (d : Defs). Through mid new (IsLeftByDrain origin d rules on.here mid)) same_defs
          (subst (λ (r : Rules). Through mid new (IsLeftByDrain origin engine.defs.now r on.here mid)) same drain)))

      -- a stop in it
      pub stopped_drain : (stop : Stop)
          → DrainStopped origin engine.defs.now (rules_in engine) on.here mid_lines mid new stop
          → IsStopped origin defs rules events m old old_lines new stop
      stopped_drain stop given =
          let d = subst (λ (x : Defs). DrainStopped origin x rules on.here mid_lines mid new stop) same_defs
          (subst (λ (r : Rules). DrainStopped origin engine.defs.now r on.here mid_lines mid new stop) same given) in
          let b = is_before defs rules on.here d.here d.event d.in_drain in
          record {
            left = b.left;
            here = d.here;
            comes = comes_behind defs rules events m [] on.here b.left d.here on_drain
                (comes_within defs rules on.here d.here d.event d.in_drain b);
            may = subst (λ (e : Event). MayStop e d.here.held stop) (sym b.next) d.may;
            first = λ n is. omega (arith, d.first n is, on.given);
            within = within_behind new d.here (seals_of (next_event b.left) d.here)
                (subst (λ (e : Event). IsWithin origin rules d.here (seals_of e d.here) mid new) (sym b.next) d.within);
            idle = λ region is. d.idle region (sym b.next ∙ is);
            rest = λ calm. d.rest (subst (λ (e : Event). ¬ IsSealing e) b.next calm);
            still = λ calm. d.still (subst (λ (e : Event). ¬ IsSealing e) b.next calm);
          }

      -- its end
      pub drained_on_way : (lines : Lines) (bytes : List ℕ) (next : Engine)
          → rules_in next ≡ rules_in engine → next.defs.now ≡ engine.defs.now
          → Drained origin on.here mid new lines bytes next
          → IsDone origin defs rules events m old new lines bytes next
      drained_on_way lines bytes next same2 defs2 d =
          let more : Comes defs rules [] on.here [] d.after
          = subst (λ (x : Defs). Comes x rules [] on.here [] d.after) (defs2 ∙ same_defs)
          (subst (λ (r : Rules). Comes next.defs.now r [] on.here [] d.after) (same2 ∙ same)
          (comes_drained origin on.here mid new lines bytes next d)) in
          record {
            here = d.after;
            comes = comes_behind defs rules events m [] on.here [] d.after on_drain more;
            drained = subst (λ (r : Rules). IsDrained r d.after) (same2 ∙ same)
                (drain_rounds next.defs.now (rules_in next) d.rounds on.here d.after d.drains d.exact).1;
            beside = d.beside;
            others = λ set other. d.others set other ∙ on.others set other;
          }

-- ---- answers, and the end of the messages

pub on_ok_sure : {A E : Type 0} (P : Type 0) (r : Result A E) → P → OnOk r P
on_ok_sure P (Ok a) h = h
on_ok_sure P (Err e) h = tt

-- where nothing is to come, nothing is left
pub nothing_behind : (lines : Lines) (left : List ℕ) → to_come lines left ≡ [] → left ≡ []
nothing_behind lines left none = by (buffered lines) none
  where
    by : (front : List ℕ) → front ++ left ≡ [] → left ≡ []
    by [] e = e
    by (b ∷ bytes) e = absurd cc
