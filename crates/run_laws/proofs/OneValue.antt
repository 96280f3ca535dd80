-- Runs from one place by the same events, with the same befalling them, are one value; and each event has a turn.
use Rattle.std.proofs.Common.{◌≡◌, ℕ, List, [], ◌∷◌, ◌++◌, length, map, Option, Some, None, refl, sym, ◌∙◌, ap, subst, Bool, true, false, if◌then◌else◌, arith}
use Rattle.std.specs.Prelude.{nat_lt, unwrap_or}
use Rattle.std.specs.List.{AllByRecursion}
use Rattle.std.specs.Option.{option_map_or}
use Rattle.fp_model.specs.declared.definitions.Defs.{Defs}
use Rattle.fp_model.specs.declared.database.Db.{Db}
use Rattle.fp_model.specs.declared.events.Event.{Event}
use Rattle.fp_model.specs.declared.events.Event.TheVariants as event
use Rattle.fp_model.specs.declared.log.Entry.{Entry}
use Rattle.fp_model.specs.declared.log.Outcome.{Outcome}
use Rattle.fp_model.specs.declared.log.Outcome.TheVariants as outcome
use Rattle.fp_model.specs.declared.scripts.Script.{Script}
use Rattle.fp_model.specs.Answers.{Needed}
use Rattle.fp_model.specs.Commit.{purged, purged_area, area_of_set}
use Rattle.fp_model.specs.Lasts.{Last, format_behind, format_at, uses_number, last_in, last_by, with_last, lasts_behind, lasts_of}
use Rattle.fp_model.specs.Messages.{message_of, terminal_of}
use Rattle.fp_model.specs.Product.{by_message, rules_of}
use Rattle.fp_model.specs.ReplyLine.{Told, addressee, verdict, line_for, line_text, line_of}
use Rattle.fp_model.specs.Rules.{Rules}
use Rattle.fp_model.specs.State.{Area}
use Rattle.fp_model.specs.Waiting.{Lock}
use Rattle.fp_model.specs.Machine.{Transaction, Active, Machine, region_at, with_entry_of, entry_here, taken_in, sealed_once, sealed_all}
use Rattle.fp_model.specs.Turns.{Environment, NoFault, asks, wanted, requests_with, refused_with, is_area_held, PurgeTurn, Turn}
use Rattle.fp_model.specs.Runs.{RunStep, step_events, machine_after, Runs, IsDrained, Drains}
use Rattle.serial_order.proofs.Lists.{true_is_not_false}
use Rattle.serial_order.specs.Laws.{Laws}
use Rattle.serial_order.specs.ProductView.{view_of}
use Rattle.drain_laws.specs.Measure.{Gauge}
use Rattle.drain_laws.specs.Live.{EndLaws, IsReached}
use Rattle.drain_laws.proofs.Rounds.{reached_then}
use Rattle.drain_laws.proofs.Existence.{turn_there_is}
use Rattle.drain_laws.specs.Rounds.{AreFair}
use Rattle.run_laws.specs.Determined.{is_purgeable, IsOfSchedule, step_parts, but_cycle, whole, plain_entry, plain, plain_step, StepsNameFound, RoundsNameFound}
use Rattle.run_laws.proofs.Plain.{AreBlind, same_place, goes, turn_plain}

-- ---- this system's rules don't see items or cycles

-- an outcome is seen so that its kind and its words stay
pub record Sees (seen : Outcome → Outcome) : Type 0 where
  pub format : (before : ℕ) (o : Outcome) → format_behind before (seen o) ≡ format_behind before o
  pub uses : (o : Outcome) → uses_number (seen o) ≡ uses_number o
  pub words : (o : Outcome) (reply : List ℕ) → verdict (seen o) reply ≡ verdict o reply

sees_whole : Sees whole
sees_whole = record { format = λ before o. refl; uses = λ o. refl; words = λ o reply. refl }

-- what is so of every outcome but a Deadlock, and of each of those, is so of all
by_outcome : (P : Outcome → Outcome → Type 0) → ((o : Outcome) → P o o)
    → ((cycle : List ℕ) → P (outcome.Deadlock []) (outcome.Deadlock cycle))
    → (o : Outcome) → P (but_cycle o) o
by_outcome P same cycles outcome.Done = same outcome.Done
by_outcome P same cycles (outcome.Verify call fsa found) = same (outcome.Verify call fsa found)
by_outcome P same cycles (outcome.Roll code) = same (outcome.Roll code)
by_outcome P same cycles (outcome.SeqFull set begin end n) = same (outcome.SeqFull set begin end n)
by_outcome P same cycles (outcome.Deadlock cycle) = cycles cycle
by_outcome P same cycles outcome.Device = same outcome.Device
by_outcome P same cycles outcome.Memory = same outcome.Memory
by_outcome P same cycles outcome.Unknown = same outcome.Unknown
by_outcome P same cycles (outcome.Old last) = same (outcome.Old last)
by_outcome P same cycles (outcome.Repeat line) = same (outcome.Repeat line)
by_outcome P same cycles (outcome.Purge set n) = same (outcome.Purge set n)
by_outcome P same cycles outcome.Format = same outcome.Format

sees_but_cycle : Sees but_cycle
sees_but_cycle = record {
  format = λ before o.
      by_outcome (λ a b. format_behind before a ≡ format_behind before b) (λ x. refl) (λ cycle. refl) o;
  uses = λ o. by_outcome (λ a b. uses_number a ≡ uses_number b) (λ x. refl) (λ cycle. refl) o;
  words = λ o reply. by_outcome (λ a b. verdict a reply ≡ verdict b reply) (λ x. refl) (λ cycle. refl) o;
}

module _ (seen : Outcome → Outcome) (sees : Sees seen) where
  text_same : (e : Entry) → line_text (plain_entry seen e) ≡ line_text e
  text_same e = ap (λ (t : Told). line_for (addressee (terminal_of e.line)) t) (sees.words e.outcome e.reply)

  line_same : (e : Entry) → line_of (plain_entry seen e) ≡ line_of e
  line_same e = ap (λ (o : Option (List ℕ)). option_map_or (λ text. text ++ 10 ∷ []) o []) (text_same e)

  format_same : (format : ℕ) (es : List Entry) → format_at format (map (plain_entry seen) es) ≡ format_at format es
  format_same format [] = refl
  format_same format (e ∷ es) =
      ap (λ (f : ℕ). format_at f (map (plain_entry seen) es)) (sees.format format e.outcome)
      ∙ format_same (format_behind format e.outcome) es

  last_same : (format : ℕ) (e : Entry) → last_by format (plain_entry seen e) ≡ last_by format e
  last_same format e =
      ap (λ (b : Bool). if b then last_in (unwrap_or (line_text (plain_entry seen e)) []) (message_of format e.line)
      else None) (sees.uses e.outcome)
      ∙ ap (λ (o : Option (List ℕ)). if uses_number e.outcome
      then last_in (unwrap_or o []) (message_of format e.line) else None) (text_same e)

  lasts_same : (format : ℕ) (es : List Entry) (lasts : List Last)
      → lasts_behind format (map (plain_entry seen) es) lasts ≡ lasts_behind format es lasts
  lasts_same format [] lasts = refl
  lasts_same format (e ∷ es) lasts =
      ap (λ (f : ℕ). lasts_behind f (map (plain_entry seen) es)
      (option_map_or (λ last. with_last last lasts) (last_by format (plain_entry seen e)) lasts))
      (sees.format format e.outcome)
      ∙ ap (λ (o : Option Last). lasts_behind (format_behind format e.outcome) (map (plain_entry seen) es)
      (option_map_or (λ last. with_last last lasts) o lasts)) (last_same format e)
      ∙ lasts_same (format_behind format e.outcome) es
      (option_map_or (λ last. with_last last lasts) (last_by format e) lasts)

  pub blind_of : (defs : Defs) (scripts : List Script) → AreBlind (rules_of defs scripts) seen
  blind_of defs scripts = record {
    requests = λ h line.
        ap (λ (lasts : List Last). by_message scripts lasts
        (message_of (format_at h.format (map (plain_entry seen) h.entries)) line)) (lasts_same h.format h.entries [])
        ∙ ap (λ (f : ℕ). by_message scripts (lasts_of h.format h.entries) (message_of f line))
        (format_same h.format h.entries);
    lines = line_same;
  }

-- ---- runs

-- steps that nothing befalls
parts_of_fair : (steps : List RunStep) → AreFair steps
    → step_parts steps ≡ map (λ (e : Event). let p : Event × Environment = (e, NoFault) in p) (step_events steps)
parts_of_fair [] fair = refl
parts_of_fair (step ∷ steps) fair =
    ap (λ (v : Environment). (let p : Event × Environment = (step.event, v) in p) ∷ step_parts steps) fair.0
    ∙ ap (λ (ps : List (Event × Environment)). (let p : Event × Environment = (step.event, NoFault) in p) ∷ ps)
    (parts_of_fair steps fair.1)

-- are the same parts where they are the same events
fair_parts : (steps steps2 : List RunStep) → AreFair steps → AreFair steps2 → step_events steps ≡ step_events steps2
    → step_parts steps ≡ step_parts steps2
fair_parts steps steps2 fair fair2 events =
    parts_of_fair steps fair
    ∙ ap (λ (es : List Event). map (λ (e : Event). let p : Event × Environment = (e, NoFault) in p) es) events
    ∙ sym (parts_of_fair steps2 fair2)

module _ (rules : Rules) (seen : Outcome → Outcome) (blind : AreBlind rules seen)
    (search : List Lock → List Lock → ℕ → List ℕ) where
  -- a cycle is seen as the one that the search finds
  abbrev pub Agrees : Machine → RunStep → Type 0
  Agrees m step =
      (region : ℕ) (t : Transaction) (needed : Needed) (cycle : List ℕ) → step.event ≡ event.Region region
      → region_at m region ≡ Some (Active t)
      → wanted rules m region t (asks rules t) ≡ Some needed
      → step.after ≡ refused_with rules m region t (outcome.Deadlock cycle)
      → seen (outcome.Deadlock cycle)
      ≡ seen (outcome.Deadlock (search (requests_with rules m region needed) m.locks region))

  abbrev pub AllAgree : Machine → List RunStep → Type 0
  AllAgree m [] = Unit {0}
  AllAgree m (step ∷ steps) = Agrees m step × AllAgree step.after steps

  abbrev pub RoundsAgree : Machine → List (List RunStep) → Type 0
  RoundsAgree m [] = Unit {0}
  RoundsAgree m (steps ∷ rounds) = AllAgree m steps × RoundsAgree (machine_after m steps) rounds

  -- the steps that events lead to, with what befalls them
  abbrev goes_by : List (Event × Environment) → Machine → List RunStep
  goes_by [] b = []
  goes_by (e ∷ es) b =
      let after : Machine = goes rules seen blind search e.0 e.1 b in
      record { event = e.0; environment = e.1; after = after } ∷ goes_by es after

  abbrev last_by_parts : List (Event × Environment) → Machine → Machine
  last_by_parts [] b = b
  last_by_parts (e ∷ es) b = last_by_parts es (goes rules seen blind search e.0 e.1 b)

  -- one step
  step_is : (m : Machine) (step : RunStep) → Turn rules m step.event step.environment step.after
      → Agrees m step
      → plain seen step.after ≡ goes rules seen blind search step.event step.environment (plain seen m)
  step_is m step turn names =
      turn_plain rules seen blind search m step.event step.environment step.after turn names

  -- a whole run
  pub run_is : (m : Machine) (steps : List RunStep) (m2 : Machine) → Runs rules m steps m2
      → AllAgree m steps
      → map (plain_step seen) steps ≡ goes_by (step_parts steps) (plain seen m)
  run_is m [] m2 runs names = refl
  run_is m (step ∷ steps) m2 runs names =
      let here = step_is m step runs.0 names.0 in
      let rest = run_is step.after steps m2 runs.1 names.1 in
      ap (λ (x : Machine). (let s : RunStep = record {
        event = step.event;
        environment = step.environment;
        after = x;
      } in s) ∷ map (plain_step seen) steps) here
      ∙ ap (λ (ss : List RunStep). (let s : RunStep = record {
        event = step.event;
        environment = step.environment;
        after = goes rules seen blind search step.event step.environment (plain seen m);
      } in s) ∷ ss)
      (rest ∙ ap (λ (x : Machine). goes_by (step_parts steps) x) here)

  pub last_is : (m : Machine) (steps : List RunStep) (m2 : Machine) → Runs rules m steps m2
      → AllAgree m steps
      → plain seen m2 ≡ last_by_parts (step_parts steps) (plain seen m)
  last_is m [] m2 runs names = ap (plain seen) runs
  last_is m (step ∷ steps) m2 runs names =
      last_is step.after steps m2 runs.1 names.1
      ∙ ap (λ (x : Machine). last_by_parts (step_parts steps) x) (step_is m step runs.0 names.0)

  -- two runs, from machines that are seen as one
  pub runs_are_one : (m n : Machine) (steps steps2 : List RunStep) (m2 n2 : Machine)
      → plain seen m ≡ plain seen n
      → Runs rules m steps m2
      → Runs rules n steps2 n2
      → step_parts steps ≡ step_parts steps2
      → AllAgree m steps
      → AllAgree n steps2
      → (map (plain_step seen) steps ≡ map (plain_step seen) steps2) × (plain seen m2 ≡ plain seen n2)
  runs_are_one m n steps steps2 m2 n2 same runs runs2 parts names names2 = (
    run_is m steps m2 runs names
        ∙ ap (λ (es : List (Event × Environment)). goes_by es (plain seen m)) parts
        ∙ ap (λ (x : Machine). goes_by (step_parts steps2) x) same
        ∙ sym (run_is n steps2 n2 runs2 names2),
    last_is m steps m2 runs names
        ∙ ap (λ (es : List (Event × Environment)). last_by_parts es (plain seen m)) parts
        ∙ ap (λ (x : Machine). last_by_parts (step_parts steps2) x) same
        ∙ sym (last_is n steps2 n2 runs2 names2),
  )

  -- ---- drains

  drained_seen : (m : Machine) → IsDrained rules m → IsDrained rules (plain seen m)
  drained_seen m d = record {
    no_line = d.no_line;
    no_held = d.no_held;
    no_message = d.no_message;
    no_active = d.no_active;
    no_unsealed = d.no_unsealed ∙ sym (same_place rules seen blind search m.history);
  }

  drained_back : (m : Machine) → IsDrained rules (plain seen m) → IsDrained rules m
  drained_back m d = record {
    no_line = d.no_line;
    no_held = d.no_held;
    no_message = d.no_message;
    no_active = d.no_active;
    no_unsealed = d.no_unsealed ∙ same_place rules seen blind search m.history;
  }

  drained_too : (m n : Machine) → plain seen m ≡ plain seen n → IsDrained rules m → IsDrained rules n
  drained_too m n same d = drained_back n (subst (λ (x : Machine). IsDrained rules x) same (drained_seen m d))

  pub drains_are_one : (m n : Machine) (rounds rounds2 : List (List RunStep)) (m2 n2 : Machine)
      → plain seen m ≡ plain seen n
      → Drains rules m rounds m2
      → Drains rules n rounds2 n2
      → AllByRecursion AreFair rounds
      → AllByRecursion AreFair rounds2
      → RoundsAgree m rounds
      → RoundsAgree n rounds2
      → (map (λ steps. map (plain_step seen) steps) rounds ≡ map (λ steps. map (plain_step seen) steps) rounds2)
      × (plain seen m2 ≡ plain seen n2)
  drains_are_one m n [] [] m2 n2 same d d2 fair fair2 names names2 =
      (refl, ap (plain seen) d.1 ∙ same ∙ sym (ap (plain seen) d2.1))
  drains_are_one m n [] (s ∷ r) m2 n2 same d d2 fair fair2 names names2 = absurd (d2.0 (drained_too m n same d.0))
  drains_are_one m n (s ∷ r) [] m2 n2 same d d2 fair fair2 names names2 =
      absurd (d.0 (drained_too n m (sym same) d2.0))
  drains_are_one m n (s ∷ r) (s2 ∷ r2) m2 n2 same d d2 fair fair2 names names2 =
      let one = runs_are_one m n s s2 (machine_after m s) (machine_after n s2) same d.2 d2.2
      (fair_parts s s2 fair.0 fair2.0 (d.1 ∙ sym d2.1)) names.0 names2.0 in
      let rest = drains_are_one (machine_after m s) (machine_after n s2) r r2 m2 n2 one.1 d.3 d2.3 fair.1 fair2.1
      names.1 names2.1 in (
        ap (λ (x : List RunStep). x ∷ map (λ steps. map (plain_step seen) steps) r) one.0
            ∙ ap (λ (xs : List (List RunStep)). map (plain_step seen) s2 ∷ xs) rest.0,
        rest.1,
      )

-- ---- both ways to see a cycle

module _ (rules : Rules) where
  -- a cycle that isn't seen is as any other
  abbrev no_search : List Lock → List Lock → ℕ → List ℕ
  no_search requests locks region = []

  unseen : (blind : AreBlind rules but_cycle) (m : Machine) (steps : List RunStep)
      → AllAgree rules but_cycle blind no_search m steps
  unseen blind m [] = tt
  unseen blind m (step ∷ steps) =
      ((λ region t needed cycle is at wants after. refl), unseen blind step.after steps)

  unseen_rounds : (blind : AreBlind rules but_cycle) (m : Machine) (rounds : List (List RunStep))
      → RoundsAgree rules but_cycle blind no_search m rounds
  unseen_rounds blind m [] = tt
  unseen_rounds blind m (steps ∷ rounds) =
      (unseen blind m steps, unseen_rounds blind (machine_after m steps) rounds)

  found : (blind : AreBlind rules whole) (search : List Lock → List Lock → ℕ → List ℕ) (m : Machine)
      (steps : List RunStep) → StepsNameFound search rules m steps
      → AllAgree rules whole blind search m steps
  found blind search m [] names = tt
  found blind search m (step ∷ steps) names = (
    (λ region t needed cycle is at wants after.
        ap (λ (c : List ℕ). outcome.Deadlock c) (names.0 region t needed cycle is at wants after)),
    found blind search step.after steps names.1,
  )

  found_rounds : (blind : AreBlind rules whole) (search : List Lock → List Lock → ℕ → List ℕ) (m : Machine)
      (rounds : List (List RunStep)) → RoundsNameFound search rules m rounds
      → RoundsAgree rules whole blind search m rounds
  found_rounds blind search m [] names = tt
  found_rounds blind search m (steps ∷ rounds) names =
      (found blind search m steps names.0, found_rounds blind search (machine_after m steps) rounds names.1)

-- ---- a turn for each event

purge_there : (defs : Defs) (scripts : List Script) (set n : ℕ) (db : Db) → is_purgeable defs set ≡ true
    → (next : Db) × (purged defs set n db ≡ Some next)
unfolding purged
purge_there defs scripts set n db is = by (area_of_set defs set) refl is
  where
    by : (o : Option Area) → area_of_set defs set ≡ o
        → option_map_or (λ (area : Area). nat_lt 0 area.def.capacity) o false ≡ true
        → (next : Db) × (option_map_or (λ (area : Area). if nat_lt 0 area.def.capacity then Some
        (purged_area area n db) else None) o None ≡ Some next)
    by None at e = absurd (true_is_not_false (sym e))
    by (Some area) at e = (purged_area area n db, ap (λ (b : Bool). if b then Some (purged_area area n db) else None) e)

module _ (defs : Defs) (scripts : List Script) where
  blind_but : AreBlind (rules_of defs scripts) but_cycle
  blind_but = blind_of but_cycle sees_but_cycle defs scripts

  blind_whole : AreBlind (rules_of defs scripts) whole
  blind_whole = blind_of whole sees_whole defs scripts

  -- Each event of a schedule has a turn.
  pub event_has_turn : (m : Machine) (e : Event) → length m.regions ≡ length defs.regions → IsOfSchedule defs e
      → (m2 : Machine) × Turn (rules_of defs scripts) m e NoFault m2
  event_has_turn m event.In many is = (taken_in (rules_of defs scripts) m, refl)
  event_has_turn m (event.Region region) many is =
      turn_there_is (rules_of defs scripts) m region is.0 (omega (arith, is.1, many))
  event_has_turn m event.Log many is = (sealed_once (rules_of defs scripts) m, refl)
  event_has_turn m event.Out many is = (m, refl)
  event_has_turn m event.Ckpt many is = (sealed_all (rules_of defs scripts) m, refl)
  event_has_turn m (event.Purge set n) many is = by (is_area_held (rules_of defs scripts) m set)
    where
      by : (held : Bool) → (m2 : Machine) × PurgeTurn (rules_of defs scripts) m set n held m2
      by true = (m, refl)
      by false =
          let p = purge_there defs scripts set n m.history.now is in
          let e : Entry = entry_here m (outcome.Purge set n) [] [] in
          (with_entry_of e p.0 m, record { items = []; next = p.0; is_purged = p.1; after = refl })

  -- So has each list of them a run, from a machine that is reached.
  pub schedule_has_run : (gauge : Gauge) → EndLaws (rules_of defs scripts) gauge
      → Laws (rules_of defs scripts) (view_of defs)
      → (events : List Event) (m : Machine)
      → IsReached (rules_of defs scripts) gauge m
      → AllByRecursion (IsOfSchedule defs) events
      → (steps : List RunStep) × ((m2 : Machine) × (Runs (rules_of defs scripts) m steps m2
      × ((step_events steps ≡ events) × AreFair steps)))
  schedule_has_run gauge ends order [] m h are_of = ([], (m, (refl, (refl, tt))))
  schedule_has_run gauge ends order (e ∷ es) m h are_of =
      let first = event_has_turn m e h.live.regions are_of.0 in
      let after = reached_then (rules_of defs scripts) gauge ends (view_of defs) order m e NoFault first.0 h first.1 in
      let rest = schedule_has_run gauge ends order es first.0 after are_of.1 in (
        record { event = e; environment = NoFault; after = first.0 } ∷ rest.0,
        (rest.1.0, ((first.1, rest.1.1.0), (ap (λ (xs : List Event). e ∷ xs) rest.1.1.1.0, (refl, rest.1.1.1.1)))),
      )

  -- ---- one turn

  pub turn_once : (m : Machine) (e : Event) (v : Environment) (m2 m3 : Machine)
      → Turn (rules_of defs scripts) m e v m2
      → Turn (rules_of defs scripts) m e v m3
      → plain but_cycle m2 ≡ plain but_cycle m3
  turn_once m e v m2 m3 turn turn2 =
      turn_plain (rules_of defs scripts) but_cycle blind_but (no_search (rules_of defs scripts)) m e v m2 turn
      (λ region t needed cycle is at wants after. refl)
      ∙ sym (turn_plain (rules_of defs scripts) but_cycle blind_but (no_search (rules_of defs scripts)) m e v m3 turn2
      (λ region t needed cycle is at wants after. refl))

  -- ---- runs and drains, but for cycles

  pub runs_once : (m : Machine) (steps steps2 : List RunStep) (m2 m3 : Machine)
      → Runs (rules_of defs scripts) m steps m2
      → Runs (rules_of defs scripts) m steps2 m3
      → step_parts steps ≡ step_parts steps2
      → (map (plain_step but_cycle) steps ≡ map (plain_step but_cycle) steps2)
      × (plain but_cycle m2 ≡ plain but_cycle m3)
  runs_once m steps steps2 m2 m3 runs runs2 parts =
      runs_are_one (rules_of defs scripts) but_cycle blind_but
      (no_search (rules_of defs scripts)) m m steps steps2 m2 m3
      refl runs runs2 parts (unseen (rules_of defs scripts) blind_but m steps)
      (unseen (rules_of defs scripts) blind_but m steps2)

  pub fair_runs_once : (m : Machine) (steps steps2 : List RunStep) (m2 m3 : Machine)
      → Runs (rules_of defs scripts) m steps m2
      → Runs (rules_of defs scripts) m steps2 m3
      → step_events steps ≡ step_events steps2
      → AreFair steps
      → AreFair steps2
      → (map (plain_step but_cycle) steps ≡ map (plain_step but_cycle) steps2)
      × (plain but_cycle m2 ≡ plain but_cycle m3)
  fair_runs_once m steps steps2 m2 m3 runs runs2 events fair fair2 =
      runs_once m steps steps2 m2 m3 runs runs2 (fair_parts steps steps2 fair fair2 events)

  pub drains_once : (m n : Machine) (rounds rounds2 : List (List RunStep)) (m2 n2 : Machine)
      → plain but_cycle m ≡ plain but_cycle n
      → Drains (rules_of defs scripts) m rounds m2
      → Drains (rules_of defs scripts) n rounds2 n2
      → AllByRecursion AreFair rounds
      → AllByRecursion AreFair rounds2
      → (map (λ steps. map (plain_step but_cycle) steps) rounds
      ≡ map (λ steps. map (plain_step but_cycle) steps) rounds2)
      × (plain but_cycle m2 ≡ plain but_cycle n2)
  drains_once m n rounds rounds2 m2 n2 same d d2 fair fair2 =
      drains_are_one (rules_of defs scripts) but_cycle blind_but (no_search (rules_of defs scripts)) m n rounds rounds2
      m2 n2 same d d2 fair fair2 (unseen_rounds (rules_of defs scripts) blind_but m rounds)
      (unseen_rounds (rules_of defs scripts) blind_but n rounds2)

  -- ---- the same, with cycles that one search finds

  pub runs_found : (search : List Lock → List Lock → ℕ → List ℕ) (m : Machine) (steps steps2 : List RunStep)
      (m2 m3 : Machine) → Runs (rules_of defs scripts) m steps m2
      → Runs (rules_of defs scripts) m steps2 m3
      → step_parts steps ≡ step_parts steps2
      → StepsNameFound search (rules_of defs scripts) m steps
      → StepsNameFound search (rules_of defs scripts) m steps2
      → (map (plain_step whole) steps ≡ map (plain_step whole) steps2) × (plain whole m2 ≡ plain whole m3)
  runs_found search m steps steps2 m2 m3 runs runs2 parts names names2 =
      runs_are_one (rules_of defs scripts) whole blind_whole search m m steps steps2 m2 m3 refl runs runs2 parts
      (found (rules_of defs scripts) blind_whole search m steps names)
      (found (rules_of defs scripts) blind_whole search m steps2 names2)

  pub drains_found : (search : List Lock → List Lock → ℕ → List ℕ) (m n : Machine)
      (rounds rounds2 : List (List RunStep)) (m2 n2 : Machine) → plain whole m ≡ plain whole n
      → Drains (rules_of defs scripts) m rounds m2
      → Drains (rules_of defs scripts) n rounds2 n2
      → AllByRecursion AreFair rounds
      → AllByRecursion AreFair rounds2
      → RoundsNameFound search (rules_of defs scripts) m rounds
      → RoundsNameFound search (rules_of defs scripts) n rounds2
      → (map (λ steps. map (plain_step whole) steps) rounds ≡ map (λ steps. map (plain_step whole) steps) rounds2)
      × (plain whole m2 ≡ plain whole n2)
  drains_found search m n rounds rounds2 m2 n2 same d d2 fair fair2 names names2 =
      drains_are_one (rules_of defs scripts) whole blind_whole search m n rounds rounds2 m2 n2 same d d2 fair fair2
      (found_rounds (rules_of defs scripts) blind_whole search m rounds names)
      (found_rounds (rules_of defs scripts) blind_whole search n rounds2 names2)
