-- What a machine sealed of its entries, and what it sent of them.
use Rattle.std.proofs.Common.{◌≡◌, refl, sym, ◌∙◌, ap, subst, arith, ℕ, zero, suc, ◌-◌, ◌≤◌, List, [], ◌∷◌, ◌++◌, length, take, drop, Bool, true, false, append_assoc}
use Rattle.std.specs.Prelude.{nat_lt, if◌then◌else◌}
use Rattle.std.specs.List.{flat_map}
use Rattle.std.proofs.Math.Seq.{take-length}
use Rattle.std.proofs.lemmas.List.{append-nil, length-append, length-drop, length-take, take-append-le}
use Rattle.std.proofs.lemmas.List.Concat.{flat_map-append}
use Rattle.fp_model.specs.declared.events.Event.{Event}
use Rattle.fp_model.specs.declared.events.Event.TheVariants as event
use Rattle.fp_model.specs.declared.log.Entry.{Entry}
use Rattle.fp_model.specs.Frames.{AddsEntries, KeepsSealed}
use Rattle.fp_model.specs.Groups.{entries_of}
use Rattle.fp_model.specs.History.{History, place_of}
use Rattle.fp_model.specs.Machine.{Machine, at_rest, next_group, sealed_once, sealed_times, with_group}
use Rattle.fp_model.specs.Rules.{Rules}
use Rattle.fp_model.specs.Runs.{RunStep, Runs}
use Rattle.fp_model.specs.Turns.{Environment, NoFault, DeviceFault, OutOfMemory, Turn}
use Rattle.fp_model.proofs.FrameLemmas.{turn_adds, turn_keeps}
use Rattle.sealed_runs.proofs.Parts.{take_more}
use Rattle.model_laws.proofs.Entries.{entries_push}

module _ (rules : Rules) (earlier : List Entry) where
  -- Behind the entries from before, the groups have the first entries, as many as are sealed; and just their lines were
  -- sent.
  pub record HasSealed (m : Machine) : Type 0 where
    pub within : m.sealed ≤ place_of m.history
    pub groups : earlier ++ entries_of m.groups ≡ take m.sealed m.history.entries
    pub sent : m.sent ≡ flat_map rules.line_of (entries_of m.groups)

  -- ---- LOG and CKPT

  more_sealed : (m : Machine) → m.sealed ≤ place_of m.history → HasSealed m
      → HasSealed (with_group rules (next_group rules m) m)
  more_sealed m within has =
      let group = next_group rules m in
      let entries = m.history.entries in
      let all = entries_push m.groups group in
      record {
        within = omega (
          arith,
          within,
          length-take rules.log_group (drop m.sealed entries),
          length-drop m.sealed entries,
        );
        groups =
            ap (λ (es : List Entry). earlier ++ es) all
            ∙ sym (append_assoc earlier (entries_of m.groups) group)
            ∙ ap (λ (es : List Entry). es ++ group) has.groups
            ∙ take_more m.sealed rules.log_group entries;
        sent =
            ap (λ (text : List ℕ). text ++ flat_map rules.line_of group) has.sent
            ∙ sym (flat_map-append rules.line_of (entries_of m.groups) group)
            ∙ sym (ap (flat_map rules.line_of) all);
      }

  once_sealed : (m : Machine) → HasSealed m → HasSealed (sealed_once rules m)
  once_sealed m has = by (nat_lt m.sealed (place_of m.history))
    where
      by : (b : Bool) → HasSealed (if b then with_group rules (next_group rules m) m else m)
      by true = more_sealed m has.within has
      by false = has

  pub times_sealed : (n : ℕ) (m : Machine) → HasSealed m → HasSealed (sealed_times n rules m)
  times_sealed zero m has = has
  times_sealed (suc n) m has = times_sealed n (sealed_once rules m) (once_sealed m has)

  once_history : (m : Machine) → (sealed_once rules m).history ≡ m.history
  once_history m = by (nat_lt m.sealed (place_of m.history))
    where
      by : (b : Bool) → (if b then with_group rules (next_group rules m) m else m).history ≡ m.history
      by true = refl
      by false = refl

  pub times_history : (n : ℕ) (m : Machine) → (sealed_times n rules m).history ≡ m.history
  times_history zero m = refl
  times_history (suc n) m = times_history n (sealed_once rules m) ∙ once_history m

  -- ---- other events

  kept_sealed : (m m2 : Machine) → KeepsSealed m m2 → AddsEntries m m2 → HasSealed m → HasSealed m2
  kept_sealed m m2 keeps adds has =
      let entries = m.history.entries in
      record {
        within = omega (arith, has.within, keeps.sealed, ap length adds.1, length-append entries adds.0);
        groups =
            ap (λ (gs : List (List Entry)). earlier ++ entries_of gs) keeps.groups ∙ has.groups
            ∙ sym (take-append-le m.sealed entries adds.0 has.within)
            ∙ ap (take m.sealed) (sym adds.1)
            ∙ ap (λ (n : ℕ). take n m2.history.entries) (sym keeps.sealed);
        sent = keeps.sent ∙ has.sent
            ∙ ap (λ (gs : List (List Entry)). flat_map rules.line_of (entries_of gs)) (sym keeps.groups);
      }

  same_sealed : (m m2 : Machine) → m2 ≡ m → HasSealed m → HasSealed m2
  same_sealed m m2 same has = subst HasSealed (sym same) has

  turn_sealed : (m : Machine) (e : Event) (v : Environment) (m2 : Machine) → Turn rules m e v m2 → HasSealed m
      → HasSealed m2
  turn_sealed m event.In v m2 turn has =
      kept_sealed m m2 (turn_keeps rules m event.In v m2 turn).0 (turn_adds rules m event.In v m2 turn) has
  turn_sealed m (event.Region region) v m2 turn has =
      let e = event.Region region in
      kept_sealed m m2 (turn_keeps rules m e v m2 turn).1 (turn_adds rules m e v m2 turn) has
  turn_sealed m event.Log NoFault m2 turn has = same_sealed (sealed_once rules m) m2 turn (once_sealed m has)
  turn_sealed m event.Log DeviceFault m2 turn has = absurd turn
  turn_sealed m event.Log OutOfMemory m2 turn has = absurd turn
  turn_sealed m event.Out v m2 turn has = same_sealed m m2 turn has
  turn_sealed m event.Ckpt NoFault m2 turn has =
      let n = place_of m.history - m.sealed in same_sealed (sealed_times n rules m) m2 turn (times_sealed n m has)
  turn_sealed m event.Ckpt DeviceFault m2 turn has =
      let n = place_of m.history - m.sealed in same_sealed (sealed_times n rules m) m2 turn (times_sealed n m has)
  turn_sealed m event.Ckpt OutOfMemory m2 turn has = absurd turn
  turn_sealed m (event.Purge set n) v m2 turn has =
      let e = event.Purge set n in
      kept_sealed m m2 (turn_keeps rules m e v m2 turn).1 (turn_adds rules m e v m2 turn) has

  -- ---- runs

  run_sealed : (m : Machine) (steps : List RunStep) (m2 : Machine) → Runs rules m steps m2 → HasSealed m → HasSealed m2
  run_sealed m [] m2 runs has = same_sealed m m2 runs has
  run_sealed m (step ∷ steps) m2 runs has =
      run_sealed step.after steps m2 runs.1 (turn_sealed m step.event step.environment step.after runs.0 has)

  rest_sealed : (lines : List (List ℕ)) (h : History) → h.entries ≡ earlier → HasSealed (at_rest rules lines h)
  rest_sealed lines h same = record {
    within = omega arith;
    groups = append-nil earlier ∙ sym same ∙ sym (take-length h.entries);
    sent = refl;
  }

  pub run_from_rest : (lines : List (List ℕ)) (h : History) (steps : List RunStep) (m : Machine) → h.entries ≡ earlier
      → Runs rules (at_rest rules lines h) steps m → HasSealed m
  run_from_rest lines h steps m same runs = run_sealed (at_rest rules lines h) steps m runs (rest_sealed lines h same)
