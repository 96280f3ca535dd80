-- Ways of exact turns from one machine are one: with the same befalling each, and where they are done and none lacks
-- memory.
use Rattle.std.proofs.Common.{◌≡◌, refl, sym, ◌∙◌, ap, subst, arith, ℕ, zero, suc, ◌+◌, ◌≤◌, List, [], ◌∷◌, ◌++◌, length, Option, Some, None}
use Rattle.std.specs.Prelude.{slice_get}
use Rattle.std.specs.List.{AllZip}
use Rattle.std.proofs.lemmas.List.{append_assoc, append-nil, length-append}
use Rattle.fp_model.specs.declared.definitions.Defs.{Defs}
use Rattle.fp_model.specs.declared.events.Event.{Event}
use Rattle.fp_model.specs.declared.events.Event.TheVariants as event
use Rattle.fp_model.specs.declared.log.Entry.{Entry}
use Rattle.fp_model.specs.declared.log.Outcome.TheVariants as outcome
use Rattle.fp_model.specs.declared.scripts.Script.{Script}
use Rattle.fp_model.specs.CheckpointText.{IsMsdbOf}
use Rattle.fp_model.specs.Machine.{Transaction, Region, Idle, Active, Machine, entry_of}
use Rattle.fp_model.specs.Product.{rules_of}
use Rattle.fp_model.specs.Rules.{Rules}
use Rattle.fp_model.specs.Runs.{IsDrained}
use Rattle.fp_model.specs.Serial.{refused_as}
use Rattle.fp_model.specs.Turns.{Environment, NoFault, DeviceFault, OutOfMemory, RegionTurn, Turn}
use Rattle.fp_model.proofs.FrameLemmas.{turn_adds}
use Rattle.fp_core.specs.Turning.{IsExactOfRegion, IsExactTurn}
use Rattle.schedule_runs.specs.Ways as ways
use Rattle.schedule_runs.specs.Ways.{Goes, NoneStarved, faults_in}
use Rattle.system_laws.proofs.Determined.{of_turn, turn_is_one}
use Rattle.plain_laws.proofs.Lists.{same_head, same_tail}

-- ---- lists with a first element

no_head : {X Any : Type 0} (x : X) (xs : List X) → [] ≡ x ∷ xs → Any
no_head x xs e = absurd cc

-- ---- with the same befalling each

-- where nothing is left of what befalls them, they have come to their end
goes_nowhere : {defs : Defs} {rules : Rules} {events left : List Event} {m here : Machine} {vs : List Environment}
    → Goes defs rules events m vs left here → [] ≡ vs → here ≡ m
goes_nowhere ways.here none = refl
goes_nowhere (ways.turn {v = v} {vs = vs} t exact rest) none = no_head v vs none
goes_nowhere (ways.again undone rest) none = goes_nowhere rest none

module _ (defs : Defs) (scripts : List Script) where
  abbrev Of : Machine → Type 0
  Of m = AllZip IsMsdbOf defs.msdbs m.history.now.msdbs

  -- the same turn from the same machine
  turned : (m m2 : Machine) (e e2 : Event) (v v2 : Environment) (mid mid2 : Machine) → m ≡ m2 → e ≡ e2 → v ≡ v2 → Of m
      → Turn (rules_of defs scripts) m e v mid → IsExactTurn defs (rules_of defs scripts) m e v mid
      → Turn (rules_of defs scripts) m2 e2 v2 mid2 → IsExactTurn defs (rules_of defs scripts) m2 e2 v2 mid2
      → mid ≡ mid2
  turned m m2 e e2 v v2 mid mid2 same same_e same_v of t x t2 x2 =
      turn_is_one defs scripts m e v mid mid2 of t x
      (subst (λ (y : Machine). Turn (rules_of defs scripts) y e v mid2) (sym same)
      (subst (λ (y : Event). Turn (rules_of defs scripts) m2 y v mid2) (sym same_e)
      (subst (λ (y : Environment). Turn (rules_of defs scripts) m2 e2 y mid2) (sym same_v) t2)))
      (subst (λ (y : Machine). IsExactTurn defs (rules_of defs scripts) y e v mid2) (sym same)
      (subst (λ (y : Event). IsExactTurn defs (rules_of defs scripts) m2 y v mid2) (sym same_e)
      (subst (λ (y : Environment). IsExactTurn defs (rules_of defs scripts) m2 e2 y mid2) (sym same_v) x2)))

  pub one_way : {events events2 left left2 : List Event} {m m2 here here2 : Machine} {vs vs2 : List Environment}
      → Goes defs (rules_of defs scripts) events m vs left here
      → Goes defs (rules_of defs scripts) events2 m2 vs2 left2 here2
      → events ≡ events2 → m ≡ m2 → vs ≡ vs2 → Of m → here ≡ here2
  one_way ways.here second same_events same same_vs of = same ∙ sym (goes_nowhere second same_vs)
  one_way (ways.turn {v = v} {vs = vs} t x rest) ways.here same_events same same_vs of =
      no_head v vs (sym same_vs)
  one_way (ways.turn {e = e} {events = es} {v = v} {vs = vs} {m = m} {mid = mid} t x rest)
      (ways.turn {e = e2} {events = es2} {v = v2} {vs = vs2} {m = m2} {mid = mid2} t2 x2 rest2)
      same_events same same_vs of =
      one_way rest rest2 (same_tail e e2 es es2 same_events)
      (turned m m2 e e2 v v2 mid mid2 same (same_head e e2 es es2 same_events) (same_head v v2 vs vs2 same_vs) of t x t2
      x2)
      (same_tail v v2 vs vs2 same_vs) (of_turn defs (rules_of defs scripts) m e v mid of t x)
  one_way (ways.turn {e = e} {events = es} t x rest) (ways.again undone2 rest2) same_events same same_vs of =
      no_head e es (sym same_events)
  one_way (ways.again undone rest) ways.here same_events same same_vs of =
      goes_nowhere rest (sym same_vs) ∙ same
  one_way (ways.again undone rest) (ways.turn {e = e2} {events = es2} t2 x2 rest2) same_events same same_vs of =
      no_head e2 es2 same_events
  one_way (ways.again undone rest) (ways.again undone2 rest2) same_events same same_vs of =
      one_way rest rest2 refl same same_vs of

-- ---- entries are only added

more_entries : {defs : Defs} {rules : Rules} {events left : List Event} {m here : Machine} {vs : List Environment}
    → Goes defs rules events m vs left here
    → (more : List Entry) × (here.history.entries ≡ m.history.entries ++ more)
more_entries {m = m} ways.here = ([], sym (append-nil m.history.entries))
more_entries {rules = rules} (ways.turn {e = e} {v = v} {m = m} {mid = mid} t x rest) =
    let first = turn_adds rules m e v mid t in
    let behind = more_entries rest in (
      first.0 ++ behind.0,
      behind.1 ∙ ap (λ (es : List Entry). es ++ behind.0) first.1
          ∙ append_assoc m.history.entries first.0 behind.0,
    )
more_entries (ways.again undone rest) = more_entries rest

at_end : (xs : List Entry) (x : Entry) (more : List Entry) → slice_get ((xs ++ x ∷ []) ++ more) (length xs) ≡ Some x
at_end [] x more = refl
at_end (y ∷ xs) x more = at_end xs x more

-- ---- where none lacks memory

module _ (defs : Defs) (rules : Rules) (count : ℕ) where
  -- a turn that nothing befalls
  abbrev Fair : Machine → Event → Machine → Type 0
  Fair m e mid = Turn rules m e NoFault mid × IsExactTurn defs rules m e NoFault mid

  -- a turn of which no entry lacks memory is one
  fair : (m : Machine) (e : Event) (v : Environment) (mid here : Machine) (more : List Entry)
      → here.history.entries ≡ mid.history.entries ++ more
      → count ≤ length m.history.entries → NoneStarved count here.history
      → ¬ (v ≡ DeviceFault) → Turn rules m e v mid → IsExactTurn defs rules m e v mid → Fair m e mid
  fair m e v mid here more are few none calm turn exact = by e v calm turn exact
    where
      starved : (place : ℕ) (t : Transaction) → mid.history.entries
          ≡ m.history.entries ++ entry_of t (refused_as outcome.Memory m.history.now) [] [] ∷ [] → ⊥
      starved place t is =
          let e : Entry = entry_of t (refused_as outcome.Memory m.history.now) [] [] in
          none (length m.history.entries) e few
          (ap (λ (es : List Entry). slice_get es (length m.history.entries))
          (are ∙ ap (λ (es : List Entry). es ++ more) is)
          ∙ at_end m.history.entries e more) refl

      of_region : (place : ℕ) (o : Option Region) (w : Environment) → ¬ (w ≡ DeviceFault)
          → RegionTurn rules m (suc place) o w mid → IsExactOfRegion defs rules m (suc place) o w mid
          → RegionTurn rules m (suc place) o NoFault mid × IsExactOfRegion defs rules m (suc place) o NoFault mid
      of_region place o NoFault c t x = (t, x)
      of_region place o DeviceFault c t x = absurd (c refl)
      of_region place None OutOfMemory c t x = absurd t
      of_region place (Some Idle) OutOfMemory c t x = absurd t
      of_region place (Some (Active a)) OutOfMemory c t x =
          absurd (starved place a (ap (λ (y : Machine). y.history.entries) t))

      by : (e : Event) (v : Environment) → ¬ (v ≡ DeviceFault) → Turn rules m e v mid
          → IsExactTurn defs rules m e v mid → Fair m e mid
      by event.In NoFault c t x = (t, x)
      by event.In DeviceFault c t x = absurd t
      by event.In OutOfMemory c t x = absurd t
      by (event.Region zero) w c t x = absurd t
      by (event.Region (suc place)) w c t x = of_region place (slice_get m.regions place) w c t x
      by event.Log NoFault c t x = (t, x)
      by event.Log DeviceFault c t x = absurd t
      by event.Log OutOfMemory c t x = absurd t
      by event.Out w c t x = (t, tt)
      by event.Ckpt NoFault c t x = (t, x)
      by event.Ckpt DeviceFault c t x = absurd (c refl)
      by event.Ckpt OutOfMemory c t x = absurd t
      by (event.Purge set n) w c t x = absurd x

-- no fault of the device befell the first, nor the others
calm_first : (v : Environment) (vs : List Environment) → faults_in (v ∷ vs) ≡ 0 → ¬ (v ≡ DeviceFault)
calm_first NoFault vs calm e = cc
calm_first DeviceFault vs calm e = absurd (omega (arith, calm))
calm_first OutOfMemory vs calm e = cc

calm_rest : (v : Environment) (vs : List Environment) → faults_in (v ∷ vs) ≡ 0 → faults_in vs ≡ 0
calm_rest NoFault vs calm = calm
calm_rest DeviceFault vs calm = absurd (omega (arith, calm))
calm_rest OutOfMemory vs calm = calm

module _ (defs : Defs) (scripts : List Script) (count : ℕ) where
  pub one_run : {events events2 left left2 : List Event} {m m2 here here2 : Machine} {vs vs2 : List Environment}
      → Goes defs (rules_of defs scripts) events m vs left here
      → Goes defs (rules_of defs scripts) events2 m2 vs2 left2 here2
      → events ≡ events2 → m ≡ m2 → left ≡ [] → left2 ≡ []
      → IsDrained (rules_of defs scripts) here → IsDrained (rules_of defs scripts) here2
      → faults_in vs ≡ 0 → faults_in vs2 ≡ 0
      → count ≤ length m.history.entries → NoneStarved count here.history → NoneStarved count here2.history
      → Of defs scripts m → here ≡ here2
  one_run ways.here ways.here es same l l2 d d2 c c2 few none none2 of = same
  one_run ways.here (ways.turn {e = e2} {events = es2} t2 x2 rest2) es same l l2 d d2 c c2 few none none2 of =
      no_head e2 es2 (sym l ∙ es)
  one_run ways.here (ways.again undone2 rest2) es same l l2 d d2 c c2 few none none2 of =
      absurd (undone2 (subst (λ (x : Machine). IsDrained (rules_of defs scripts) x) same d))
  one_run (ways.turn {e = e} {events = es} t x rest) ways.here same_es same l l2 d d2 c c2 few none none2 of =
      no_head e es (sym l2 ∙ sym same_es)
  one_run (ways.turn {e = e} {events = es} {v = v} {vs = vs} {m = m} {mid = mid} {m2 = here} t x rest)
      (ways.turn {e = e2} {events = es2} {v = v2} {vs = vs2} {m = m2} {mid = mid2} {m2 = here2} t2 x2 rest2)
      same_es same l l2 d d2 c c2 few none none2 of =
      let rules = rules_of defs scripts in
      let more = more_entries rest in
      let more2 = more_entries rest2 in
      let f = fair defs rules count m e v mid here more.0 more.1 few none (calm_first v vs c) t x in
      let few2 = subst (λ (y : Machine). count ≤ length y.history.entries) same few in
      let f2 = fair defs rules count m2 e2 v2 mid2 here2 more2.0 more2.1 few2 none2 (calm_first v2 vs2 c2) t2 x2 in
      let first = turn_adds rules m e v mid t in
      one_run rest rest2 (same_tail e e2 es es2 same_es)
      (turned defs scripts m m2 e e2 NoFault NoFault mid mid2 same (same_head e e2 es es2 same_es) refl of f.0 f.1 f2.0
      f2.1)
      l l2 d d2 (calm_rest v vs c) (calm_rest v2 vs2 c2)
      (omega (arith, few, ap (λ (ys : List Entry). length ys) first.1, length-append m.history.entries first.0))
      none none2 (of_turn defs rules m e v mid of t x)
  one_run (ways.turn {e = e} {events = es} t x rest) (ways.again undone2 rest2) same_es same l l2 d d2 c c2 few none
      none2 of =
      no_head e es (sym same_es)
  one_run (ways.again undone rest) ways.here es same l l2 d d2 c c2 few none none2 of =
      absurd (undone (subst (λ (x : Machine). IsDrained (rules_of defs scripts) x) (sym same) d2))
  one_run (ways.again undone rest) (ways.turn {e = e2} {events = es2} t2 x2 rest2) es same l l2 d d2 c c2 few none none2
      of =
      no_head e2 es2 es
  one_run (ways.again undone rest) (ways.again undone2 rest2) es same l l2 d d2 c c2 few none none2 of =
      one_run rest rest2 refl same l l2 d d2 c c2 few none none2 of
