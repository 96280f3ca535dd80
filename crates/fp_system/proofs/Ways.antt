-- Turns over a schedule and the drain: the run that they are, and the lines that they leave.
use Rattle.std.proofs.Common.{◌≡◌, refl, sym, ◌∙◌, ap, subst, arith, ℕ, zero, suc, ◌+◌, List, [], ◌∷◌, length, drop, Bool, true, false, Option, Some, None}
use Rattle.std.specs.Prelude.{if◌then◌else◌}
use Rattle.std.specs.List.{list_any}
use Rattle.std.specs.Option.{option_map_or}
use Rattle.std.proofs.lemmas.List.{length-drop}
use Rattle.fp_model.specs.declared.definitions.Defs.{Defs}
use Rattle.fp_model.specs.declared.events.Event.{Event}
use Rattle.fp_model.specs.declared.events.Event.TheVariants as event
use Rattle.fp_model.specs.declared.log.Entry.{Entry}
use Rattle.fp_model.specs.History.{History, Request, Accepts, Refuses}
use Rattle.fp_model.specs.Machine.{Machine, at_rest, is_among, next_line, taken_in, terminal_in, with_line, with_request_of, without_line}
use Rattle.fp_model.specs.Rules.{Rules}
use Rattle.fp_model.specs.Runs.{RunStep, Runs}
use Rattle.fp_model.specs.Turns.{Environment, NoFault, DeviceFault, OutOfMemory, Turn}
use Rattle.fp_model.proofs.FrameLemmas.{turn_keeps}
use Rattle.schedule_runs.specs.Ways.{Comes, Goes, here, turn, again}
use Rattle.sealed_runs.specs.Behind.{IsBehind}
use Rattle.fp_system.specs.Courses.{IsHistoryOf}
use Rattle.command_tasks.specs.Parts.{Job, rules_for}
use Rattle.plain_laws.proofs.Lists.{drop_more, drop_nil}

-- ---- the run

module _ (defs : Defs) (rules : Rules) where
  pub goes_runs : (events left : List Event) (m m2 : Machine) (vs : List Environment)
      → Goes defs rules events m vs left m2
      → (steps : List RunStep) × Runs rules m steps m2
  goes_runs events left m m2 vs here = ([], refl)
  goes_runs events left m m2 vs (turn {e = e} {events = more} {v = v} {vs = ws} {mid = mid} first exact rest) =
      let behind = goes_runs more left mid m2 ws rest in
      (record { event = e; environment = v; after = mid } ∷ behind.0, (first, behind.1))
  goes_runs events left m m2 vs (again left_to_do rest) = goes_runs _ left m m2 vs rest

-- a run that comes to a machine behind a history
pub comes_behind : (job : Job) (format : ℕ) (earlier : List Entry) (h : History) (lines : List (List ℕ)) (events left :
    List Event)
    (m : Machine) → IsHistoryOf job format earlier h
    → Comes job.defs (rules_for job) events (at_rest (rules_for job) lines h) left m
    → IsBehind job.defs job.scripts format earlier m
comes_behind job format earlier h lines events left m is comes =
    let steps = goes_runs job.defs (rules_for job) events left (at_rest (rules_for job) lines h) m comes.environments
    comes.goes
    in
    record {
      start = h;
      front = is.front;
      is_serial = is.is_serial;
      entries = is.entries;
      lines = lines;
      steps = steps.0;
      runs = steps.1;
      made = comes.made;
    }

-- ---- lines

abbrev IsRest : Machine → Machine → Type 0
IsRest m m2 = (k : ℕ) × (m2.lines ≡ drop k m.lines)

-- what is left of a list is told by how much there is
pub drop_least : {X : Type 0} (k n : ℕ) (xs : List X) → n + length (drop k xs) ≡ length xs → drop k xs ≡ drop n xs
drop_least zero n xs e = let none : n ≡ 0 = omega (arith, e) in ap (λ (j : ℕ). drop j xs) (sym none)
drop_least (suc k) n [] e = sym (drop_nil n)
drop_least (suc k) zero (x ∷ xs) e = absurd (omega (arith, e, length-drop k xs))
drop_least (suc k) (suc n) (x ∷ xs) e = drop_least k n xs (omega (arith, e))

module _ (rules : Rules) where
  request_lines : (line : List ℕ) (r : Request) (m : Machine) → (with_request_of rules line r m).lines ≡ m.lines
  request_lines line (Accepts message) m = refl
  request_lines line (Refuses outcome) m = refl

  line_lines : (line : List ℕ) (m : Machine) → (with_line rules line m).lines ≡ m.lines
  line_lines line m = by (list_any (is_among m.busy) (terminal_in (rules.terminal_of line)))
    where
      by : (b : Bool) → (if b then record m { held = Some line }
          else with_request_of rules line (rules.request_of m.history line) m).lines ≡ m.lines
      by true = refl
      by false = request_lines line (rules.request_of m.history line) m

  taken_off : (m : Machine) → IsRest m (without_line m)
  taken_off m = by m.held
    where
      by : (o : Option (List ℕ))
          → IsRest m (option_map_or (λ line. record m { held = None }) o (record m { lines = drop 1 m.lines }))
      by None = (1, refl)
      by (Some line) = (0, refl)

  in_rest : (m : Machine) → IsRest m (taken_in rules m)
  in_rest m = by (next_line m)
    where
      by : (o : Option (List ℕ)) → IsRest m (option_map_or (λ line. with_line rules line (without_line m)) o m)
      by None = (0, refl)
      by (Some line) = let off = taken_off m in (off.0, line_lines line (without_line m) ∙ off.1)

  same_rest : (m m2 : Machine) → m2 ≡ m → IsRest m m2
  same_rest m m2 e = (0, ap (λ (x : Machine). x.lines) e)

  turn_rest : (m : Machine) (e : Event) (v : Environment) (m2 : Machine) → Turn rules m e v m2 → IsRest m m2
  turn_rest m event.In NoFault m2 t = subst (IsRest m) (sym t) (in_rest m)
  turn_rest m event.In DeviceFault m2 t = absurd t
  turn_rest m event.In OutOfMemory m2 t = absurd t
  turn_rest m (event.Region region) v m2 t = (0, (turn_keeps rules m (event.Region region) v m2 t).0.lines)
  turn_rest m event.Log v m2 t = (0, (turn_keeps rules m event.Log v m2 t).0.lines)
  turn_rest m event.Out v m2 t = same_rest m m2 (turn_keeps rules m event.Out v m2 t)
  turn_rest m event.Ckpt v m2 t = (0, (turn_keeps rules m event.Ckpt v m2 t).0.lines)
  turn_rest m (event.Purge set n) v m2 t = (0, (turn_keeps rules m (event.Purge set n) v m2 t).0.lines)

  -- lines are only taken off in front
  pub goes_rest : (defs : Defs) (events left : List Event) (m m2 : Machine) (vs : List Environment)
      → Goes defs rules events m vs left m2 → IsRest m m2
  goes_rest defs events left m m2 vs here = (0, refl)
  goes_rest defs events left m m2 vs (turn {e = e} {events = more} {v = v} {vs = ws} {mid = mid} first exact rest) =
      let one = turn_rest m e v mid first in
      let behind = goes_rest defs more left mid m2 ws rest in
      (one.0 + behind.0, behind.1 ∙ ap (drop behind.0) one.1 ∙ drop_more one.0 behind.0 m.lines)
  goes_rest defs events left m m2 vs (again left_to_do rest) = goes_rest defs _ left m m2 vs rest
