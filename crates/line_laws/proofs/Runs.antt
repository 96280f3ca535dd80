-- Runs from rest: their entries answer just the lines.
use Rattle.std.proofs.Common.{◌≡◌, refl, sym, ◌∙◌, ap, arith, ℕ, zero, suc, ◌-◌, ◌≤◌, List, [], ◌∷◌, ◌++◌, length, drop, map, replicate, Bool, true, Option}
use Rattle.std.specs.Prelude.{filter, flat_map}
use Rattle.std.specs.List.{list_all}
use Rattle.std.proofs.lemmas.List.{append-nil, append_assoc, drop_at, length-append}
use Rattle.std.proofs.lemmas.List.Elements.{filter-append}
use Rattle.fp_model.specs.declared.calls.Message.{Message}
use Rattle.fp_model.specs.declared.log.Entry.{Entry}
use Rattle.fp_model.specs.declared.name.Name.{Name}
use Rattle.fp_model.specs.History.{History}
use Rattle.fp_model.specs.Machine.{Region, Idle, Active, Machine, at_rest}
use Rattle.fp_model.specs.Rules.{Rules}
use Rattle.fp_model.specs.Runs.{IsDrained, RunStep, Runs, is_empty, is_idle}
use Rattle.fp_model.proofs.FrameLemmas.{turn_adds}
use Rattle.drain_laws.specs.Live.{EndLaws, IsReached}
use Rattle.drain_laws.specs.Measure.{Gauge}
use Rattle.drain_laws.proofs.Rounds.{reached_then}
use Rattle.serial_order.specs.Kept.{Kept}
use Rattle.serial_order.specs.Laws.{Laws, View}
use Rattle.serial_order.proofs.Turns.{turn_kept}
use Rattle.line_laws.specs.Answered.{AreAnswered, answered_by, is_from, lines_answered}
use Rattle.line_laws.proofs.Counted.{few_of, free_of}
use Rattle.line_laws.proofs.Seals.{all_sealed, rests_sealed, sealed_run}
use Rattle.line_laws.proofs.Turned.{ahead, all_of, of, of_entry, of_held, of_queue, of_region, turned}
use Rattle.plain_laws.proofs.Places.{get_there}

-- ---- lists

flat_of : (rules : Rules) (p : List ℕ → Bool) (lines : List (List ℕ)) → flat_map (of rules p) lines ≡ filter p lines
flat_of rules p [] = refl
flat_of rules p (line ∷ lines) =
    ap (λ l. of rules p line ++ l) (flat_of rules p lines) ∙ sym (filter-append p (line ∷ []) lines)

flat_entries : (rules : Rules) (p : List ℕ → Bool) (es : List Entry)
    → flat_map (of_entry rules p) es ≡ filter p (lines_answered es)
flat_entries rules p [] = refl
flat_entries rules p (e ∷ es) =
    ap (λ l. of_entry rules p e ++ l) (flat_entries rules p es)
    ∙ sym (filter-append p (answered_by e.outcome e.line) (lines_answered es))

idle_none : (rules : Rules) (p : List ℕ → Bool) (groups : List ℕ)
    → flat_map (of_region rules p) (map (λ group. Idle) groups) ≡ []
idle_none rules p [] = refl
idle_none rules p (g ∷ gs) = idle_none rules p gs

queues_none : (rules : Rules) (p : List ℕ → Bool) (n : ℕ) → flat_map (of_queue rules p) (replicate n []) ≡ []
queues_none rules p zero = refl
queues_none rules p (suc n) = queues_none rules p n

all_idle : (rules : Rules) (p : List ℕ → Bool) (regions : List Region) → list_all (is_idle rules) regions ≡ true
    → flat_map (of_region rules p) regions ≡ []
all_idle rules p [] e = refl
all_idle rules p (Idle ∷ rs) e = all_idle rules p rs e
all_idle rules p (Active t ∷ rs) e = absurd cc

all_empty : (rules : Rules) (p : List ℕ → Bool) (queues : List (List Message))
    → list_all (is_empty rules) queues ≡ true → flat_map (of_queue rules p) queues ≡ []
all_empty rules p [] e = refl
all_empty rules p ([] ∷ qs) e = all_empty rules p qs e
all_empty rules p ((x ∷ q) ∷ qs) e = absurd cc

-- ---- runs

module _ (rules : Rules) (gauge : Gauge) (ends : EndLaws rules gauge) (view : View) (order : Laws rules view) where
  run_adds : (steps : List RunStep) (m m2 : Machine) → Runs rules m steps m2
      → (more : List Entry) × (m2.history.entries ≡ m.history.entries ++ more)
  run_adds [] m m2 runs = ([], ap (λ (x : Machine). x.history.entries) runs ∙ sym (append-nil m.history.entries))
  run_adds (s ∷ steps) m m2 runs =
      let one = turn_adds rules m s.event s.environment s.after runs.0 in
      let rest = run_adds steps s.after m2 runs.1 in (
        one.0 ++ rest.0,
        rest.1 ∙ ap (λ (es : List Entry). es ++ rest.0) one.1 ∙ append_assoc m.history.entries one.0 rest.0,
      )

  run_same : (terminal : Option Name) (n : ℕ) (steps : List RunStep) (m m2 : Machine) → n ≤ length m.history.entries
      → Kept rules view m → IsReached rules gauge m → Runs rules m steps m2
      → all_of rules (is_from rules terminal) n m2 ≡ all_of rules (is_from rules terminal) n m
  run_same terminal n [] m m2 long k h runs = ap (λ (x : Machine). all_of rules (is_from rules terminal) n x) runs
  run_same terminal n (s ∷ steps) m m2 long k h runs =
      let one = turn_adds rules m s.event s.environment s.after runs.0 in
      run_same terminal n steps s.after m2
      (omega (arith, long, ap (λ (es : List Entry). length es) one.1, length-append m.history.entries one.0))
      (turn_kept rules view order m s.event s.environment s.after runs.0 k)
      (reached_then rules gauge ends view order m s.event s.environment s.after h runs.0) runs.1
      ∙ turned rules (is_from rules terminal) n m long (few_of rules view order m k terminal) order.lines order.refuses
      (λ past line message is. get_there m.queues (rules.group_of message - 1)
      (omega (arith, ends.routed past line message is, h.live.queues)))
      (λ line free. free_of rules view order m k terminal line free) s.event s.environment s.after runs.0

  pub run_answers : (lines : List (List ℕ)) (start : History) (steps : List RunStep) (m : Machine)
      → Kept rules view (at_rest rules lines start) → IsReached rules gauge (at_rest rules lines start)
      → Runs rules (at_rest rules lines start) steps m → IsDrained rules m
      → AreAnswered rules lines start.entries m
  run_answers lines start steps m k h runs drained =
      let adds = run_adds steps (at_rest rules lines start) m runs in
      let s = sealed_run rules start.entries steps (at_rest rules lines start) m runs
      (rests_sealed rules lines start) in
      let sealed = all_sealed rules start.entries adds.0 m drained.no_unsealed adds.1 s in
      record {
        later = adds.0;
        entries = adds.1;
        sealed = sealed;
        sent = s.sent ∙ ap (λ (es : List Entry). flat_map rules.line_of es) sealed;
        in_order = λ terminal.
            let p : List ℕ → Bool = is_from rules terminal in
            let n = length start.entries in
            let same = run_same terminal n steps (at_rest rules lines start) m (omega arith) k h runs in
            sym (flat_entries rules p adds.0)
            ∙ ap (λ (es : List Entry). flat_map (of_entry rules p) es)
            (sym (ap (λ (es : List Entry). drop n es) adds.1 ∙ drop_at start.entries adds.0 n refl))
            ∙ sym (at_end p n drained) ∙ same ∙ at_first p lines start;
      }
    where
      at_end : (p : List ℕ → Bool) (n : ℕ) → IsDrained rules m
          → all_of rules p n m ≡ flat_map (of_entry rules p) (drop n m.history.entries)
      at_end p n d =
          let done = flat_map (of_entry rules p) (drop n m.history.entries) in
          ap (λ l. done ++ ((l ++ flat_map (of_queue rules p) m.queues)
          ++ ahead rules p m)) (all_idle rules p m.regions d.no_active)
          ∙ ap (λ l. done ++ (l ++ ahead rules p m))
          (all_empty rules p m.queues d.no_message)
          ∙ ap (λ (h : Option (List ℕ)). done ++ (of_held rules p h
          ++ flat_map (of rules p) m.lines)) d.no_held
          ∙ ap (λ ls. done ++ flat_map (of rules p) ls) d.no_line
          ∙ append-nil done

      at_first : (p : List ℕ → Bool) (ls : List (List ℕ)) (h : History)
          → all_of rules p (length h.entries) (at_rest rules ls h) ≡ filter p ls
      at_first p ls h =
          let lines_ahead = flat_map (of rules p) ls in
          ap (λ (es : List Entry). flat_map (of_entry rules p) es ++ ((flat_map (of_region rules p)
          (map (λ group. Idle) rules.regions) ++ flat_map (of_queue rules p) (replicate rules.group_count []))
          ++ lines_ahead)) (drop_end h.entries)
          ∙ ap (λ l. (l ++ flat_map (of_queue rules p) (replicate rules.group_count [])) ++ lines_ahead)
          (idle_none rules p rules.regions)
          ∙ ap (λ l. l ++ lines_ahead) (queues_none rules p rules.group_count)
          ∙ flat_of rules p ls
        where
          drop_end : (es : List Entry) → drop (length es) es ≡ []
          drop_end [] = refl
          drop_end (e ∷ es) = drop_end es
