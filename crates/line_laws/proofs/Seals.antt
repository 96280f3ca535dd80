-- What is sealed: the oldest entries of the run, each in one group, and their reply lines were sent.
use Rattle.std.proofs.Common.{◌≡◌, refl, sym, ◌∙◌, ap, subst, arith, ℕ, zero, suc, ◌+◌, ◌-◌, List, [], ◌∷◌, ◌++◌, length, take, drop, Bool, true, false}
use Rattle.std.specs.Prelude.{flat_map, if◌then◌else◌, nat_lt}
use Rattle.std.proofs.lemmas.Grind.{flat_map-append}
use Rattle.std.proofs.lemmas.List.{append-nil, append_assoc, drop_at, length-append, take-append-drop}
use Rattle.fp_model.specs.declared.events.Event.{Event}
use Rattle.fp_model.specs.declared.events.Event.TheVariants as event
use Rattle.fp_model.specs.declared.log.Entry.{Entry}
use Rattle.fp_model.specs.Frames.{KeepsSealed}
use Rattle.fp_model.specs.Groups.{entries_of}
use Rattle.fp_model.specs.History.{History, place_of}
use Rattle.fp_model.specs.Machine.{Machine, at_rest, next_group, sealed_once, sealed_times, with_group}
use Rattle.fp_model.specs.Rules.{Rules}
use Rattle.fp_model.specs.Runs.{RunStep, Runs}
use Rattle.fp_model.specs.Turns.{Environment, NoFault, DeviceFault, OutOfMemory, Turn}
use Rattle.fp_model.proofs.FrameLemmas.{turn_adds, turn_keeps}
use Rattle.model_laws.proofs.Entries.{entries_push}
use Rattle.plain_laws.proofs.Lists.{nil_by_length}

-- Behind the entries from before stand those of the groups, and then those that aren't sealed.
pub record AreSealed (rules : Rules) (before : List Entry) (m : Machine) : Type 0 where
  pub rest : List Entry
  pub entries : m.history.entries ≡ before ++ (entries_of m.groups ++ rest)
  pub count : m.sealed + length rest ≡ length m.history.entries
  pub sent : m.sent ≡ flat_map rules.line_of (entries_of m.groups)

module _ (rules : Rules) (before : List Entry) where
  -- entries are added, and no more are sealed
  adds : (m m2 : Machine) → KeepsSealed m m2 → (more : List Entry) → m2.history.entries ≡ m.history.entries ++ more
      → AreSealed rules before m → AreSealed rules before m2
  adds m m2 k more is s = record {
    rest = s.rest ++ more;
    entries =
        is ∙ ap (λ es. es ++ more) s.entries
        ∙ append_assoc before (entries_of m.groups ++ s.rest) more
        ∙ ap (λ es. before ++ es) (append_assoc (entries_of m.groups) s.rest more)
        ∙ ap (λ gs. before ++ (entries_of gs ++ (s.rest ++ more))) (sym k.groups);
    count =
        let long : length m2.history.entries ≡ length m.history.entries + length more
        = ap (λ (es : List Entry). length es) is ∙ length-append m.history.entries more in
        omega (arith, k.sealed, s.count, long, length-append s.rest more);
    sent = k.sent ∙ s.sent ∙ ap (λ gs. flat_map rules.line_of (entries_of gs)) (sym k.groups);
  }

  -- one group more
  group : (m : Machine) → AreSealed rules before m → AreSealed rules before (with_group rules (next_group rules m) m)
  group m s =
      let g = entries_of m.groups in
      let k = rules.log_group in
      let whole : length m.history.entries ≡ length (before ++ g) + length s.rest
      = ap (λ (es : List Entry). length es) (s.entries ∙ sym (append_assoc before g s.rest))
      ∙ length-append (before ++ g) s.rest in
      let at : length (before ++ g) ≡ m.sealed = omega (arith, whole, s.count) in
      let left : drop m.sealed m.history.entries ≡ s.rest
      = ap (λ (es : List Entry). drop m.sealed es) (s.entries ∙ sym (append_assoc before g s.rest))
      ∙ drop_at (before ++ g) s.rest m.sealed at in
      let next : next_group rules m ≡ take k s.rest = ap (λ (es : List Entry). take k es) left in
      let split : take k s.rest ++ drop k s.rest ≡ s.rest = take-append-drop k s.rest in
      record {
        rest = drop k s.rest;
        entries =
            s.entries ∙ ap (λ es. before ++ (g ++ es)) (sym split)
            ∙ ap (λ es. before ++ es) (sym (append_assoc g (take k s.rest) (drop k s.rest)))
            ∙ ap (λ es. before ++ ((g ++ es) ++ drop k s.rest)) (sym next)
            ∙ ap (λ es. before ++ (es ++ drop k s.rest)) (sym (entries_push m.groups (next_group rules m)));
        count =
            let parts : length s.rest ≡ length (take k s.rest) + length (drop k s.rest)
            = ap (λ (es : List Entry). length es) (sym split) ∙ length-append (take k s.rest) (drop k s.rest) in
            omega (arith, s.count, parts, ap (λ (es : List Entry). length es) next);
        sent =
            ap (λ text. text ++ flat_map rules.line_of (next_group rules m)) s.sent
            ∙ sym (flat_map-append rules.line_of g (next_group rules m))
            ∙ ap (λ es. flat_map rules.line_of es) (sym (entries_push m.groups (next_group rules m)));
      }

  once : (m : Machine) → AreSealed rules before m → AreSealed rules before (sealed_once rules m)
  once m s = by (nat_lt m.sealed (place_of m.history))
    where
      by : (b : Bool) → AreSealed rules before (if b then with_group rules (next_group rules m) m else m)
      by true = group m s
      by false = s

  times : (n : ℕ) (m : Machine) → AreSealed rules before m → AreSealed rules before (sealed_times n rules m)
  times zero m s = s
  times (suc n) m s = times n (sealed_once rules m) (once m s)

  led : (m m2 : Machine) → m2 ≡ m → AreSealed rules before m → AreSealed rules before m2
  led m m2 e s = subst (λ (x : Machine). AreSealed rules before x) (sym e) s

  sealed_turn : (m : Machine) (e : Event) (v : Environment) (m2 : Machine) → Turn rules m e v m2
      → AreSealed rules before m → AreSealed rules before m2
  sealed_turn m event.In v m2 d s =
      let more = turn_adds rules m event.In v m2 d in
      adds m m2 (turn_keeps rules m event.In v m2 d).0 more.0 more.1 s
  sealed_turn m (event.Region region) v m2 d s =
      let more = turn_adds rules m (event.Region region) v m2 d in
      adds m m2 (turn_keeps rules m (event.Region region) v m2 d).1 more.0 more.1 s
  sealed_turn m event.Log NoFault m2 d s = led (sealed_once rules m) m2 d (once m s)
  sealed_turn m event.Log DeviceFault m2 d s = absurd d
  sealed_turn m event.Log OutOfMemory m2 d s = absurd d
  sealed_turn m event.Out v m2 d s = led m m2 d s
  sealed_turn m event.Ckpt NoFault m2 d s =
      led (sealed_times (place_of m.history - m.sealed) rules m) m2 d (times (place_of m.history - m.sealed) m s)
  sealed_turn m event.Ckpt DeviceFault m2 d s =
      led (sealed_times (place_of m.history - m.sealed) rules m) m2 d (times (place_of m.history - m.sealed) m s)
  sealed_turn m event.Ckpt OutOfMemory m2 d s = absurd d
  sealed_turn m (event.Purge set n) v m2 d s =
      let more = turn_adds rules m (event.Purge set n) v m2 d in
      adds m m2 (turn_keeps rules m (event.Purge set n) v m2 d).1 more.0 more.1 s

  pub sealed_run : (steps : List RunStep) (m m2 : Machine) → Runs rules m steps m2
      → AreSealed rules before m → AreSealed rules before m2
  sealed_run [] m m2 runs s = led m m2 runs s
  sealed_run (step ∷ steps) m m2 runs s =
      sealed_run steps step.after m2 runs.1 (sealed_turn m step.event step.environment step.after runs.0 s)

-- at rest no group was sealed
pub rests_sealed : (rules : Rules) (lines : List (List ℕ)) (h : History)
    → AreSealed rules h.entries (at_rest rules lines h)
rests_sealed rules lines h = record {
  rest = [];
  entries = sym (append-nil h.entries);
  count = omega arith;
  sent = refl;
}

-- where all entries are sealed, the groups have all of the run
pub all_sealed : (rules : Rules) (before later : List Entry) (m : Machine) → m.sealed ≡ place_of m.history
    → m.history.entries ≡ before ++ later → AreSealed rules before m → entries_of m.groups ≡ later
all_sealed rules before later m all is s =
    let none : s.rest ≡ [] = nil_by_length s.rest (omega (arith, s.count, all)) in
    sym (drop_at before (entries_of m.groups) (length before) refl)
    ∙ ap (λ (es : List Entry). drop (length before) (before ++ es)) (sym (append-nil (entries_of m.groups)))
    ∙ ap (λ (es : List Entry). drop (length before) (before ++ (entries_of m.groups ++ es))) (sym none)
    ∙ ap (λ (es : List Entry). drop (length before) es) (sym s.entries ∙ is)
    ∙ drop_at before later (length before) refl
