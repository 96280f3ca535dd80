-- What was sealed in a run stands in all later ones, so a message has one effect and one line over all of them.
use Rattle.std.proofs.Common.{◌≡◌, ℕ, zero, suc, ◌-◌, ◌<◌, ◌≤◌, List, [], ◌∷◌, ◌++◌, length, take, drop, Option, Some, None, inl, inr, refl, sym, ◌∙◌, ap, subst, Bool, true, false, if◌then◌else◌, arith, slice_get, append_assoc}
use Rattle.std.specs.Prelude.{nat_lt}
use Rattle.std.specs.List.{Contains, list_any}
use Rattle.std.specs.Option.{option_map_or}
use Rattle.std.proofs.lemmas.List.{append-nil, take-append-le, take-append-drop}
use Rattle.fp_model.specs.declared.definitions.Defs.{Defs}
use Rattle.fp_model.specs.declared.calls.Message.{Message}
use Rattle.fp_model.specs.declared.events.Event.{Event}
use Rattle.fp_model.specs.declared.events.Event.TheVariants as event
use Rattle.fp_model.specs.declared.log.Entry.{Entry}
use Rattle.fp_model.specs.declared.log.Outcome.{Outcome}
use Rattle.fp_model.specs.declared.log.Outcome.TheVariants as outcome
use Rattle.fp_model.specs.declared.name.Name.{Name}
use Rattle.fp_model.specs.declared.scripts.Script.{Script}
use Rattle.fp_model.specs.History.{History, Request, Accepts, Refuses, place_of}
use Rattle.fp_model.specs.Lasts.{uses_number}
use Rattle.fp_model.specs.Product.{rules_of}
use Rattle.fp_model.specs.ReplyLine.{line_text}
use Rattle.fp_model.specs.Rules.{Rules}
use Rattle.fp_model.specs.SerialHistory.{IsSerial}
use Rattle.fp_model.specs.Messages.{message_of}
use Rattle.fp_model.specs.Lasts.{format_at}
use Rattle.fp_model.specs.Machine.{Transaction, Region, Idle, Active, Machine, at_rest, is_among, terminal_in, next_line, without_line, with_request_of, with_line, taken_in, next_group, with_group, sealed_once, sealed_times}
use Rattle.fp_model.specs.Turns.{Environment, NoFault, DeviceFault, OutOfMemory, Act, Answers, Gains, Waits, Deadlocks, Retries_at_cycle, Finishes, Retries_at_verify, Does, messages_for, begins_in, RegionTurn, is_area_held, PurgeTurn, Turn}
use Rattle.fp_model.specs.Runs.{RunStep, Runs}
use Rattle.fp_model.specs.WellFormed.{AreDefs}
use Rattle.fp_model.proofs.FrameLemmas.{turn_keeps, turn_adds}
use Rattle.serial_order.specs.ProductView.{view_of}
use Rattle.serial_order.proofs.ProductLaws.{laws_of}
use Rattle.serial_order.proofs.Turns.{run_kept, rest_kept, at_rest_rests}
use Rattle.run_laws.specs.Fresh.{IsNumbered}
use Rattle.run_laws.specs.Lives.{GoesOnBehind, Lives}
use Rattle.run_laws.proofs.Once.{get_taken, numbered_more, used_once, repeats_line}
use Rattle.plain_laws.proofs.Alls.{contains_cases, contains_nothing}
use Rattle.std.proofs.lemmas.Option.{same_Some}

-- ---- a run takes nothing back

module _ (rules : Rules) where
  once_more : (m : Machine) → m.sealed ≤ (sealed_once rules m).sealed
  once_more m = by (nat_lt m.sealed (place_of m.history))
    where
      by : (b : Bool) → m.sealed ≤ (if b then with_group rules (next_group rules m) m else m).sealed
      by true = omega arith
      by false = omega arith

  times_more : (n : ℕ) (m : Machine) → m.sealed ≤ (sealed_times n rules m).sealed
  times_more zero m = omega arith
  times_more (suc n) m = omega (arith, once_more m, times_more n (sealed_once rules m))

  same_sealed : (m m2 : Machine) → m2 ≡ m → m.sealed ≤ m2.sealed
  same_sealed m m2 e = omega (arith, ap (λ (x : Machine). x.sealed) e)

  -- no turn unseals
  turn_seals : (m : Machine) (e : Event) (v : Environment) (m2 : Machine) → Turn rules m e v m2 → m.sealed ≤ m2.sealed
  turn_seals m event.In v m2 turn = omega (arith, (turn_keeps rules m event.In v m2 turn).0.sealed)
  turn_seals m (event.Region region) v m2 turn =
      omega (arith, (turn_keeps rules m (event.Region region) v m2 turn).1.sealed)
  turn_seals m event.Log NoFault m2 turn = omega (arith, once_more m, ap (λ (x : Machine). x.sealed) turn)
  turn_seals m event.Log DeviceFault m2 turn = absurd turn
  turn_seals m event.Log OutOfMemory m2 turn = absurd turn
  turn_seals m event.Out v m2 turn = same_sealed m m2 turn
  turn_seals m event.Ckpt NoFault m2 turn =
      omega (arith, times_more (place_of m.history - m.sealed) m, ap (λ (x : Machine). x.sealed) turn)
  turn_seals m event.Ckpt DeviceFault m2 turn =
      omega (arith, times_more (place_of m.history - m.sealed) m, ap (λ (x : Machine). x.sealed) turn)
  turn_seals m event.Ckpt OutOfMemory m2 turn = absurd turn
  turn_seals m (event.Purge set n) v m2 turn =
      omega (arith, (turn_keeps rules m (event.Purge set n) v m2 turn).1.sealed)

  run_seals : (m : Machine) (steps : List RunStep) (m2 : Machine) → Runs rules m steps m2 → m.sealed ≤ m2.sealed
  run_seals m [] m2 runs = same_sealed m m2 runs
  run_seals m (s ∷ steps) m2 runs =
      omega (arith, turn_seals m s.event s.environment s.after runs.0, run_seals s.after steps m2 runs.1)

  -- entries are only added
  run_adds : (m : Machine) (steps : List RunStep) (m2 : Machine) → Runs rules m steps m2
      → (more : List Entry) × (m2.history.entries ≡ m.history.entries ++ more)
  run_adds m [] m2 runs =
      ([], ap (λ (x : Machine). x.history.entries) runs ∙ sym (append-nil m.history.entries))
  run_adds m (s ∷ steps) m2 runs =
      let first = turn_adds rules m s.event s.environment s.after runs.0 in
      let rest = run_adds s.after steps m2 runs.1 in (
        first.0 ++ rest.0,
        rest.1 ∙ ap (λ (es : List Entry). es ++ rest.0) first.1
            ∙ append_assoc m.history.entries first.0 rest.0,
      )

  -- ---- nor is the front's format changed

  act_format : (m : Machine) (place : ℕ) (t : Transaction) (act : Act) (m2 : Machine)
      → Does rules m (suc place) t act m2
      → m2.history.format ≡ m.history.format
  act_format m place t (Answers call) m2 d = ap (λ (x : Machine). x.history.format) d.2
  act_format m place t (Gains needed) m2 d = ap (λ (x : Machine). x.history.format) d.2
  act_format m place t (Waits needed) m2 d = ap (λ (x : Machine). x.history.format) d.3
  act_format m place t (Deadlocks needed cycle) m2 d = ap (λ (x : Machine). x.history.format) d.2
  act_format m place t (Retries_at_cycle needed cycle) m2 d = ap (λ (x : Machine). x.history.format) d.2
  act_format m place t (Finishes ending items) m2 d = ap (λ (x : Machine). x.history.format) d.3
  act_format m place t (Retries_at_verify ending) m2 d = ap (λ (x : Machine). x.history.format) d.3

  idle_format : (m : Machine) (place : ℕ) (messages : List Message)
      → (begins_in rules m (suc place) messages).history.format ≡ m.history.format
  idle_format m place [] = refl
  idle_format m place (message ∷ messages) = refl

  region_format : (m : Machine) (place : ℕ) (region : Option Region) (v : Environment) (m2 : Machine)
      → RegionTurn rules m (suc place) region v m2
      → m2.history.format ≡ m.history.format
  region_format m place None v m2 turn = absurd turn
  region_format m place (Some Idle) NoFault m2 turn =
      ap (λ (x : Machine). x.history.format) turn ∙ idle_format m place (messages_for rules m (suc place))
  region_format m place (Some Idle) DeviceFault m2 turn = absurd turn
  region_format m place (Some Idle) OutOfMemory m2 turn = absurd turn
  region_format m place (Some (Active t)) NoFault m2 turn = act_format m place t turn.0 m2 turn.1
  region_format m place (Some (Active t)) DeviceFault m2 turn = ap (λ (x : Machine). x.history.format) turn
  region_format m place (Some (Active t)) OutOfMemory m2 turn = ap (λ (x : Machine). x.history.format) turn

  line_format : (m : Machine) (line : List ℕ) → (with_line rules line m).history.format ≡ m.history.format
  line_format m line = by (list_any (is_among m.busy) (terminal_in (rules.terminal_of line)))
    where
      asked : (r : Request) → (with_request_of rules line r m).history.format ≡ m.history.format
      asked (Accepts message) = refl
      asked (Refuses o) = refl

      by : (b : Bool) → (if b then record m { held = Some line }
          else with_request_of rules line (rules.request_of m.history line) m).history.format ≡ m.history.format
      by true = refl
      by false = asked (rules.request_of m.history line)

  in_format : (m : Machine) → (taken_in rules m).history.format ≡ m.history.format
  in_format m = by (next_line m)
    where
      without : (o : Option (List ℕ))
          → (option_map_or (λ (line : List ℕ). record m { held = None }) o
          (record m { lines = drop 1 m.lines })).history.format ≡ m.history.format
      without None = refl
      without (Some line) = refl

      by : (o : Option (List ℕ))
          → (option_map_or (λ line. with_line rules line (without_line m)) o m).history.format ≡ m.history.format
      by None = refl
      by (Some line) = line_format (without_line m) line ∙ without m.held

  purge_format : (m : Machine) (set n : ℕ) (held : Bool) (m2 : Machine) → PurgeTurn rules m set n held m2
      → m2.history.format ≡ m.history.format
  purge_format m set n true m2 turn = ap (λ (x : Machine). x.history.format) turn
  purge_format m set n false m2 turn = ap (λ (x : Machine). x.history.format) turn.after

  turn_format : (m : Machine) (e : Event) (v : Environment) (m2 : Machine) → Turn rules m e v m2
      → m2.history.format ≡ m.history.format
  turn_format m event.In NoFault m2 turn = ap (λ (x : Machine). x.history.format) turn ∙ in_format m
  turn_format m event.In DeviceFault m2 turn = absurd turn
  turn_format m event.In OutOfMemory m2 turn = absurd turn
  turn_format m (event.Region zero) v m2 turn = absurd turn
  turn_format m (event.Region (suc place)) v m2 turn = region_format m place _ v m2 turn
  turn_format m event.Log v m2 turn = ap (λ (h : History). h.format) (turn_keeps rules m event.Log v m2 turn).3
  turn_format m event.Out v m2 turn = ap (λ (x : Machine). x.history.format) turn
  turn_format m event.Ckpt v m2 turn = ap (λ (h : History). h.format) (turn_keeps rules m event.Ckpt v m2 turn).3
  turn_format m (event.Purge set n) NoFault m2 turn = purge_format m set n (is_area_held rules m set) m2 turn
  turn_format m (event.Purge set n) DeviceFault m2 turn = ap (λ (x : Machine). x.history.format) turn
  turn_format m (event.Purge set n) OutOfMemory m2 turn = ap (λ (x : Machine). x.history.format) turn

  run_format : (m : Machine) (steps : List RunStep) (m2 : Machine) → Runs rules m steps m2
      → m2.history.format ≡ m.history.format
  run_format m [] m2 runs = ap (λ (x : Machine). x.history.format) runs
  run_format m (s ∷ steps) m2 runs =
      run_format s.after steps m2 runs.1 ∙ turn_format m s.event s.environment s.after runs.0

-- ---- lists

-- a first part of a first part
take_less : {X : Type 0} (xs : List X) (n k : ℕ) → n ≤ k → take n (take k xs) ≡ take n xs
take_less xs zero k h = refl
take_less xs (suc n) zero h = absurd (omega (arith, h))
take_less [] (suc n) (suc k) h = refl
take_less (x ∷ xs) (suc n) (suc k) h = ap (λ q. x ∷ q) (take_less xs n k (omega (arith, h)))

taken_enough : {X : Type 0} (xs : List X) (n k : ℕ) → n ≤ k → n ≤ length xs → n ≤ length (take k xs)
taken_enough xs zero k h l = omega arith
taken_enough xs (suc n) zero h l = absurd (omega (arith, h))
taken_enough [] (suc n) (suc k) h l = absurd (omega (arith, l))
taken_enough (x ∷ xs) (suc n) (suc k) h l =
    let r = taken_enough xs n k (omega (arith, h)) (omega (arith, l)) in omega (arith, r)

-- what stands at a place within a first part
get_in : {X : Type 0} (xs : List X) (n i : ℕ) → i < n → slice_get (take n xs) i ≡ slice_get xs i
get_in xs zero i h = absurd (omega (arith, h))
get_in [] (suc n) i h = refl
get_in (x ∷ xs) (suc n) zero h = refl
get_in (x ∷ xs) (suc n) (suc i) h = get_in xs n i (omega (arith, h))

same_place : {X : Type 0} (xs ys : List X) (n i : ℕ) → i < n → take n xs ≡ take n ys → slice_get xs i ≡ slice_get ys i
same_place xs ys n i h same = sym (get_in xs n i h) ∙ ap (λ zs. slice_get zs i) same ∙ get_in ys n i h

-- an entry within both first parts
numbered_in : (format : ℕ) (entries entries2 : List Entry) (sealed place : ℕ) (e : Entry) (name : Name) (number : ℕ)
    → take sealed entries2 ≡ take sealed entries
    → place < sealed
    → IsNumbered format entries place e name number
    → IsNumbered format (take sealed entries2) place e name number
numbered_in format entries entries2 sealed place e name number same less n =
    subst (λ (es : List Entry). IsNumbered format es place e name number) (sym same)
    (let at = get_taken entries sealed place e less n.stands in record {
      stands = at.0;
      message = n.message;
      reads = ap (λ (es : List Entry). message_of (format_at format es) e.line) at.1 ∙ n.reads;
      is_from = n.is_from;
      has = n.has;
    })

module _ (defs : Defs) (scripts : List Script) (are : AreDefs defs) (format : ℕ) where
  abbrev rules_here : Rules
  rules_here = rules_of defs scripts

  -- what is so of the machine of a run behind a stop
  record IsBehind (before : List Entry) (sealed : ℕ) (m : Machine) : Type 0 where
    serial : IsSerial (rules_of defs scripts) m.history
    same_format : m.history.format ≡ format
    within : m.sealed ≤ place_of m.history
    more : sealed ≤ m.sealed
    same : take sealed m.history.entries ≡ take sealed before

  behind_stop : (before : List Entry) (sealed : ℕ) (m : Machine) → sealed ≤ length before
      → GoesOnBehind (rules_of defs scripts) format before sealed m
      → IsBehind before sealed m
  behind_stop before sealed m few g =
      let rest : Machine = at_rest (rules_of defs scripts) g.lines g.start in
      let kept = run_kept (rules_of defs scripts) (view_of defs) (laws_of defs scripts are.each_msdb) rest g.steps m
      g.runs (rest_kept (rules_of defs scripts) (view_of defs) rest
      (at_rest_rests (rules_of defs scripts) g.lines g.start g.is_serial)) in
      let adds = run_adds (rules_of defs scripts) rest g.steps m g.runs in
      let counted : length g.start.entries ≡ length (take g.kept before)
      = ap (λ (es : List Entry). length es) g.part in
      let enough = taken_enough before sealed g.kept g.has_sealed few in
      record {
        serial = kept.history;
        same_format = run_format (rules_of defs scripts) rest g.steps m g.runs ∙ g.same_format;
        within = kept.terminals.sealed;
        more = omega (arith, run_seals (rules_of defs scripts) rest g.steps m g.runs, counted, enough);
        same = ap (λ (es : List Entry). take sealed es) adds.1
            ∙ take-append-le sealed g.start.entries adds.0 (omega (arith, counted, enough))
            ∙ ap (λ (es : List Entry). take sealed es) g.part ∙ take_less before sealed g.kept g.has_sealed;
      }

  -- a list that agrees in more agrees in less
  agrees_less : (xs ys : List Entry) (n k : ℕ) → n ≤ k → take k xs ≡ take k ys → take n xs ≡ take n ys
  agrees_less xs ys n k h e =
      sym (take_less xs n k h) ∙ ap (λ (es : List Entry). take n es) e ∙ take_less ys n k h

  -- The last of the machines has all that was sealed before, and in each run.
  record HasAll (before : List Entry) (sealed : ℕ) (ms : List Machine) : Type 0 where
    last : History
    serial : IsSerial (rules_of defs scripts) last
    same_format : last.format ≡ format
    begins : take sealed last.entries ≡ take sealed before
    has : (m : Machine) → Contains ms m → take m.sealed last.entries ≡ take m.sealed m.history.entries

  all_of : (before : List Entry) (sealed : ℕ) (m : Machine) (ms : List Machine) → sealed ≤ length before
      → GoesOnBehind (rules_of defs scripts) format before sealed m
      → Lives (rules_of defs scripts) format m.history.entries m.sealed ms
      → HasAll before sealed (m ∷ ms)
  all_of before sealed m [] few g lives =
      let b = behind_stop before sealed m few g in
      record {
        last = m.history;
        serial = b.serial;
        same_format = b.same_format;
        begins = b.same;
        has = λ x c. elim (contains_cases m [] x c) [
          | inl same ↦ subst (λ (y : Machine). take y.sealed m.history.entries ≡ take y.sealed y.history.entries)
              same refl
          | inr none ↦ absurd (contains_nothing x none)
        ];
      }
  all_of before sealed m (n ∷ ns) few g lives =
      let b = behind_stop before sealed m few g in
      let rest = all_of m.history.entries m.sealed n ns b.within lives.0 lives.1 in
      record {
        last = rest.last;
        serial = rest.serial;
        same_format = rest.same_format;
        begins = agrees_less rest.last.entries m.history.entries sealed m.sealed b.more rest.begins ∙ b.same;
        has = λ x c. elim (contains_cases m (n ∷ ns) x c) [
          | inl same ↦ subst (λ (y : Machine). take y.sealed rest.last.entries ≡ take y.sealed y.history.entries)
              same rest.begins
          | inr later ↦ rest.has x later
        ];
      }

  lives_have : (before : List Entry) (sealed : ℕ) (ms : List Machine) (m : Machine) → sealed ≤ length before
      → Lives (rules_of defs scripts) format before sealed ms
      → Contains ms m
      → HasAll before sealed ms
  lives_have before sealed [] m few lives c = absurd (contains_nothing m c)
  lives_have before sealed (n ∷ ns) m few lives c = all_of before sealed n ns few lives.0 lives.1

  -- each machine has a serial history
  each_serial : (before : List Entry) (sealed : ℕ) (ms : List Machine) (m : Machine) → sealed ≤ length before
      → Lives (rules_of defs scripts) format before sealed ms
      → Contains ms m
      → IsSerial (rules_of defs scripts) m.history × (m.history.format ≡ format)
  each_serial before sealed [] m few lives c = absurd (contains_nothing m c)
  each_serial before sealed (n ∷ ns) m few lives c =
      let b = behind_stop before sealed n few lives.0 in
      elim (contains_cases n ns m c) [
        | inl same ↦ subst (λ (x : Machine). IsSerial (rules_of defs scripts) x.history × (x.history.format ≡ format))
            same (b.serial, b.same_format)
        | inr later ↦ each_serial n.history.entries n.sealed ns m b.within lives.1 later
      ]

  -- a run behind a stop is one where nothing had to be kept
  none_needed : (before : List Entry) (sealed : ℕ) (m : Machine)
      → GoesOnBehind (rules_of defs scripts) format before sealed m
      → GoesOnBehind (rules_of defs scripts) format before 0 m
  none_needed before sealed m g = record {
    start = g.start;
    is_serial = g.is_serial;
    same_format = g.same_format;
    kept = g.kept;
    part = g.part;
    has_sealed = omega arith;
    lines = g.lines;
    steps = g.steps;
    runs = g.runs;
  }

  -- ---- places

  -- all of them begin with what was sealed before
  all_begin : (before : List Entry) (sealed : ℕ) (ms : List Machine) (m : Machine) → sealed ≤ length before
      → Lives (rules_of defs scripts) format before sealed ms
      → Contains ms m
      → take sealed m.history.entries ≡ take sealed before
  all_begin before sealed [] m few lives c = absurd (contains_nothing m c)
  all_begin before sealed (n ∷ ns) m few lives c =
      let b = behind_stop before sealed n few lives.0 in
      elim (contains_cases n ns m c) [
        | inl same ↦ subst (λ (x : Machine). take sealed x.history.entries ≡ take sealed before) same b.same
        | inr later ↦ agrees_less m.history.entries n.history.entries sealed n.sealed b.more
            (all_begin n.history.entries n.sealed ns m b.within lives.1 later) ∙ b.same
      ]

  -- What was sealed before stands.
  pub sealed_before : (before : List Entry) (sealed : ℕ) (ms : List Machine) (m : Machine) (i : ℕ)
      → sealed ≤ length before
      → Lives (rules_of defs scripts) format before sealed ms
      → Contains ms m
      → i < sealed
      → slice_get m.history.entries i ≡ slice_get before i
  sealed_before before sealed ms m i few lives c less =
      same_place m.history.entries before sealed i less (all_begin before sealed ms m few lives c)

  -- And what was sealed in a run stands in the later ones.
  pub sealed_later : (before : List Entry) (sealed : ℕ) (m : Machine) (ms : List Machine) (m2 : Machine) (i : ℕ)
      → Lives (rules_of defs scripts) format before sealed (m ∷ ms)
      → Contains ms m2
      → i < m.sealed
      → slice_get m2.history.entries i ≡ slice_get m.history.entries i
  sealed_later before sealed m ms m2 i lives c less =
      let b = behind_stop before 0 m (omega arith) (none_needed before sealed m lives.0) in
      sealed_before m.history.entries m.sealed ms m2 i b.within lives.1 c less

  -- ---- over all runs

  -- an entry that was sealed, in the last history
  in_last : (before : List Entry) (ms : List Machine) (a : HasAll before 0 ms) (m : Machine) (place : ℕ) (e : Entry)
      → (name : Name) (number : ℕ)
      → Contains ms m
      → place < m.sealed
      → IsNumbered format m.history.entries place e name number
      → IsNumbered a.last.format a.last.entries place e name number
  in_last before ms a m place e name number c less n =
      let first = numbered_in format m.history.entries a.last.entries m.sealed place e name number (a.has m c) less n in
      let whole = subst (λ (es : List Entry). IsNumbered format es place e name number)
      (take-append-drop m.sealed a.last.entries)
      (numbered_more defs scripts format (take m.sealed a.last.entries) (drop m.sealed a.last.entries) place e name
      number first) in
      subst (λ (f : ℕ). IsNumbered f a.last.entries place e name number) (sym a.same_format) whole

  -- fewer were sealed before
  from_none : (before : List Entry) (sealed : ℕ) (ms : List Machine)
      → Lives (rules_of defs scripts) format before sealed ms
      → Lives (rules_of defs scripts) format before 0 ms
  from_none before sealed [] lives = tt
  from_none before sealed (m ∷ ms) lives = (none_needed before sealed m lives.0, lives.1)

  module _ (before : List Entry) (sealed : ℕ) (ms : List Machine)
      (runs : Lives (rules_of defs scripts) format before sealed ms) where
    lives : Lives (rules_of defs scripts) format before 0 ms
    lives = from_none before sealed ms runs

    -- in each run
    pub once_in : (m : Machine) (i j : ℕ) (a b : Entry) (name : Name) (number : ℕ) → Contains ms m
        → IsNumbered format m.history.entries i a name number
        → IsNumbered format m.history.entries j b name number
        → uses_number a.outcome ≡ true
        → uses_number b.outcome ≡ true
        → i ≡ j
    once_in m i j a b name number c n n2 uses uses2 =
        let s = each_serial before 0 ms m (omega arith) lives c in
        used_once defs scripts m.history s.0 i j a b name number
        (subst (λ (f : ℕ). IsNumbered f m.history.entries i a name number) (sym s.1) n)
        (subst (λ (f : ℕ). IsNumbered f m.history.entries j b name number) (sym s.1) n2) uses uses2

    -- the number's user of an entry that isn't Old
    user : (h : History) → IsSerial (rules_of defs scripts) h → (i : ℕ) (a : Entry) (name : Name) (number : ℕ)
        → IsNumbered h.format h.entries i a name number
        → ((n : ℕ) → ¬ (a.outcome ≡ outcome.Old n))
        → (k : ℕ) × ((u : Entry) × (IsNumbered h.format h.entries k u name number
        × ((uses_number u.outcome ≡ true) × (line_text u ≡ line_text a))))
    user h serial i a name number n isnt_old = by a.outcome refl
      where
        by : (o : Outcome) → a.outcome ≡ o
            → (k : ℕ) × ((u : Entry) × (IsNumbered h.format h.entries k u name number
            × ((uses_number u.outcome ≡ true) × (line_text u ≡ line_text a))))
        by (outcome.Old last) is = absurd (isnt_old last is)
        by (outcome.Repeat line) is =
            let w = repeats_line defs scripts h serial i a name number line n is in
            (w.earlier, (w.entry, (w.numbered, (w.uses, w.same_line))))
        by outcome.Done is = (i, (a, (n, (ap uses_number is, refl))))
        by (outcome.Verify call fsa found) is = (i, (a, (n, (ap uses_number is, refl))))
        by (outcome.Roll code) is = (i, (a, (n, (ap uses_number is, refl))))
        by (outcome.SeqFull set begin end k) is = (i, (a, (n, (ap uses_number is, refl))))
        by (outcome.Deadlock cycle) is = (i, (a, (n, (ap uses_number is, refl))))
        by outcome.Device is = (i, (a, (n, (ap uses_number is, refl))))
        by outcome.Memory is = (i, (a, (n, (ap uses_number is, refl))))
        by outcome.Unknown is = (i, (a, (n, (ap uses_number is, refl))))
        by (outcome.Purge set k) is = (i, (a, (n, (ap uses_number is, refl))))
        by outcome.Format is = (i, (a, (n, (ap uses_number is, refl))))

    -- one entry at one place
    same_entry : (h : History) (i j : ℕ) (a b : Entry) → i ≡ j → slice_get h.entries i ≡ Some a
        → slice_get h.entries j ≡ Some b → a ≡ b
    same_entry h i j a b same is is2 =
        same_Some a b (sym is ∙ ap (λ (k : ℕ). slice_get h.entries k) same ∙ is2)

    -- One entry has the effect, over all runs.
    pub one_effect : (m m2 : Machine) (i j : ℕ) (a b : Entry) (name : Name) (number : ℕ)
        → Contains ms m
        → Contains ms m2
        → i < m.sealed
        → j < m2.sealed
        → IsNumbered format m.history.entries i a name number
        → IsNumbered format m2.history.entries j b name number
        → uses_number a.outcome ≡ true
        → uses_number b.outcome ≡ true
        → (i ≡ j) × (a ≡ b)
    one_effect m m2 i j a b name number c c2 less less2 n n2 uses uses2 =
        let all = lives_have before 0 ms m (omega arith) lives c in
        let x = in_last before ms all m i a name number c less n in
        let y = in_last before ms all m2 j b name number c2 less2 n2 in
        let same = used_once defs scripts all.last all.serial i j a b name number x y uses uses2 in
        (same, same_entry all.last i j a b same x.stands y.stands)

    -- One line is sent, over all runs.
    pub one_line : (m m2 : Machine) (i j : ℕ) (a b : Entry) (name : Name) (number : ℕ)
        → Contains ms m
        → Contains ms m2
        → i < m.sealed
        → j < m2.sealed
        → IsNumbered format m.history.entries i a name number
        → IsNumbered format m2.history.entries j b name number
        → ((k : ℕ) → ¬ (a.outcome ≡ outcome.Old k))
        → ((k : ℕ) → ¬ (b.outcome ≡ outcome.Old k))
        → line_text a ≡ line_text b
    one_line m m2 i j a b name number c c2 less less2 n n2 new new2 =
        let all = lives_have before 0 ms m (omega arith) lives c in
        let x = in_last before ms all m i a name number c less n in
        let y = in_last before ms all m2 j b name number c2 less2 n2 in
        let u = user all.last all.serial i a name number x new in
        let w = user all.last all.serial j b name number y new2 in
        let same = used_once defs scripts all.last all.serial u.0 w.0 u.1.0 w.1.0 name number u.1.1.0 w.1.1.0
        u.1.1.1.0 w.1.1.1.0 in
        let one : u.1.0 ≡ w.1.0 = same_entry all.last u.0 w.0 u.1.0 w.1.0 same u.1.1.0.stands w.1.1.0.stands in
        sym u.1.1.1.1 ∙ ap line_text one ∙ w.1.1.1.1
