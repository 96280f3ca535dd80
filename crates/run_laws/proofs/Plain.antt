-- A turn is determined by its event and by what befalls it, but for items and cycles.
use Rattle.std.proofs.Common.{◌≡◌, ◌⊎◌, ℕ, zero, suc, ◌+◌, ◌-◌, ◌<◌, ◌≤◌, List, [], ◌∷◌, ◌++◌, length, map, Option, Some, None, inl, inr, refl, sym, ◌∙◌, ap, subst, Bool, true, false, if◌then◌else◌, arith, slice_get, slice_set}
use Rattle.std.specs.Prelude.{nat_lt, drop, take, flat_map, filter, not}
use Rattle.std.specs.List.{Contains, list_any}
use Rattle.std.specs.Option.{option_map_or}
use Rattle.std.proofs.lemmas.Grind.{common_steps}
use Rattle.std.proofs.lemmas.List.{map-append, length-map}
use Rattle.std.specs.List.{take-map, drop-map}
use Rattle.fp_model.specs.declared.database.Db.{Db}
use Rattle.fp_model.specs.declared.calls.Call.{Call}
use Rattle.fp_model.specs.declared.calls.Message.{Message}
use Rattle.fp_model.specs.declared.events.Event.{Event}
use Rattle.fp_model.specs.declared.events.Event.TheVariants as event
use Rattle.fp_model.specs.declared.log.Entry.{Entry}
use Rattle.fp_model.specs.declared.log.Outcome.{Outcome}
use Rattle.fp_model.specs.declared.log.Outcome.TheVariants as outcome
use Rattle.fp_model.specs.declared.name.Name.{Name}
use Rattle.fp_model.specs.Answers.{Needed}
use Rattle.fp_model.specs.Asking.{Ask, Asks, Replies, Rolls}
use Rattle.fp_model.specs.History.{History, Request, Accepts, Refuses, place_of}
use Rattle.fp_model.specs.Rules.{Rules}
use Rattle.fp_model.specs.Serial.{Ending, refused_as}
use Rattle.fp_model.specs.Waiting.{Lock, is_blocked, conflicts, waits, WaitsAlong, IsCycle, without_region}
use Rattle.fp_model.specs.Machine.{Transaction, Region, Idle, Active, Machine, region_at, with_region, with_entry_of, without_locks, ended_with, entry_of, entry_here, is_among, terminal_in, next_line, without_line, with_message, with_refusal, with_request_of, with_line, taken_in, told, next_group, with_group, sealed_once, sealed_times, sealed_all}
use Rattle.fp_model.specs.Turns.{Environment, NoFault, DeviceFault, OutOfMemory, Act, Answers, Gains, Waits, Deadlocks, Retries_at_cycle, Finishes, Retries_at_verify, is_verify_failure, asks, wanted, ending_of, as_lock, noted, with_answer, begun_in, tried_again, refused_with, requests_with, Does, queue_of_region, messages_for, begins_in, RegionTurn, is_area_held, PurgeTurn, Turn}
use Rattle.serial_order.proofs.Lists.{true_is_not_false, contains_in_filter, contains_in_map, contains_in_flat_map, none_passes}
use Rattle.drain_laws.proofs.Cycles.{ClosesOne, cycle_or_none}
use Rattle.run_laws.specs.Determined.{plain_entry, plain_history, plain}
use Rattle.plain_laws.proofs.Alls.{contains_cases}
use Rattle.std.proofs.lemmas.Option.{none-some}
use Rattle.serial_order.proofs.Waits.{others_only}
use Rattle.std.proofs.lemmas.Bool.{cases_Bool}

-- What this needs of the rules: lines ask for the same, and replies are the same, whatever items and cycles are.
pub record AreBlind (rules : Rules) (seen : Outcome → Outcome) : Type 0 where
  pub requests : (h : History) (line : List ℕ) → rules.request_of (plain_history seen h) line ≡ rules.request_of h line
  pub lines : (e : Entry) → rules.line_of (plain_entry seen e) ≡ rules.line_of e

module _ (rules : Rules) (seen : Outcome → Outcome) (blind : AreBlind rules seen)
    (search : List Lock → List Lock → ℕ → List ℕ) where
  -- as many entries
  pub same_place : (h : History) → place_of (plain_history seen h) ≡ place_of h
  same_place h = length-map h.entries (plain_entry seen)

  -- ---- entries

  -- with an entry
  plain_with : (e : Entry) (next : Db) (m : Machine)
      → plain seen (with_entry_of e next m) ≡ with_entry_of (plain_entry seen e) next (plain seen m)
  plain_with e next m =
      ap (λ (es : List Entry).
      let x : Machine = record (plain seen m) {
        history = record m.history { entries = es; past = m.history.past ++ m.history.now ∷ []; now = next };
      } in x) (map-append (plain_entry seen) m.history.entries (e ∷ []))

  -- ---- what an active region does, as a function

  abbrev deadlocked : Machine → ℕ → Transaction → Needed → Machine
  deadlocked b region t needed =
      let found : List ℕ = search (requests_with rules b region needed) b.locks region in
      ended_with region
      (plain_entry seen (entry_of t (refused_as (outcome.Deadlock found) b.history.now) [] [])) b.history.now b

  abbrev at_cycle : Machine → ℕ → Transaction → Needed → Bool → Machine
  at_cycle b region t needed true = tried_again rules region t b
  at_cycle b region t needed false = deadlocked b region t needed

  abbrev behind_block : (b : Machine) (region : ℕ) → Transaction → (needed : Needed)
      → ClosesOne (waits (requests_with rules b region needed) b.locks) region
      ⊎ ((cycle : List ℕ)
      → ¬ IsCycle (waits (requests_with rules b region needed) b.locks) (region ∷ cycle))
      → Machine
  behind_block b region t needed (inl c) = at_cycle b region t needed (nat_lt t.tries rules.tries)
  behind_block b region t needed (inr none) = record b { requests = requests_with rules b region needed }

  abbrev for_lock : Machine → ℕ → Transaction → Needed → Bool → Machine
  for_lock b region t needed true =
      behind_block b region t needed (cycle_or_none (waits (requests_with rules b region needed) b.locks) region)
  for_lock b region t needed false =
      record b { locks = as_lock rules region needed ∷ b.locks; requests = without_region region b.requests }

  abbrev at_end : Machine → ℕ → Transaction → Ending → Bool → Bool → Machine
  at_end b region t ending true true = tried_again rules region t b
  at_end b region t ending true false =
      ended_with region (plain_entry seen (entry_of t ending t.notes [])) ending.next b
  at_end b region t ending false more =
      ended_with region (plain_entry seen (entry_of t ending t.notes [])) ending.next b

  abbrev ends_so : Machine → ℕ → Transaction → Option Ending → Machine
  ends_so b region t None = b
  ends_so b region t (Some ending) =
      at_end b region t ending (is_verify_failure ending.outcome) (nat_lt t.tries rules.tries)

  abbrev without_lock : Machine → ℕ → Transaction → Ask → Machine
  without_lock b region t (Asks call) = with_region region (Active (with_answer rules b t call)) b
  without_lock b region t (Replies reply) =
      ends_so b region t (ending_of rules b.history.now t (Replies reply))
  without_lock b region t (Rolls code) = ends_so b region t (ending_of rules b.history.now t (Rolls code))

  abbrev by_wanted : Machine → ℕ → Transaction → Option Needed → Machine
  by_wanted b region t (Some needed) =
      for_lock b region t needed (is_blocked b.locks (as_lock rules region needed))
  by_wanted b region t None = without_lock b region t (asks rules t)

  abbrev acted : Machine → ℕ → Transaction → Machine
  acted b region t = by_wanted b region t (wanted rules b region t (asks rules t))

  -- ---- what it makes of entries that are seen so

  ended_plain : (m : Machine) (place : ℕ) (e : Entry) (next : Db)
      → plain seen (ended_with (suc place) e next m)
      ≡ ended_with (suc place) (plain_entry seen e) next (plain seen m)
  ended_plain m place e next = plain_with e next (with_region (suc place) Idle (without_locks (suc place) m))

  tried_plain : (m : Machine) (place : ℕ) (t : Transaction)
      → plain seen (tried_again rules (suc place) t m) ≡ tried_again rules (suc place) t (plain seen m)
  tried_plain m place t =
      ap (λ (n : ℕ).
      let u : Transaction = record (begun_in rules m t.message (t.tries + 1)) { from = n } in
      let x : Machine = with_region (suc place) (Active u) (without_locks (suc place) (plain seen m)) in x)
      (sym (same_place m.history))

  answered_plain : (m : Machine) (place : ℕ) (t : Transaction) (call : Call)
      → plain seen (with_region (suc place) (Active (with_answer rules m t call)) m)
      ≡ with_region (suc place) (Active (with_answer rules (plain seen m) t call)) (plain seen m)
  answered_plain m place t call =
      ap (λ (u : Transaction). with_region (suc place) (Active u) (plain seen m)) same
    where
      noted_same : (b : Bool) (n n2 : ℕ) → n ≡ n2 → noted rules b t.notes n ≡ noted rules b t.notes n2
      noted_same b n n2 e = ap (λ (k : ℕ). noted rules b t.notes k) e

      same : with_answer rules m t call ≡ with_answer rules (plain seen m) t call
      same = ap (λ (ns : List ℕ). let u : Transaction = record (with_answer rules m t call) { notes = ns } in u)
          (noted_same (rules.looks t.point.own call) (place_of m.history) (place_of (plain seen m).history)
          (sym (same_place m.history)))

  less_true : (a b : ℕ) → a < b → nat_lt a b ≡ true
  less_true a b h = grind (arith, common_steps, h)

  less_false : (a b : ℕ) → b ≤ a → nat_lt a b ≡ false
  less_false a b h = grind (arith, common_steps, h)

  -- a verify that fails with no try left, and other ends
  finished : (b : Machine) (region : ℕ) (t : Transaction) (ending : Ending) (fails more : Bool)
      → (fails ≡ true → more ≡ false)
      → at_end b region t ending fails more
      ≡ ended_with region (plain_entry seen (entry_of t ending t.notes [])) ending.next b
  finished b region t ending true true h = absurd (true_is_not_false (h refl))
  finished b region t ending true false h = refl
  finished b region t ending false more h = refl

  -- at the end of the script
  without_end : (b : Machine) (region : ℕ) (t : Transaction) (ask : Ask) (ending : Ending)
      → ending_of rules b.history.now t ask ≡ Some ending
      → without_lock b region t ask ≡ ends_so b region t (Some ending)
  without_end b region t (Asks call) ending e = absurd (none-some ending e)
  without_end b region t (Replies reply) ending e = ap (λ (o : Option Ending). ends_so b region t o) e
  without_end b region t (Rolls code) ending e = ap (λ (o : Option Ending). ends_so b region t o) e

  -- where a cycle closes, and where none does
  behind_cycle : (b : Machine) (region : ℕ) (t : Transaction) (needed : Needed) (cycle : List ℕ)
      → IsCycle (waits (requests_with rules b region needed) b.locks) (region ∷ cycle)
      → (o : ClosesOne (waits (requests_with rules b region needed) b.locks) region
      ⊎ ((c : List ℕ) → ¬ IsCycle (waits (requests_with rules b region needed) b.locks) (region ∷ c)))
      → behind_block b region t needed o ≡ at_cycle b region t needed (nat_lt t.tries rules.tries)
  behind_cycle b region t needed cycle closes (inl c) = refl
  behind_cycle b region t needed cycle closes (inr none) = absurd (none cycle closes)

  behind_none : (b : Machine) (region : ℕ) (t : Transaction) (needed : Needed)
      → ((c : List ℕ) → ¬ IsCycle (waits (requests_with rules b region needed) b.locks) (region ∷ c))
      → (o : ClosesOne (waits (requests_with rules b region needed) b.locks) region
      ⊎ ((c : List ℕ) → ¬ IsCycle (waits (requests_with rules b region needed) b.locks) (region ∷ c)))
      → behind_block b region t needed o ≡ record b { requests = requests_with rules b region needed }
  behind_none b region t needed none (inl c) = absurd (none c.cycle c.closes)
  behind_none b region t needed none (inr also) = refl

  -- who waits first in a cycle waits for its new request
  first_waits : (pairs : List (ℕ × ℕ)) (region : ℕ) (cycle : List ℕ) (goal : ℕ) → WaitsAlong pairs region cycle goal
      → (next : ℕ) × Contains pairs (region, next)
  first_waits pairs region [] goal w = (goal, w)
  first_waits pairs region (r ∷ rs) goal w = (r, w.0)

  -- a cycle that closes is one behind a lock that is held
  blocked_is : (b : Machine) (region : ℕ) (needed : Needed) (cycle : List ℕ)
      → IsCycle (waits (requests_with rules b region needed) b.locks) (region ∷ cycle)
      → is_blocked b.locks (as_lock rules region needed) ≡ true
  blocked_is b region needed cycle closes =
      let l : Lock = as_lock rules region needed in
      let pairs : List (ℕ × ℕ) = waits (requests_with rules b region needed) b.locks in
      let w = first_waits pairs region cycle region closes in
      let of = contains_in_flat_map
      (λ (q : Lock). map (λ (lock : Lock). (q.region, lock.region)) (filter (conflicts q) b.locks))
      (requests_with rules b region needed) (region, w.0) w.1 in
      let by = contains_in_map (λ (lock : Lock). (of.0.region, lock.region)) (filter (conflicts of.0) b.locks)
      (region, w.0) of.1.1 in
      let is = contains_in_filter (conflicts of.0) b.locks by.0 by.1.0 in
      let mine : region ≡ of.0.region = ap (λ (p : ℕ × ℕ). p.0) by.1.1 in
      elim (contains_cases l (without_region region b.requests) of.0 of.1.0) [
        | inl same ↦ subst (λ (q : Lock). is_blocked b.locks q ≡ true) (sym same)
            (any_passes (conflicts of.0) b.locks by.0 is.0 is.1)
        | inr there ↦ absurd ((others_only region b.requests of.0 there).1 (sym mine))
      ]
    where
      any_passes : (p : Lock → Bool) (xs : List Lock) (x : Lock) → Contains xs x → p x ≡ true → list_any p xs ≡ true
      any_passes p xs x c is = elim (cases_Bool (list_any p xs)) [
        | inl some ↦ some
        | inr none ↦ absurd (true_is_not_false (sym is ∙ none_passes p xs x none c))
      ]

  -- What the region does leads to that machine, where the cycle that it may name is seen as the one that the search
  -- finds.
  act_plain : (m : Machine) (place : ℕ) (t : Transaction) (act : Act) (m2 : Machine)
      → Does rules m (suc place) t act m2
      → ((needed : Needed) (cycle : List ℕ) → wanted rules m (suc place) t (asks rules t) ≡ Some needed
      → m2 ≡ refused_with rules m (suc place) t (outcome.Deadlock cycle)
      → seen (outcome.Deadlock cycle)
      ≡ seen (outcome.Deadlock (search (requests_with rules m (suc place) needed) m.locks (suc place))))
      → plain seen m2 ≡ acted (plain seen m) (suc place) t
  act_plain m place t (Answers call) m2 d names =
      let b : Machine = plain seen m in
      ap (plain seen) d.2 ∙ answered_plain m place t call
      ∙ sym (ap (λ (o : Option Needed). by_wanted b (suc place) t o) d.1
      ∙ ap (λ (a : Ask). without_lock b (suc place) t a) d.0)
  act_plain m place t (Gains needed) m2 d names =
      let b : Machine = plain seen m in
      ap (plain seen) d.2
      ∙ sym (ap (λ (o : Option Needed). by_wanted b (suc place) t o) d.0
      ∙ ap (λ (c : Bool). for_lock b (suc place) t needed c) d.1)
  act_plain m place t (Waits needed) m2 d names =
      let b : Machine = plain seen m in
      ap (plain seen) d.3
      ∙ sym (ap (λ (o : Option Needed). by_wanted b (suc place) t o) d.0
      ∙ ap (λ (c : Bool). for_lock b (suc place) t needed c) d.1
      ∙ behind_none b (suc place) t needed d.2
      (cycle_or_none (waits (requests_with rules b (suc place) needed) b.locks) (suc place)))
  act_plain m place t (Deadlocks needed cycle) m2 d names =
      let b : Machine = plain seen m in
      let e : Entry = entry_of t (refused_as (outcome.Deadlock (suc place ∷ cycle)) m.history.now) [] [] in
      let found : List ℕ = search (requests_with rules m (suc place) needed) m.locks (suc place) in
      ap (plain seen) d.2 ∙ ended_plain m place e m.history.now
      ∙ ap (λ (o : Outcome).
      let x : Entry = record (plain_entry seen e) { outcome = o } in ended_with (suc place) x m.history.now b)
      (names needed (suc place ∷ cycle) d.0.wants d.2)
      ∙ sym (ap (λ (o : Option Needed). by_wanted b (suc place) t o) d.0.wants
      ∙ ap (λ (c : Bool). for_lock b (suc place) t needed c) (blocked_is m (suc place) needed cycle d.0.closes)
      ∙ behind_cycle b (suc place) t needed cycle d.0.closes
      (cycle_or_none (waits (requests_with rules b (suc place) needed) b.locks) (suc place))
      ∙ ap (λ (c : Bool). at_cycle b (suc place) t needed c) (less_false t.tries rules.tries d.1))
  act_plain m place t (Retries_at_cycle needed cycle) m2 d names =
      let b : Machine = plain seen m in
      ap (plain seen) d.2 ∙ tried_plain m place t
      ∙ sym (ap (λ (o : Option Needed). by_wanted b (suc place) t o) d.0.wants
      ∙ ap (λ (c : Bool). for_lock b (suc place) t needed c) (blocked_is m (suc place) needed cycle d.0.closes)
      ∙ behind_cycle b (suc place) t needed cycle d.0.closes
      (cycle_or_none (waits (requests_with rules b (suc place) needed) b.locks) (suc place))
      ∙ ap (λ (c : Bool). at_cycle b (suc place) t needed c) (less_true t.tries rules.tries d.1))
  act_plain m place t (Finishes ending items) m2 d names =
      let b : Machine = plain seen m in
      ap (plain seen) d.3 ∙ ended_plain m place (entry_of t ending t.notes items) ending.next
      ∙ sym (ap (λ (o : Option Needed). by_wanted b (suc place) t o) d.0.lacks_none
      ∙ without_end b (suc place) t (asks rules t) ending d.0.ends
      ∙ finished b (suc place) t ending (is_verify_failure ending.outcome) (nat_lt t.tries rules.tries)
      (λ fails. less_false t.tries rules.tries (d.1 fails)))
  act_plain m place t (Retries_at_verify ending) m2 d names =
      let b : Machine = plain seen m in
      ap (plain seen) d.3 ∙ tried_plain m place t
      ∙ sym (ap (λ (o : Option Needed). by_wanted b (suc place) t o) d.0.lacks_none
      ∙ without_end b (suc place) t (asks rules t) ending d.0.ends
      ∙ ap (λ (f : Bool). at_end b (suc place) t ending f (nat_lt t.tries rules.tries)) d.1
      ∙ ap (λ (c : Bool). at_end b (suc place) t ending true c) (less_true t.tries rules.tries d.2))

  -- ---- a region's turn

  -- a transaction that is refused
  abbrev refused_so : Machine → ℕ → Transaction → Outcome → Machine
  refused_so b region t o =
      ended_with region (plain_entry seen (entry_of t (refused_as o b.history.now) [] [])) b.history.now b

  abbrev region_goes : Machine → ℕ → Option Region → Environment → Machine
  region_goes b region None v = b
  region_goes b region (Some Idle) v = begins_in rules b region (messages_for rules b region)
  region_goes b region (Some (Active t)) NoFault = acted b region t
  region_goes b region (Some (Active t)) DeviceFault = refused_so b region t outcome.Device
  region_goes b region (Some (Active t)) OutOfMemory = refused_so b region t outcome.Memory

  begins_plain : (m : Machine) (place : ℕ) (messages : List Message)
      → plain seen (begins_in rules m (suc place) messages) ≡ begins_in rules (plain seen m) (suc place) messages
  begins_plain m place [] = refl
  begins_plain m place (message ∷ messages) =
      ap (λ (n : ℕ).
      let u : Transaction = record (begun_in rules m message 0) { from = n } in
      let x : Machine = with_region (suc place) (Active u)
      (record (plain seen m) { queues = slice_set m.queues (queue_of_region rules (suc place)) messages }) in x)
      (sym (same_place m.history))

  region_plain : (m : Machine) (place : ℕ) (region : Option Region) (v : Environment) (m2 : Machine)
      → RegionTurn rules m (suc place) region v m2
      → ((t : Transaction) (needed : Needed) (cycle : List ℕ) → region ≡ Some (Active t)
      → wanted rules m (suc place) t (asks rules t) ≡ Some needed
      → m2 ≡ refused_with rules m (suc place) t (outcome.Deadlock cycle)
      → seen (outcome.Deadlock cycle)
      ≡ seen (outcome.Deadlock (search (requests_with rules m (suc place) needed) m.locks (suc place))))
      → plain seen m2 ≡ region_goes (plain seen m) (suc place) region v
  region_plain m place None v m2 turn names = absurd turn
  region_plain m place (Some Idle) NoFault m2 turn names =
      ap (plain seen) turn ∙ begins_plain m place (messages_for rules m (suc place))
  region_plain m place (Some Idle) DeviceFault m2 turn names = absurd turn
  region_plain m place (Some Idle) OutOfMemory m2 turn names = absurd turn
  region_plain m place (Some (Active t)) NoFault m2 turn names =
      act_plain m place t turn.0 m2 turn.1 (λ needed cycle wants after. names t needed cycle refl wants after)
  region_plain m place (Some (Active t)) DeviceFault m2 turn names =
      ap (plain seen) turn
      ∙ ended_plain m place (entry_of t (refused_as outcome.Device m.history.now) [] []) m.history.now
  region_plain m place (Some (Active t)) OutOfMemory m2 turn names =
      ap (plain seen) turn
      ∙ ended_plain m place (entry_of t (refused_as outcome.Memory m.history.now) [] []) m.history.now

  -- ---- IN

  abbrev asked_for : Machine → List ℕ → Request → Machine
  asked_for b line (Accepts message) = with_message rules message b
  asked_for b line (Refuses o) =
      with_entry_of (plain_entry seen (entry_here b o line [])) b.history.now
      (record b { busy = b.busy ++ terminal_in (rules.terminal_of line) })

  abbrev line_goes : Machine → List ℕ → Machine
  line_goes b line =
      if list_any (is_among b.busy) (terminal_in (rules.terminal_of line)) then record b { held = Some line }
      else asked_for b line (rules.request_of b.history line)

  abbrev in_goes : Machine → Machine
  in_goes b = option_map_or (λ line. line_goes (without_line b) line) (next_line b) b

  refused_plain : (m : Machine) (line : List ℕ) (o : Outcome)
      → plain seen (with_refusal rules o line m) ≡ asked_for (plain seen m) line (Refuses o)
  refused_plain m line o =
      plain_with (entry_here m o line []) m.history.now
      (record m { busy = m.busy ++ terminal_in (rules.terminal_of line) })
      ∙ ap (λ (n : ℕ).
      let e : Entry = record (plain_entry seen (entry_here m o line [])) { from = n } in
      with_entry_of e m.history.now
      (record (plain seen m) { busy = m.busy ++ terminal_in (rules.terminal_of line) }))
      (sym (same_place m.history))

  line_plain : (m : Machine) (line : List ℕ) → plain seen (with_line rules line m) ≡ line_goes (plain seen m) line
  line_plain m line = by (list_any (is_among m.busy) (terminal_in (rules.terminal_of line)))
    where
      asked : (r : Request) → plain seen (with_request_of rules line r m) ≡ asked_for (plain seen m) line r
      asked (Accepts message) = refl
      asked (Refuses o) = refused_plain m line o

      by : (c : Bool)
          → plain seen (if c then record m { held = Some line }
          else with_request_of rules line (rules.request_of m.history line) m)
          ≡ (if c then record (plain seen m) { held = Some line }
          else asked_for (plain seen m) line (rules.request_of (plain_history seen m.history) line))
      by true = refl
      by false =
          asked (rules.request_of m.history line)
          ∙ ap (λ (r : Request). asked_for (plain seen m) line r) (sym (blind.requests m.history line))

  in_plain : (m : Machine) → plain seen (taken_in rules m) ≡ in_goes (plain seen m)
  in_plain m = by (next_line m)
    where
      without : (o : Option (List ℕ))
          → plain seen (option_map_or (λ (line : List ℕ). record m { held = None }) o
          (record m { lines = drop 1 m.lines }))
          ≡ option_map_or (λ (line : List ℕ). record (plain seen m) { held = None }) o
          (record (plain seen m) { lines = drop 1 m.lines })
      without None = refl
      without (Some line) = refl

      by : (o : Option (List ℕ))
          → plain seen (option_map_or (λ line. with_line rules line (without_line m)) o m)
          ≡ option_map_or (λ line. line_goes (without_line (plain seen m)) line) o (plain seen m)
      by None = refl
      by (Some line) =
          line_plain (without_line m) line ∙ ap (λ (x : Machine). line_goes x line) (without m.held)

  -- ---- LOG and CKPT

  lines_same : (group : List Entry)
      → flat_map rules.line_of (map (plain_entry seen) group) ≡ flat_map rules.line_of group
  lines_same [] = refl
  lines_same (e ∷ es) =
      ap (λ (l : List ℕ). l ++ flat_map rules.line_of (map (plain_entry seen) es)) (blind.lines e)
      ∙ ap (λ (l : List ℕ). rules.line_of e ++ l) (lines_same es)

  told_same : (group : List Entry) → told rules (map (plain_entry seen) group) ≡ told rules group
  told_same [] = refl
  told_same (e ∷ es) = ap (λ (l : List Name). terminal_in (rules.terminal_of e.line) ++ l) (told_same es)

  group_same : (m : Machine) → next_group rules (plain seen m) ≡ map (plain_entry seen) (next_group rules m)
  group_same m =
      ap (λ (es : List Entry). take rules.log_group es) (drop-map (plain_entry seen) m.sealed m.history.entries)
      ∙ take-map (plain_entry seen) rules.log_group (drop m.sealed m.history.entries)

  -- a group that is sealed
  sealed_plain : (m : Machine) (group : List Entry)
      → plain seen (with_group rules group m) ≡ with_group rules (map (plain_entry seen) group) (plain seen m)
  sealed_plain m group = all (length group) (length (map (plain_entry seen) group))
      (map (λ g. map (plain_entry seen) g) (m.groups ++ group ∷ []))
      (map (λ g. map (plain_entry seen) g) m.groups ++ map (plain_entry seen) group ∷ [])
      (flat_map rules.line_of group) (flat_map rules.line_of (map (plain_entry seen) group))
      (told rules group) (told rules (map (plain_entry seen) group))
      (sym (length-map group (plain_entry seen)))
      (map-append (λ (g : List Entry). map (plain_entry seen) g) m.groups (group ∷ []))
      (sym (lines_same group)) (sym (told_same group))
    where
      all : (n n2 : ℕ) (groups groups2 : List (List Entry)) (sent sent2 : List ℕ) (names names2 : List Name)
          → n ≡ n2 → groups ≡ groups2 → sent ≡ sent2 → names ≡ names2
          → (let x : Machine = record (plain seen m) {
            sealed = m.sealed + n;
            groups = groups;
            sent = m.sent ++ sent;
            busy = filter (λ name. not (is_among names name)) m.busy;
          } in x)
          ≡ (let y : Machine = record (plain seen m) {
            sealed = m.sealed + n2;
            groups = groups2;
            sent = m.sent ++ sent2;
            busy = filter (λ name. not (is_among names2 name)) m.busy;
          } in y)
      all n n2 groups groups2 sent sent2 names names2 a b c d =
          ap (λ (k : ℕ). let x : Machine = record (plain seen m) {
            sealed = m.sealed + k;
            groups = groups;
            sent = m.sent ++ sent;
            busy = filter (λ name. not (is_among names name)) m.busy;
          } in x) a
          ∙ ap (λ (gs : List (List Entry)). let x : Machine = record (plain seen m) {
            sealed = m.sealed + n2;
            groups = gs;
            sent = m.sent ++ sent;
            busy = filter (λ name. not (is_among names name)) m.busy;
          } in x) b
          ∙ ap (λ (ss : List ℕ). let x : Machine = record (plain seen m) {
            sealed = m.sealed + n2;
            groups = groups2;
            sent = m.sent ++ ss;
            busy = filter (λ name. not (is_among names name)) m.busy;
          } in x) c
          ∙ ap (λ (ns : List Name). let x : Machine = record (plain seen m) {
            sealed = m.sealed + n2;
            groups = groups2;
            sent = m.sent ++ sent2;
            busy = filter (λ name. not (is_among ns name)) m.busy;
          } in x) d

  log_plain : (m : Machine) → plain seen (sealed_once rules m) ≡ sealed_once rules (plain seen m)
  log_plain m =
      by (nat_lt m.sealed (place_of m.history))
      ∙ ap (λ (n : ℕ). if nat_lt m.sealed n then with_group rules (next_group rules (plain seen m)) (plain seen m)
      else plain seen m) (sym (same_place m.history))
    where
      by : (c : Bool) → plain seen (if c then with_group rules (next_group rules m) m else m)
          ≡ (if c then with_group rules (next_group rules (plain seen m)) (plain seen m) else plain seen m)
      by true =
          sealed_plain m (next_group rules m)
          ∙ ap (λ (g : List Entry). with_group rules g (plain seen m)) (sym (group_same m))
      by false = refl

  times_plain : (n : ℕ) (m : Machine) → plain seen (sealed_times n rules m) ≡ sealed_times n rules (plain seen m)
  times_plain zero m = refl
  times_plain (suc n) m =
      times_plain n (sealed_once rules m) ∙ ap (λ (x : Machine). sealed_times n rules x) (log_plain m)

  ckpt_plain : (m : Machine) → plain seen (sealed_all rules m) ≡ sealed_all rules (plain seen m)
  ckpt_plain m =
      times_plain (place_of m.history - m.sealed) m
      ∙ ap (λ (n : ℕ). sealed_times (n - m.sealed) rules (plain seen m)) (sym (same_place m.history))

  -- ---- PURGE

  abbrev purged_to : Machine → ℕ → ℕ → Option Db → Machine
  purged_to b set n None = b
  purged_to b set n (Some next) =
      with_entry_of (plain_entry seen (entry_here b (outcome.Purge set n) [] [])) next b

  abbrev purge_goes : Machine → ℕ → ℕ → Bool → Machine
  purge_goes b set n true = b
  purge_goes b set n false = purged_to b set n (rules.purged set n b.history.now)

  purge_plain : (m : Machine) (set n : ℕ) (held : Bool) (m2 : Machine) → PurgeTurn rules m set n held m2
      → plain seen m2 ≡ purge_goes (plain seen m) set n held
  purge_plain m set n true m2 turn = ap (plain seen) turn
  purge_plain m set n false m2 turn =
      let e : Entry = entry_here m (outcome.Purge set n) [] turn.items in
      ap (plain seen) turn.after ∙ plain_with e turn.next m
      ∙ ap (λ (k : ℕ).
      let x : Entry = record (plain_entry seen e) { from = k } in with_entry_of x turn.next (plain seen m))
      (sym (same_place m.history))
      ∙ sym (ap (λ (o : Option Db). purged_to (plain seen m) set n o) turn.is_purged)

  -- ---- all events

  abbrev purge_event : Machine → ℕ → ℕ → Environment → Machine
  purge_event b set n NoFault = purge_goes b set n (is_area_held rules b set)
  purge_event b set n DeviceFault = b
  purge_event b set n OutOfMemory = b

  -- the machine behind an event, with what befalls it
  abbrev pub goes : Event → Environment → Machine → Machine
  goes event.In v b = in_goes b
  goes (event.Region region) v b = region_goes b region (region_at b region) v
  goes event.Log v b = sealed_once rules b
  goes event.Out v b = b
  goes event.Ckpt v b = sealed_all rules b
  goes (event.Purge set n) v b = purge_event b set n v

  pub turn_plain : (m : Machine) (e : Event) (v : Environment) (m2 : Machine) → Turn rules m e v m2
      → ((region : ℕ) (t : Transaction) (needed : Needed) (cycle : List ℕ) → e ≡ event.Region region
      → region_at m region ≡ Some (Active t)
      → wanted rules m region t (asks rules t) ≡ Some needed
      → m2 ≡ refused_with rules m region t (outcome.Deadlock cycle)
      → seen (outcome.Deadlock cycle)
      ≡ seen (outcome.Deadlock (search (requests_with rules m region needed) m.locks region)))
      → plain seen m2 ≡ goes e v (plain seen m)
  turn_plain m event.In NoFault m2 turn names = ap (plain seen) turn ∙ in_plain m
  turn_plain m event.In DeviceFault m2 turn names = absurd turn
  turn_plain m event.In OutOfMemory m2 turn names = absurd turn
  turn_plain m (event.Region zero) v m2 turn names = absurd turn
  turn_plain m (event.Region (suc place)) v m2 turn names =
      region_plain m place (slice_get m.regions place) v m2 turn
      (λ t needed cycle is wants after. names (suc place) t needed cycle refl is wants after)
  turn_plain m event.Log NoFault m2 turn names = ap (plain seen) turn ∙ log_plain m
  turn_plain m event.Log DeviceFault m2 turn names = absurd turn
  turn_plain m event.Log OutOfMemory m2 turn names = absurd turn
  turn_plain m event.Out v m2 turn names = ap (plain seen) turn
  turn_plain m event.Ckpt NoFault m2 turn names = ap (plain seen) turn ∙ ckpt_plain m
  turn_plain m event.Ckpt DeviceFault m2 turn names = ap (plain seen) turn ∙ ckpt_plain m
  turn_plain m event.Ckpt OutOfMemory m2 turn names = absurd turn
  turn_plain m (event.Purge set n) NoFault m2 turn names =
      purge_plain m set n (is_area_held rules m set) m2 turn
  turn_plain m (event.Purge set n) DeviceFault m2 turn names = ap (plain seen) turn
  turn_plain m (event.Purge set n) OutOfMemory m2 turn names = ap (plain seen) turn
