-- Each turn keeps what the drain needs of the order: seals, waits, and how much was asked.
use Rattle.std.proofs.Common.{◌≡◌, ℕ, zero, suc, ◌+◌, ◌-◌, ◌<◌, ◌≤◌, List, [], ◌∷◌, ◌++◌, length, min, Option, Some, None, inl, inr, refl, sym, ◌∙◌, ap, subst, Bool, true, false, if◌then◌else◌, arith, slice_get, slice_set, length-append}
use Rattle.std.specs.Prelude.{unwrap_or, drop, take, nat_lt}
use Rattle.std.specs.List.{list_any}
use Rattle.std.specs.Option.{option_map_or}
use Rattle.std.proofs.lemmas.Grind.{common_steps}
use Rattle.std.proofs.lemmas.List.{length-take, length-drop}
use Rattle.fp_model.specs.declared.database.Db.{Db}
use Rattle.fp_model.specs.declared.calls.Call.{Call}
use Rattle.fp_model.specs.declared.calls.Message.{Message}
use Rattle.fp_model.specs.declared.events.Event.{Event}
use Rattle.fp_model.specs.declared.events.Event.TheVariants as event
use Rattle.fp_model.specs.declared.log.Entry.{Entry}
use Rattle.fp_model.specs.declared.log.Outcome.TheVariants as outcome
use Rattle.fp_model.specs.Answers.{Replied}
use Rattle.fp_model.specs.History.{History, Request, Accepts, Refuses, place_of}
use Rattle.fp_model.specs.Rules.{Rules}
use Rattle.fp_model.specs.Machine.{Transaction, Region, Idle, Active, Machine, at_rest, region_at, with_entry_of, ended_with, entry_here, is_among, terminal_in, next_line, without_line, with_request_of, with_line, taken_in, next_group, with_group, sealed_once, sealed_times}
use Rattle.fp_model.specs.Turns.{Environment, NoFault, DeviceFault, OutOfMemory, Act, Answers, Gains, Waits, Deadlocks, Retries_at_cycle, Finishes, Retries_at_verify, with_answer, begun_in, tried_again, as_lock, Does, queue_of_region, begins_in, RegionTurn, is_area_held, PurgeTurn, Turn}
use Rattle.fp_model.specs.Runs.{RunStep, Runs}
use Rattle.serial_order.specs.Laws.{View, Laws}
use Rattle.serial_order.specs.Kept.{HaveNoCycle, Kept}
use Rattle.serial_order.proofs.Lists.{mapped_to}
use Rattle.serial_order.proofs.Waits.{ended_waits, gained_waits, asked_waits, no_locks}
use Rattle.serial_order.proofs.Terminals.{sealed_below}
use Rattle.drain_laws.specs.Live.{IsInOrder}
use Rattle.drain_laws.proofs.Live.{same_region, at_work, idle_is_not}
use Rattle.serial_order.proofs.Kept.{is_transaction}
use Rattle.std.proofs.lemmas.Option.{none-some}

module _ (rules : Rules) where
  -- it has asked no more than it may
  abbrev IsWithin : Transaction → Type 0
  IsWithin t = length t.point.answers ≤ rules.budget t.message

  -- a machine with the same regions
  pub ordered_alike : (m m2 : Machine) → m2.regions ≡ m.regions
      → HaveNoCycle m2.requests m2.locks
      → m2.sealed ≤ place_of m2.history
      → IsInOrder rules m → IsInOrder rules m2
  ordered_alike m m2 regions none sealed s = record {
    sealed = sealed;
    no_cycle = none;
    within = λ region t is. s.within region t (same_region m2 m region (Active t) (sym regions) is);
  }

  -- a region changed
  put : (m m2 : Machine) (place : ℕ) (r : Region) → m2.regions ≡ slice_set m.regions place r
      → HaveNoCycle m2.requests m2.locks
      → m2.sealed ≤ place_of m2.history
      → ((u : Transaction) → r ≡ Active u → IsWithin u)
      → IsInOrder rules m → IsInOrder rules m2
  put m m2 place r regions none sealed within s = record {
    sealed = sealed;
    no_cycle = none;
    within = λ region u is. elim (at_work m m2 place region r u regions is) [
      | inl new ↦ within u new
      | inr old ↦ s.within region u old
    ];
  }

  put_active : (m m2 : Machine) (place : ℕ) (u : Transaction) → m2.regions ≡ slice_set m.regions place (Active u)
      → HaveNoCycle m2.requests m2.locks
      → m2.sealed ≤ place_of m2.history
      → IsWithin u
      → IsInOrder rules m → IsInOrder rules m2
  put_active m m2 place u regions none sealed within s =
      put m m2 place (Active u) regions none sealed
      (λ v same. subst (λ (w : Transaction). IsWithin w) (is_transaction u v same) within) s

  -- a try that begins has asked nothing
  begun_within : (m : Machine) (message : Message) (tries : ℕ) → IsWithin (begun_in rules m message tries)
  begun_within m message tries = omega arith

  ends : (m : Machine) (place : ℕ) (e : Entry) (next : Db)
      → IsInOrder rules m → IsInOrder rules (ended_with (suc place) e next m)
  ends m place e next s =
      put m (ended_with (suc place) e next m) place Idle refl (ended_waits (suc place) m.requests m.locks s.no_cycle)
      (sealed_below rules m e s.sealed) (λ u new. absurd (idle_is_not u new)) s

  retries : (m : Machine) (place : ℕ) (t : Transaction)
      → IsInOrder rules m → IsInOrder rules (tried_again rules (suc place) t m)
  retries m place t s =
      put_active m (tried_again rules (suc place) t m) place (begun_in rules m t.message (t.tries + 1)) refl
      (ended_waits (suc place) m.requests m.locks s.no_cycle) s.sealed (begun_within m t.message (t.tries + 1)) s

  writes : (m : Machine) (e : Entry) (next : Db) → IsInOrder rules m → IsInOrder rules (with_entry_of e next m)
  writes m e next s =
      ordered_alike m (with_entry_of e next m) refl s.no_cycle (sealed_below rules m e s.sealed) s

  -- ---- seals

  -- no more entries are sealed than there are
  sealed_within : (m : Machine) → m.sealed ≤ place_of m.history
      → m.sealed + length (next_group rules m) ≤ place_of m.history
  sealed_within m sealed =
      let left : List Entry = drop m.sealed m.history.entries in
      let taken : length (take rules.log_group left)
      ≡ min rules.log_group (length left) = length-take rules.log_group left in
      let there : length left ≡ length m.history.entries - m.sealed = length-drop m.sealed m.history.entries in
      grind (arith, common_steps, taken, there, sealed)

  logs : (m : Machine) → IsInOrder rules m → IsInOrder rules (sealed_once rules m)
  logs m s = by (nat_lt m.sealed (place_of m.history))
    where
      by : (b : Bool) → IsInOrder rules (if b then with_group rules (next_group rules m) m else m)
      by true =
          ordered_alike m (with_group rules (next_group rules m) m) refl s.no_cycle (sealed_within m s.sealed) s
      by false = s

  logs_often : (n : ℕ) (m : Machine) → IsInOrder rules m → IsInOrder rules (sealed_times n rules m)
  logs_often zero m s = s
  logs_often (suc n) m s = logs_often n (sealed_once rules m) (logs m s)

  -- ---- IN

  with_request_ordered : (m : Machine) (line : List ℕ) (r : Request)
      → IsInOrder rules m → IsInOrder rules (with_request_of rules line r m)
  with_request_ordered m line (Accepts message) s =
      ordered_alike m (with_request_of rules line (Accepts message) m) refl s.no_cycle s.sealed s
  with_request_ordered m line (Refuses o) s =
      ordered_alike m (with_request_of rules line (Refuses o) m) refl s.no_cycle
      (sealed_below rules m (entry_here m o line []) s.sealed) s

  line_taken : (m : Machine) (line : List ℕ) → IsInOrder rules m → IsInOrder rules (with_line rules line m)
  line_taken m line s = by (list_any (is_among m.busy) (terminal_in (rules.terminal_of line)))
    where
      by : (b : Bool) → IsInOrder rules (if b then record m { held = Some line }
          else with_request_of rules line (rules.request_of m.history line) m)
      by true = ordered_alike m (record m { held = Some line }) refl s.no_cycle s.sealed s
      by false = with_request_ordered m line (rules.request_of m.history line) s

  taken : (m : Machine) → IsInOrder rules m → IsInOrder rules (taken_in rules m)
  taken m s = by (next_line m)
    where
      -- without the line that is taken
      without : (o : Option (List ℕ)) → IsInOrder rules (option_map_or (λ (line : List ℕ). record m { held = None }) o
          (record m { lines = drop 1 m.lines }))
      without None = ordered_alike m (record m { lines = drop 1 m.lines }) refl s.no_cycle s.sealed s
      without (Some line) = ordered_alike m (record m { held = None }) refl s.no_cycle s.sealed s

      by : (o : Option (List ℕ)) → IsInOrder rules
          (option_map_or (λ line. with_line rules line (without_line m)) o m)
      by None = s
      by (Some line) = line_taken (without_line m) line (without m.held)

  -- ---- all turns

  led : (m m2 : Machine) → m2 ≡ m → IsInOrder rules m → IsInOrder rules m2
  led m m2 e s = subst (λ (x : Machine). IsInOrder rules x) (sym e) s

  begins : (m : Machine) (place : ℕ) (o : Option (List Message))
      → IsInOrder rules m → IsInOrder rules (begins_in rules m (suc place) (unwrap_or o []))
  begins m place None s = s
  begins m place (Some []) s = s
  begins m place (Some (message ∷ messages)) s =
      put_active m (begins_in rules m (suc place) (message ∷ messages)) place (begun_in rules m message 0) refl
      s.no_cycle s.sealed (begun_within m message 0) s

  purges : (m : Machine) (set n : ℕ) (held : Bool) (m2 : Machine) → PurgeTurn rules m set n held m2
      → IsInOrder rules m → IsInOrder rules m2
  purges m set n true m2 turn s = led m m2 turn s
  purges m set n false m2 turn s =
      led _ m2 turn.after (writes m (entry_here m (outcome.Purge set n) [] turn.items) turn.next s)

  module _ (view : View) (order : Laws rules view) where
    -- one more answer is within what the script may ask
    answer_within : (m : Machine) (t : Transaction) (call : Call)
        → length t.point.answers < rules.budget t.message
        → IsWithin (with_answer rules m t call)
    answer_within m t call few =
        let now : Db = m.history.now in
        let r : Replied = rules.reply_to now now t.point.own call in
        let counted : length (t.point.answers ++ r.answer ∷ [])
        ≡ length t.point.answers + 1 = length-append t.point.answers (r.answer ∷ []) in
        omega (arith, counted, few)

    acts : (m : Machine) (place : ℕ) (t : Transaction) (act : Act) (m2 : Machine) → Does rules m (suc place) t act m2
        → IsInOrder rules m → IsInOrder rules m2
    acts m place t (Answers call) m2 d s =
        led _ m2 d.2 (put_active m _ place (with_answer rules m t call) refl s.no_cycle s.sealed
        (answer_within m t call (order.ends t.message t.point.answers call d.0)) s)
    acts m place t (Gains needed) m2 d s =
        led _ m2 d.2 (ordered_alike m _ refl
        (gained_waits (as_lock rules (suc place) needed) m.requests m.locks s.no_cycle) s.sealed s)
    acts m place t (Waits needed) m2 d s =
        led _ m2 d.3 (ordered_alike m _ refl
        (asked_waits (as_lock rules (suc place) needed) m.requests m.locks d.2 s.no_cycle) s.sealed s)
    acts m place t (Deadlocks needed cycle) m2 d s = led _ m2 d.2 (ends m place _ _ s)
    acts m place t (Retries_at_cycle needed cycle) m2 d s = led _ m2 d.2 (retries m place t s)
    acts m place t (Finishes ending items) m2 d s = led _ m2 d.3 (ends m place _ _ s)
    acts m place t (Retries_at_verify ending) m2 d s = led _ m2 d.3 (retries m place t s)

    region_turn : (m : Machine) (place : ℕ) (region : Option Region) (v : Environment) (m2 : Machine)
        → RegionTurn rules m (suc place) region v m2
        → IsInOrder rules m → IsInOrder rules m2
    region_turn m place None v m2 turn s = absurd turn
    region_turn m place (Some Idle) NoFault m2 turn s =
        led _ m2 turn (begins m place (slice_get m.queues (queue_of_region rules (suc place))) s)
    region_turn m place (Some Idle) DeviceFault m2 turn s = absurd turn
    region_turn m place (Some Idle) OutOfMemory m2 turn s = absurd turn
    region_turn m place (Some (Active t)) NoFault m2 turn s = acts m place t turn.0 m2 turn.1 s
    region_turn m place (Some (Active t)) DeviceFault m2 turn s = led _ m2 turn (ends m place _ _ s)
    region_turn m place (Some (Active t)) OutOfMemory m2 turn s = led _ m2 turn (ends m place _ _ s)

    -- One turn keeps it.
    pub turn_ordered : (m : Machine) (e : Event) (v : Environment) (m2 : Machine) → Turn rules m e v m2
        → IsInOrder rules m → IsInOrder rules m2
    turn_ordered m event.In NoFault m2 turn s = led _ m2 turn (taken m s)
    turn_ordered m event.In DeviceFault m2 turn s = absurd turn
    turn_ordered m event.In OutOfMemory m2 turn s = absurd turn
    turn_ordered m (event.Region zero) v m2 turn s = absurd turn
    turn_ordered m (event.Region (suc place)) v m2 turn s =
        region_turn m place (slice_get m.regions place) v m2 turn s
    turn_ordered m event.Log NoFault m2 turn s = led _ m2 turn (logs m s)
    turn_ordered m event.Log DeviceFault m2 turn s = absurd turn
    turn_ordered m event.Log OutOfMemory m2 turn s = absurd turn
    turn_ordered m event.Out v m2 turn s = led m m2 turn s
    turn_ordered m event.Ckpt NoFault m2 turn s = led _ m2 turn (logs_often (place_of m.history - m.sealed) m s)
    turn_ordered m event.Ckpt DeviceFault m2 turn s = led _ m2 turn (logs_often (place_of m.history - m.sealed) m s)
    turn_ordered m event.Ckpt OutOfMemory m2 turn s = absurd turn
    turn_ordered m (event.Purge set n) NoFault m2 turn s = purges m set n (is_area_held rules m set) m2 turn s
    turn_ordered m (event.Purge set n) DeviceFault m2 turn s = led m m2 turn s
    turn_ordered m (event.Purge set n) OutOfMemory m2 turn s = led m m2 turn s

  -- A machine at rest has it, whatever its history.
  pub rest_ordered : (lines : List (List ℕ)) (h : History) → IsInOrder rules (at_rest rules lines h)
  rest_ordered lines h = record {
    sealed = omega arith;
    no_cycle = no_locks [];
    within = λ region t is. absurd (nobody region t is);
  }
    where
      nobody : (region : ℕ) (t : Transaction) → ¬ (region_at (at_rest rules lines h) region ≡ Some (Active t))
      nobody zero t e = none-some _ e
      nobody (suc place) t e = idle_is_not t (sym (mapped_to rules.regions place Idle (Active t) e))

  -- What keeps the serial order has it.
  pub kept_ordered : (view : View) (m : Machine) → Kept rules view m → IsInOrder rules m
  kept_ordered view m k = record {
    sealed = k.terminals.sealed;
    no_cycle = k.no_cycle;
    within = λ region t is. (k.sound region t is).few;
  }
