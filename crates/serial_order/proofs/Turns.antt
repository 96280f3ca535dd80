-- Every run keeps the invariant.
use Rattle.std.proofs.Common.{◌≡◌, ℕ, zero, suc, ◌+◌, ◌-◌, ◌≤◌, List, [], ◌∷◌, ◌++◌, Option, Some, None, inl, inr, refl, sym, ◌∙◌, ap, subst, Bool, true, false, if◌then◌else◌, arith, slice_get, slice_set}
use Rattle.std.specs.Prelude.{option_map, unwrap_or, drop}
use Rattle.std.specs.List.{Contains, list_any}
use Rattle.std.specs.Option.{option_map_or}
use Rattle.std.proofs.lemmas.List.Elements.{Contains-push_cases}
use Rattle.fp_model.specs.declared.calls.Call.{Call}
use Rattle.fp_model.specs.declared.calls.Message.{Message}
use Rattle.fp_model.specs.declared.calls.Mode.TheVariants.{Exclusive}
use Rattle.fp_model.specs.declared.calls.Resource.{Resource}
use Rattle.fp_model.specs.declared.events.Event.{Event}
use Rattle.fp_model.specs.declared.events.Event.TheVariants as event
use Rattle.fp_model.specs.declared.log.Entry.{Entry}
use Rattle.fp_model.specs.declared.log.Item.{Item}
use Rattle.fp_model.specs.declared.log.Outcome.{Outcome}
use Rattle.fp_model.specs.declared.log.Outcome.TheVariants as outcome
use Rattle.fp_model.specs.declared.name.Name.{Name}
use Rattle.fp_model.specs.Answers.{Needed}
use Rattle.fp_model.specs.Commit.{Settlement, Commits, FailsVerify, FillsPart}
use Rattle.fp_model.specs.Asking.{Ask, Asks, Replies, Rolls}
use Rattle.fp_model.specs.History.{History, Request, Accepts, Refuses, place_of, states_of}
use Rattle.fp_model.specs.Rules.{Rules}
use Rattle.fp_model.specs.Serial.{Ends, Ending, asked, goes, refused_as, settled_as}
use Rattle.fp_model.specs.SerialHistory.{EndsAlone, Comes, IsSerial}
use Rattle.fp_model.specs.Waiting.{Lock, held_as}
use Rattle.fp_model.specs.Machine.{Transaction, Region, Idle, Active, Machine, at_rest, region_at, entry_of, entry_here, ended_with, next_line, without_line, is_among, terminal_in, with_message, with_refusal, with_request_of, with_line, taken_in, sealed_once, sealed_all}
use Rattle.fp_model.specs.Turns.{Environment, NoFault, DeviceFault, OutOfMemory, Act, Answers, Gains, Waits, Deadlocks, Retries_at_cycle, Finishes, Retries_at_verify, asks, wanted, ending_of, as_lock, Does, queue_of_region, begins_in, refused_with, RegionTurn, is_area_held, PurgeTurn, Turn}
use Rattle.fp_model.specs.Runs.{RunStep, Runs}
use Rattle.fp_model.specs.Frames.{KeepsLines, KeepsQueues, KeepsRegions, KeepsHistory}
use Rattle.fp_model.proofs.FrameLemmas.{turn_keeps as turn_leaves}
use Rattle.serial_order.specs.Laws.{View, Laws, IsRefusal, is_format}
use Rattle.serial_order.specs.Kept.{IsRequest, StandOnce, line_count, count, Kept, IsAtRest}
use Rattle.serial_order.proofs.Lists.{contains_in_set, mapped_to, replicated, none_passes, from_below}
use Rattle.serial_order.proofs.Locks.{held_by, held_somehow}
use Rattle.serial_order.proofs.Waits.{no_locks}
use Rattle.serial_order.proofs.Plays.{ends_alone}
use Rattle.serial_order.proofs.Terminals.{joins_once, queued_more, unsealed_more, sealed_below, writes_once, log_once, times_once, rests_once}
use Rattle.serial_order.proofs.Kept.{not_idle, alike, begins_kept, tried_kept, answers_kept, gains_kept, waits_kept, ended_kept, written_kept}
use Rattle.plain_laws.proofs.Alls.{contains_nothing, get_contains}
use Rattle.std.proofs.lemmas.Option.{none-some, same_Some}

module _ (rules : Rules) (view : View) (laws : Laws rules view) where
  -- what a turn leads to
  is_kept : (m m2 : Machine) → m2 ≡ m → Kept rules view m → Kept rules view m2
  is_kept m m2 e k = subst (λ (x : Machine). Kept rules view x) (sym e) k

  -- ---- what an active region does

  -- a call for which nothing is wanted
  none_wanted : (m : Machine) (region : ℕ) (t : Transaction) (ask : Ask) (call : Call) → ask ≡ Asks call
      → wanted rules m region t ask ≡ None
      → rules.need m.history.now t.point.own (held_as m.locks region) call ≡ None
  none_wanted m region t ask call e w = subst (λ (a : Ask). wanted rules m region t a ≡ None) e w

  -- an end for which nothing is wanted
  lacks_none : (o : Option Resource)
      → option_map (λ (resource : Resource). let n : Needed = record { resource = resource; mode = Exclusive } in n) o
      ≡ None → o ≡ None
  lacks_none None e = refl
  lacks_none (Some r) e = absurd (none-some _ (sym e))

  -- what is wanted isn't held Exclusive
  wants_new : (m : Machine) (region : ℕ) (t : Transaction) (ask : Ask) (needed : Needed)
      → wanted rules m region t ask ≡ Some needed → ¬ (held_as m.locks region needed.resource ≡ Some Exclusive)
  wants_new m region t (Asks call) needed w =
      laws.wants m.history.now t.point.own (held_as m.locks region) call needed w
  wants_new m region t (Replies reply) needed w = from (rules.lack t.point.own (held_as m.locks region)) refl w
    where
      from : (o : Option Resource) → rules.lack t.point.own (held_as m.locks region) ≡ o
          → option_map (λ (resource : Resource). let n : Needed = record { resource = resource; mode = Exclusive } in
          n) o ≡ Some needed → ¬ (held_as m.locks region needed.resource ≡ Some Exclusive)
      from None is e = absurd (none-some needed e)
      from (Some r) is e =
          subst (λ (q : Resource). ¬ (held_as m.locks region q ≡ Some Exclusive))
          (ap (λ (n : Needed). n.resource) (same_Some _ needed e)) (laws.lacks t.point.own (held_as m.locks region) r is)
  wants_new m region t (Rolls code) needed w = absurd (none-some needed w)

  module _ (m : Machine) (place : ℕ) (t : Transaction) (k : Kept rules view m)
      (active : slice_get m.regions place ≡ Some (Active t)) where
    -- the transaction's entry, which leaves the state as it is
    rests : (ending : Ending) (notes : List ℕ) → ending.next ≡ m.history.now → is_format ending.outcome ≡ false
        → Comes rules m.history (entry_of t ending notes []) m.history.now
        → Kept rules view (ended_with (suc place) (entry_of t ending notes []) m.history.now m)
    rests ending notes stays format comes =
        ended_kept rules view laws m (entry_of t ending notes []) m.history.now k format place t active refl comes
        (λ resource h. refl)

    -- it began before this place
    began_before : t.from ≤ place_of m.history
    began_before = from_below t.from t.notes (place_of m.history) (k.sound (suc place) t active).in_order

    -- a transaction that is refused
    refused : (o : Outcome) → is_format o ≡ false
        → Comes rules m.history (entry_of t (refused_as o m.history.now) [] []) m.history.now
        → Kept rules view (refused_with rules m (suc place) t o)
    refused o format comes = rests (refused_as o m.history.now) [] refl format comes

    closes_cycle : (cycle : List ℕ) → Kept rules view (refused_with rules m (suc place) t (outcome.Deadlock cycle))
    closes_cycle cycle = refused (outcome.Deadlock cycle) refl (record {
      form = (refl, refl);
      leads =
          record {
            message = t.message;
            is_request =
                (k.sound (suc place) t active).is_request;
            in_order = began_before;
            same = refl;
          };
    })

    -- by a fault of the device, and for want of memory
    faults : Kept rules view (refused_with rules m (suc place) t outcome.Device)
    faults = refused outcome.Device refl (record {
      form = (refl, refl);
      leads =
          record {
            message = t.message;
            is_request =
                (k.sound (suc place) t active).is_request;
            in_order = began_before;
            same = refl;
          };
    })

    lacks_memory : Kept rules view (refused_with rules m (suc place) t outcome.Memory)
    lacks_memory = refused outcome.Memory refl (record {
      form = (refl, refl);
      leads =
          record {
            message = t.message;
            is_request =
                (k.sound (suc place) t active).is_request;
            in_order = began_before;
            same = refl;
          };
    })

    -- how it ends now is how it ends alone
    ends : (ending : Ending) (items : List Item)
        → ((n : ℕ) → goes rules m.history.now (states_of m.history) t.message (suc n) t.point [] ≡ Ends ending)
        → EndsAlone rules m.history (entry_of t ending t.notes items) ending.next
    ends ending items so =
        let g = k.sound (suc place) t active in
        record {
          message = t.message;
          is_request = g.is_request;
          in_order = g.in_order;
          ends = ends_alone rules view m.history (held_as m.locks (suc place)) t g (Ends ending) so;
        }

    -- by what its script comes to
    ends_by : (n : ℕ) (ask : Ask) → asks rules t ≡ ask
        → goes rules m.history.now (states_of m.history) t.message (suc n) t.point []
        ≡ asked rules m.history.now (states_of m.history) t.message ask t.point []
        (goes rules m.history.now (states_of m.history) t.message n)
    ends_by n ask is =
        ap (λ (a : Ask). asked rules m.history.now (states_of m.history) t.message a t.point []
        (goes rules m.history.now (states_of m.history) t.message n)) is

    -- a script that replies
    settled : (reply : List ℕ) (items : List Item) (s : Settlement)
        → rules.settle m.history.now t.point.own ≡ s
        → rules.lack t.point.own (held_as m.locks (suc place)) ≡ None
        → ((n : ℕ) → goes rules m.history.now (states_of m.history) t.message (suc n) t.point [] ≡ Ends
        (settled_as m.history.now reply s))
        → Kept rules view (ended_with (suc place) (entry_of t (settled_as m.history.now reply s) t.notes items)
        (settled_as m.history.now reply s).next m)
    settled reply items (Commits next) is none so =
        let ending : Ending = settled_as m.history.now reply (Commits next) in
        ended_kept rules view laws m (entry_of t ending t.notes items) next k refl place t active refl
        (record { form = tt; leads = ends ending items so })
        (laws.settles m.history.now next t.point.own (held_as m.locks (suc place))
        (k.sound (suc place) t active).covered none is)
    settled reply items (FailsVerify call fsa found) is none so =
        let ending : Ending = refused_as (outcome.Verify call fsa found) m.history.now in
        ended_kept rules view laws m (entry_of t ending t.notes items) m.history.now k refl place t active refl
        (record { form = refl; leads = ends ending items so }) (λ resource h. refl)
    settled reply items (FillsPart set begin end n) is none so =
        let ending : Ending = refused_as (outcome.SeqFull set begin end n) m.history.now in
        ended_kept rules view laws m (entry_of t ending t.notes items) m.history.now k refl place t active refl
        (record { form = refl; leads = ends ending items so }) (λ resource h. refl)

    -- a script at its end
    finishes : (ask : Ask) (ending : Ending) (items : List Item)
        → asks rules t ≡ ask
        → wanted rules m (suc place) t ask ≡ None
        → ending_of rules m.history.now t ask ≡ Some ending
        → Kept rules view (ended_with (suc place) (entry_of t ending t.notes items) ending.next m)
    finishes (Asks call) ending items is none e = absurd (none-some ending e)
    finishes (Replies reply) ending items is none e =
        let s : Settlement = rules.settle m.history.now t.point.own in
        subst (λ (x : Ending). Kept rules view (ended_with (suc place) (entry_of t x t.notes items) x.next m))
        (same_Some (settled_as m.history.now reply s) ending e)
        (settled reply items s refl (lacks_none (rules.lack t.point.own (held_as m.locks (suc place))) none)
        (λ n. ends_by n (Replies reply) is))
    finishes (Rolls code) ending items is none e =
        let rolled : Ending = refused_as (outcome.Roll code) m.history.now in
        subst (λ (x : Ending). Kept rules view (ended_with (suc place) (entry_of t x t.notes items) x.next m))
        (same_Some rolled ending e)
        (ended_kept rules view laws m (entry_of t rolled t.notes items) m.history.now k refl place t active refl
        (record { form = refl; leads = ends rolled items (λ n. ends_by n (Rolls code) is) }) (λ resource h. refl))

    -- any act of an active region
    does : (act : Act) (m2 : Machine) → Does rules m (suc place) t act m2 → Kept rules view m2
    does (Answers call) m2 d =
        is_kept _ m2 d.2 (answers_kept rules view laws m place t call k active d.0
        (none_wanted m (suc place) t (asks rules t) call d.0 d.1))
    does (Gains needed) m2 d =
        is_kept _ m2 d.2 (gains_kept rules view m (as_lock rules (suc place) needed) k d.1
        (wants_new m (suc place) t (asks rules t) needed d.0))
    does (Waits needed) m2 d = is_kept _ m2 d.3 (waits_kept rules view m (as_lock rules (suc place) needed) k d.2)
    does (Deadlocks needed cycle) m2 d = is_kept _ m2 d.2 (closes_cycle (suc place ∷ cycle))
    does (Retries_at_cycle needed cycle) m2 d = is_kept _ m2 d.2 (tried_kept rules view laws m place t k active)
    does (Finishes ending items) m2 d =
        is_kept _ m2 d.3 (finishes (asks rules t) ending items refl d.0.lacks_none d.0.ends)
    does (Retries_at_verify ending) m2 d = is_kept _ m2 d.3 (tried_kept rules view laws m place t k active)

  -- ---- a region's turn

  -- an idle region takes a message, if there is one
  begins : (m : Machine) (place : ℕ) (o : Option (List Message))
      → slice_get m.queues (queue_of_region rules (suc place)) ≡ o
      → slice_get m.regions place ≡ Some Idle
      → Kept rules view m → Kept rules view (begins_in rules m (suc place) (unwrap_or o []))
  begins m place None is idle k = k
  begins m place (Some []) is idle k = k
  begins m place (Some (message ∷ messages)) is idle k =
      begins_kept rules view laws m place (queue_of_region rules (suc place)) message messages k idle is

  -- a turn of a region
  region_turn : (m : Machine) (place : ℕ) (region : Option Region) (v : Environment) (m2 : Machine) → Kept rules view m
      → slice_get m.regions place ≡ region
      → RegionTurn rules m (suc place) region v m2 → Kept rules view m2
  region_turn m place None v m2 k is turn = absurd turn
  region_turn m place (Some Idle) NoFault m2 k is turn =
      is_kept _ m2 turn (begins m place (slice_get m.queues (queue_of_region rules (suc place))) refl is k)
  region_turn m place (Some Idle) DeviceFault m2 k is turn = absurd turn
  region_turn m place (Some Idle) OutOfMemory m2 k is turn = absurd turn
  region_turn m place (Some (Active t)) NoFault m2 k is turn = does m place t k is turn.0 m2 turn.1
  region_turn m place (Some (Active t)) DeviceFault m2 k is turn = is_kept _ m2 turn (faults m place t k is)
  region_turn m place (Some (Active t)) OutOfMemory m2 k is turn = is_kept _ m2 turn (lacks_memory m place t k is)

  -- ---- IN

  -- other lines, that are left or held
  with_lines : (m m2 : Machine) → m2 ≡ record m { lines = m2.lines; held = m2.held } → Kept rules view m
      → Kept rules view m2
  with_lines m m2 is k = is_kept (record m { lines = m2.lines; held = m2.held }) m2 is (record {
    history = k.history;
    queued = k.queued;
    terminals = record { once = k.terminals.once; is_busy = k.terminals.is_busy; sealed = k.terminals.sealed };
    apart = k.apart;
    sound = λ region t stands. k.sound region t (same_region region t stands);
    no_cycle = k.no_cycle;
  })
    where
      same_region : (region : ℕ) (t : Transaction)
          → region_at (record m { lines = m2.lines; held = m2.held }) region ≡ Some (Active t)
          → region_at m region ≡ Some (Active t)
      same_region zero t stands = stands
      same_region (suc place) t stands = stands

  -- a message is queued
  message_kept : (m : Machine) (line : List ℕ) (message : Message)
      → list_any (is_among m.busy) (terminal_in (rules.terminal_of line)) ≡ false
      → rules.request_of m.history line ≡ Accepts message
      → Kept rules view m → Kept rules view (with_message rules message m)
  message_kept m line message free is k = record {
    history = k.history;
    queued = queued (slice_get m.queues queue) refl;
    terminals =
        joins_once rules m (with_message rules message m) line free
        (ap (λ (o : Option Name). m.busy ++ terminal_in o)
        (sym (laws.terminals m.history line message is))) more k.terminals.sealed k.terminals;
    apart = k.apart;
    sound = λ region t stands. k.sound region t (same_region region t stands);
    no_cycle = k.no_cycle;
  }
    where
      queue : ℕ
      queue = rules.group_of message - 1

      same_line : message.line ≡ line
      same_line = laws.lines m.history line message is

      same_region : (region : ℕ) (t : Transaction) → region_at (with_message rules message m) region ≡ Some (Active t)
          → region_at m region ≡ Some (Active t)
      same_region zero t stands = stands
      same_region (suc place) t stands = stands

      more : (name : Name) → count rules name
          (with_message rules message m) ≤ count rules name m + line_count rules name line
      more name =
          let same : line_count rules name message.line
          ≡ line_count rules name line = ap (line_count rules name) same_line in
          omega (arith, same, queued_more rules name queue message m.queues)

      queued : (o : Option (List Message)) → slice_get m.queues queue ≡ o
          → (messages : List Message) (other : Message)
          → Contains (option_map_or (λ (ms : List Message). slice_set m.queues queue
          (ms ++ message ∷ [])) o m.queues) messages
          → Contains messages other → IsRequest rules m.history other
      queued None at messages other c d = k.queued messages other c d
      queued (Some ms) at messages other c d = elim (contains_in_set m.queues queue (ms ++ message ∷ []) messages c) [
        | inl these ↦ elim (Contains-push_cases ms message other
            (subst (λ (q : List Message). Contains q other) these d)) [
              | inl before ↦ k.queued ms other (get_contains m.queues queue ms at) before
              | inr new ↦ subst (λ (q : Message). IsRequest rules m.history q) new
                  (subst (λ (l : List ℕ). rules.request_of m.history l ≡ Accepts message) (sym same_line) is)
            ]
        | inr there ↦ k.queued messages other there d
      ]

  -- the entry of a line that asks for nothing
  refusal_comes : (m : Machine) (line : List ℕ) (o : Outcome)
      → rules.request_of m.history line ≡ Refuses o → IsRefusal o
      → Comes rules m.history (entry_here m o line []) m.history.now × (is_format o ≡ false)
  refusal_comes m line outcome.Unknown is allowed = (record { form = ((refl, refl), refl); leads = (is, refl) }, refl)
  refusal_comes m line (outcome.Old last) is allowed =
      (record { form = ((refl, refl), refl); leads = (is, refl) }, refl)
  refusal_comes m line (outcome.Repeat kept) is allowed =
      (record { form = ((refl, refl), refl); leads = (is, refl) }, refl)
  refusal_comes m line outcome.Done is allowed = absurd allowed
  refusal_comes m line (outcome.Verify call fsa found) is allowed = absurd allowed
  refusal_comes m line (outcome.Roll code) is allowed = absurd allowed
  refusal_comes m line (outcome.SeqFull set begin end n) is allowed = absurd allowed
  refusal_comes m line (outcome.Deadlock cycle) is allowed = absurd allowed
  refusal_comes m line outcome.Device is allowed = absurd allowed
  refusal_comes m line outcome.Memory is allowed = absurd allowed
  refusal_comes m line (outcome.Purge set n) is allowed = absurd allowed
  refusal_comes m line outcome.Format is allowed = absurd allowed

  -- a line that asks for nothing
  refusal_kept : (m : Machine) (line : List ℕ) (o : Outcome)
      → list_any (is_among m.busy) (terminal_in (rules.terminal_of line)) ≡ false
      → rules.request_of m.history line ≡ Refuses o
      → Kept rules view m → Kept rules view (with_refusal rules o line m)
  refusal_kept m line o free is k =
      let e : Entry = entry_here m o line [] in
      let comes = refusal_comes m line o is (laws.refuses m.history line o is) in
      written_kept rules view laws m e m.history.now k comes.1 (m.busy ++ terminal_in (rules.terminal_of line))
      (joins_once rules m (with_refusal rules o line m) line free refl
      (λ name. omega (arith, unsealed_more rules name m e k.terminals.sealed))
      (sealed_below rules m e k.terminals.sealed) k.terminals)
      comes.0 (λ s resource h. refl)

  -- a line is taken, or held
  line_kept : (m : Machine) (line : List ℕ) → Kept rules view m → Kept rules view (with_line rules line m)
  line_kept m line k = either (list_any (is_among m.busy) (terminal_in (rules.terminal_of line))) refl
    where
      requested : (r : Request) → list_any (is_among m.busy) (terminal_in (rules.terminal_of line)) ≡ false
          → rules.request_of m.history line ≡ r → Kept rules view (with_request_of rules line r m)
      requested (Accepts message) free is = message_kept m line message free is k
      requested (Refuses o) free is = refusal_kept m line o free is k

      either : (b : Bool) → list_any (is_among m.busy) (terminal_in (rules.terminal_of line)) ≡ b
          → Kept rules view (if b then record m { held = Some line } else with_request_of rules line
          (rules.request_of m.history line) m)
      either true is = with_lines m (record m { held = Some line }) refl k
      either false free = requested (rules.request_of m.history line) free refl

  -- IN
  taken_kept : (m : Machine) → Kept rules view m → Kept rules view (taken_in rules m)
  taken_kept m k = taken (next_line m)
    where
      without : (o : Option (List ℕ))
          → Kept rules view (option_map_or (λ (line : List ℕ). record m { held = None }) o
          (record m { lines = drop 1 m.lines }))
      without None = with_lines m (record m { lines = drop 1 m.lines }) refl k
      without (Some line) = with_lines m (record m { held = None }) refl k

      taken : (o : Option (List ℕ)) → Kept rules view
          (option_map_or (λ line. with_line rules line (without_line m)) o m)
      taken None = k
      taken (Some line) = line_kept (without_line m) line (without m.held)

  -- ---- LOG and CKPT

  logs_kept : (m m2 mid : Machine) → m2 ≡ mid → Kept rules view m
      → KeepsLines m m2 × KeepsQueues m m2 × KeepsRegions m m2 × KeepsHistory m m2
      → StandOnce rules mid → Kept rules view m2
  logs_kept m m2 mid is k leaves once =
      alike rules view m m2 leaves.1 leaves.2 leaves.3 (subst (λ (x : Machine). StandOnce rules x) (sym is) once) k

  -- ---- PURGE

  -- a Purge, where no anchor of the area is held
  purge_turn : (m : Machine) (set n : ℕ) (held : Bool) (m2 : Machine) → is_area_held rules m set ≡ held
      → Kept rules view m → PurgeTurn rules m set n held m2 → Kept rules view m2
  purge_turn m set n true m2 is k turn = is_kept m m2 turn k
  purge_turn m set n false m2 is k turn =
      let e : Entry = entry_here m (outcome.Purge set n) [] turn.items in
      is_kept _ m2 turn.after (written_kept rules view laws m e turn.next k refl m.busy
      (writes_once rules m e turn.next laws.no_text k.terminals)
      (record { form = (((refl, refl), refl), refl); leads = turn.is_purged })
      (λ s resource h. laws.purges set n m.history.now turn.next turn.is_purged resource (outside s resource h)))
    where
      outside : (s : ℕ) (resource : Resource) → ¬ (held_as m.locks s resource ≡ None)
          → rules.is_in_area set resource ≡ false
      outside s resource h =
          let some = held_somehow (held_as m.locks s resource) h in
          let by = held_by m.locks s resource some.0 some.1 in
          ap (rules.is_in_area set) (sym by.1.2)
          ∙ none_passes (λ (lock : Lock). rules.is_in_area set lock.resource) m.locks by.0 is by.1.0

  -- ---- all turns

  -- One turn keeps the invariant.
  pub turn_kept : (m : Machine) (e : Event) (v : Environment) (m2 : Machine) → Turn rules m e v m2 → Kept rules view m
      → Kept rules view m2
  turn_kept m event.In NoFault m2 turn k = is_kept _ m2 turn (taken_kept m k)
  turn_kept m event.In DeviceFault m2 turn k = absurd turn
  turn_kept m event.In OutOfMemory m2 turn k = absurd turn
  turn_kept m (event.Region zero) v m2 turn k = absurd turn
  turn_kept m (event.Region (suc place)) v m2 turn k = region_turn m place (slice_get m.regions place) v m2 k refl turn
  turn_kept m event.Log NoFault m2 turn k =
      logs_kept m m2 (sealed_once rules m) turn k (turn_leaves rules m event.Log NoFault m2 turn)
      (log_once rules m k.terminals)
  turn_kept m event.Log DeviceFault m2 turn k = absurd turn
  turn_kept m event.Log OutOfMemory m2 turn k = absurd turn
  turn_kept m event.Out v m2 turn k = is_kept m m2 turn k
  turn_kept m event.Ckpt NoFault m2 turn k =
      logs_kept m m2 (sealed_all rules m) turn k (turn_leaves rules m event.Ckpt NoFault m2 turn)
      (times_once rules (place_of m.history - m.sealed) m k.terminals)
  turn_kept m event.Ckpt DeviceFault m2 turn k =
      logs_kept m m2 (sealed_all rules m) turn k (turn_leaves rules m event.Ckpt DeviceFault m2 turn)
      (times_once rules (place_of m.history - m.sealed) m k.terminals)
  turn_kept m event.Ckpt OutOfMemory m2 turn k = absurd turn
  turn_kept m (event.Purge set n) NoFault m2 turn k = purge_turn m set n (is_area_held rules m set) m2 refl k turn
  turn_kept m (event.Purge set n) DeviceFault m2 turn k = is_kept m m2 turn k
  turn_kept m (event.Purge set n) OutOfMemory m2 turn k = is_kept m m2 turn k

  -- Every run keeps it.
  pub run_kept : (m : Machine) (steps : List RunStep) (m2 : Machine) → Runs rules m steps m2 → Kept rules view m
      → Kept rules view m2
  run_kept m [] m2 runs k = is_kept m m2 runs k
  run_kept m (step ∷ steps) m2 runs k =
      run_kept step.after steps m2 runs.1 (turn_kept m step.event step.environment step.after runs.0 k)

-- a machine at rest
pub at_rest_rests : (rules : Rules) (lines : List (List ℕ)) (h : History) → IsSerial rules h
    → IsAtRest rules (at_rest rules lines h)
at_rest_rests rules lines h history = record {
  history = history;
  queued =
      λ messages message c d. absurd (contains_nothing message
      (subst (λ (q : List Message). Contains q message) (replicated rules.group_count [] messages c) d));
  terminals = rests_once rules lines h;
  no_active = not_active;
  no_locks = refl;
}
  where
    not_active : (region : ℕ) (t : Transaction) → ¬ (region_at (at_rest rules lines h) region ≡ Some (Active t))
    not_active zero t e = none-some _ e
    not_active (suc place) t e = not_idle t (mapped_to rules.regions place Idle (Active t) e)

-- it has the invariant
pub rest_kept : (rules : Rules) (view : View) (m : Machine) → IsAtRest rules m → Kept rules view m
rest_kept rules view m rest = record {
  history = rest.history;
  queued = rest.queued;
  terminals = rest.terminals;
  apart = rw rest.no_locks (λ a b in_a in_b same ne. absurd (contains_nothing a in_a));
  sound = λ region t stands. absurd (rest.no_active region t stands);
  no_cycle = rw rest.no_locks (no_locks m.requests);
}
