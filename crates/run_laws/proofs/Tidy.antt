-- Each turn keeps that nobody is busy twice, and that requests are for what is wanted now.
use Rattle.std.proofs.Common.{◌≡◌, ◌⊎◌, ℕ, zero, suc, ◌+◌, ◌-◌, ◌<◌, ◌≤◌, List, [], ◌∷◌, ◌++◌, length, Option, Some, None, inl, inr, refl, sym, ◌∙◌, ap, subst, Bool, true, false, not, ◌||◌, if◌then◌else◌, arith, slice_get, slice_set}
use Rattle.std.specs.Prelude.{unwrap_or, drop, filter, nat_lt, option_map, sum_by}
use Rattle.std.specs.List.{Contains, list_any}
use Rattle.std.specs.Option.{option_map_or}
use Rattle.std.proofs.lemmas.List.Sums.{sum_by-cons}
use mathlib.Core.Path.{fun_ext}
use Rattle.fp_model.specs.declared.database.Db.{Db}
use Rattle.fp_model.specs.declared.calls.Call.{Call}
use Rattle.fp_model.specs.declared.calls.Message.{Message}
use Rattle.fp_model.specs.declared.calls.Mode.{Mode}
use Rattle.fp_model.specs.declared.calls.Mode.TheVariants.{Exclusive}
use Rattle.fp_model.specs.declared.calls.Resource.{Resource}
use Rattle.fp_model.specs.declared.events.Event.{Event}
use Rattle.fp_model.specs.declared.events.Event.TheVariants as event
use Rattle.fp_model.specs.declared.log.Entry.{Entry}
use Rattle.fp_model.specs.declared.log.Outcome.{Outcome}
use Rattle.fp_model.specs.declared.log.Outcome.TheVariants as outcome
use Rattle.fp_model.specs.declared.name.Name.{Name}
use Rattle.fp_model.specs.Answers.{Needed}
use Rattle.fp_model.specs.Asking.{Ask, Asks, Replies, Rolls}
use Rattle.fp_model.specs.Commit.{Settlement, Commits, FailsVerify, FillsPart}
use Rattle.fp_model.specs.History.{History, Request, Accepts, Refuses, place_of}
use Rattle.fp_model.specs.Rules.{Rules}
use Rattle.fp_model.specs.Serial.{Ending, settled_as, refused_as}
use Rattle.fp_model.specs.Waiting.{Lock, held_as, without_region}
use Rattle.fp_model.specs.Machine.{Transaction, Region, Idle, Active, Machine, at_rest, region_at, with_region, ended_with, with_entry_of, entry_of, entry_here, same_name, is_among, terminal_in, next_line, without_line, with_message, with_refusal, with_request_of, with_line, taken_in, told, next_group, with_group, sealed_once, sealed_times}
use Rattle.fp_model.specs.Turns.{Environment, NoFault, DeviceFault, OutOfMemory, Act, Answers, Gains, Waits, Deadlocks, Retries_at_cycle, Finishes, Retries_at_verify, asks, wanted, ending_of, as_lock, with_answer, begun_in, tried_again, requests_with, Does, queue_of_region, begins_in, RegionTurn, is_area_held, PurgeTurn, Turn}
use Rattle.fp_model.specs.Runs.{RunStep, Runs}
use Rattle.serial_order.specs.Laws.{View, IsSame, Laws}
use Rattle.serial_order.specs.Kept.{line_count, count, StandOnce, Kept}
use Rattle.serial_order.proofs.Lists.{true_is_not_false, none_passes}
use Rattle.serial_order.proofs.Locks.{held_by, held_somehow, others_not_exclusive, without_other}
use Rattle.serial_order.proofs.Terminals.{sum_put, counts_none, region_put, unsealed_more, seals, told_counts, log_once}
use Rattle.drain_laws.specs.Measure.{Gauge}
use Rattle.drain_laws.specs.Live.{EndLaws, IsReached}
use Rattle.drain_laws.proofs.Live.{idle_is_not, same_region, other_region, queued_one, none_told}
use Rattle.serial_order.proofs.Turns.{turn_kept}
use Rattle.drain_laws.proofs.Rounds.{reached_then}
use Rattle.drain_laws.proofs.Sums.{gained_other}
use Rattle.run_laws.specs.Requests.{IsCurrent, times_in}
use Rattle.run_laws.specs.inside.Requests.{IsTidy, WantsByHeld}
use Rattle.plain_laws.proofs.Alls.{contains_cases, contains_nothing}
use Rattle.serial_order.proofs.Kept.{is_transaction}
use Rattle.model_laws.proofs.Texts.{same_names}
use Rattle.std.proofs.lemmas.Option.{none-some, same_Some}
use Rattle.serial_order.proofs.Waits.{others_only}
use Rattle.std.proofs.lemmas.Bool.{cases_Bool}

-- ---- how often a name is among others

-- joined lists
times_join : (a b : List Name) (name : Name) → times_in (a ++ b) name ≡ times_in a name + times_in b name
times_join [] b name = omega arith
times_join (n ∷ ns) b name =
    let of : Name → ℕ = λ x. if same_name name x then 1 else 0 in
    omega (arith, sum_by-cons of n (ns ++ b), sum_by-cons of n ns, times_join ns b name)

abbrev weight : Name → Name → ℕ
weight name n = if same_name name n then 1 else 0

module _ (told_names : List Name) where
  -- those that aren't told
  abbrev others : List Name → List Name
  others names = filter (λ n. not (is_among told_names n)) names

  -- a name that is told isn't among them
  times_told : (names : List Name) (name : Name) → is_among told_names name ≡ true → times_in (others names) name ≡ 0
  times_told [] name is = refl
  times_told (n ∷ ns) name is = by (is_among told_names n) refl (times_told ns name is)
    where
      other : is_among told_names n ≡ false → (b : Bool) → same_name name n ≡ b
          → weight name n ≡ 0
      other free true same =
          absurd (true_is_not_false (sym is ∙ ap (is_among told_names) (same_names name n same) ∙ free))
      other free false same = rw same refl

      by : (b : Bool) → is_among told_names n ≡ b → times_in (others ns) name ≡ 0
          → times_in (if not b then n ∷ others ns else others ns) name ≡ 0
      by true e rest = rest
      by false e rest =
          let here = other e (same_name name n) refl in
          omega (arith, sum_by-cons (λ (x : Name). if same_name name x then 1 else 0) n (others ns), rest, here)

  -- the others are as often as before
  times_untold : (names : List Name) (name : Name) → is_among told_names name ≡ false
      → times_in (others names) name ≡ times_in names name
  times_untold [] name is = refl
  times_untold (n ∷ ns) name is = by (is_among told_names n) refl (times_untold ns name is)
    where
      other : is_among told_names n ≡ true → (b : Bool) → same_name name n ≡ b
          → weight name n ≡ 0
      other told_too true same =
          absurd (true_is_not_false (sym told_too ∙ ap (is_among told_names) (sym (same_names name n same)) ∙ is))
      other told_too false same = rw same refl

      by : (b : Bool) → is_among told_names n ≡ b → times_in (others ns) name ≡ times_in ns name
          → times_in (if not b then n ∷ others ns else others ns) name ≡ times_in (n ∷ ns) name
      by true e rest =
          let of : Name → ℕ = λ x. if same_name name x then 1 else 0 in
          omega (arith, sum_by-cons of n ns, rest, other e (same_name name n) refl)
      by false e rest =
          let of : Name → ℕ = λ x. if same_name name x then 1 else 0 in
          omega (arith, sum_by-cons of n ns, sum_by-cons of n (others ns), rest)

module _ (rules : Rules) where
  -- the terminal of a line
  times_line : (line : List ℕ) (name : Name)
      → times_in (terminal_in (rules.terminal_of line)) name ≡ line_count rules name line
  times_line line name = by (rules.terminal_of line)
    where
      by : (o : Option Name) → times_in (terminal_in o) name ≡ (if is_among (terminal_in o) name then 1 else 0)
      by None = refl
      by (Some n) = pick (same_name name n)
        where
          pick : (b : Bool) → 0 + (if b then 1 else 0) ≡ (if b || false then 1 else 0)
          pick true = refl
          pick false = refl

  -- ---- requests

  -- another region wants what it wanted
  wanted_same : (view : View) → WantsByHeld rules view → (m m2 : Machine) (s : ℕ) (t : Transaction) (ask : Ask)
      → ((r : Resource) → held_as m2.locks s r ≡ held_as m.locks s r)
      → IsSame view (held_as m.locks s) m.history.now m2.history.now
      → wanted rules m2 s t ask ≡ wanted rules m s t ask
  wanted_same view by_held m m2 s t (Asks call) holds same =
      ap (λ (held : Resource → Option Mode). rules.need m2.history.now t.point.own held call)
      (fun_ext (λ (r : Resource). holds r))
      ∙ by_held m.history.now m2.history.now t.point.own (held_as m.locks s) call same
  wanted_same view by_held m m2 s t (Replies reply) holds same =
      ap (λ (held : Resource → Option Mode).
      option_map (λ (r : Resource). let n : Needed = record { resource = r; mode = Exclusive } in n)
      (rules.lack t.point.own held)) (fun_ext (λ (r : Resource). holds r))
  wanted_same view by_held m m2 s t (Rolls code) holds same = refl

  -- a request stays current
  stays_current : (view : View) → WantsByHeld rules view → (m m2 : Machine) (l : Lock)
      → ((t : Transaction) → region_at m l.region ≡ Some (Active t) → region_at m2 l.region ≡ Some (Active t))
      → ((r : Resource) → held_as m2.locks l.region r ≡ held_as m.locks l.region r)
      → IsSame view (held_as m.locks l.region) m.history.now m2.history.now
      → IsCurrent rules m l → IsCurrent rules m2 l
  stays_current view by_held m m2 l stays holds same c = record {
    t = c.t;
    stands = stays c.t c.stands;
    wants = wanted_same view by_held m m2 l.region c.t (asks rules c.t) holds same ∙ c.wants;
  }

  -- all do, in a machine with the same regions, locks and state
  all_current : (view : View) → WantsByHeld rules view → (m m2 : Machine)
      → m2.regions ≡ m.regions
      → m2.locks ≡ m.locks
      → m2.requests ≡ m.requests
      → ((s : ℕ) → IsSame view (held_as m.locks s) m.history.now m2.history.now)
      → ((l : Lock) → Contains m.requests l → IsCurrent rules m l)
      → (l : Lock) → Contains m2.requests l → IsCurrent rules m2 l
  all_current view by_held m m2 regions locks requests same all l c =
      stays_current view by_held m m2 l (λ t is. same_region m m2 l.region (Active t) regions is)
      (λ r. ap (λ (ls : List Lock). held_as ls l.region r) locks) (same l.region)
      (all l (subst (λ (ls : List Lock). Contains ls l) requests c))

  -- where one region's transaction changes, and its request goes, those of the others do
  others_current : (view : View) → WantsByHeld rules view → (m m2 : Machine) (place : ℕ) (new : Region)
      → m2.regions ≡ slice_set m.regions place new
      → ((s : ℕ) → ¬ (s ≡ suc place) → (r : Resource) → held_as m2.locks s r ≡ held_as m.locks s r)
      → ((s : ℕ) → ¬ (s ≡ suc place) → IsSame view (held_as m.locks s) m.history.now m2.history.now)
      → ((l : Lock) → Contains m2.requests l → Contains m.requests l × ¬ (l.region ≡ suc place))
      → ((l : Lock) → Contains m.requests l → IsCurrent rules m l)
      → (l : Lock) → Contains m2.requests l → IsCurrent rules m2 l
  others_current view by_held m m2 place new regions holds same kept all l c =
      let old = kept l c in
      stays_current view by_held m m2 l (λ t is. other_region m m2 place l.region new t regions old.1 is)
      (holds l.region old.1) (same l.region old.1) (all l old.0)

  module _ (gauge : Gauge) (laws : EndLaws rules gauge) (view : View) (order : Laws rules view)
      (by_held : WantsByHeld rules view) where
    -- what a turn leads to
    led : (m m2 : Machine) → m2 ≡ m → IsTidy rules m → IsTidy rules m2
    led m m2 e s = subst (λ (x : Machine). IsTidy rules x) (sym e) s

    -- ---- what an end changes

    -- only what the region holds Exclusive
    ends_leave : (m : Machine) (place : ℕ) (t : Transaction) (ask : Ask) (ending : Ending) → Kept rules view m
        → slice_get m.regions place ≡ Some (Active t)
        → wanted rules m (suc place) t ask ≡ None
        → ending_of rules m.history.now t ask ≡ Some ending
        → (r : Resource) → ¬ (held_as m.locks (suc place) r ≡ Some Exclusive)
        → view.seen r ending.next ≡ view.seen r m.history.now
    ends_leave m place t (Asks call) ending k is none e r free = absurd (none-some ending e)
    ends_leave m place t (Replies reply) ending k is none e r free =
        ap (λ (x : Ending). view.seen r x.next)
        (sym (same_Some (settled_as m.history.now reply (rules.settle m.history.now t.point.own)) ending e))
        ∙ by (rules.settle m.history.now t.point.own) refl
      where
        lacks_none : (o : Option Resource)
            → option_map (λ (q : Resource). let n : Needed = record { resource = q; mode = Exclusive } in n) o ≡ None
            → o ≡ None
        lacks_none None e = refl
        lacks_none (Some q) e = absurd (none-some _ (sym e))

        by : (s : Settlement) → rules.settle m.history.now t.point.own ≡ s
            → view.seen r (settled_as m.history.now reply s).next ≡ view.seen r m.history.now
        by (Commits next) to =
            order.settles m.history.now next t.point.own (held_as m.locks (suc place))
            (k.sound (suc place) t is).covered (lacks_none (rules.lack t.point.own (held_as m.locks (suc place))) none)
            to r free
        by (FailsVerify call fsa found) to = refl
        by (FillsPart set begin end n) to = refl
    ends_leave m place t (Rolls code) ending k is none e r free =
        ap (λ (x : Ending). view.seen r x.next)
        (sym (same_Some (refused_as (outcome.Roll code) m.history.now) ending e))

    -- so nothing that another holds
    others_see : (m : Machine) (place s : ℕ) (next : Db) → Kept rules view m
        → ((r : Resource) → ¬ (held_as m.locks (suc place) r ≡ Some Exclusive)
        → view.seen r next ≡ view.seen r m.history.now)
        → ¬ (s ≡ suc place)
        → IsSame view (held_as m.locks s) m.history.now next
    others_see m place s next k leaves other r held =
        leaves r (others_not_exclusive m.locks k.apart (suc place) s r other held)

    -- ---- turns of a region

    -- a transaction ends, with an entry of its line
    ends : (m : Machine) (place : ℕ) (t : Transaction) (e : Entry) (next : Db) → Kept rules view m
        → slice_get m.regions place ≡ Some (Active t)
        → e.line ≡ t.message.line
        → ((r : Resource) → ¬ (held_as m.locks (suc place) r ≡ Some Exclusive)
        → view.seen r next ≡ view.seen r m.history.now)
        → IsTidy rules m → IsTidy rules (ended_with (suc place) e next m)
    ends m place t e next k is same leaves s = record {
      busy = λ name. (
          let line : line_count rules name e.line ≡ line_count rules name t.message.line
          = ap (line_count rules name) same in
          omega (
            arith,
            line,
            region_put rules name m place (Active t) Idle is,
            unsealed_more rules name m e k.terminals.sealed,
            s.busy name,
          ));
      current = others_current view by_held m (ended_with (suc place) e next m) place Idle refl
          (λ q other r. without_other (suc place) q r m.locks other)
          (λ q other. others_see m place q next k leaves other)
          (λ l c. others_only (suc place) m.requests l c) s.current;
    }

    -- it begins again
    retries : (m : Machine) (place : ℕ) (t : Transaction) → Kept rules view m
        → slice_get m.regions place ≡ Some (Active t)
        → IsTidy rules m → IsTidy rules (tried_again rules (suc place) t m)
    retries m place t k is s =
        let u : Transaction = begun_in rules m t.message (t.tries + 1) in
        record {
          busy = λ name. omega (arith, region_put rules name m place (Active t) (Active u) is, s.busy name);
          current = others_current view by_held m (tried_again rules (suc place) t m) place (Active u) refl
              (λ q other r. without_other (suc place) q r m.locks other)
              (λ q other r held. refl)
              (λ l c. others_only (suc place) m.requests l c) s.current;
        }

    -- a region that isn't current has no request
    has_none : (m : Machine) (place : ℕ) (l : Lock) → IsTidy rules m → Contains m.requests l
        → ((t : Transaction) → region_at m (suc place) ≡ Some (Active t)
        → wanted rules m (suc place) t (asks rules t)
        ≡ Some (record { resource = l.resource; mode = l.mode }) → ⊥)
        → ¬ (l.region ≡ suc place)
    has_none m place l s c none e =
        let cur = s.current l c in
        none cur.t (subst (λ (n : ℕ). region_at m n ≡ Some (Active cur.t)) e cur.stands)
        (subst (λ (n : ℕ). wanted rules m n cur.t (asks rules cur.t)
        ≡ Some (record { resource = l.resource; mode = l.mode })) e cur.wants)

    -- a call is answered
    answers : (m : Machine) (place : ℕ) (t : Transaction) (call : Call) → Kept rules view m
        → slice_get m.regions place ≡ Some (Active t)
        → wanted rules m (suc place) t (asks rules t) ≡ None
        → IsTidy rules m → IsTidy rules (with_region (suc place) (Active (with_answer rules m t call)) m)
    answers m place t call k is free s =
        let u : Transaction = with_answer rules m t call in
        record {
          busy = λ name. omega (arith, region_put rules name m place (Active t) (Active u) is, s.busy name);
          current = others_current view by_held m (with_region (suc place) (Active u) m) place (Active u) refl
              (λ q other r. refl) (λ q other r held. refl)
              (λ l c. (
                c,
                has_none m place l s c (λ v at wants.
                    none-some _ (sym free
                    ∙ ap (λ (x : Transaction). wanted rules m (suc place) x (asks rules x))
                    (is_transaction t v (same_Some (Active t) (Active v) (sym is ∙ at))) ∙ wants)),
              )) s.current;
        }

    -- a lock is gained
    gains : (m : Machine) (place : ℕ) (l : Lock) → l.region ≡ suc place
        → IsTidy rules m
        → IsTidy rules (record m { locks = l ∷ m.locks; requests = without_region (suc place) m.requests })
    gains m place l of s = record {
      busy = s.busy;
      current = λ q c. (
          let m2 : Machine = record m { locks = l ∷ m.locks; requests = without_region (suc place) m.requests } in
          let old = others_only (suc place) m.requests q c in
          stays_current view by_held m m2 q (λ t is. same_region m m2 q.region (Active t) refl is)
          (λ r. gained_other l m.locks q.region (λ e. old.1 (e ∙ of)) r) (λ r held. refl) (s.current q old.0));
    }

    -- a request stands
    waits : (m : Machine) (place : ℕ) (t : Transaction) (needed : Needed)
        → slice_get m.regions place ≡ Some (Active t)
        → wanted rules m (suc place) t (asks rules t) ≡ Some needed
        → IsTidy rules m → IsTidy rules (record m { requests = requests_with rules m (suc place) needed })
    waits m place t needed is wants s = record {
      busy = s.busy;
      current = λ q c. (
          let m2 : Machine = record m { requests = requests_with rules m (suc place) needed } in
          let l : Lock = as_lock rules (suc place) needed in
          elim (contains_cases l (without_region (suc place) m.requests) q c) [
            | inl new ↦ subst (λ (x : Lock). IsCurrent rules m2 x) new (record { t = t; stands = is; wants = wants })
            | inr there ↦ (
                let old = others_only (suc place) m.requests q there in
                stays_current view by_held m m2 q (λ u at. same_region m m2 q.region (Active u) refl at)
                (λ r. refl) (λ r held. refl) (s.current q old.0))
          ]);
    }

    acts : (m : Machine) (place : ℕ) (t : Transaction) (act : Act) (m2 : Machine) → Kept rules view m
        → slice_get m.regions place ≡ Some (Active t)
        → Does rules m (suc place) t act m2
        → IsTidy rules m → IsTidy rules m2
    acts m place t (Answers call) m2 k is d s = led _ m2 d.2 (answers m place t call k is d.1 s)
    acts m place t (Gains needed) m2 k is d s = led _ m2 d.2 (gains m place (as_lock rules (suc place) needed) refl s)
    acts m place t (Waits needed) m2 k is d s = led _ m2 d.3 (waits m place t needed is d.0 s)
    acts m place t (Deadlocks needed cycle) m2 k is d s =
        led _ m2 d.2 (ends m place t _ m.history.now k is refl (λ r free. refl) s)
    acts m place t (Retries_at_cycle needed cycle) m2 k is d s = led _ m2 d.2 (retries m place t k is s)
    acts m place t (Finishes ending items) m2 k is d s =
        led _ m2 d.3 (ends m place t (entry_of t ending t.notes items) ending.next k is refl
        (ends_leave m place t (asks rules t) ending k is d.0.lacks_none d.0.ends) s)
    acts m place t (Retries_at_verify ending) m2 k is d s = led _ m2 d.3 (retries m place t k is s)

    -- an idle region takes a message
    begins : (m : Machine) (place : ℕ) (o : Option (List Message)) → slice_get m.regions place ≡ Some Idle
        → slice_get m.queues (queue_of_region rules (suc place)) ≡ o
        → IsTidy rules m → IsTidy rules (begins_in rules m (suc place) (unwrap_or o []))
    begins m place None is queue s = s
    begins m place (Some []) is queue s = s
    begins m place (Some (message ∷ messages)) is queue s =
        let u : Transaction = begun_in rules m message 0 in
        let of : (name : Name) → Message → ℕ = λ name x. line_count rules name x.line in
        record {
          busy = λ name. omega (
            arith,
            region_put rules name m place Idle (Active u) is,
            sum_by-cons (of name) message messages,
            sum_put (λ (xs : List Message). sum_by (of name) xs) m.queues (queue_of_region rules (suc place))
                (message ∷ messages) messages queue,
            s.busy name,
          );
          current = others_current view by_held m (begins_in rules m (suc place) (message ∷ messages)) place (Active u)
              refl (λ q other r. refl) (λ q other r held. refl)
              (λ l c. (c, has_none m place l s c (λ v at wants. idle_is_not v (same_Some Idle (Active v) (sym is ∙ at)))))
              s.current;
        }

    region_turn : (m : Machine) (place : ℕ) (region : Option Region) (v : Environment) (m2 : Machine)
        → Kept rules view m
        → slice_get m.regions place ≡ region
        → RegionTurn rules m (suc place) region v m2
        → IsTidy rules m → IsTidy rules m2
    region_turn m place None v m2 k is turn s = absurd turn
    region_turn m place (Some Idle) NoFault m2 k is turn s =
        led _ m2 turn (begins m place (slice_get m.queues (queue_of_region rules (suc place))) is refl s)
    region_turn m place (Some Idle) DeviceFault m2 k is turn s = absurd turn
    region_turn m place (Some Idle) OutOfMemory m2 k is turn s = absurd turn
    region_turn m place (Some (Active t)) NoFault m2 k is turn s = acts m place t turn.0 m2 k is turn.1 s
    region_turn m place (Some (Active t)) DeviceFault m2 k is turn s =
        led _ m2 turn (ends m place t _ m.history.now k is refl (λ r free. refl) s)
    region_turn m place (Some (Active t)) OutOfMemory m2 k is turn s =
        led _ m2 turn (ends m place t _ m.history.now k is refl (λ r free. refl) s)

    -- ---- other turns

    -- a machine with the same regions, locks, requests and state
    frame : (m m2 : Machine) → m2.regions ≡ m.regions → m2.locks ≡ m.locks → m2.requests ≡ m.requests
        → m2.history.now ≡ m.history.now
        → ((name : Name) → times_in m2.busy name ≡ count rules name m2)
        → IsTidy rules m → IsTidy rules m2
    frame m m2 regions locks requests now busy s = record {
      busy = busy;
      current = all_current view by_held m m2 regions locks requests
          (λ q r held. ap (λ (db : Db). view.seen r db) now) s.current;
    }

    refuses : (m : Machine) (line : List ℕ) (o : Outcome) → m.sealed ≤ place_of m.history
        → IsTidy rules m → IsTidy rules (with_refusal rules o line m)
    refuses m line o sealed s =
        frame m (with_refusal rules o line m) refl refl refl refl
        (λ name. omega (
          arith,
          times_join m.busy (terminal_in (rules.terminal_of line)) name,
          times_line line name,
          unsealed_more rules name m (entry_here m o line []) sealed,
          s.busy name,
        )) s

    queues : (m : Machine) (message : Message) → rules.terminal_of message.line ≡ Some message.lterm
        → rules.group_of message - 1 < length m.queues
        → IsTidy rules m → IsTidy rules (with_message rules message m)
    queues m message from within s =
        frame m (with_message rules message m) refl refl refl refl
        (λ name. (
        let new : times_in (message.lterm ∷ []) name ≡ line_count rules name message.line
        = ap (λ (o : Option Name). times_in (terminal_in o) name) (sym from) ∙ times_line message.line name in
        omega (
          arith,
          times_join m.busy (message.lterm ∷ []) name,
          new,
          queued_one rules gauge name (rules.group_of message - 1) message m.queues within,
          s.busy name,
        ))) s

    line_taken : (m : Machine) (line : List ℕ) → m.sealed ≤ place_of m.history
        → length m.queues ≡ rules.group_count
        → IsTidy rules m → IsTidy rules (with_line rules line m)
    line_taken m line sealed many s = by (list_any (is_among m.busy) (terminal_in (rules.terminal_of line)))
      where
        asked : (r : Request) → rules.request_of m.history line ≡ r
            → IsTidy rules (with_request_of rules line r m)
        asked (Refuses o) is = refuses m line o sealed s
        asked (Accepts message) is =
            let same = order.lines m.history line message is in
            queues m message (ap rules.terminal_of same ∙ order.terminals m.history line message is)
            (subst (λ (n : ℕ). rules.group_of message - 1 < n) (sym many) (laws.routed m.history line message is)) s

        by : (b : Bool) → IsTidy rules (if b then record m { held = Some line }
            else with_request_of rules line (rules.request_of m.history line) m)
        by true = frame m (record m { held = Some line }) refl refl refl refl s.busy s
        by false = asked (rules.request_of m.history line) refl

    taken : (m : Machine) → m.sealed ≤ place_of m.history → length m.queues ≡ rules.group_count
        → IsTidy rules m → IsTidy rules (taken_in rules m)
    taken m sealed many s = by (next_line m)
      where
        -- without the line that is taken
        without : (o : Option (List ℕ))
            → (let x : Machine = option_map_or (λ (line : List ℕ). record m { held = None }) o
            (record m { lines = drop 1 m.lines }) in
            IsTidy rules x × (x.sealed ≤ place_of x.history) × (length x.queues ≡ rules.group_count))
        without None = (frame m (record m { lines = drop 1 m.lines }) refl refl refl refl s.busy s, sealed, many)
        without (Some line) = (frame m (record m { held = None }) refl refl refl refl s.busy s, sealed, many)

        by : (o : Option (List ℕ)) → IsTidy rules
            (option_map_or (λ line. with_line rules line (without_line m)) o m)
        by None = s
        by (Some line) = let w = without m.held in line_taken (without_line m) line w.1 w.2 w.0

    -- a group is sealed: those that are told aren't busy any more
    sealed_group : (m : Machine) → StandOnce rules m
        → IsTidy rules m → IsTidy rules (with_group rules (next_group rules m) m)
    sealed_group m once s =
        frame m (with_group rules (next_group rules m) m) refl refl refl refl
        (λ name. by name (cases_Bool (is_among (told rules (next_group rules m)) name))) s
      where
        group : List Entry
        group = next_group rules m

        by : (name : Name)
            → (is_among (told rules (next_group rules m)) name ≡ true)
            ⊎ (is_among (told rules (next_group rules m)) name ≡ false)
            → times_in (with_group rules (next_group rules m) m).busy name
            ≡ count rules name (with_group rules (next_group rules m) m)
        by name (inl is) =
            omega (
              arith,
              times_told (told rules group) m.busy name is,
              seals rules name m,
              told_counts rules group name is,
              once.once name,
            )
        by name (inr isnt) =
            omega (
              arith,
              times_untold (told rules group) m.busy name isnt,
              seals rules name m,
              none_told rules gauge group name isnt,
              s.busy name,
            )

    logs : (m : Machine) → StandOnce rules m → IsTidy rules m → IsTidy rules (sealed_once rules m)
    logs m once s = by (nat_lt m.sealed (place_of m.history))
      where
        by : (b : Bool) → IsTidy rules (if b then with_group rules (next_group rules m) m else m)
        by true = sealed_group m once s
        by false = s

    logs_often : (n : ℕ) (m : Machine) → StandOnce rules m → IsTidy rules m → IsTidy rules (sealed_times n rules m)
    logs_often zero m once s = s
    logs_often (suc n) m once s =
        logs_often n (sealed_once rules m) (log_once rules m once) (logs m once s)

    -- a Purge changes nothing that is held
    purges : (m : Machine) (set n : ℕ) (held : Bool) (m2 : Machine) → is_area_held rules m set ≡ held
        → m.sealed ≤ place_of m.history
        → PurgeTurn rules m set n held m2
        → IsTidy rules m → IsTidy rules m2
    purges m set n true m2 is sealed turn s = led m m2 turn s
    purges m set n false m2 is sealed turn s = led _ m2 turn.after (record {
      busy = λ name. (
          let none : line_count rules name [] ≡ 0 = counts_none rules [] name
          (ap (λ (o : Option Name). is_among (terminal_in o) name) order.no_text) in
          omega (arith, none, unsealed_more rules name m e sealed, s.busy name));
      current = all_current view by_held m (with_entry_of e turn.next m) refl refl refl
          (λ q r held. order.purges set n m.history.now turn.next turn.is_purged r (outside q r held)) s.current;
    })
      where
        e : Entry
        e = entry_here m (outcome.Purge set n) [] turn.items

        outside : (q : ℕ) (r : Resource) → ¬ (held_as m.locks q r ≡ None) → rules.is_in_area set r ≡ false
        outside q r h =
            let some = held_somehow (held_as m.locks q r) h in
            let by = held_by m.locks q r some.0 some.1 in
            ap (rules.is_in_area set) (sym by.1.2)
            ∙ none_passes (λ (lock : Lock). rules.is_in_area set lock.resource) m.locks by.0 is by.1.0

    -- ---- all turns

    -- One turn keeps it.
    pub turn_tidy : (m : Machine) (e : Event) (v : Environment) (m2 : Machine) → IsReached rules gauge m
        → Kept rules view m
        → Turn rules m e v m2
        → IsTidy rules m → IsTidy rules m2
    turn_tidy m event.In NoFault m2 h k turn s = led _ m2 turn (taken m k.terminals.sealed h.live.queues s)
    turn_tidy m event.In DeviceFault m2 h k turn s = absurd turn
    turn_tidy m event.In OutOfMemory m2 h k turn s = absurd turn
    turn_tidy m (event.Region zero) v m2 h k turn s = absurd turn
    turn_tidy m (event.Region (suc place)) v m2 h k turn s =
        region_turn m place (slice_get m.regions place) v m2 k refl turn s
    turn_tidy m event.Log NoFault m2 h k turn s = led _ m2 turn (logs m k.terminals s)
    turn_tidy m event.Log DeviceFault m2 h k turn s = absurd turn
    turn_tidy m event.Log OutOfMemory m2 h k turn s = absurd turn
    turn_tidy m event.Out v m2 h k turn s = led m m2 turn s
    turn_tidy m event.Ckpt NoFault m2 h k turn s =
        led _ m2 turn (logs_often (place_of m.history - m.sealed) m k.terminals s)
    turn_tidy m event.Ckpt DeviceFault m2 h k turn s =
        led _ m2 turn (logs_often (place_of m.history - m.sealed) m k.terminals s)
    turn_tidy m event.Ckpt OutOfMemory m2 h k turn s = absurd turn
    turn_tidy m (event.Purge set n) NoFault m2 h k turn s =
        purges m set n (is_area_held rules m set) m2 refl k.terminals.sealed turn s
    turn_tidy m (event.Purge set n) DeviceFault m2 h k turn s = led m m2 turn s
    turn_tidy m (event.Purge set n) OutOfMemory m2 h k turn s = led m m2 turn s

    -- Every run keeps it.
    pub run_tidy : (m : Machine) (steps : List RunStep) (m2 : Machine) → IsReached rules gauge m
        → Kept rules view m
        → Runs rules m steps m2
        → IsTidy rules m → IsTidy rules m2
    run_tidy m [] m2 h k runs s = led m m2 runs s
    run_tidy m (step ∷ steps) m2 h k runs s =
        run_tidy step.after steps m2
        (reached_then rules gauge laws view order m step.event step.environment step.after h runs.0)
        (turn_kept rules view order m step.event step.environment step.after runs.0 k) runs.1
        (turn_tidy m step.event step.environment step.after h k runs.0 s)

    -- A machine at rest has it.
    pub rest_tidy : (lines : List (List ℕ)) (h : History) → StandOnce rules (at_rest rules lines h)
        → IsTidy rules (at_rest rules lines h)
    rest_tidy lines h once = record {
      busy = λ name. nothing name (count rules name (at_rest rules lines h)) refl;
      current = λ l c. absurd (contains_nothing l c);
    }
      where
        nothing : (name : Name) (n : ℕ) → count rules name (at_rest rules lines h) ≡ n
            → 0 ≡ count rules name (at_rest rules lines h)
        nothing name zero is = sym is
        nothing name (suc n) is = absurd (true_is_not_false (sym (once.is_busy name (omega (arith, is)))))
