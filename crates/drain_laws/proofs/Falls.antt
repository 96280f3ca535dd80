-- Each turn of a region or of the log leaves less to do, unless it stands still.
use Rattle.std.proofs.Common.{◌≡◌, ℕ, suc, ◌+◌, ◌-◌, ◌*◌, ◌<◌, ◌≤◌, List, [], ◌∷◌, ◌++◌, length, Option, Some, None, ◌⊎◌, inl, inr, refl, sym, ◌∙◌, ap, subst, Bool, true, false, arith, if◌then◌else◌, slice_get, slice_set, length-append, length-drop}
use Rattle.std.specs.Prelude.{option_map, unwrap_or, drop, nat_lt}
use Rattle.std.specs.Option.{option_map_or}
use Rattle.std.proofs.lemmas.Grind.{common_steps}
use Rattle.fp_model.specs.declared.database.Db.{Db}
use Rattle.fp_model.specs.declared.calls.Call.{Call}
use Rattle.fp_model.specs.declared.calls.Message.{Message}
use Rattle.fp_model.specs.declared.calls.Mode.{Mode}
use Rattle.fp_model.specs.declared.calls.Mode.TheVariants.{Exclusive}
use Rattle.fp_model.specs.declared.calls.Resource.{Resource}
use Rattle.fp_model.specs.declared.log.Entry.{Entry}
use Rattle.fp_model.specs.Answers.{Needed, Replied}
use Rattle.fp_model.specs.Asking.{Ask, Asks, Replies, Rolls}
use Rattle.fp_model.specs.History.{place_of}
use Rattle.fp_model.specs.Rules.{Rules}
use Rattle.fp_model.specs.Waiting.{Lock, held_as, is_blocked, without_region, with_request}
use Rattle.fp_model.specs.Machine.{Transaction, Region, Idle, Active, Machine, region_at, with_region, ended_with, next_group, with_group, sealed_once}
use Rattle.fp_model.specs.Turns.{Environment, NoFault, DeviceFault, OutOfMemory, Act, Answers, Gains, Waits, Deadlocks, Retries_at_cycle, Finishes, Retries_at_verify, asks, wanted, as_lock, with_answer, begun_in, tried_again, Does, queue_of_region, messages_for, begins_in, RegionTurn}
use Rattle.serial_order.specs.Laws.{View, Laws}
use Rattle.serial_order.proofs.Locks.{without_other}
use Rattle.serial_order.proofs.Terminals.{sum_put}
use Rattle.drain_laws.specs.Measure.{Gauge, unserved, call_weight, try_weight, left_of_try, region_weight, message_weight, held_weight, sum_places, messages_in, unsealed_in, work_inside}
use Rattle.drain_laws.specs.Live.{IsStillNeeded, EndLaws, IsLive}
use Rattle.drain_laws.proofs.Sums.{sum_changed, unserved_within, unserved_same, unserved_fewer, gained_serves, gained_more, gained_other}
use Rattle.std.proofs.lemmas.Option.{none-some, same_Some}
use Rattle.plain_laws.proofs.Places.{set_same}

-- ---- numbers

-- one more of a kind
pub times_suc : (k c : ℕ) → (k + 1) * c ≡ k * c + c
times_suc k c = grind (arith, common_steps)

-- no more of them
pub no_more_times : (p q w : ℕ) → q ≤ p → q * w ≤ p * w
no_more_times p q w h =
    let n : ℕ = p - q in
    let e : p ≡ q + n = omega (arith, h) in
    let f : p * w ≡ q * w + n * w = ap (λ k. k * w) e ∙ grind (arith, common_steps) in
    omega (arith, f)

-- a part that falls, and the whole
less_here : (a b c d x : ℕ) → x + 1 ≤ c → a + b + x + d < a + b + c + d
less_here a b c d x h = omega (arith, h)

-- a transaction gone, and an entry more
less_ended : (a b c n s x : ℕ) → x + 2 ≤ c → a + b + x + (n + 1 - s) < a + b + c + (n - s)
less_ended a b c n s x h = omega (arith, h)

-- an answer leaves less
answered_less : (calls n cw u v : ℕ) → n < calls → v < cw
    → (calls - (n + 1)) * cw + v + 2 + 1 ≤ (calls - n) * cw + u + 2
answered_less calls n cw u v h few =
    let more : (calls - (n + 1) + 1) * cw ≡ (calls - (n + 1)) * cw + cw = times_suc (calls - (n + 1)) cw in
    let same : calls - n ≡ calls - (n + 1) + 1 = omega (arith, h) in
    let e : (calls - n) * cw ≡ (calls - (n + 1)) * cw + cw = ap (λ k. k * cw) same ∙ more in
    omega (arith, e, few)

-- a message taken
taken_less : (a q p mw c d x : ℕ) → p + 1 ≤ q → x + 1 ≤ c + mw → a + p * mw + x + d < a + q * mw + c + d
taken_less a q p mw c d x fewer h =
    let n : ℕ = q - (p + 1) in
    let e : q ≡ n + (p + 1) = omega (arith, fewer) in
    let f : q * mw ≡ n * mw + (p * mw + mw) = ap (λ k. k * mw) e ∙ grind (arith, common_steps) in
    omega (arith, f, h)

module _ (rules : Rules) (gauge : Gauge) (laws : EndLaws rules gauge) where
  -- ---- what a transaction has left

  -- a lock that is wanted is one of those foreseen
  still_needed : (m : Machine) (region : ℕ) (t : Transaction) (ask : Ask) (needed : Needed)
      → wanted rules m region t ask ≡ Some needed
      → IsStillNeeded (gauge.locks t.point.own ask) (held_as m.locks region) needed
  still_needed m region t (Asks call) needed w =
      laws.wants m.history.now t.point.own (held_as m.locks region) call needed w
  still_needed m region t (Replies reply) needed w = from (rules.lack t.point.own (held_as m.locks region)) refl w
    where
      from : (o : Option Resource) → rules.lack t.point.own (held_as m.locks region) ≡ o
          → option_map (λ (resource : Resource). let n : Needed = record { resource = resource; mode = Exclusive } in
          n) o ≡ Some needed
          → IsStillNeeded (gauge.locks t.point.own (Replies reply)) (held_as m.locks region) needed
      from None is e = absurd (none-some needed e)
      from (Some r) is e =
          subst (λ (q : Needed). IsStillNeeded (gauge.locks t.point.own (Replies reply)) (held_as m.locks region) q)
          (same_Some _ needed e) (laws.lacks t.point.own (held_as m.locks region) reply r is)
  still_needed m region t (Rolls code) needed w = absurd (none-some needed w)

  -- a try that begins is at most a whole one
  begun_within : (m : Machine) (message : Message) (tries : ℕ) (held : Resource → Option Mode)
      → left_of_try rules gauge held (begun_in rules m message tries) ≤ try_weight gauge
  begun_within m message tries held =
      let t : Transaction = begun_in rules m message tries in
      let few = unserved_within held (gauge.locks rules.fresh (asks rules t)) in
      let many = laws.many rules.fresh (asks rules t) in
      let whole : (gauge.calls - 0) * call_weight gauge
      ≡ gauge.calls * call_weight gauge = ap (λ k. k * call_weight gauge) (omega arith) in
      omega (arith, few, many, laws.begins, whole)

  -- so is any that was answered no more than its script may ask
  pub whole_within : (t : Transaction) (held : Resource → Option Mode)
      → length t.point.answers ≤ gauge.calls
      → gauge.queued t.point.own ≤ length t.point.answers
      → left_of_try rules gauge held t ≤ try_weight gauge
  whole_within t held few queued =
      let asked = unserved_within held (gauge.locks t.point.own (asks rules t)) in
      let many = laws.many t.point.own (asks rules t) in
      let whole = no_more_times gauge.calls (gauge.calls - length t.point.answers) (call_weight gauge) (omega arith) in
      omega (arith, asked, many, whole, few, queued)

  -- a call that is answered
  answered : (held : Resource → Option Mode) (m : Machine) (t : Transaction) (call : Call)
      → length t.point.answers < gauge.calls
      → gauge.queued t.point.own ≤ length t.point.answers
      → left_of_try rules gauge held (with_answer rules m t call) + 1 ≤ left_of_try rules gauge held t
  answered held m t call few queued =
      let now : Db = m.history.now in
      let r : Replied = rules.reply_to now now t.point.own call in
      let u : Transaction = with_answer rules m t call in
      let counted : length u.point.answers
      ≡ length t.point.answers + 1 = length-append t.point.answers (r.answer ∷ []) in
      let asked : ℕ = unserved held (gauge.locks r.own (asks rules u)) in
      let within : asked < call_weight gauge = omega (
        arith,
        unserved_within held (gauge.locks r.own (asks rules u)),
        laws.many r.own (asks rules u),
        laws.queues now now t.point.own call,
        few,
        queued,
      ) in
      let less = answered_less gauge.calls (length t.point.answers) (call_weight gauge)
      (unserved held (gauge.locks t.point.own (asks rules t))) asked few within in
      subst (λ (n : ℕ). (gauge.calls - n) * call_weight gauge + asked + 2 + 1 ≤ left_of_try rules gauge held t)
      (sym counted) less

  -- a lock that is gained
  gained : (m : Machine) (region : ℕ) (t : Transaction) (needed : Needed)
      → wanted rules m region t (asks rules t) ≡ Some needed
      → left_of_try rules gauge (held_as (as_lock rules region needed ∷ m.locks) region) t + 1
      ≤ left_of_try rules gauge (held_as m.locks region) t
  gained m region t needed wants =
      let l : Lock = as_lock rules region needed in
      let still = still_needed m region t (asks rules t) needed wants in
      let fewer = unserved_fewer (held_as m.locks region) (held_as (l ∷ m.locks) region)
      (gauge.locks t.point.own (asks rules t)) needed (gained_more l m.locks still.is_unserved)
      still.is_among still.is_unserved (gained_serves l m.locks) in
      omega (arith, fewer)

  -- ---- regions

  -- another region's weight
  weighs_same : (locks other : List Lock) (s : ℕ) (r : Region)
      → ((resource : Resource) → held_as other s resource ≡ held_as locks s resource)
      → region_weight rules gauge other s r ≤ region_weight rules gauge locks s r
  weighs_same locks other s Idle same = omega arith
  weighs_same locks other s (Active t) same =
      omega (
        arith,
        unserved_same (held_as locks s) (held_as other s) (gauge.locks t.point.own (asks rules t)) same,
      )

  abbrev weight_in : List Lock → List Region → ℕ
  weight_in locks regions = sum_places (region_weight rules gauge locks) 1 regions

  -- the regions together, one of them changed
  regions_change : (locks other : List Lock) (regions : List Region) (place : ℕ) (r q : Region) (less more : ℕ)
      → slice_get regions place ≡ Some r
      → region_weight rules gauge other (suc place) q + less ≤ region_weight rules gauge locks (suc place) r + more
      → ((s : ℕ) → ¬ (s ≡ suc place) → (resource : Resource) → held_as other s resource ≡ held_as locks s resource)
      → weight_in other (slice_set regions place q) + less ≤ weight_in locks regions + more
  regions_change locks other regions place r q less more is here others =
      sum_changed (region_weight rules gauge other) (region_weight rules gauge locks) 1 regions place r q less more is
      (λ at e. let same : suc place ≡ at = omega (arith, e) in
      subst (λ (n : ℕ). region_weight rules gauge other n q + less ≤ region_weight rules gauge locks n r + more)
      same here)
      (λ j at z ne e there. weighs_same locks other at z (others at (λ same. ne (omega (arith, same, e)))))

  -- ---- the machine

  -- what the line held, and the messages queued, weigh
  abbrev held_in : Machine → ℕ
  held_in m = option_map_or (λ line. held_weight rules gauge) m.held 0

  abbrev queued_in : Machine → ℕ
  queued_in m = messages_in m.queues * message_weight rules gauge

  -- the machine's work falls
  abbrev pub Falls : Machine → Machine → Type 0
  Falls m m2 = work_inside rules gauge m2 < work_inside rules gauge m

  -- a transaction ends, with an entry
  ended_falls : (m : Machine) (place : ℕ) (t : Transaction) (e : Entry) (next : Db)
      → slice_get m.regions place ≡ Some (Active t)
      → Falls m (ended_with (suc place) e next m)
  ended_falls m place t e next is =
      let locks : List Lock = without_region (suc place) m.locks in
      let after : ℕ = weight_in locks (slice_set m.regions place Idle) in
      let sums = regions_change m.locks locks m.regions place (Active t) Idle 2 0 is (omega arith)
      (λ s ne resource. without_other (suc place) s resource m.locks ne) in
      let counted : length (m.history.entries ++ e ∷ [])
      ≡ length m.history.entries + 1 = length-append m.history.entries (e ∷ []) in
      let less = less_ended (held_in m) (queued_in m) (weight_in m.locks m.regions) (place_of m.history) m.sealed after
      (omega (arith, sums)) in
      subst (λ (n : ℕ). held_in m + queued_in m + after + (n - m.sealed) < work_inside rules gauge m) (sym counted) less

  -- a call is answered
  answers_fall : (m : Machine) (place : ℕ) (t : Transaction) (call : Call)
      → slice_get m.regions place ≡ Some (Active t)
      → left_of_try rules gauge (held_as m.locks (suc place)) (with_answer rules m t call) + 1
      ≤ left_of_try rules gauge (held_as m.locks (suc place)) t
      → Falls m (with_region (suc place) (Active (with_answer rules m t call)) m)
  answers_fall m place t call is less =
      let u : Transaction = with_answer rules m t call in
      let sums = regions_change m.locks m.locks m.regions place (Active t) (Active u) 1 0 is (omega (arith, less))
      (λ s ne resource. refl) in
      less_here (held_in m) (queued_in m) (weight_in m.locks m.regions) (unsealed_in m)
      (weight_in m.locks (slice_set m.regions place (Active u))) (omega (arith, sums))

  -- a lock is gained
  gains_fall : (m : Machine) (place : ℕ) (t : Transaction) (needed : Needed) (requests : List Lock)
      → slice_get m.regions place ≡ Some (Active t)
      → wanted rules m (suc place) t (asks rules t) ≡ Some needed
      → Falls m (record m { locks = as_lock rules (suc place) needed ∷ m.locks; requests = requests })
  gains_fall m place t needed requests is wants =
      let l : Lock = as_lock rules (suc place) needed in
      let sums = regions_change m.locks (l ∷ m.locks) m.regions place (Active t) (Active t) 1 0 is
      (omega (arith, gained m (suc place) t needed wants)) (λ s ne resource. gained_other l m.locks s ne resource) in
      let same : weight_in (l ∷ m.locks) (slice_set m.regions place (Active t)) ≡ weight_in (l ∷ m.locks) m.regions
      = ap (λ (rs : List Region). weight_in (l ∷ m.locks) rs) (set_same m.regions place (Active t) is) in
      less_here (held_in m) (queued_in m) (weight_in m.locks m.regions) (unsealed_in m)
      (weight_in (l ∷ m.locks) m.regions) (omega (arith, sums, same))

  -- a transaction begins again, with one try fewer
  tries_fall : (m : Machine) (place : ℕ) (t : Transaction)
      → slice_get m.regions place ≡ Some (Active t)
      → t.tries < rules.tries
      → Falls m (tried_again rules (suc place) t m)
  tries_fall m place t is more =
      let u : Transaction = begun_in rules m t.message (t.tries + 1) in
      let locks : List Lock = without_region (suc place) m.locks in
      let w : ℕ = try_weight gauge in
      let fewer : rules.tries - t.tries ≡ rules.tries - (t.tries + 1) + 1 = omega (arith, more) in
      let tries : (rules.tries - t.tries) * w ≡ (rules.tries - (t.tries + 1)) * w + w = ap (λ k. k * w) fewer
      ∙ times_suc (rules.tries - (t.tries + 1)) w in
      let begins = begun_within m t.message (t.tries + 1) (held_as locks (suc place)) in
      let sums = regions_change m.locks locks m.regions place (Active t) (Active u) 1 0 is
      (omega (arith, tries, begins)) (λ s ne resource. without_other (suc place) s resource m.locks ne) in
      less_here (held_in m) (queued_in m) (weight_in m.locks m.regions) (unsealed_in m)
      (weight_in locks (slice_set m.regions place (Active u))) (omega (arith, sums))

  -- a message is taken
  begins_fall : (m : Machine) (place : ℕ) (message : Message) (messages : List Message)
      → slice_get m.regions place ≡ Some Idle
      → slice_get m.queues (queue_of_region rules (suc place)) ≡ Some (message ∷ messages)
      → Falls m (begins_in rules m (suc place) (message ∷ messages))
  begins_fall m place message messages idle queue =
      let t : Transaction = begun_in rules m message 0 in
      let held = held_as m.locks (suc place) in
      let all : (rules.tries - 0) * try_weight gauge ≡ rules.tries * try_weight gauge
      = ap (λ k. k * try_weight gauge) (omega arith) in
      let sums = regions_change m.locks m.locks m.regions place Idle (Active t) 1 (message_weight rules gauge) idle
      (omega (arith, begun_within m message 0 held, all)) (λ s ne resource. refl) in
      let of : List Message → ℕ = λ ms. length ms in
      let fewer = sum_put of m.queues (queue_of_region rules (suc place)) (message ∷ messages) messages queue in
      taken_less (held_in m) (messages_in m.queues)
      (messages_in (slice_set m.queues (queue_of_region rules (suc place)) messages)) (message_weight rules gauge)
      (weight_in m.locks m.regions) (unsealed_in m) (weight_in m.locks (slice_set m.regions place (Active t)))
      (omega (arith, fewer)) (omega (arith, sums))

  -- ---- the log

  -- the entries to be sealed become fewer
  seals_fall : (m : Machine) → m.sealed < place_of m.history → Falls m (with_group rules (next_group rules m) m)
  seals_fall m unsealed =
      let rest : length (drop m.sealed m.history.entries)
      ≡ length m.history.entries - m.sealed = length-drop m.sealed m.history.entries in
      let some : 1 ≤ length (next_group rules m) = grind (arith, common_steps, rest, laws.seals, unsealed) in
      omega (arith, some, unsealed)

  -- The log's turn leaves less to do, or nothing is unsealed.
  pub log_moves : (m : Machine)
      → Falls m (sealed_once rules m) ⊎ ((sealed_once rules m ≡ m) × (place_of m.history ≤ m.sealed))
  log_moves m = by (nat_lt m.sealed (place_of m.history)) refl
    where
      by : (b : Bool) → nat_lt m.sealed (place_of m.history) ≡ b
          → Falls m (if b then with_group rules (next_group rules m) m else m)
          ⊎ (((if b then with_group rules (next_group rules m) m else m) ≡ m) × (place_of m.history ≤ m.sealed))
      by true is = inl (seals_fall m (grind (arith, common_steps, is)))
      by false is = inr (refl, grind (arith, common_steps, is))

  -- ---- a region's turn falls, or stands still

  -- the region waits for one that holds
  pub record WaitsAt (m : Machine) (region : ℕ) (m2 : Machine) : Type 0 where
    pub t : Transaction
    pub stands : region_at m region ≡ Some (Active t)
    pub wanted : Lock
    pub of : wanted.region ≡ region
    pub is_held : is_blocked m.locks wanted ≡ true
    pub after : m2 ≡ record m { requests = with_request wanted m.requests }

  -- the region is idle, and has no message
  pub record StaysIdle (m : Machine) (region : ℕ) (m2 : Machine) : Type 0 where
    pub idle : region_at m region ≡ Some Idle
    pub nothing : messages_for rules m region ≡ []
    pub after : m2 ≡ m

  pub data Moves (m : Machine) (region : ℕ) (m2 : Machine) : Type 0 where
    Does_some : Falls m m2 → Moves m region m2
    Has_to_wait : WaitsAt m region m2 → Moves m region m2
    Has_nothing : StaysIdle m region m2 → Moves m region m2

  falls_to : (m m2 x : Machine) (region : ℕ) → m2 ≡ x → Falls m x → Moves m region m2
  falls_to m m2 x region e f = Does_some (subst (λ (q : Machine). Falls m q) (sym e) f)

  module _ (view : View) (order : Laws rules view) where
    -- calls are fewer than foreseen
    calls_fewer : (t : Transaction) (call : Call) → asks rules t ≡ Asks call → length t.point.answers < gauge.calls
    calls_fewer t call is = omega (arith, order.ends t.message t.point.answers call is, laws.calls t.message)

    -- an active region
    act_moves : (m : Machine) (place : ℕ) (t : Transaction) (act : Act) (m2 : Machine)
        → IsLive rules gauge m
        → slice_get m.regions place ≡ Some (Active t)
        → Does rules m (suc place) t act m2
        → Moves m (suc place) m2
    act_moves m place t (Answers call) m2 s is d =
        falls_to m m2 _ (suc place) d.2 (answers_fall m place t call is
        (answered (held_as m.locks (suc place)) m t call (calls_fewer t call d.0) (s.few (suc place) t is)))
    act_moves m place t (Gains needed) m2 s is d =
        falls_to m m2 _ (suc place) d.2
        (gains_fall m place t needed (without_region (suc place) m.requests) is d.0)
    act_moves m place t (Waits needed) m2 s is d =
        Has_to_wait (record {
          t = t;
          stands = is;
          wanted = as_lock rules (suc place) needed;
          of = refl;
          is_held = d.1;
          after = d.3;
        })
    act_moves m place t (Deadlocks needed cycle) m2 s is d =
        falls_to m m2 _ (suc place) d.2 (ended_falls m place t _ m.history.now is)
    act_moves m place t (Retries_at_cycle needed cycle) m2 s is d =
        falls_to m m2 _ (suc place) d.2 (tries_fall m place t is d.1)
    act_moves m place t (Finishes ending items) m2 s is d =
        falls_to m m2 _ (suc place) d.3 (ended_falls m place t _ ending.next is)
    act_moves m place t (Retries_at_verify ending) m2 s is d =
        falls_to m m2 _ (suc place) d.3 (tries_fall m place t is d.2)

    -- an idle region
    idle_moves : (m : Machine) (place : ℕ) (o : Option (List Message)) (m2 : Machine)
        → slice_get m.regions place ≡ Some Idle
        → slice_get m.queues (queue_of_region rules (suc place)) ≡ o
        → m2 ≡ begins_in rules m (suc place) (unwrap_or o [])
        → Moves m (suc place) m2
    idle_moves m place None m2 is queue e =
        Has_nothing (record {
          idle = is;
          nothing = ap (λ (q : Option (List Message)). unwrap_or q []) queue;
          after
              = e;
        })
    idle_moves m place (Some []) m2 is queue e =
        Has_nothing (record {
          idle = is;
          nothing = ap (λ (q : Option (List Message)). unwrap_or q []) queue;
          after
              = e;
        })
    idle_moves m place (Some (message ∷ messages)) m2 is queue e =
        falls_to m m2 _ (suc place) e (begins_fall m place message messages is queue)

    -- A region's turn leaves less to do, or waits, or has nothing.
    pub region_moves : (m : Machine) (place : ℕ) (region : Option Region) (v : Environment) (m2 : Machine)
        → IsLive rules gauge m
        → slice_get m.regions place ≡ region
        → RegionTurn rules m (suc place) region v m2
        → Moves m (suc place) m2
    region_moves m place None v m2 s is turn = absurd turn
    region_moves m place (Some Idle) NoFault m2 s is turn =
        idle_moves m place (slice_get m.queues (queue_of_region rules (suc place))) m2 is refl turn
    region_moves m place (Some Idle) DeviceFault m2 s is turn = absurd turn
    region_moves m place (Some Idle) OutOfMemory m2 s is turn = absurd turn
    region_moves m place (Some (Active t)) NoFault m2 s is turn = act_moves m place t turn.0 m2 s is turn.1
    region_moves m place (Some (Active t)) DeviceFault m2 s is turn =
        falls_to m m2 _ (suc place) turn (ended_falls m place t _ m.history.now is)
    region_moves m place (Some (Active t)) OutOfMemory m2 s is turn =
        falls_to m m2 _ (suc place) turn (ended_falls m place t _ m.history.now is)
