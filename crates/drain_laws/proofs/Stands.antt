-- A machine in which a whole round stands still is drained.
use Rattle.std.proofs.Common.{◌≡◌, ℕ, zero, suc, ◌+◌, ◌<◌, ◌≤◌, List, [], ◌∷◌, length, Option, Some, None, inl, inr, refl, sym, ◌∙◌, ap, subst, Bool, true, false, ◌||◌, arith, slice_get}
use Rattle.std.specs.Prelude.{unwrap_or, map, filter, sum_by}
use Rattle.std.specs.List.{Contains, list_any, list_all}
use Rattle.std.proofs.lemmas.Bool.{cases_eq}
use Rattle.std.proofs.lemmas.List.{drop_all}
use Rattle.std.proofs.lemmas.List.Sums.{sum_by-cons}
use Rattle.std.proofs.lemmas.Option.{slice_get_within, none-some, same_Some}
use Rattle.fp_model.specs.declared.calls.Message.{Message}
use Rattle.fp_model.specs.declared.log.Entry.{Entry}
use Rattle.fp_model.specs.declared.name.Name.{Name}
use Rattle.fp_model.specs.State.{numbers_up}
use Rattle.fp_model.specs.History.{place_of}
use Rattle.fp_model.specs.Rules.{Rules}
use Rattle.fp_model.specs.Waiting.{Lock, conflicts, is_blocked, waits}
use Rattle.fp_model.specs.Machine.{Transaction, Region, Idle, Active, Machine, region_at, is_among, terminal_in}
use Rattle.fp_model.specs.Turns.{queue_of_region, messages_for}
use Rattle.fp_model.specs.Runs.{is_idle, is_empty, IsDrained}
use Rattle.serial_order.specs.Kept.{line_count, region_count, queued_count, active_count, unsealed_count, HaveNoCycle}
use Rattle.serial_order.proofs.Lists.{true_is_not_false, filter_contains}
use Rattle.drain_laws.specs.Measure.{Gauge}
use Rattle.drain_laws.specs.Live.{EndLaws, IsAtWork, IsLive}
use Rattle.drain_laws.proofs.Walk.{cycle_of}
use Rattle.drain_laws.proofs.Lines.{has_to_wait}
use Rattle.plain_laws.proofs.Alls.{contains_first, contains_later, flat_map_contains, map_contains}

-- ---- lists

-- numbers that lie within
pub numbers_contain : (n from k : ℕ) → from ≤ k → k < from + n → Contains (numbers_up n from) k
numbers_contain zero from k low high = absurd (omega (arith, low, high))
numbers_contain (suc n) from k low high = elim (cases_eq from k) [
  | inl same ↦ subst (λ (q : ℕ). Contains (from ∷ numbers_up n (from + 1)) q) same
      (contains_first from (numbers_up n (from + 1)))
  | inr ne ↦ contains_later from (numbers_up n (from + 1)) k
      (numbers_contain n (from + 1) k (omega (arith, low, ne)) (omega (arith, high)))
]

-- one that passes
pub some_passes : {X : Type 0} (p : X → Bool) (xs : List X) → list_any p xs ≡ true
    → (x : X) × (Contains xs x × (p x ≡ true))
some_passes p [] e = absurd (true_is_not_false (sym e))
some_passes {X} p (x ∷ xs) e = by (p x) refl e (λ f. some_passes p xs f)
  where
    by : (b : Bool) → p x ≡ b → (b || list_any p xs) ≡ true
        → (list_any p xs ≡ true → (y : X) × (Contains xs y × (p y ≡ true)))
        → (y : X) × (Contains (x ∷ xs) y × (p y ≡ true))
    by true is e later = (x, (contains_first x xs, is))
    by false is e later = let rest = later e in (rest.0, (contains_later x xs rest.0 rest.1.0, rest.1.1))

-- all pass, where each place does
all_pass : {X : Type 0} (p : X → Bool) (xs : List X)
    → ((i : ℕ) (x : X) → slice_get xs i ≡ Some x → p x ≡ true)
    → list_all p xs ≡ true
all_pass p [] h = refl
all_pass p (x ∷ xs) h = rw (h zero x refl, all_pass p xs (λ i y is. h (suc i) y is)) refl

-- a sum of zeros
no_sum : {X : Type 0} (f : X → ℕ) (xs : List X) → ((i : ℕ) (x : X) → slice_get xs i ≡ Some x → f x ≡ 0)
    → sum_by f xs ≡ 0
no_sum f [] h = refl
no_sum f (x ∷ xs) h = omega (arith, sum_by-cons f x xs, h zero x refl, no_sum f xs (λ i y is. h (suc i) y is))

module _ (rules : Rules) (gauge : Gauge) (laws : EndLaws rules gauge) where
  -- a region that stands still: it has nothing to take, or it waits for a lock that is held
  pub data Rests (m : Machine) (requests : List Lock) (region : ℕ) : Type 0 where
    Idles : region_at m region ≡ Some Idle → messages_for rules m region ≡ [] → Rests m requests region
    Waits_for :
        (wanted : Lock)
        → Contains requests wanted
        → wanted.region ≡ region
        → is_blocked m.locks wanted ≡ true
        → Rests m requests region

  -- a machine in which each region does, and nothing is unsealed
  pub record IsStill (m : Machine) (requests : List Lock) : Type 0 where
    pub rests : (region : ℕ) → 1 ≤ region → region < 1 + length rules.regions → Rests m requests region
    pub sealed : place_of m.history ≤ m.sealed
    pub no_cycle : HaveNoCycle requests m.locks

  -- a region at work is one of those that there are
  is_one : (m : Machine) (region : ℕ) (t : Transaction) → IsLive rules gauge m
      → region_at m region ≡ Some (Active t)
      → (1 ≤ region) × (region < 1 + length rules.regions)
  is_one m zero t s is = absurd (none-some (Active t) is)
  is_one m (suc place) t s is =
      (omega arith, omega (arith, slice_get_within m.regions place (Active t) is, s.regions))

  module _ (m : Machine) (requests : List Lock) (s : IsLive rules gauge m) (still : IsStill m requests) where
    idle_is_not : (t : Transaction) → ¬ (Idle ≡ Active t)
    idle_is_not t e = cc

    -- who is at work waits for somebody at work
    waits_on : (region : ℕ) → IsAtWork m region
        → (other : ℕ) × (IsAtWork m other × Contains (waits requests m.locks) (region, other))
    waits_on region a = let within = is_one m region a.t s a.stands in by (still.rests region within.0 within.1)
      where
        by : Rests m requests region
            → (other : ℕ) × (IsAtWork m other × Contains (waits requests m.locks) (region, other))
        by (Idles idle nothing) = absurd (idle_is_not a.t (same_Some Idle (Active a.t) (sym idle ∙ a.stands)))
        by (Waits_for wanted stands of blocked) =
            let found = some_passes (conflicts wanted) m.locks blocked in
            let behind = map_contains (λ (l : Lock). (wanted.region, l.region)) (filter (conflicts wanted) m.locks)
            found.0 (filter_contains (conflicts wanted) m.locks found.0 found.1.0 found.1.1) in
            let here = flat_map_contains
            (λ (w : Lock). map (λ (l : Lock). (w.region, l.region)) (filter (conflicts w) m.locks)) requests wanted
            (wanted.region, found.0.region) stands behind in (
              found.0.region,
              (
                s.holders found.0 found.1.0,
                subst (λ (n : ℕ). Contains (waits requests m.locks) (n, found.0.region)) of here,
              ),
            )

    -- so nobody is
    nobody : (region : ℕ) → ¬ IsAtWork m region
    nobody region a =
        let cycle = cycle_of (waits requests m.locks) (λ r. IsAtWork m r) waits_on
        (numbers_up (length rules.regions) 1) region
        (λ r b. (let within = is_one m r b.t s b.stands in
        numbers_contain (length rules.regions) 1 r within.0 within.1)) a in
        still.no_cycle cycle.0 cycle.1

    -- each region is idle, with nothing to take
    idles : (region : ℕ) → 1 ≤ region → region < 1 + length rules.regions
        → (region_at m region ≡ Some Idle) × (messages_for rules m region ≡ [])
    idles region low high = by (still.rests region low high)
      where
        by : Rests m requests region → (region_at m region ≡ Some Idle) × (messages_for rules m region ≡ [])
        by (Idles idle nothing) = (idle, nothing)
        by (Waits_for wanted stands of blocked) =
            let found = some_passes (conflicts wanted) m.locks blocked in
            absurd (nobody found.0.region (s.holders found.0 found.1.0))

    each_idle : (place : ℕ) (r : Region) → slice_get m.regions place ≡ Some r → r ≡ Idle
    each_idle place Idle is = refl
    each_idle place (Active t) is = absurd (nobody (suc place) (record { t = t; stands = is }))

    all_idle : list_all (is_idle rules) m.regions ≡ true
    all_idle = all_pass (is_idle rules) m.regions
        (λ place r is. ap (λ (q : Region). is_idle rules q) (each_idle place r is))

    -- no message is queued
    none_queued : (queue : ℕ) (messages : List Message) → slice_get m.queues queue ≡ Some messages → messages ≡ []
    none_queued queue messages is =
        let within : queue < rules.group_count = omega (
          arith,
          slice_get_within m.queues queue messages is,
          s.queues,
        ) in
        let served = laws.served queue within in
        let idle = idles (suc served.place) (omega arith) (omega (arith, served.is_there)) in
        let there : slice_get m.queues (queue_of_region rules (suc served.place)) ≡ Some messages
        = ap (λ (n : ℕ). slice_get m.queues n) served.takes ∙ is in
        ap (λ (o : Option (List Message)). unwrap_or o []) (sym there) ∙ idle.1

    all_empty : list_all (is_empty rules) m.queues ≡ true
    all_empty = all_pass (is_empty rules) m.queues
        (λ queue messages is. ap (λ (ms : List Message). is_empty rules ms) (none_queued queue messages is))

    -- no terminal waits
    none_waits : (name : Name) → is_among m.busy name ≡ true → ⊥
    none_waits name busy =
        let of : Message → ℕ = λ x. line_count rules name x.line in
        let queued : queued_count rules name m.queues ≡ 0 = no_sum (λ (ms : List Message). sum_by of ms) m.queues
        (λ queue messages is. ap (λ (ms : List Message). sum_by of ms) (none_queued queue messages is)) in
        let active : active_count rules name m.regions ≡ 0 = no_sum (region_count rules name) m.regions
        (λ place r is. ap (region_count rules name) (each_idle place r is)) in
        let unsealed : unsealed_count rules name m.sealed m.history.entries ≡ 0
        = ap (sum_by (λ (e : Entry). line_count rules name e.line))
        (drop_all m.sealed m.history.entries still.sealed) in
        omega (arith, s.waits name busy, queued, active, unsealed)

    -- so no line has to wait
    pub no_line_waits : (line : List ℕ) → has_to_wait rules m line ≡ true → ⊥
    no_line_waits line e =
        let name = some_passes (is_among m.busy) (terminal_in (rules.terminal_of line)) e in
        none_waits name.0 name.1.1

    -- With no line left, it is drained.
    pub is_drained : m.sealed ≤ place_of m.history → m.lines ≡ [] → m.held ≡ None → IsDrained rules m
    is_drained sealed lines held = record {
      no_line = lines;
      no_held = held;
      no_message = all_empty;
      no_active = all_idle;
      no_unsealed = omega (arith, sealed, still.sealed);
    }
