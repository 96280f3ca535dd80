-- No region waits for itself.
use Rattle.std.proofs.Common.{◌≡◌, ℕ, List, [], ◌∷◌, ◌++◌, map, ◌⊎◌, inl, inr, sym, ◌∙◌, ap, subst, true, not, nat_eq}
use Rattle.std.specs.List.{Contains, filter}
use Rattle.std.proofs.lemmas.Bool.{cases_eq}
use Rattle.fp_model.specs.Waiting.{Lock, conflicts, without_region, waits, WaitsAlong, IsCycle, with_request}
use Rattle.serial_order.specs.Kept.{HaveNoCycle}
use Rattle.serial_order.proofs.Lists.{eqb_same, true_is_not_false, contains_in_filter, filter_contains, contains_in_map, contains_in_flat_map}
use Rattle.plain_laws.proofs.Alls.{contains_cases, contains_nothing, flat_map_contains, map_contains}

-- a standing request of the first region, and a lock of the second that is in its way
record Blocks (requests locks : List Lock) (a b : ℕ) : Type 0 where
  wanted : Lock
  lock : Lock
  stands : Contains requests wanted
  holds : Contains locks lock
  is_in_way : conflicts wanted lock ≡ true
  waiter : a ≡ wanted.region
  holder : b ≡ lock.region

-- the pairs of `waits`
blocks_in : (requests locks : List Lock) (a b : ℕ) → Contains (waits requests locks) (a, b) → Blocks requests locks a b
blocks_in requests locks a b c =
    let of = contains_in_flat_map (λ (wanted : Lock). map (λ (lock : Lock). (wanted.region, lock.region))
    (filter (conflicts wanted) locks)) requests (a, b) c in
    let by = contains_in_map (λ (lock : Lock). (of.0.region, lock.region)) (filter (conflicts of.0) locks) (a, b) of.1.1
    in
    let is = contains_in_filter (conflicts of.0) locks by.0 by.1.0 in
    record {
      wanted = of.0;
      lock = by.0;
      stands = of.1.0;
      holds = is.0;
      is_in_way = is.1;
      waiter =
          ap (λ (p : ℕ × ℕ). p.0) by.1.1;
      holder = ap (λ (p : ℕ × ℕ). p.1) by.1.1;
    }

-- and back
blocks_contained : (requests locks : List Lock) (a b : ℕ) → Blocks requests locks a b
    → Contains (waits requests locks) (a, b)
blocks_contained requests locks a b w =
    let here = flat_map_contains (λ (wanted : Lock). map (λ (lock : Lock). (wanted.region, lock.region))
    (filter (conflicts wanted) locks)) requests w.wanted (w.wanted.region, w.lock.region) w.stands
    (map_contains (λ (lock : Lock). (w.wanted.region, lock.region)) (filter (conflicts w.wanted) locks) w.lock
    (filter_contains (conflicts w.wanted) locks w.lock w.holds w.is_in_way)) in
    let first : Contains (waits requests locks) (a, w.lock.region) =
    subst (λ (q : ℕ). Contains (waits requests locks) (q, w.lock.region)) (sym w.waiter) here in
    subst (λ (q : ℕ). Contains (waits requests locks) (a, q)) (sym w.holder) first

-- the first waits for the next, and so on, and the last for b
abbrev Along : List Lock → List Lock → ℕ → List ℕ → ℕ → Type 0
Along requests locks a [] b = Blocks requests locks a b
Along requests locks a (c ∷ cs) b = Blocks requests locks a c × Along requests locks c cs b

-- chains of such pairs
along : (requests locks : List Lock) (a : ℕ) (cs : List ℕ) (b : ℕ) → WaitsAlong (waits requests locks) a cs b
    → Along requests locks a cs b
along requests locks a [] b w = blocks_in requests locks a b w
along requests locks a (c ∷ cs) b w = (blocks_in requests locks a c w.0, along requests locks c cs b w.1)

-- and back
back : (requests locks : List Lock) (a : ℕ) (cs : List ℕ) (b : ℕ) → Along requests locks a cs b
    → WaitsAlong (waits requests locks) a cs b
back requests locks a [] b w = blocks_contained requests locks a b w
back requests locks a (c ∷ cs) b w = (blocks_contained requests locks a c w.0, back requests locks c cs b w.1)

-- no cycle, as chains from a region to itself
abbrev HasNone : List Lock → List Lock → Type 0
HasNone requests locks = (a : ℕ) (cs : List ℕ) → ¬ Along requests locks a cs a

-- no cycle of pairs is none of chains
none_along : (requests locks : List Lock) → HaveNoCycle requests locks → HasNone requests locks
none_along requests locks none a cs w = none (a ∷ cs) (back requests locks a cs a w)

-- and back
no_cycle : (requests locks : List Lock) → HasNone requests locks → HaveNoCycle requests locks
no_cycle requests locks none [] w = w
no_cycle requests locks none (a ∷ cs) w = none a cs (along requests locks a cs a w)

-- ---- locks and requests that are gone

-- a request that isn't of a region
pub others_only : (r : ℕ) (locks : List Lock) (l : Lock) → Contains (without_region r locks) l → Contains locks l
    × ¬ (l.region ≡ r)
others_only r locks l c =
    let kept = contains_in_filter (λ (lock : Lock). not (nat_eq lock.region r)) locks l c in
    (kept.0, λ e. true_is_not_false (sym kept.1 ∙ ap not (subst (λ (q : ℕ). nat_eq q r ≡ true) (sym e) (eqb_same r))))

-- who waits has a request
asker : (r : ℕ) (requests locks : List Lock) (a b : ℕ) → Blocks (without_region r requests) locks a b → ¬ (a ≡ r)
asker r requests locks a b w e = (others_only r requests w.wanted w.stands).1 (sym w.waiter ∙ e)

waiter : (r : ℕ) (requests locks : List Lock) (a : ℕ) (cs : List ℕ) (b : ℕ)
    → Along (without_region r requests) locks a cs b → ¬ (a ≡ r)
waiter r requests locks a [] b w = asker r requests locks a b w
waiter r requests locks a (c ∷ cs) b w = asker r requests locks a c w.0

-- after the end of region r
ended_block : (r : ℕ) (requests locks : List Lock) (a b : ℕ)
    → Blocks (without_region r requests) (without_region r locks) a b → Blocks requests locks a b
ended_block r requests locks a b w = record {
  wanted = w.wanted;
  lock = w.lock;
  is_in_way = w.is_in_way;
  waiter = w.waiter;
  holder = w.holder;
  stands = (others_only r requests w.wanted w.stands).0;
  holds = (others_only r locks w.lock w.holds).0;
}

-- a chain without the region is an old one
ended_along : (r : ℕ) (requests locks : List Lock) (a : ℕ) (cs : List ℕ) (b : ℕ)
    → Along (without_region r requests) (without_region r locks) a cs b → Along requests locks a cs b
ended_along r requests locks a [] b w = ended_block r requests locks a b w
ended_along r requests locks a (c ∷ cs) b w = (
  ended_block r requests locks a c w.0,
  ended_along r requests locks c cs b w.1,
)

-- an end closes no cycle
pub ended_waits : (r : ℕ) (requests locks : List Lock) → HaveNoCycle requests locks
    → HaveNoCycle (without_region r requests) (without_region r locks)
ended_waits r requests locks none = no_cycle (without_region r requests) (without_region r locks)
    (λ a cs w. none_along requests locks none a cs (ended_along r requests locks a cs a w))

-- ---- a lock more

-- a lock of one who waits no longer stands in nobody's way that is waited for
gained_block : (l : Lock) (requests locks : List Lock) (a b : ℕ) → ¬ (b ≡ l.region)
    → Blocks (without_region l.region requests) (l ∷ locks) a b → Blocks requests locks a b
gained_block l requests locks a b ne w = record {
  wanted = w.wanted;
  lock = w.lock;
  is_in_way = w.is_in_way;
  waiter = w.waiter;
  holder = w.holder;
  stands = (others_only l.region requests w.wanted w.stands).0;
  holds = elim (contains_cases l locks w.lock w.holds)
      [ inl same ↦ absurd (ne (w.holder ∙ ap (λ (q : Lock). q.region) (sym same))) | inr there ↦ there ];
}

-- a chain beside a new lock is an old one
gained_along : (l : Lock) (requests locks : List Lock) (a : ℕ) (cs : List ℕ) (b : ℕ) → ¬ (b ≡ l.region)
    → Along (without_region l.region requests) (l ∷ locks) a cs b → Along requests locks a cs b
gained_along l requests locks a [] b ne w = gained_block l requests locks a b ne w
gained_along l requests locks a (c ∷ cs) b ne w = (
  gained_block l requests locks a c (waiter l.region requests (l ∷ locks) c cs b w.1) w.0,
  gained_along l requests locks c cs b ne w.1,
)

-- a lock gained closes no cycle
pub gained_waits : (l : Lock) (requests locks : List Lock) → HaveNoCycle requests locks
    → HaveNoCycle (without_region l.region requests) (l ∷ locks)
gained_waits l requests locks none = no_cycle (without_region l.region requests) (l ∷ locks)
    (λ a cs w. none_along requests locks none a cs (gained_along l requests locks a cs a
    (waiter l.region requests (l ∷ locks) a cs a w) w))

-- ---- a request more

-- two chains, one behind the other
joined : (requests locks : List Lock) (a : ℕ) (cs : List ℕ) (b : ℕ) (ds : List ℕ) (c : ℕ) → Along requests locks a cs b
    → Along requests locks b ds c → Along requests locks a (cs ++ b ∷ ds) c
joined requests locks a [] b ds c v w = (v, w)
joined requests locks a (d ∷ cs) b ds c v w = (v.0, joined requests locks d cs b ds c v.1 w)

-- there is a chain
abbrev Arrives : List Lock → List Lock → ℕ → ℕ → Type 0
Arrives requests locks a b = (cs : List ℕ) × Along requests locks a cs b

-- a request of another is an old one
asked_block : (l : Lock) (requests locks : List Lock) (a b : ℕ) → ¬ (a ≡ l.region)
    → Blocks (with_request l requests) locks a b → Blocks requests locks a b
asked_block l requests locks a b ne w = record {
  wanted = w.wanted;
  lock = w.lock;
  is_in_way = w.is_in_way;
  waiter = w.waiter;
  holder = w.holder;
  holds = w.holds;
  stands = elim (contains_cases l (without_region l.region requests) w.wanted w.stands) [
    | inl same ↦ absurd (ne (w.waiter ∙ ap (λ (q : Lock). q.region) (sym same)))
    | inr there ↦ (others_only l.region requests w.wanted there).0
  ];
}

-- a chain leads through the one who asks
abbrev Through : Lock → List Lock → List Lock → ℕ → ℕ → Type 0
Through l requests locks a b = Arrives (with_request l requests) locks l.region b
    × ((a ≡ l.region) ⊎ Arrives (with_request l requests) locks a l.region)

-- one step further
further : (l : Lock) (requests locks : List Lock) (a c b : ℕ) → Blocks (with_request l requests) locks a c
    → Through l requests locks c b → Through l requests locks a b
further l requests locks a c b w (p, inl e) = (
  p,
  inr
      ([], subst (λ (q : ℕ). Blocks (with_request l requests) locks a q) e w),
)
further l requests locks a c b w (p, inr q) = (p, inr (c ∷ q.0, (w, q.1)))

-- a chain after a new request is an old one, or goes through the one who asks
split : (l : Lock) (requests locks : List Lock) (a : ℕ) (cs : List ℕ) (b : ℕ)
    → Along (with_request l requests) locks a cs b → Along requests locks a cs b ⊎ Through l requests locks a b
split l requests locks a [] b w = elim (cases_eq a l.region) [
  | inl e ↦ inr (([], subst (λ (q : ℕ). Blocks (with_request l requests) locks q b) e w), inl e)
  | inr ne ↦ inl (asked_block l requests locks a b ne w)
]
split l requests locks a (c ∷ cs) b w = elim (cases_eq a l.region) [
  | inl e ↦ inr ((c ∷ cs, (subst (λ (q : ℕ). Blocks (with_request l requests) locks q c) e w.0, w.1)), inl e)
  | inr ne ↦ elim (split l requests locks c cs b w.1) [
    | inl old ↦ inl (asked_block l requests locks a c ne w.0, old)
    | inr new ↦ inr (further l requests locks a c b w.0 new)
  ]
]

-- a cycle through the one who asks
round : (l : Lock) (requests locks : List Lock) (a : ℕ)
    → ((cs : List ℕ) → ¬ Along (with_request l requests) locks l.region cs l.region) → Through l requests locks a a → ⊥
round l requests locks a none (p, inl e) = none p.0
    (subst (λ (q : ℕ). Along (with_request l requests) locks l.region p.0 q) e p.1)
round l requests locks a none (p, inr q) = none (p.0 ++ a ∷ q.0)
    (joined (with_request l requests) locks l.region p.0 a q.0 l.region p.1 q.1)

-- a request that closes no cycle leaves none
pub asked_waits : (l : Lock) (requests locks : List Lock)
    → ((cycle : List ℕ) → ¬ IsCycle (waits (with_request l requests) locks) (l.region ∷ cycle))
    → HaveNoCycle requests locks → HaveNoCycle (with_request l requests) locks
asked_waits l requests locks none before = no_cycle (with_request l requests) locks (λ a cs w.
    elim (split l requests locks a cs a w) [
      | inl old ↦ none_along requests locks before a cs old
      | inr new ↦ round l requests locks a (λ ds v. none ds
          (back (with_request l requests) locks l.region ds l.region v)) new
    ])

-- ---- no lock at all

-- nobody waits where nothing is locked
nothing_waits : (requests : List Lock) (a : ℕ) (cs : List ℕ) (b : ℕ) → ¬ Along requests [] a cs b
nothing_waits requests a [] b w = contains_nothing w.lock w.holds
nothing_waits requests a (c ∷ cs) b w = contains_nothing w.0.lock w.0.holds

-- and there is no cycle
pub no_locks : (requests : List Lock) → HaveNoCycle requests []
no_locks requests = no_cycle requests [] (λ a cs w. nothing_waits requests a cs a w)
