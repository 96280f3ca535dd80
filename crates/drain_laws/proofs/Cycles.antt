-- Whether a region is on a cycle can be told.
use Rattle.std.proofs.Common.{◌≡◌, ℕ, zero, suc, ◌≤◌, List, [], ◌∷◌, length, map, ◌⊎◌, inl, inr, refl, sym, ap, subst, true, false, not, ◌∙◌, nat_eq, ◌==◌, arith}
use Rattle.std.specs.List.{Contains, AllByRecursion, IsDistinct}
use Rattle.std.proofs.lemmas.Bool.{cases_eq}
use Rattle.fp_model.specs.Waiting.{WaitsAlong, IsCycle}
use Rattle.serial_order.proofs.Lists.{eqb_same, eqb_other, true_is_not_false, contains_in_filter}
use Rattle.drain_laws.proofs.Walk.{others, others_fewer, others_stay}
use Rattle.plain_laws.proofs.Alls.{contains_cases, contains_first, contains_later, contains_nothing, map_contains}

-- each of the first list is in the second
abbrev Within : List ℕ → List ℕ → Type 0
Within cs rest = (c : ℕ) → Contains cs c → Contains rest c

-- a pair is among these, or not
pair_there : (pairs : List (ℕ × ℕ)) (a b : ℕ) → Contains pairs (a, b) ⊎ (¬ Contains pairs (a, b))
pair_there [] a b = inr (λ c. contains_nothing (a, b) c)
pair_there (p ∷ ps) a b = elim (pair_there ps a b) [
  | inl there ↦ inl (contains_later p ps (a, b) there)
  | inr absent ↦ elim (cases_eq p.0 a) [
    | inl first ↦ elim (cases_eq p.1 b) [
      | inl second ↦ inl (subst (λ (x : ℕ). Contains (p ∷ ps) (x, b)) first
          (subst (λ (y : ℕ). Contains (p ∷ ps) (p.0, y)) second (contains_first p ps)))
      | inr ne ↦ inr (λ c. elim (contains_cases p ps (a, b) c)
          [ inl same ↦ ne (ap (λ (q : ℕ × ℕ). q.1) same) | inr later ↦ absent later ])
    ]
    | inr ne ↦ inr (λ c. elim (contains_cases p ps (a, b) c) [
      | inl same ↦ ne
          (ap (λ (q : ℕ × ℕ). q.0) same)
      | inr later ↦ absent later
    ])
  ]
]

-- one that isn't among the others
is_other : (a b : ℕ) (rest : List ℕ) → Contains (others a rest) b → ¬ (b ≡ a)
is_other a b rest c e =
    let kept = contains_in_filter (λ (x : ℕ). not (nat_eq x a)) rest b c in
    true_is_not_false (sym kept.1 ∙ ap not (subst (λ (q : ℕ). nat_eq q a ≡ true) (sym e) (eqb_same a)))

others_within : (a : ℕ) (rest : List ℕ) → Within (others a rest) rest
others_within a rest c there = (contains_in_filter (λ (x : ℕ). not (nat_eq x a)) rest c there).0

-- none of a list is a number that isn't in it
all_others : (a : ℕ) (cs : List ℕ) → (¬ Contains cs a) → AllByRecursion (λ (y : ℕ). (a == y) ≡ false) cs
all_others a [] free = tt
all_others a (c ∷ cs) free = (
  eqb_other a c (λ e. free (subst (λ (q : ℕ). Contains (c ∷ cs) q) (sym e)
      (contains_first c cs))),
  all_others a cs (λ there. free (contains_later c cs a there)),
)

distinct_with : (a : ℕ) (cs : List ℕ) → (¬ Contains cs a) → IsDistinct ◌==◌ cs → IsDistinct ◌==◌ (a ∷ cs)
unfolding IsDistinct
distinct_with a cs free distinct = (all_others a cs free, distinct)

distinct_none : IsDistinct ◌==◌ (let none : List ℕ = [] in none)
unfolding IsDistinct
distinct_none = tt

module _ (pairs : List (ℕ × ℕ)) (end : ℕ) where
  -- a chain to the end, through different ones of these
  record Path (rest : List ℕ) (a : ℕ) : Type 0 where
    through : List ℕ
    along : WaitsAlong pairs a through end
    within : Within through rest
    distinct : IsDistinct ◌==◌ through

  -- no chain goes through these alone
  abbrev HasNoPath : List ℕ → ℕ → Type 0
  HasNoPath rest a = (cs : List ℕ) → WaitsAlong pairs a cs end → Within cs rest → ⊥

  -- the part of a chain behind the last time that it comes to c
  record Behind (c : ℕ) (ds : List ℕ) : Type 0 where
    rest : List ℕ
    along : WaitsAlong pairs c rest end
    within : Within rest ds
    free : ¬ Contains rest c

  behind_last : (c b : ℕ) (ds : List ℕ) → WaitsAlong pairs b ds end → Behind c ds ⊎ (¬ Contains ds c)
  behind_last c b [] w = inr (λ there. contains_nothing c there)
  behind_last c b (d ∷ ds) w = elim (behind_last c d ds w.1) [
    | inl r ↦ inl (record {
      rest = r.rest;
      along = r.along;
      within = λ x there. contains_later d ds x
          (r.within x there);
      free = r.free;
    })
    | inr free ↦ elim (cases_eq d c) [
      | inl same ↦ inl (record {
        rest = ds;
        along = subst (λ (q : ℕ). WaitsAlong pairs q ds end) same w.1;
        within
            = λ x there. contains_later d ds x there;
        free = free;
      })
      | inr ne ↦ inr (λ there. elim (contains_cases d ds c there) [ inl same ↦ ne same | inr later ↦ free later ])
    ]
  ]

  -- a chain from c that doesn't come to c again
  once : (c : ℕ) (ds : List ℕ) → WaitsAlong pairs c ds end → Behind c ds
  once c ds w = elim (behind_last c c ds w) [
    | inl r ↦ r
    | inr free ↦ record
        { rest = ds; along = w; within = λ x there. there; free = free }
  ]

  -- a chain's next one is among these, and goes on through the others
  path_by : (rest : List ℕ) (a c : ℕ) → Contains pairs (a, c) → Contains rest c → Path (others c rest) c → Path rest a
  path_by rest a c v there p = record {
    through = c ∷ p.through;
    along = (v, p.along);
    within = λ x inside. elim (contains_cases c p.through x inside) [
      | inl same ↦ subst (λ (q : ℕ). Contains rest q) same there
      | inr later ↦ others_within c rest x
          (p.within x later)
    ];
    distinct = distinct_with c p.through (λ inside. is_other c c rest (p.within c inside) refl) p.distinct;
  }

  -- of the next ones of a list, one leads on, or none
  tries : (rest : List ℕ) (a : ℕ) → ((c : ℕ) → Contains rest c → Path (others c rest) c ⊎ HasNoPath (others c rest) c)
      → (xs : List ℕ) → Within xs rest
      → Path rest a ⊎ ((c : ℕ) → Contains xs c → Contains pairs (a, c) → HasNoPath (others c rest) c)
  tries rest a decide [] inside = inr (λ c there v. absurd (contains_nothing c there))
  tries rest a decide (x ∷ xs) inside = elim (tries rest a decide xs
      (λ c there. inside c (contains_later x xs c there))) [
        | inl p ↦ inl p
        | inr none ↦ elim (pair_there pairs a x) [
          | inl v ↦ elim (decide x (inside x (contains_first x xs))) [
            | inl p ↦ inl (path_by rest a x v (inside x (contains_first x xs)) p)
            | inr not_here ↦ inr (λ c there w. elim (contains_cases x xs c there) [
              | inl same ↦ subst (λ (q : ℕ). HasNoPath (others q rest) q) same not_here
              | inr later ↦ none c later w
            ])
          ]
          | inr absent ↦ inr (λ c there w. elim (contains_cases x xs c there) [
            | inl same ↦ absurd (absent (subst (λ (q : ℕ). Contains pairs (a, q)) (sym same) w))
            | inr later ↦ none c
                later w
          ])
        ]
      ]

  -- where none leads on, there is no chain
  none_leads : (rest : List ℕ) (a : ℕ) → (¬ Contains pairs (a, end))
      → ((c : ℕ) → Contains rest c → Contains pairs (a, c) → HasNoPath (others c rest) c) → HasNoPath rest a
  none_leads rest a absent none [] w inside = absent w
  none_leads rest a absent none (c ∷ cs) w inside =
      let b = once c cs w.1 in
      none c (inside c (contains_first c cs)) w.0 b.rest b.along
      (λ x there. others_stay c x rest (inside x (contains_later c cs x (b.within x there)))
      (λ e. b.free (subst (λ (q : ℕ). Contains b.rest q) e there)))

  -- A chain through these can be found, or there is none.
  decide : (n : ℕ) (rest : List ℕ) → length rest ≤ n → (a : ℕ) → Path rest a ⊎ HasNoPath rest a
  decide zero rest few a = elim (pair_there pairs a end) [
    | inl v ↦ inl (record {
      through = [];
      along = v;
      within = λ c there. absurd (contains_nothing c there);
      distinct
          = distinct_none;
    })
    | inr absent ↦ inr (none_leads rest a absent (λ c there v. absurd (omega (arith, few, there.1))))
  ]
  decide (suc n) rest few a = elim (pair_there pairs a end) [
    | inl v ↦ inl (record {
      through = [];
      along = v;
      within = λ c there. absurd (contains_nothing c there);
      distinct
          = distinct_none;
    })
    | inr absent ↦ elim (tries rest a (λ c there. decide n (others c rest)
        (omega (arith, few, others_fewer c rest there)) c) rest (λ c there. there)) [
          | inl p ↦ inl p
          | inr none ↦ inr (none_leads rest a absent none)
        ]
  ]

-- who is in a chain waits
are_waiting : (pairs : List (ℕ × ℕ)) (a : ℕ) (cs : List ℕ) (end c : ℕ) → WaitsAlong pairs a cs end → Contains cs c
    → Contains (map (λ (p : ℕ × ℕ). p.0) pairs) c
are_waiting pairs a [] end c w there = absurd (contains_nothing c there)
are_waiting pairs a (d ∷ ds) end c w there = elim (contains_cases d ds c there) [
  | inl same ↦ subst (λ (q : ℕ). Contains (map (λ (p : ℕ × ℕ). p.0) pairs) q) same (first_waits d ds w.1)
  | inr later ↦ are_waiting pairs d ds end c w.1 later
]
  where
    first_waits : (d : ℕ) (ds : List ℕ) → WaitsAlong pairs d ds end → Contains (map (λ (p : ℕ × ℕ). p.0) pairs) d
    first_waits d [] v = map_contains (λ (p : ℕ × ℕ). p.0) pairs (d, end) v
    first_waits d (e ∷ es) v = map_contains (λ (p : ℕ × ℕ). p.0) pairs (d, e) v.0

-- a cycle of different ones, the region first
pub record ClosesOne (pairs : List (ℕ × ℕ)) (region : ℕ) : Type 0 where
  pub cycle : List ℕ
  pub closes : IsCycle pairs (region ∷ cycle)
  pub distinct : IsDistinct ◌==◌ (region ∷ cycle)

-- A region is on a cycle, or on none.
pub cycle_or_none : (pairs : List (ℕ × ℕ)) (region : ℕ) → ClosesOne pairs region ⊎
    ((cycle : List ℕ) → ¬ IsCycle pairs (region ∷ cycle))
cycle_or_none pairs region =
    let all : List ℕ = map (λ (p : ℕ × ℕ). p.0) pairs in
    elim (decide pairs region (length (others region all)) (others region all) (omega arith) region) [
      | inl p ↦ inl (record {
        cycle = p.through;
        closes = p.along;
        distinct = distinct_with region p.through
            (λ inside. is_other region region all (p.within region inside) refl) p.distinct;
      })
      | inr none ↦ inr (λ cycle w. (
          let b = once pairs region region cycle w in
          none b.rest b.along (λ c there. others_stay region c all
          (are_waiting pairs region b.rest region c b.along there)
          (λ e. b.free (subst (λ (q : ℕ). Contains b.rest q) e there)))))
    ]
