-- Who waits for one of finitely many who wait themselves comes round to somebody twice.
use Rattle.std.proofs.Common.{◌≡◌, ℕ, zero, suc, ◌<◌, ◌≤◌, List, [], ◌∷◌, ◌++◌, length, ◌⊎◌, inl, inr, sym, ap, subst, Bool, true, false, not, nat_eq, arith, if◌then◌else◌}
use Rattle.std.specs.List.{Contains, filter}
use Rattle.std.proofs.lemmas.Bool.{cases_eq}
use Rattle.fp_model.specs.Waiting.{WaitsAlong, IsCycle}
use Rattle.serial_order.proofs.Lists.{eqb_same, eqb_other, filter_contains}
use Rattle.plain_laws.proofs.Alls.{contains_cases, contains_first, contains_later, contains_nothing}

-- two chains, one behind the other
joined : (pairs : List (ℕ × ℕ)) (a : ℕ) (bs : List ℕ) (b c : ℕ) → WaitsAlong pairs a bs b → Contains pairs (b, c)
    → WaitsAlong pairs a (bs ++ b ∷ []) c
joined pairs a [] b c w v = (w, v)
joined pairs a (d ∷ bs) b c w v = (w.0, joined pairs d bs b c w.1 v)

-- the numbers other than one
abbrev pub others : ℕ → List ℕ → List ℕ
others a xs = filter (λ x. not (nat_eq x a)) xs

-- are at most as many
others_shorter : (a : ℕ) (xs : List ℕ) → length (others a xs) ≤ length xs
others_shorter a [] = omega arith
others_shorter a (x ∷ xs) = by (nat_eq x a) (others_shorter a xs)
  where
    by : (b : Bool) → length (others a xs) ≤ length xs → length (if not b then x ∷ others a xs else others a xs)
        ≤ length (x ∷ xs)
    by true rest = omega (arith, rest)
    by false rest = omega (arith, rest)

-- and fewer, where that one was among them
pub others_fewer : (a : ℕ) (xs : List ℕ) → Contains xs a → length (others a xs) < length xs
others_fewer a [] c = absurd (contains_nothing a c)
others_fewer a (x ∷ xs) c = elim (cases_eq x a) [
  | inl same ↦ let b : nat_eq x a ≡ true = subst (λ (q : ℕ). nat_eq q a ≡ true) (sym same) (eqb_same a) in rw b
      (omega (arith, others_shorter a xs))
  | inr ne ↦ let b : nat_eq x a ≡ false = eqb_other x a ne in rw b
      (omega (arith, others_fewer a xs (elim (contains_cases x xs a c) [ inl e ↦ absurd (ne e) | inr there ↦ there ])))
]

-- the others stay
pub others_stay : (a b : ℕ) (xs : List ℕ) → Contains xs b → ¬ (b ≡ a) → Contains (others a xs) b
others_stay a b xs c ne = filter_contains (λ x. not (nat_eq x a)) xs b c (ap not (eqb_other b a ne))

module _ (pairs : List (ℕ × ℕ)) where
  -- a is b, or a chain leads there
  abbrev Leads : ℕ → ℕ → Type 0
  Leads a b = (a ≡ b) ⊎ ((cs : List ℕ) × WaitsAlong pairs a cs b)

  -- one step further
  further : (a b c : ℕ) → Leads a b → Contains pairs (b, c) → (cs : List ℕ) × WaitsAlong pairs a cs c
  further a b c (inl same) v = ([], subst (λ (q : ℕ). Contains pairs (q, c)) (sym same) v)
  further a b c (inr w) v = (w.0 ++ b ∷ [], joined pairs a w.0 b c w.1 v)

  module _ (P : ℕ → Type 0) (step : (a : ℕ) → P a → (b : ℕ) × (P b × Contains pairs (a, b))) where
    -- a cycle, where it comes back
    comes_back : (way : List ℕ) (a b : ℕ) → ((c : ℕ) → Contains way c → Leads c a) → Contains pairs (a, b)
        → Contains way b → (cycle : List ℕ) × IsCycle pairs cycle
    comes_back way a b leads v back = let chain = further b a b (leads b back) v in (b ∷ chain.0, chain.1)

    -- Whoever is on the way leads to where it has come; the rest are at most n.
    walk : (n : ℕ) (rest way : List ℕ) (a : ℕ) → length rest ≤ n → P a
        → ((b : ℕ) → Contains way b → Leads b a)
        → ((b : ℕ) → P b → Contains way b ⊎ Contains rest b)
        → (cycle : List ℕ) × IsCycle pairs cycle
    walk zero rest way a few p leads all = let next = step a p in elim (all next.0 next.1.0) [
      | inl back ↦ comes_back way a next.0 leads next.1.1 back
      | inr new ↦ absurd (omega (arith, few, others_fewer next.0 rest new))
    ]
    walk (suc k) rest way a few p leads all = let next = step a p in elim (all next.0 next.1.0) [
      | inl back ↦ comes_back way a next.0 leads next.1.1 back
      | inr new ↦ walk k (others next.0 rest) (next.0 ∷ way) next.0
          (omega (arith, few, others_fewer next.0 rest new)) next.1.0
          (λ b c. elim (contains_cases next.0 way b c) [
            | inl same ↦ inl (sym same)
            | inr there ↦ inr
                (further b a next.0 (leads b there) next.1.1)
          ])
          (λ b q. elim (cases_eq b next.0) [
            | inl same ↦ inl (subst (λ (x : ℕ). Contains (next.0 ∷ way) x) (sym same) (contains_first next.0 way))
            | inr ne ↦ elim (all b q) [
              | inl old ↦ inl (contains_later next.0 way b old)
              | inr there ↦ inr
                  (others_stay next.0 b rest there ne)
            ]
          ])
    ]

    -- Where somebody waits, there is a cycle.
    pub cycle_of : (all : List ℕ) (first : ℕ) → ((b : ℕ) → P b → Contains all b) → P first
        → (cycle : List ℕ) × IsCycle pairs cycle
    cycle_of all first within p = walk (length all) all (first ∷ []) first (omega arith) p
        (λ b c. elim (contains_cases first [] b c) [
          | inl same ↦ inl (sym same)
          | inr none ↦ absurd
              (contains_nothing b none)
        ])
        (λ b q. inr (within b q))
