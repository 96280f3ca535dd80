-- Sums over the places of a list, and counts of locks.
use Rattle.std.proofs.Common.{◌≡◌, ℕ, zero, suc, ◌+◌, ◌<◌, ◌≤◌, List, [], ◌∷◌, length, Option, Some, None, inl, inr, refl, sym, subst, Bool, true, false, ◌&&◌, nat_eq, arith, if◌then◌else◌, slice_get, slice_set}
use Rattle.std.specs.List.{Contains}
use Rattle.fp_model.specs.declared.calls.Mode.{Mode}
use Rattle.fp_model.specs.declared.calls.Mode.TheVariants.{Share, Exclusive}
use Rattle.fp_model.specs.declared.calls.Resource.{Resource}
use Rattle.fp_model.specs.Answers.{Needed, serves}
use Rattle.fp_model.specs.Waiting.{Lock, held_as, same_resource}
use Rattle.serial_order.proofs.Lists.{true_is_not_false, eqb_same, eqb_other}
use Rattle.drain_laws.specs.Measure.{sum_places, unserved}
use Rattle.plain_laws.proofs.Truths.{second_of_both}
use Rattle.plain_laws.proofs.Alls.{contains_cases, contains_nothing}
use Rattle.std.proofs.lemmas.Option.{none-some, same_Some}
use Rattle.model_laws.proofs.Resources.{resource_is_same, same_resources}

-- ---- sums

-- nowhere more, so not more in all
pub sum_least : {X : Type 0} (v w : ℕ → X → ℕ) (from : ℕ) (xs : List X)
    → ((i at : ℕ) (x : X) → at ≡ from + i → slice_get xs i ≡ Some x → v at x ≤ w at x)
    → sum_places v from xs ≤ sum_places w from xs
sum_least v w from [] h = omega arith
sum_least v w from (x ∷ xs) h =
    let here = h zero from x (omega arith) refl in
    let rest = sum_least v w (from + 1) xs (λ i at y e is. h (suc i) at y (omega (arith, e)) is) in
    omega (arith, here, rest)

-- one place changed, the others no more than before
pub sum_changed : {X : Type 0} (v w : ℕ → X → ℕ) (from : ℕ) (xs : List X) (i : ℕ) (x y : X) (less more : ℕ)
    → slice_get xs i ≡ Some x
    → ((at : ℕ) → at ≡ from + i → v at y + less ≤ w at x + more)
    → ((j at : ℕ) (z : X) → ¬ (j ≡ i) → at ≡ from + j → slice_get xs j ≡ Some z → v at z ≤ w at z)
    → sum_places v from (slice_set xs i y) + less ≤ sum_places w from xs + more
sum_changed v w from [] i x y less more is here others = absurd (none-some x is)
sum_changed v w from (z ∷ zs) zero x y less more is here others =
    let first : v from y + less ≤ w from z + more = subst (λ q. v from y + less ≤ w from q + more)
    (sym (same_Some z x is)) (here from (omega arith)) in
    let rest = sum_least v w (from + 1) zs (λ j at q e there. others (suc j) at q
    (λ same. absurd (omega (arith, same))) (omega (arith, e)) there) in
    omega (arith, first, rest)
sum_changed v w from (z ∷ zs) (suc i) x y less more is here others =
    let first = others zero from z (λ same. absurd (omega (arith, same))) (omega arith) refl in
    let rest = sum_changed v w (from + 1) zs i x y less more is (λ at e. here at (omega (arith, e)))
    (λ j at q ne e there. others (suc j) at q (λ same. ne (omega (arith, same))) (omega (arith, e)) there) in
    omega (arith, first, rest)

-- ---- locks not held

-- at most all
pub unserved_within : (held : Resource → Option Mode) (locks : List Needed) → unserved held locks ≤ length locks
unserved_within held [] = omega arith
unserved_within held (n ∷ ns) = by (serves (held n.resource) n.mode) (unserved_within held ns)
  where
    by : (b : Bool) → unserved held ns ≤ length ns → (if b then unserved held ns else suc (unserved held ns)) ≤ length
        (n ∷ ns)
    by true rest = omega (arith, rest)
    by false rest = omega (arith, rest)

-- the same where the same is held
pub unserved_same : (held other : Resource → Option Mode) (locks : List Needed) → ((r : Resource) → other r ≡ held r)
    → unserved other locks ≡ unserved held locks
unserved_same held other [] same = refl
unserved_same held other (n ∷ ns) same = rw (same n.resource) (rw (unserved_same held other ns same) refl)

-- all that served before serves still
abbrev pub ServesMore : (Resource → Option Mode) → (Resource → Option Mode) → Type 0
ServesMore held more = (r : Resource) (mode : Mode) → serves (held r) mode ≡ true → serves (more r) mode ≡ true

-- so no more are wanted
unserved_less : (held more : Resource → Option Mode) (locks : List Needed) → ServesMore held more
    → unserved more locks ≤ unserved held locks
unserved_less held more [] up = omega arith
unserved_less held more (n ∷ ns) up = by (serves (held n.resource) n.mode) (serves (more n.resource) n.mode)
    (up n.resource n.mode) (unserved_less held more ns up)
  where
    by : (b c : Bool) → (b ≡ true → c ≡ true) → unserved more ns ≤ unserved held ns
        → (if c then unserved more ns else suc (unserved more ns)) ≤
        (if b then unserved held ns else suc (unserved held ns))
    by true true h rest = rest
    by true false h rest = absurd (true_is_not_false (sym (h refl)))
    by false true h rest = omega (arith, rest)
    by false false h rest = omega (arith, rest)

-- and fewer, where one of them serves now
pub unserved_fewer : (held more : Resource → Option Mode) (locks : List Needed) (needed : Needed)
    → ServesMore held more → Contains locks needed
    → serves (held needed.resource) needed.mode ≡ false → serves (more needed.resource) needed.mode ≡ true
    → unserved more locks < unserved held locks
unserved_fewer held more [] needed up c before after = absurd (contains_nothing needed c)
unserved_fewer held more (n ∷ ns) needed up c before after = elim (contains_cases n ns needed c) [
  | inl same ↦
      let a : serves (held n.resource) n.mode ≡ false = subst
      (λ (q : Needed). serves (held q.resource) q.mode ≡ false) (sym same) before in
      let b : serves (more n.resource) n.mode ≡ true = subst (λ (q : Needed). serves (more q.resource) q.mode ≡ true)
      (sym same) after in
      rw (a, b) (omega (arith, unserved_less held more ns up))
  | inr there ↦ by (serves (held n.resource) n.mode) (serves (more n.resource) n.mode) (up n.resource n.mode)
      (unserved_fewer held more ns needed up there before after)
]
  where
    by : (b c : Bool) → (b ≡ true → c ≡ true) → unserved more ns < unserved held ns
        → (if c then unserved more ns else suc (unserved more ns)) <
        (if b then unserved held ns else suc (unserved held ns))
    by true true h rest = rest
    by true false h rest = absurd (true_is_not_false (sym (h refl)))
    by false true h rest = omega (arith, rest)
    by false false h rest = omega (arith, rest)

-- ---- a lock gained

-- a mode that didn't serve, in place of the old one, serves all that this did
stronger : (o : Option Mode) (mode other : Mode) → serves o mode ≡ false → serves o other ≡ true
    → serves (Some mode) other ≡ true
stronger None mode other misses meets = absurd (true_is_not_false (sym meets))
stronger (Some Exclusive) mode other misses meets = absurd (true_is_not_false misses)
stronger (Some Share) Share other misses meets = absurd (true_is_not_false misses)
stronger (Some Share) Exclusive other misses meets = refl

-- what is held serves in its own mode
serves_itself : (mode : Mode) → serves (Some mode) mode ≡ true
serves_itself Share = refl
serves_itself Exclusive = refl

-- the new lock serves
pub gained_serves : (l : Lock) (locks : List Lock) → serves (held_as (l ∷ locks) l.region l.resource) l.mode ≡ true
gained_serves l locks =
    let a : nat_eq l.region l.region ≡ true = eqb_same l.region in
    let b : same_resource l.resource l.resource ≡ true = resource_is_same l.resource in
    rw (a, b) (serves_itself l.mode)

-- and takes nothing away
pub gained_more : (l : Lock) (locks : List Lock) → serves (held_as locks l.region l.resource) l.mode ≡ false
    → ServesMore (held_as locks l.region) (held_as (l ∷ locks) l.region)
gained_more l locks new r mode served = by (nat_eq l.region l.region && same_resource l.resource r) refl
  where
    by : (b : Bool) → (nat_eq l.region l.region && same_resource l.resource r) ≡ b
        → serves (if b then Some l.mode else held_as locks l.region r) mode ≡ true
    by true is =
        let same : l.resource ≡ r = same_resources l.resource r (second_of_both _ _ is) in
        let before : serves (held_as locks l.region l.resource) mode ≡ true = subst
        (λ (q : Resource). serves (held_as locks l.region q) mode ≡ true) (sym same) served in
        stronger (held_as locks l.region l.resource) l.mode mode new before
    by false is = served

-- another region holds what it held
pub gained_other : (l : Lock) (locks : List Lock) (s : ℕ) → ¬ (s ≡ l.region) → (r : Resource)
    → held_as (l ∷ locks) s r ≡ held_as locks s r
gained_other l locks s ne r = let a : nat_eq l.region s ≡ false = eqb_other l.region s (λ e. ne (sym e)) in rw a refl
