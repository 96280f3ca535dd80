-- Who holds what, and which locks lie side by side.
use Rattle.std.proofs.Common.{◌≡◌, ℕ, List, [], ◌∷◌, Option, Some, None, inl, inr, refl, sym, ◌∙◌, ap, subst, Bool, true, false, not, nat_eq, ◌&&◌, ◌||◌, if◌then◌else◌}
use Rattle.std.specs.List.{Contains}
use Rattle.std.proofs.lemmas.Bool.{cases_eq}
use Rattle.fp_model.specs.declared.calls.Mode.{Mode}
use Rattle.fp_model.specs.declared.calls.Mode.TheVariants.{Share, Exclusive}
use Rattle.fp_model.specs.declared.calls.Resource.{Resource}
use Rattle.fp_model.specs.Waiting.{Lock, same_resource, is_exclusive, conflicts, held_as, without_region, is_blocked}
use Rattle.serial_order.specs.Kept.{AreApart}
use Rattle.serial_order.proofs.Lists.{eqb_same, eqb_other, eqb_is, true_is_not_false, contains_in_filter, none_passes}
use Rattle.plain_laws.proofs.Truths.{first_of_both, second_of_both}
use Rattle.plain_laws.proofs.Alls.{contains_cases, contains_first, contains_later}
use Rattle.std.proofs.lemmas.Option.{none-some, same_Some}
use Rattle.model_laws.proofs.Resources.{resource_is_same, same_resources as same_resource_is}

-- ---- tests

pub same_resources : (a b : Resource) → a ≡ b → same_resource a b ≡ true
same_resources a b e = subst (λ q. same_resource a q ≡ true) e (resource_is_same a)

-- ---- what is held

-- the lock by which a region holds a resource
pub held_by : (locks : List Lock) (region : ℕ) (resource : Resource) (mode : Mode)
    → held_as locks region resource ≡ Some mode
    → (lock : Lock) × (Contains locks lock × (lock.region ≡ region) × (lock.resource ≡ resource) × (lock.mode ≡ mode))
held_by [] region resource mode e = absurd (none-some mode e)
held_by (lock ∷ locks) region resource mode e = first_or
    (nat_eq lock.region region && same_resource lock.resource resource) refl (λ f. held_by locks region resource mode f)
    e
  where
    first_or : (b : Bool) → (nat_eq lock.region region && same_resource lock.resource resource) ≡ b
        → (held_as locks region resource ≡ Some mode → (l : Lock)
        × (Contains locks l × (l.region ≡ region) × (l.resource ≡ resource) × (l.mode ≡ mode)))
        → (if b then Some lock.mode else held_as locks region resource) ≡ Some mode
        → (l : Lock) × (Contains (lock ∷ locks) l × (l.region ≡ region) × (l.resource ≡ resource) × (l.mode ≡ mode))
    first_or true is later e = (
      lock,
      (
        contains_first lock locks,
        eqb_is lock.region region (first_of_both _ _ is),
        same_resource_is lock.resource resource (second_of_both _ _ is),
        same_Some lock.mode mode e,
      ),
    )
    first_or false is later e = let rest = later e in
        (rest.0, (contains_later lock locks rest.0 rest.1.0, rest.1.1, rest.1.2, rest.1.3))

-- a resource that isn't free is held in some mode
pub held_somehow : (o : Option Mode) → ¬ (o ≡ None) → (mode : Mode) × (o ≡ Some mode)
held_somehow None h = absurd (h refl)
held_somehow (Some mode) h = (mode, refl)

exclusive_is_not_share : Exclusive ≡ Share → ⊥
exclusive_is_not_share e = cc

-- what one region holds, no other holds Exclusive
pub others_not_exclusive : (locks : List Lock) → AreApart locks → (r s : ℕ) (resource : Resource) → ¬ (s ≡ r)
    → ¬ (held_as locks s resource ≡ None) → ¬ (held_as locks r resource ≡ Some Exclusive)
others_not_exclusive locks apart r s resource ne held e =
    let some = held_somehow (held_as locks s resource) held in
    let mine = held_by locks s resource some.0 some.1 in
    let theirs = held_by locks r resource Exclusive e in
    let shares = apart mine.0 theirs.0 mine.1.0 theirs.1.0 (mine.1.2 ∙ sym theirs.1.2)
    (λ same. ne (sym mine.1.1 ∙ same ∙ theirs.1.1)) in
    exclusive_is_not_share (sym theirs.1.3 ∙ shares.1)

-- the locks of the others
pub without_other : (r s : ℕ) (resource : Resource) (locks : List Lock) → ¬ (s ≡ r)
    → held_as (without_region r locks) s resource ≡ held_as locks s resource
without_other r s resource [] ne = refl
without_other r s resource (l ∷ ls) ne = elim (cases_eq l.region r) [
  | inl e ↦ let b : nat_eq l.region r ≡ true = subst (λ (q : ℕ). nat_eq q r ≡ true) (sym e) (eqb_same r) in
      let c : nat_eq l.region s ≡ false = eqb_other l.region s (λ f. ne (sym f ∙ e)) in
      rw b (rw c (without_other r s resource ls ne))
  | inr other ↦ let b : nat_eq l.region r ≡ false = eqb_other l.region r other in
      rw b (ap (λ o. if (nat_eq l.region s && same_resource l.resource resource) then Some l.mode else o)
      (without_other r s resource ls ne))
]

-- what was held is still held beside a new lock
pub still_held : (l : Lock) (locks : List Lock) (s : ℕ) (resource : Resource) → ¬ (held_as locks s resource ≡ None)
    → ¬ (held_as (l ∷ locks) s resource ≡ None)
still_held l locks s resource held = either (nat_eq l.region s && same_resource l.resource resource)
  where
    either : (b : Bool) → ¬ ((if b then Some l.mode else held_as locks s resource) ≡ None)
    either true e = none-some l.mode (sym e)
    either false e = held e

-- what was held Exclusive is, beside a new lock on what wasn't
pub still_exclusive : (l : Lock) (locks : List Lock) → ¬ (held_as locks l.region l.resource ≡ Some Exclusive)
    → (s : ℕ) (resource : Resource) → held_as locks s resource ≡ Some Exclusive
    → held_as (l ∷ locks) s resource ≡ Some Exclusive
still_exclusive l locks free s resource held = either (nat_eq l.region s && same_resource l.resource resource) refl
  where
    either : (b : Bool) → (nat_eq l.region s && same_resource l.resource resource) ≡ b
        → (if b then Some l.mode else held_as locks s resource) ≡ Some Exclusive
    either true is = absurd (free (
        let one = eqb_is l.region s (first_of_both _ _ is) in
        let other = same_resource_is l.resource resource (second_of_both _ _ is) in
        subst (λ q. held_as locks q l.resource ≡ Some Exclusive) (sym one)
        (subst (λ q. held_as locks s q ≡ Some Exclusive) (sym other) held)
        ))
    either false is = held

-- ---- locks side by side

-- modes that go together
shared_both : (a b : Mode) → (is_exclusive a || is_exclusive b) ≡ false → (a ≡ Share) × (b ≡ Share)
shared_both Share Share e = (refl, refl)
shared_both Share Exclusive e = absurd (true_is_not_false e)
shared_both Exclusive b e = absurd (true_is_not_false e)

-- the last of three tests fails where the others hold
last_of : (a b c : Bool) → a ≡ true → b ≡ true → (a && b && c) ≡ false → c ≡ false
last_of true true c p q e = e
last_of true false c p q e = absurd (true_is_not_false (sym q))
last_of false b c p q e = absurd (true_is_not_false (sym p))

-- different regions
not_same : (a b : ℕ) → ¬ (a ≡ b) → not (nat_eq a b) ≡ true
not_same a b ne = ap not (eqb_other a b ne)

-- a lock that isn't in a wanted one's way, on the same resource, is Share as that is
beside : (wanted lock : Lock) → conflicts wanted lock ≡ false → lock.resource ≡ wanted.resource
    → ¬ (lock.region ≡ wanted.region) → (lock.mode ≡ Share) × (wanted.mode ≡ Share)
beside wanted lock free same ne =
    shared_both lock.mode wanted.mode (last_of (not (nat_eq lock.region wanted.region))
    (same_resource lock.resource wanted.resource) _ (not_same lock.region wanted.region ne)
    (same_resources lock.resource wanted.resource same) free)

-- with a lock that nothing blocks
pub apart_with : (l : Lock) (locks : List Lock) → is_blocked locks l ≡ false → AreApart locks → AreApart (l ∷ locks)
apart_with l locks free apart a b in_a in_b same ne = elim (contains_cases l locks a in_a) [
  | inl is_a ↦ elim (contains_cases l locks b in_b) [
    | inl is_b ↦ absurd (ne (ap (λ q. q.region) (sym is_a ∙ is_b)))
    | inr there ↦
        let shares = beside l b (none_passes (conflicts l) locks b free there)
        (sym same ∙ ap (λ q. q.resource) (sym is_a)) (λ e. ne (ap (λ q. q.region) (sym is_a) ∙ sym e)) in
        (ap (λ q. q.mode) (sym is_a) ∙ shares.1, shares.0)
  ]
  | inr there ↦ elim (contains_cases l locks b in_b) [
    | inl is_b ↦ beside_last a b there is_b same ne
    | inr too ↦ apart a b there too same ne
  ]
]
  where
    beside_last : (a b : Lock) → Contains locks a → l ≡ b → a.resource ≡ b.resource → ¬ (a.region ≡ b.region)
        → (a.mode ≡ Share) × (b.mode ≡ Share)
    beside_last a b there is_b same ne =
        let shares = beside l a (none_passes (conflicts l) locks a free there) (same ∙ ap (λ q. q.resource) (sym is_b))
        (λ e. ne (e ∙ ap (λ q. q.region) is_b)) in
        (shares.0, ap (λ q. q.mode) (sym is_b) ∙ shares.1)

-- without those of a region
pub apart_without : (r : ℕ) (locks : List Lock) → AreApart locks → AreApart (without_region r locks)
apart_without r locks apart a b in_a in_b same ne =
    apart a b (contains_in_filter _ locks a in_a).0 (contains_in_filter _ locks b in_b).0 same ne
