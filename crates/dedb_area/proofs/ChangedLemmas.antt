-- The intervals of an area as a call on a `Staging` leaves them.
use Rattle.std.proofs.Common.{◌≡◌, inl, inr, ℕ, ◌+◌, ◌*◌, ◌<◌, ◌≤◌, ◌^◌, List, refl, sym, ◌∙◌, ap, subst, arith, mul-le-mul_right}
use Rattle.std.specs.Prelude.{Option, Some, None, IsOk, IsSome, Result, Ok, Err, IfOk, OnOk}
use Rattle.std.proofs.lemmas.Bool.{cases_lt}
use Rattle.held_intervals.specs.Holding.{Changes, Fit, held_or, listed}
use Rattle.held_intervals.proofs.Holds.{listed_same}
use Rattle.ci_pool.specs.Held.{Held, newest_in}
use Rattle.area_staging.specs.declared.extent.Extent.{Extent}
use Rattle.area_staging.specs.Changing.{AreWithin, Shows}
use Rattle.area_staging.specs.Staging.{staged_area, staged_or_newest}
use Rattle.area_staging.proofs.Staged.{in_pool, newest_same}

-- ---- with nothing staged

pub fresh_list : (area : Extent) (set2 size2 count2 : ℕ) (contents contents2 : ℕ → List ℕ) (pool pool2 : Held)
    (staged : Changes) (bytes : ℕ → List ℕ) → set2 ≡ area.set → size2 ≡ area.size → count2 ≡ area.count
    → contents2 ≡ contents → pool2 ≡ pool → ((ci : ℕ) → staged ci ≡ None) → Shows area contents pool bytes
    → staged_area count2 staged pool2 contents2 set2 size2 ≡ listed area.count bytes
fresh_list area set2 size2 count2 contents contents2 pool pool2 staged bytes e1 e2 e3 e4 e5 none shown =
    let e : staged_area count2 staged pool2 contents2 set2 size2
    ≡ staged_area area.count staged pool contents area.set area.size = cc in
    e
    ∙ listed_same area.count (staged_or_newest staged pool contents area.set area.size) bytes
    (λ ci below. in_pool staged pool contents area.set area.size ci (none ci) ∙ shown.newest ci below)

-- ---- with what was put

some_there : (o : Option (List ℕ)) → o ≡ None → IsSome o → ⊥
some_there None e is = cc
some_there (Some x) e is = cc

pub changed_list : (area : Extent) (set2 size2 count2 : ℕ) (contents contents2 : ℕ → List ℕ) (pool pool2 : Held)
    (staged : Changes) (bytes : ℕ → List ℕ) → set2 ≡ area.set → size2 ≡ area.size → contents2 ≡ contents
    → pool2.cells ≡ pool.cells → ((ci : ℕ) → area.count ≤ ci → ci < count2 → IsSome (staged ci))
    → Shows area contents pool bytes
    → staged_area count2 staged pool2 contents2 set2 size2 ≡ listed count2 (λ ci. held_or (staged ci) (bytes ci))
changed_list area set2 size2 count2 contents contents2 pool pool2 staged bytes e1 e2 e3 e4 fresh shown =
    listed_same count2 (staged_or_newest staged pool2 contents2 set2 size2) (λ ci. held_or (staged ci) (bytes ci))
    (λ ci below. here ci below (staged ci) refl)
  where
    here : (ci : ℕ) → ci < count2 → (o : Option (List ℕ)) → staged ci ≡ o
        → held_or (staged ci) (newest_in pool2 contents2 set2 ci size2) ≡ held_or (staged ci) (bytes ci)
    here ci below (Some x) is =
        ap (λ o. held_or o (newest_in pool2 contents2 set2 ci size2)) is ∙ sym (ap (λ o. held_or o (bytes ci)) is)
    here ci below None is =
        let low : ci < area.count = elim (cases_lt ci area.count) [
          | inl lt ↦ lt
          | inr from ↦ absurd (some_there (staged ci) is (fresh ci from below))
        ] in
        ap (held_or (staged ci)) (
        newest_same pool pool2 contents contents2 set2 ci size2 e4 e3
        ∙ ap (λ s. newest_in pool contents s ci size2) e1
        ∙ ap (λ z. newest_in pool contents area.set ci z) e2
        ∙ shown.newest ci low
        )

-- each that was put is within the area
pub put_within : (area : Extent) (count2 size2 : ℕ) (staged : Changes) → size2 ≡ area.size → count2 * size2 ≤ 2 ^ 62
    → Fit count2 size2 staged → AreWithin area staged
put_within area count2 size2 staged e ends fit ci bytes is =
    let f = fit ci bytes is in
    let below : ci < count2 = f.0 in
    let up : ci + 1 ≤ count2 = omega (arith, below) in
    let more : (ci + 1) * size2 ≤ count2 * size2 = mul-le-mul_right size2 up in
    let end : (ci + 1) * size2 ≤ 2 ^ 62 = omega (arith, more, ends) in
    (f.1 ∙ e, subst (λ n. (ci + 1) * n ≤ 2 ^ 62) e end)

-- ---- as the calls answer

pub given_then : {T U E F : Type 0} (r : Result T F) (done : Result U E) (x : T) (P : Type 0) (Q : T → Type 0)
    → IfOk r (λ y. y ≡ x) → OnOk r (IsOk done) → OnOk done P → (P → Q x) → IfOk r Q
given_then (Ok y) (Ok u) x P Q same ok p f = subst Q (sym same) (f p)
given_then (Ok y) (Err e) x P Q same ok p f = absurd cc
given_then (Err e) done x P Q same ok p f = tt

pub given_all : {T F : Type 0} (r : Result T F) (x : T) (Q : T → Type 0) → IfOk r (λ y. y ≡ x) → Q x → IfOk r Q
given_all (Ok y) x Q same q = subst Q (sym same) q
given_all (Err e) x Q same q = tt

pub ok_then : {T U E F : Type 0} (r : Result T F) (done : Result U E) (P : Type 0) → OnOk r (IsOk done) → OnOk done P
    → OnOk r P
ok_then (Ok y) (Ok u) P ok p = p
ok_then (Ok y) (Err e) P ok p = absurd cc
ok_then (Err e) done P ok p = tt
