-- An interval that is put among those begun.
use Rattle.std.proofs.Common.{◌≡◌, ℕ, refl, ap, ◌∙◌, Bool, true, false, cond, ◌&&◌, ◌||◌, ◌==◌, arith}
use Rattle.std.specs.BTreeSet.{BTreeSet, contains}
use Rattle.std.specs.BTreeMap.{is_at}
use Rattle.std.proofs.lemmas.Bool.Decides.{nat_tests}
use Rattle.std.specs.Ordering.{is_eq, nat_cmp, ordering_then}
use Rattle.std.specs.declared.cmp.Ordering.{Ordering}
use Rattle.std.specs.declared.cmp.Ordering.TheVariants.{Less, Equal, Greater}
use Rattle.fp_restart.specs.inside.Begun.{interval_cmp}
use Rattle.plain_laws.proofs.Orderings.{then_test}

number_test : (a b : ℕ) → is_eq (nat_cmp a b) ≡ (b == a)
number_test a b = grind (arith, nat_tests)

-- two intervals are level exactly where they are the same
level : (set ci other n : ℕ) → is_at (interval_cmp (set, ci)) (other, n) ≡ (other == set && n == ci)
level set ci other n =
    then_test (nat_cmp set other) (nat_cmp ci n) ∙ ap (λ t. t && is_eq (nat_cmp ci n)) (number_test set other)
    ∙ ap (λ t. (other == set) && t) (number_test ci n)

either : (b c : Bool) → cond b true c ≡ (b || c)
either true c = refl
either false c = refl

pub put_interval : (old new : BTreeSet (ℕ × ℕ)) (set ci : ℕ)
    → ((q : ℕ × ℕ) → contains interval_cmp new q
    ≡ cond (is_at (interval_cmp (set, ci)) q) true (contains interval_cmp old q))
    → (other n : ℕ)
    → contains interval_cmp new (other, n) ≡ ((other == set && n == ci) || contains interval_cmp old (other, n))
put_interval old new set ci updates other n =
    updates (other, n) ∙ either (is_at (interval_cmp (set, ci)) (other, n)) (contains interval_cmp old (other, n))
    ∙ ap (λ t. t || contains interval_cmp old (other, n)) (level set ci other n)
