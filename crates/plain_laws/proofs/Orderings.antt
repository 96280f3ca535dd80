-- Orderings of two values, and what they say where they are tested.
use Rattle.std.proofs.Common.{◌&&◌, ◌==◌, ◌≡◌, Equal, Greater, Less, Ordering, arith, false, refl, true, ℕ}
use Rattle.std.proofs.lemmas.Bool.Decides.{nat_tests}
use Rattle.std.specs.Ordering.{is_eq, is_lt, nat_cmp, ordering_reverse, ordering_then}

not_both : true ≡ false → ⊥
not_both e = cc

-- two of which the first isn't below the second
pub neither_less : (o r : Ordering) → o ≡ ordering_reverse r → is_lt o ≡ false → is_lt r ≡ false → o ≡ Equal
neither_less Less r is a b = absurd (not_both a)
neither_less Equal r is a b = refl
neither_less Greater Less is a b = absurd (not_both b)
neither_less Greater Equal is a b = is
neither_less Greater Greater is a b = cc

-- equal, by the ordering of two numbers
pub number_test : (a b : ℕ) → is_eq (nat_cmp a b) ≡ (a == b)
number_test a b = grind (arith, nat_tests)

-- equal in both, by an ordering behind an ordering
pub then_test : (o p : Ordering) → is_eq (ordering_then o p) ≡ (is_eq o && is_eq p)
then_test Less p = refl
then_test Equal p = refl
then_test Greater p = refl
