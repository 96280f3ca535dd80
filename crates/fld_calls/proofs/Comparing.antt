-- Comparing bytes with a text that has blanks behind it.
use Rattle.std.proofs.Common.{◌≡◌, refl, ap, ◌∙◌, arith, ℕ, List, [], ◌∷◌, ◌++◌, length}
use Rattle.std.specs.declared.cmp.Ordering.{Ordering}
use Rattle.std.specs.declared.cmp.Ordering.TheVariants.{Less, Equal, Greater}
use Rattle.std.specs.Ordering.{nat_cmp, ordering_then}
use Rattle.std.specs.Cmp.Lexicographic.{slice_cmp}

then_assoc : (a b c : Ordering) → ordering_then (ordering_then a b) c ≡ ordering_then a (ordering_then b c)
then_assoc Less b c = refl
then_assoc Equal b c = refl
then_assoc Greater b c = refl

-- two parts are compared one after the other
pub slice_cmp_joined : (xs more ys others : List ℕ) → length xs ≡ length ys
    → ordering_then (slice_cmp nat_cmp xs ys) (slice_cmp nat_cmp more others) ≡ slice_cmp nat_cmp (xs ++ more)
    (ys ++ others)
slice_cmp_joined [] more [] others e = refl
slice_cmp_joined [] more (y ∷ ys) others e = absurd (omega arith)
slice_cmp_joined (x ∷ xs) more [] others e = absurd (omega arith)
slice_cmp_joined (x ∷ xs) more (y ∷ ys) others e =
    then_assoc (nat_cmp x y) (slice_cmp nat_cmp xs ys) (slice_cmp nat_cmp more others)
    ∙ ap (ordering_then (nat_cmp x y)) (slice_cmp_joined xs more ys others (omega arith))
