-- Truths: what a test of both, of either, of none says.
use Rattle.std.proofs.Common.{◌&&◌, ◌||◌, ◌≡◌, Bool, false, not, refl, sym, true}

-- three
pub and_assoc : (a b c : Bool) → (a && (b && c)) ≡ ((a && b) && c)
and_assoc true b c = refl
and_assoc false b c = refl

-- with false
pub and_false : (b : Bool) → (b && false) ≡ false
and_false true = refl
and_false false = refl

-- with true
pub and_true : (b : Bool) → (b && true) ≡ b
and_true true = refl
and_true false = refl

-- two tests that say the same
pub both_ways : (p q : Bool) → (p ≡ true → q ≡ true) → (q ≡ true → p ≡ true) → p ≡ q
both_ways true q there back = sym (there refl)
both_ways false true there back = back refl
both_ways false false there back = refl

-- of either that fails the first fails
pub first_false : (a b : Bool) → (a || b) ≡ false → a ≡ false
first_false true b e = e
first_false false b e = refl

-- of both that hold the first holds
pub first_of_both : (a b : Bool) → (a && b) ≡ true → a ≡ true
first_of_both true b e = refl
first_of_both false b e = e

-- what is not so
pub not_true : (b : Bool) → not b ≡ true → b ≡ false
not_true true e = sym e
not_true false e = refl

-- either, with false
pub or_false : (b : Bool) → (b || false) ≡ b
or_false true = refl
or_false false = refl

-- and the second
pub second_false : (a b : Bool) → (a || b) ≡ false → b ≡ false
second_false true b e = absurd (cc)
second_false false b e = e

-- and the second
pub second_of_both : (a b : Bool) → (a && b) ≡ true → b ≡ true
second_of_both true b e = e
second_of_both false b e = absurd (cc)

-- the other way round
pub swapped : (a b : Bool) → (b || a) ≡ (a || (b || false))
swapped true true = refl
swapped true false = refl
swapped false true = refl
swapped false false = refl

-- of both that fail the second fails, where the first holds
pub not_second : (a b : Bool) → a ≡ true → (a && b) ≡ false → b ≡ false
not_second true b is e = e
not_second false b is e = absurd cc
