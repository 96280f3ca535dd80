-- Where the front of a text ends whose bytes pass a test.
use Rattle.std.proofs.Common.{◌≡◌, ℕ, ◌≤◌, ◌<◌, List, [], length, take, drop, Bool, true, false, cond, not, Some, None, refl, ap, ◌∙◌, arith, rules, nat_lt}
use Rattle.std.specs.List.{position_or_len}
use Rattle.std.proofs.lemmas.Bool.{ltb-true}
use Rattle.std.proofs.lemmas.Grind.{common_steps}
use Rattle.txn_tokens.specs.Tokens.{behind}

found_is : (test : Bool) (n i : ℕ) → cond test (Some n) None ≡ Some i → (test ≡ true) × (n ≡ i)
found_is true n i e = (refl, search rules)
found_is false n i e = absurd cc

pub place_within : {X : Type 0} (p : X → Bool) (xs : List X) (i : ℕ)
    → cond (nat_lt (position_or_len p xs) (length xs)) (Some (position_or_len p xs)) None ≡ Some i → i < length xs
place_within p xs i e = let found = found_is _ _ _ e in rw (← found.1) (ltb-true _ _ found.0)

-- what stands behind so many
pub behind_take : {X : Type 0} (n : ℕ) (xs : List X) → drop (length (take n xs)) xs ≡ drop n xs
behind_take n xs = grind (arith, common_steps)

pub behind_is : {X : Type 0} (test : X → Bool) (bytes : List X) (i : ℕ) → position_or_len (λ b. not (test b)) bytes ≡ i
    → behind test bytes ≡ drop i bytes
behind_is test bytes i e = behind_take (position_or_len (λ b. not (test b)) bytes) bytes ∙ ap (λ n. drop n bytes) e

pub behind_none : {X : Type 0} (test : X → Bool) (bytes : List X)
    → length bytes ≤ position_or_len (λ b. not (test b)) bytes → behind test bytes ≡ []
behind_none test bytes le = behind_take (position_or_len (λ b. not (test b)) bytes) bytes ∙ grind (arith, common_steps)

pub drop_past : {X : Type 0} (n : ℕ) (xs : List X) → length xs ≤ n → drop n xs ≡ []
drop_past n xs le = grind (arith, common_steps)
