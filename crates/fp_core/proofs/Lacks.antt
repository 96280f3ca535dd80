-- The first segment that the sync point lacks.
use Rattle.std.proofs.Common.{◌≡◌, sym, ◌∙◌, ap, arith, ℕ, zero, suc, ◌+◌, ◌<◌, ◌≤◌, List, [], ◌∷◌, length, drop, get_or, Bool, true, false, not, if◌then◌else◌, Option, Some, None}
use Rattle.std.proofs.lemmas.List.{drop_all}
use Rattle.std.specs.Prelude.{find}
use Rattle.fp_model.specs.declared.calls.Mode.{Mode}
use Rattle.fp_model.specs.declared.calls.Mode.TheVariants.{Exclusive}
use Rattle.fp_model.specs.declared.calls.Resource.{Resource}
use Rattle.fp_model.specs.Answers.{serves}
use Rattle.fp_model.specs.Commit.{lacking}
use Rattle.fp_model.specs.Machine.{Transaction}
use Rattle.fp_model.specs.Settle.{resources}

-- of a list, the first that isn't held Exclusive
abbrev pub first_unheld : (Resource → Option Mode) → List Resource → Option Resource
first_unheld held named = find (λ resource. not (serves (held resource) Exclusive)) named

-- what stands at a place is the first behind it
next_of : (xs : List Resource) (i : ℕ) (r : Resource) → i < length xs → r ≡ get_or xs i r
    → drop i xs ≡ r ∷ drop (i + 1) xs
next_of [] i r within is = absurd (omega (arith, within))
next_of (x ∷ xs) zero r within is = ap (λ y. y ∷ xs) (sym is)
next_of (x ∷ xs) (suc n) r within is =
    let e : suc n + 1 ≡ suc (n + 1) = omega arith in
    next_of xs n r (omega (arith, within)) is ∙ ap (λ k. r ∷ drop k (x ∷ xs)) (sym e)

module _ (held : Resource → Option Mode) (xs : List Resource) (i : ℕ) where
  behind : (r : Resource) (b : Bool) → i < length xs → r ≡ get_or xs i r → serves (held r) Exclusive ≡ b
      → first_unheld held (drop i xs) ≡ (if not b then Some r else first_unheld held (drop (i + 1) xs))
  behind r b within is e =
      ap (λ (rs : List Resource). first_unheld held rs) (next_of xs i r within is)
      ∙ ap (λ (c : Bool). if not c then Some r else first_unheld held (drop (i + 1) xs)) e

  -- one that is held is passed over,
  pub passed_over : (r : Resource) → i < length xs → r ≡ get_or xs i r → serves (held r) Exclusive ≡ true
      → first_unheld held (drop i xs) ≡ first_unheld held (drop (i + 1) xs)
  passed_over r within is e = behind r true within is e

  -- one that isn't is the first,
  pub found_at : (r : Resource) → i < length xs → r ≡ get_or xs i r → serves (held r) Exclusive ≡ false
      → first_unheld held (drop i xs) ≡ Some r
  found_at r within is e = behind r false within is e

  -- and at the end there is none
  pub none_left : length xs ≤ i → first_unheld held (drop i xs) ≡ None
  none_left past = ap (λ (rs : List Resource). first_unheld held rs) (drop_all i xs past)

-- It is what the sync point lacks, where the list is of the segments that the transaction's queue names.
pub is_first_lack : (held : Resource → Option Mode) (t : Transaction) (named : List Resource)
    → named ≡ resources t.point.own.deferred
    → first_unheld held named ≡ lacking t.point.own held
unfolding lacking
is_first_lack held t named names = ap (λ (rs : List Resource). first_unheld held rs) names
