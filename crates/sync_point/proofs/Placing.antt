-- A set of names, in order, is the list of the segments that they name.
use Rattle.std.proofs.Common.{Ordering, Less, Equal, Greater, ◌≡◌, ◌∙◌, refl, sym, ap, arith, ℕ, suc, ◌-◌, ◌<◌, ◌≤◌, List, [], ◌∷◌, map, drop, length, get_or, Bool, true, false, ◌&&◌, ◌==◌, ◌||◌, cond, nat_lt}
use Rattle.std.specs.Prelude.{if◌then◌else◌}
use Rattle.std.specs.Ordering.{is_lt, match_ordering, nat_cmp, ordering_reverse, ordering_then}
use Rattle.std.specs.Cmp.{nat_cmp_total}
use Rattle.std.specs.Cmp.Lexicographic.{slice_cmp}
use Rattle.std.proofs.lemmas.Cmp.{nat_list_cmp_total}
use Rattle.std.specs.BTreeSet.{insert_key}
use Rattle.std.proofs.Math.Seq.{drop-cons}
use Rattle.fp_model.specs.declared.calls.Deferred.{Deferred}
use Rattle.fp_model.specs.Settle.{comes_before, with_resource}
use Rattle.fp_model.specs.declared.calls.Resource.{Resource}
use Rattle.fp_model.specs.declared.calls.Resource.TheVariants.{Segment}

-- by number, and then key
abbrev by_both : ℕ → ℕ → List ℕ → List ℕ → Ordering
by_both m n k l = ordering_then (nat_cmp m n) (slice_cmp nat_cmp k l)

before_is : (m n : ℕ) (k l : List ℕ) → comes_before (Segment m k) (Segment n l) ≡ is_lt (by_both m n k l)
before_is m n k l = by (nat_lt m n) (m == n) (slice_cmp nat_cmp k l)
  where
    by : (a b : Bool) (o : Ordering)
        → (a || b && is_lt o) ≡ is_lt (ordering_then (cond a Less (cond b Equal Greater)) o)
    by true b o = refl
    by false true o = refl
    by false false o = refl

then_reverse : (a b : Ordering)
    → ordering_then (ordering_reverse a) (ordering_reverse b) ≡ ordering_reverse (ordering_then a b)
then_reverse Less b = refl
then_reverse Equal b = refl
then_reverse Greater b = refl

turned : (m n : ℕ) (k l : List ℕ) → by_both n m l k ≡ ordering_reverse (by_both m n k l)
turned m n k l =
    ap (λ (o : Ordering). ordering_then o (slice_cmp nat_cmp l k)) (nat_cmp_total.antisymm n m)
    ∙ ap (λ (o : Ordering). ordering_then (ordering_reverse (nat_cmp m n)) o) (nat_list_cmp_total.antisymm l k)
    ∙ then_reverse (nat_cmp m n) (slice_cmp nat_cmp k l)

-- a segment at its place, by how it compares
placed : (m n : ℕ) (k l : List ℕ) (others : List Resource) (o : Ordering) → by_both m n k l ≡ o
    → with_resource (Segment m k) (Segment n l ∷ others)
    ≡ match_ordering o (Segment m k ∷ Segment n l ∷ others) (Segment n l ∷ others)
    (Segment n l ∷ with_resource (Segment m k) others)
placed m n k l others o e =
    let first : comes_before (Segment m k) (Segment n l) ≡ is_lt o = before_is m n k l ∙ ap is_lt e in
    let second : comes_before (Segment n l) (Segment m k) ≡ is_lt (ordering_reverse o) = before_is n m l k
    ∙ ap is_lt (turned m n k l ∙ ap ordering_reverse e) in
    rw (first, second) (by o)
  where
    by : (o : Ordering)
        → (if is_lt o then Segment m k ∷ Segment n l ∷ others else
        (if is_lt (ordering_reverse o) then Segment n l ∷ with_resource (Segment m k) others else Segment n l ∷
        others))
        ≡ match_ordering o (Segment m k ∷ Segment n l ∷ others) (Segment n l ∷ others)
        (Segment n l ∷ with_resource (Segment m k) others)
    by Less = refl
    by Equal = refl
    by Greater = refl

module _ {K : Type 0} (number : K → ℕ) (key : K → List ℕ) where
  abbrev pub of : K → Resource
  of x = Segment (number x) (key x)

  abbrev pub order : K → K → Ordering
  order x y = by_both (number x) (number y) (key x) (key y)

  -- one more name is one more segment
  pub put_name : (xs : List K) (x : K) → map of (insert_key order xs x) ≡ with_resource (of x) (map of xs)
  put_name [] x = refl
  put_name (y ∷ ys) x = by (order x y) refl (put_name ys x)
    where
      by : (o : Ordering) → order x y ≡ o → map of (insert_key order ys x) ≡ with_resource (of x) (map of ys)
          → map of (insert_key order (y ∷ ys) x) ≡ with_resource (of x) (map of (y ∷ ys))
      by Less e rest = rw e (sym (placed (number x) (number y) (key x) (key y) (map of ys) Less e))
      by Equal e rest = rw e (sym (placed (number x) (number y) (key x) (key y) (map of ys) Equal e))
      by Greater e rest = rw e (ap (λ rs. of y ∷ rs) rest
          ∙ sym (placed (number x) (number y) (key x) (key y) (map of ys) Greater e))

-- the calls from one on are it and those behind it
pub from_call : (calls : List Deferred) (at : ℕ) (call known : Deferred) → 0 < at → at ≤ length calls
    → call ≡ get_or calls (at - 1) call → call ≡ known
    → drop (at - 1) calls ≡ known ∷ drop at calls
from_call calls at call known some within is as_known =
    let next : suc (at - 1) ≡ at = omega arith in
    let below : at - 1 < length calls = omega arith in
    drop-cons calls (at - 1) call below
    ∙ ap (λ (x : Deferred). x ∷ drop (suc (at - 1)) calls) (sym is ∙ as_known)
    ∙ ap (λ (n : ℕ). known ∷ drop n calls) next
