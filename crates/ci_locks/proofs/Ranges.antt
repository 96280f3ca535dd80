-- The anchors of a range.
use Rattle.std.proofs.Common.{refl, arith, ◌≡◌, ◌≤◌, ℕ, List, [], ◌∷◌, true, false, Option, Some, None, ap, sym, subst, ◌∙◌}
use Rattle.std.specs.Prelude.{IsSome, MatchOption, is_some, slice_get}
use Rattle.std.specs.BTreeMap.{BTreeMap, get}
use Rattle.std.specs.BTreeMap.Range.{IsRangeOf, IsEntryInRange}
use Rattle.std.specs.Option.{IfSome}
use Rattle.std.specs.Ordering.{is_eq, is_gt, nat_cmp, ordering_then}
use Rattle.std.specs.declared.cmp.Ordering.{Ordering}
use Rattle.std.specs.declared.cmp.Ordering.TheVariants.{Less, Equal, Greater}
use Rattle.std.specs.declared.ops.Bound.TheVariants.{Included}
use Rattle.std.proofs.lemmas.Bool.Decides.{nat_tests}
use Rattle.std.proofs.lemmas.Map.Keys.{le_from_not_gt}
use Rattle.ci_locks.specs.Holdings.{anchor_cmp}

not_gt : (a b : ℕ) → a ≤ b → is_gt (nat_cmp a b) ≡ false
not_gt a b h = grind (arith, nat_tests)

is_same : (a b : ℕ) → a ≡ b → is_eq (nat_cmp a b) ≡ true
is_same a b h = grind (arith, nat_tests)

left_not_gt : (o p : Ordering) → is_gt (ordering_then o p) ≡ false → is_gt o ≡ false
left_not_gt Less p e = refl
left_not_gt Equal p e = refl
left_not_gt Greater p e = e

right_not_gt : (o p : Ordering) → is_eq o ≡ true → is_gt (ordering_then o p) ≡ false → is_gt p ≡ false
right_not_gt Less p same e = absurd (cc)
right_not_gt Equal p same e = e
right_not_gt Greater p same e = absurd (cc)

both_not_gt : (o p : Ordering) → is_gt o ≡ false → is_gt p ≡ false → is_gt (ordering_then o p) ≡ false
both_not_gt Less p e f = refl
both_not_gt Equal p e f = f
both_not_gt Greater p e f = e

-- a key between two of one database
record Between (d first last : ℕ) (q : ℕ × ℕ) : Type 0 where
  database : q.0 ≡ d
  from : first ≤ q.1
  to : q.1 ≤ last

between : (d first last : ℕ) (q : ℕ × ℕ) → is_gt (anchor_cmp (d, first) q) ≡ false
    → is_gt (anchor_cmp q (d, last)) ≡ false → Between d first last q
between d first last q low high =
    let below : d ≤ q.0 = le_from_not_gt d q.0 (left_not_gt (nat_cmp d q.0) (nat_cmp first q.1) low) in
    let above : q.0 ≤ d = le_from_not_gt q.0 d (left_not_gt (nat_cmp q.0 d) (nat_cmp q.1 last) high) in
    let here : q.0 ≡ d = omega (arith, below, above) in
    record {
      database = here;
      from = le_from_not_gt first q.1 (right_not_gt (nat_cmp d q.0) (nat_cmp first q.1) (is_same d q.0 (sym here)) low);
      to = le_from_not_gt q.1 last (right_not_gt (nat_cmp q.0 d) (nat_cmp q.1 last) (is_same q.0 d here) high);
    }

module _ {V : Type 0} (held : BTreeMap (ℕ × ℕ) V) (d first last : ℕ) where
  some_found : (o : Option V) (value : V) → o ≡ Some value → IsSome o
  some_found o value e = let P : Option V → Type 0 = IsSome in subst P (sym e) (search)

  -- the first entry of the range is an anchor there
  pub one_is : (low high : ℕ × ℕ) (e : (ℕ × ℕ) × V) → low ≡ (d, first) → high ≡ (d, last)
      → IsEntryInRange anchor_cmp (Included low) (Included high) held e
      → (anchor : ℕ) × (first ≤ anchor) × (anchor ≤ last) × IsSome (get anchor_cmp held (d, anchor))
  one_is low high e low_is high_is inside =
      let b = between d first last e.0 (ap (λ k. is_gt (anchor_cmp k e.0)) (sym low_is) ∙ inside.0.0)
      (ap (λ k. is_gt (anchor_cmp e.0 k)) (sym high_is) ∙ inside.0.1) in (
        e.0.1,
        b.from,
        b.to,
        some_found (get anchor_cmp held (d, e.0.1)) e.1
            (ap (λ n. get anchor_cmp held (n, e.0.1)) (sym b.database) ∙ inside.1),
      )

  -- where the range has no entry no anchor there is held
  pub none_is : (low high : ℕ × ℕ) (es : List ((ℕ × ℕ) × V)) → low ≡ (d, first) → high ≡ (d, last)
      → IsRangeOf anchor_cmp (Included low) (Included high) held es → es ≡ []
      → (anchor : ℕ) → first ≤ anchor → anchor ≤ last → get anchor_cmp held (d, anchor) ≡ None
  none_is low high es low_is high_is range empty anchor from to =
      range.5 empty (d, anchor) (
        (ap (λ k. is_gt (anchor_cmp k (d, anchor))) low_is ∙ both_not_gt (nat_cmp d d) (nat_cmp first anchor)
            (not_gt d d (search arith)) (not_gt first anchor from)),
        (ap (λ k. is_gt (anchor_cmp (d, anchor) k)) high_is ∙ both_not_gt (nat_cmp d d) (nat_cmp anchor last)
            (not_gt d d (search arith)) (not_gt anchor last to)),
      )

  -- so an entry that the range begins with is one
  pub first_is : (low high : ℕ × ℕ) (es : List ((ℕ × ℕ) × V)) (e : (ℕ × ℕ) × V) (rest : List ((ℕ × ℕ) × V))
      → low ≡ (d, first) → high ≡ (d, last) → IsRangeOf anchor_cmp (Included low) (Included high) held es
      → es ≡ e ∷ rest
      → (anchor : ℕ) × (first ≤ anchor) × (anchor ≤ last) × IsSome (get anchor_cmp held (d, anchor))
  first_is low high es e rest low_is high_is range begins =
      let P : List ((ℕ × ℕ) × V) → Type 0 = λ list. IfSome (slice_get list 0)
      (IsEntryInRange anchor_cmp (Included low) (Included high) held) in
      one_is low high e low_is high_is (subst P begins range.1)

pub left_of : {T : Type 0} (o : Option T) (P : Type 0) (Q : T → Type 0) → is_some o ≡ false → MatchOption o P Q → P
left_of None P Q is m = m
left_of (Some x) P Q is m = absurd (cc)

pub right_of : {T : Type 0} (o : Option T) (P : Type 0) (Q : T → Type 0) → is_some o ≡ true → MatchOption o P Q
    → (x : T) × Q x
right_of None P Q is m = absurd (cc)
right_of (Some x) P Q is m = (x, m)
