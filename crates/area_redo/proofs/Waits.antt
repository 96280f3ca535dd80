-- What is owed is what the list of waiting intervals has.
use Rattle.std.proofs.Common.{◌≡◌, inl, inr, ℕ, ◌+◌, true, false, List, [], ◌∷◌, ◌++◌, Bool, refl, sym, ◌∙◌, ap, subst, arith, drop}
use Rattle.std.specs.Prelude.{Option, Some, None, ◌==◌, ◌&&◌, find, fold, if◌then◌else◌}
use Rattle.std.specs.Option.{option_map_or}
use Rattle.std.proofs.lemmas.Bool.{cases_Bool}
use Rattle.std.proofs.lemmas.Bool.Decides.{nat_tests}
use Rattle.std.proofs.lemmas.List.{append-nil}
use Rattle.fp_model.specs.declared.log.Item.{Item}
use Rattle.fp_model.specs.declared.log.Item.TheVariants.{Segment, Image, Range}
use Rattle.fp_model.specs.declared.log.Entry.{Entry}
use Rattle.fp_model.specs.ItemTargets.{OfInterval, item_target, names_interval}
use Rattle.fp_model.specs.Pending.{Pending, is_of, waiting_for}
use Rattle.fp_model.specs.Pending.{without as less, with_entries as more, pending_from}
use Rattle.area_redo.specs.Redo.{names}
use Rattle.area_redo.specs.Standing.{Due, Owed, renewed, with_entry, with_entries, without}
use Rattle.area_redo.specs.Restart.{found_owed}
use Rattle.area_redo.specs.Waiting.{due_of, owed_in}

-- the interval that is taken out of the list isn't found in it,
find_less : (set ci : ℕ) (pending behind : List Pending)
    → find (is_of set ci) (less set ci pending ++ behind) ≡ find (is_of set ci) behind
find_less set ci [] behind = refl
find_less set ci (p ∷ pending) behind = elim (cases_Bool (is_of set ci p)) [
  | inl is ↦ rw is (find_less set ci pending behind)
  | inr other ↦ rw (other, other) (find_less set ci pending behind)
]

not_both : (s c set ci : ℕ) (p : Pending) → (set == s && ci == c) ≡ false → is_of s c p ≡ true → is_of set ci p ≡ false
not_both s c set ci p ne is = grind (arith, nat_tests)

-- and another is as before
find_other : (s c set ci : ℕ) (pending behind : List Pending) → (set == s && ci == c) ≡ false
    → find (is_of set ci) (less s c pending ++ behind) ≡ find (is_of set ci) (pending ++ behind)
find_other s c set ci [] behind ne = refl
find_other s c set ci (p ∷ pending) behind ne = elim (cases_Bool (is_of s c p)) [
  | inl is ↦ let other = not_both s c set ci p ne is in rw (is, other) (find_other s c set ci pending behind ne)
  | inr kept ↦ elim (cases_Bool (is_of set ci p)) [
    | inl is ↦ rw (kept, is) refl
    | inr other ↦ rw (kept, other) (find_other s c set ci pending behind ne)
  ]
]

find_none : (set ci : ℕ) (pending : List Pending) (p : Pending) → is_of set ci p ≡ false
    → find (is_of set ci) (pending ++ p ∷ []) ≡ find (is_of set ci) pending
find_none set ci [] p other = rw other refl
find_none set ci (q ∷ pending) p other = elim (cases_Bool (is_of set ci q)) [
  | inl is ↦ rw is refl
  | inr ne ↦ rw ne (find_none set ci pending p other)
]

-- Behind a write
pub owed_less : (s c : ℕ) (pending : List Pending) (set ci : ℕ)
    → owed_in (less s c pending) set ci ≡ without s c (owed_in pending) set ci
owed_less s c pending set ci = elim (cases_Bool (set == s && ci == c)) [
  | inl is ↦
      let es : set ≡ s = grind (arith, nat_tests) in
      let ec : ci ≡ c = grind (arith, nat_tests) in
      let none : find (is_of s c) (less s c pending) ≡ None =
      ap (find (is_of s c)) (sym (append-nil (less s c pending))) ∙ find_less s c pending [] in
      rw is (ap (λ n. due_of (find (is_of n ci) (less s c pending))) es
      ∙ ap (λ n. due_of (find (is_of s n) (less s c pending))) ec ∙ ap due_of none)
  | inr ne ↦
      let same : find (is_of set ci) (less s c pending) ≡ find (is_of set ci) pending =
      ap (find (is_of set ci)) (sym (append-nil (less s c pending))) ∙ find_other s c set ci pending [] ne
      ∙ ap (find (is_of set ci)) (append-nil pending) in
      rw ne (ap due_of same)
]

-- what is owed once an entry at this place does or doesn't name the interval
abbrev renewed_if : Bool → ℕ → Option Due → Option Due
renewed_if named place due = if named then Some (renewed place due) else due

-- how an interval waits that one more item names
renewed_of : (place : ℕ) (o : Option Pending)
    → Some (record { oldest = option_map_or (λ p. p.oldest) o place; newest = place }) ≡ Some (renewed place (due_of o))
renewed_of place None = refl
renewed_of place (Some p) = refl

one_interval : (place s c : ℕ) (pending : List Pending) (set ci : ℕ)
    → owed_in (waiting_for place pending (OfInterval s c)) set ci
    ≡ renewed_if (set == s && ci == c) place (owed_in pending set ci)
one_interval place s c pending set ci = elim (cases_Bool (set == s && ci == c)) [
  | inl is ↦
      let es : set ≡ s = grind (arith, nat_tests) in
      let ec : ci ≡ c = grind (arith, nat_tests) in
      rw is (subst (λ a. has a ci) (sym es) (subst (λ b. has s b) (sym ec) at_it))
  | inr ne ↦
      let other : (s == set && c == ci) ≡ false = grind (arith, nat_tests) in
      rw ne (ap due_of (find_other s c set ci pending (the_new ∷ []) ne ∙ find_none set ci pending the_new other))
]
  where
    the_new : Pending
    the_new = record {
      set = s;
      ci = c;
      oldest = option_map_or (λ p. p.oldest) (find (is_of s c) pending) place;
      newest = place;
    }

    itself : is_of s c the_new ≡ true
    itself = grind (arith, nat_tests)

    here : find (is_of s c) (the_new ∷ []) ≡ Some the_new
    here = rw itself refl

    has : ℕ → ℕ → Type 0
    has a b = owed_in (waiting_for place pending (OfInterval s c)) a b ≡ Some (renewed place (owed_in pending a b))

    at_it : has s c
    at_it =
        ap due_of (find_less s c pending (the_new ∷ []) ∙ here)
        ∙ renewed_of place (find (is_of s c) pending)

one_item : (place : ℕ) (item : Item) (pending : List Pending) (set ci : ℕ)
    → owed_in (waiting_for place pending (item_target item)) set ci
    ≡ renewed_if (names_interval set ci item) place (owed_in pending set ci)
one_item place (Segment msdb key bytes) pending set ci = refl
one_item place (Image s c bytes) pending set ci = one_interval place s c pending set ci
one_item place (Range s c at bytes) pending set ci = one_interval place s c pending set ci

twice : (place : ℕ) (o : Option Due) → renewed place (Some (renewed place o)) ≡ renewed place o
twice place None = refl
twice place (Some due) = refl

-- the list behind an entry's items
abbrev with_items : ℕ → List Item → List Pending → List Pending
with_items place items pending = fold (λ before item. waiting_for place before (item_target item)) pending items

-- behind an entry's items,
one_entry : (place : ℕ) (items : List Item) (pending : List Pending) (set ci : ℕ)
    → owed_in (with_items place items pending) set ci ≡ renewed_if (names set ci items) place (owed_in pending set ci)
one_entry place [] pending set ci = refl
one_entry place (item ∷ items) pending set ci =
    one_entry place items (waiting_for place pending (item_target item)) set ci
    ∙ ap (renewed_if (names set ci items) place) (one_item place item pending set ci)
    ∙ elim (cases_Bool (names_interval set ci item)) [
      | inr other ↦ rw other refl
      | inl is ↦ elim (cases_Bool (names set ci items)) [
        | inl more_named ↦ rw (is, more_named) (ap Some (twice place (owed_in pending set ci)))
        | inr none ↦ rw (is, none) refl
      ]
    ]

-- behind entries,
same_entries : (entries : List Entry) (place : ℕ) (a b : Owed) (set ci : ℕ) → a set ci ≡ b set ci
    → with_entries place entries a set ci ≡ with_entries place entries b set ci
same_entries [] place a b set ci same = same
same_entries (e ∷ entries) place a b set ci same =
    same_entries entries (place + 1) (with_entry place e a) (with_entry place e b) set ci
    (ap (renewed_if (names set ci e.items) place) same)

pub owed_more : (entries : List Entry) (place : ℕ) (pending : List Pending) (set ci : ℕ)
    → owed_in (more place entries pending) set ci ≡ with_entries place entries (owed_in pending) set ci
owed_more [] place pending set ci = refl
owed_more (e ∷ entries) place pending set ci =
    owed_more entries (place + 1) (with_items place e.items pending) set ci
    ∙ same_entries entries (place + 1) (owed_in (with_items place e.items pending))
    (with_entry place e (owed_in pending)) set ci (one_entry place e.items pending set ci)

-- and as a run begins
pub owed_from : (count : ℕ) (entries : List Entry) (set ci : ℕ)
    → owed_in (pending_from count entries) set ci ≡ found_owed count (drop count entries) set ci
owed_from count entries set ci = owed_more (drop count entries) count [] set ci
