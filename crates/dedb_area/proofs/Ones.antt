-- A commit that changes one segment has one item.
use Rattle.std.proofs.Common.{◌≡◌, ◌≢◌, inl, inr, ℕ, ◌+◌, ◌-◌, ◌<◌, ◌≤◌, Bool, true, false, List, [], ◌∷◌, ◌++◌, length, refl, sym, ◌∙◌, ap, subst, arith}
use Rattle.std.specs.Prelude.{◌==◌, ◌&&◌, ◌||◌, Option, Some, None, Result, Ok, Err, IfOk, nat_lt}
use Rattle.std.specs.List.{AllByRecursion}
use Rattle.std.proofs.lemmas.Bool.{cases_eq, cases_lt}
use Rattle.std.proofs.lemmas.Bool.Decides.{nat_tests}
use Rattle.fp_model.specs.ItemTargets.{OfInterval, is_ascending, item_target, names_interval, precedes, target_precedes}
use Rattle.fp_model.specs.State.{first_area_set}
use Rattle.fp_model.specs.declared.calls.AnchorChange.{AnchorChange}
use Rattle.fp_model.specs.declared.calls.SeqInsert.{SeqInsert}
use Rattle.fp_model.specs.declared.database.Db.{Db}
use Rattle.fp_model.specs.declared.database.Root.{Root}
use Rattle.fp_model.specs.declared.log.Item.{Item}
use Rattle.fp_model.specs.declared.log.Item.TheVariants.{Segment, Image, Range}
use Rattle.root_changes.specs.Differing.{RootsDiffer}
use Rattle.root_changes.proofs.ComparingLemmas.{roots_apart, same_there}
use Rattle.held_intervals.specs.Holding.{Changes, Fit, held_or, listed}
use Rattle.area_redo.specs.Redo.{names}
use Rattle.area_states.specs.declared.place.Place.{Place}
use Rattle.area_states.specs.Changes.{OneChanges, with_change}
use Rattle.area_states.specs.Places.{has_anchor, place_at}
use Rattle.area_states.specs.States.{AreaState, HasState}
use Rattle.area_states.proofs.Changing.{in_area}
use Rattle.area_states.proofs.StateLemmas.{has_one_state}
use Rattle.area_staging.specs.Changing.{IsFitFor, MakeChanges}
use Rattle.area_staging.specs.Staging.{length_listed}
use Rattle.dedb_area.specs.Anchors.{intervals_of}
use Rattle.dedb_area.specs.Committing.{committed, is_concerned}
use Rattle.dedb_area.specs.inside.Committing.{ChangesOneSegment, MakesArea, OneChanged, OneSegmentChanges}
use Rattle.dedb_area.specs.inside.Staging.{HasOneItem, not_yet, there}
use Rattle.dedb_area.proofs.AnchorLemmas.{within_areas}
use Rattle.plain_laws.proofs.Truths.{first_of_both}
use Rattle.plain_laws.proofs.Numbers.{is_number}
use Rattle.area_laws.proofs.StartLemmas.{listed_at}

pub not_both : true ≡ false → ⊥
not_both e = cc

-- ---- at most one

-- the interval of an item
record HasInterval (data_set : ℕ) (item : Item) : Type 0 where
  ci : ℕ
  is : item_target item ≡ OfInterval data_set ci
  named : names_interval data_set ci item ≡ true

interval_named : (data_set s ci : ℕ) → s ≡ data_set → (data_set == s && ci == ci) ≡ true
interval_named data_set s ci e = grind (arith, nat_tests, e)

interval_of : (data_set size : ℕ) (item : Item) → IsFitFor data_set size item → HasInterval data_set item
interval_of data_set size (Segment msdb key bytes) fit = absurd fit
interval_of data_set size (Image s ci bytes) fit =
    record { ci = ci; is = ap (λ x. OfInterval x ci) fit.0; named = interval_named data_set s ci fit.0 }
interval_of data_set size (Range s ci at bytes) fit =
    record { ci = ci; is = ap (λ x. OfInterval x ci) fit.0; named = interval_named data_set s ci fit.0 }

not_itself : (data_set a b : ℕ) → a ≡ b → (nat_lt data_set data_set || (data_set == data_set && nat_lt a b)) ≡ true → ⊥
not_itself data_set a b e is = grind (arith, nat_tests, e, is)

or_true : (b : Bool) → (b || true) ≡ true
or_true true = refl
or_true false = refl

few : (data_set size ci : ℕ) (items : List Item) → ((k : ℕ) → names data_set k items ≡ true → k ≡ ci)
    → AllByRecursion (IsFitFor data_set size) items → is_ascending items ≡ true → length items ≤ 1
few data_set size ci [] one fit up = omega arith
few data_set size ci (a ∷ []) one fit up = omega arith
few data_set size ci (a ∷ b ∷ more) one fit up =
    let x = interval_of data_set size a fit.0 in
    let y = interval_of data_set size b fit.1.0 in
    let first : names data_set x.ci (a ∷ b ∷ more) ≡ true = ap (λ t. t || names data_set x.ci (b ∷ more)) x.named in
    let second : names data_set y.ci (a ∷ b ∷ more) ≡ true =
    ap (λ t. names_interval data_set y.ci a || (t || names data_set y.ci more)) y.named
    ∙ or_true (names_interval data_set y.ci a) in
    let same : x.ci ≡ y.ci = one x.ci first ∙ sym (one y.ci second) in
    let before : precedes a b ≡ true = first_of_both (precedes a b) (is_ascending (b ∷ more)) up in
    let targets : target_precedes (OfInterval data_set x.ci) (OfInterval data_set y.ci) ≡ true =
    ap (λ t. target_precedes t (OfInterval data_set y.ci)) (sym x.is)
    ∙ ap (target_precedes (item_target a)) (sym y.is) ∙ before in
    absurd (not_itself data_set x.ci y.ci same targets)

module _ (data_set count size : ℕ) (imaged : ℕ → Bool) (bytes : ℕ → List ℕ) (changed : Changes) (items : List Item)
    (made : MakeChanges data_set count imaged bytes changed items) (one : OneChanged count bytes changed) where
  named_is : (k : ℕ) → names data_set k items ≡ true → k ≡ one.ci
  named_is k named = elim (cases_eq k one.ci) [
    | inl e ↦ e
    | inr ne ↦ elim (cases_lt k count) [
      | inl lt ↦ absurd (by (changed k) refl lt ne)
      | inr from ↦ absurd (not_both (sym named ∙ made.none k (one.none_new k from)))
    ]
  ]
    where
      by : (o : Option (List ℕ)) → changed k ≡ o → k < count → k ≢ one.ci → ⊥
      by None e lt ne = not_both (sym named ∙ made.none k e)
      by (Some new) e lt ne =
          made.other k lt named
          (made.gives k new e ∙ ap (λ o. held_or o (bytes k)) (sym e) ∙ one.others k lt ne)

  pub at_most_one : AllByRecursion (IsFitFor data_set size) items → is_ascending items ≡ true → length items ≤ 1
  at_most_one fit up = few data_set size one.ci items named_is fit up

-- ---- and no fewer

roots_same : (now roots : List Root) → RootsDiffer now roots → now ≡ roots → ⊥
roots_same now roots d e = roots_apart d.differ.x d.differ.y d.differ.differ (same_there d.differ.at e)

pub concerned_by : (place : Place) (c : AnchorChange) → is_concerned place (c ∷ []) [] ≡ true
    → has_anchor place c.dedb c.anchor ≡ true
concerned_by place c is = by (has_anchor place c.dedb c.anchor) is
  where
    by : (b : Bool) → ((b || false) || false) ≡ true → b ≡ true
    by true e = refl
    by false e = e

changed_roots : (place : Place) (state : AreaState) (c : AnchorChange) → has_anchor place c.dedb c.anchor ≡ true
    → (with_change place state c).roots (c.anchor - place.first_anchor) ≡ c.roots
changed_roots place state c is =
    let it = is_number (c.anchor - place.first_anchor) in
    rw is (rw it refl)

module _ (place : Place) (set : ℕ) (imaged : ℕ → Bool) (bytes : ℕ → List ℕ) (changes : List AnchorChange)
    (inserts : List SeqInsert) (state : AreaState) (has : HasState place (intervals_of place bytes) state)
    (one : ChangesOneSegment place state changes inserts)
    (concerned : is_concerned place changes inserts ≡ true) where
  some_item : MakesArea place set imaged bytes (committed place changes inserts state) [] → ⊥
  some_item makes =
      let c = one.change in
      let only : is_concerned place (c ∷ []) [] ≡ true =
      subst (λ is. is_concerned place (c ∷ []) is ≡ true) one.no_insert
      (subst (λ cs. is_concerned place cs inserts ≡ true) one.only concerned) in
      let here = concerned_by place c only in
      let behind : HasState place (intervals_of place bytes) (with_change place state c) =
      subst (λ is. HasState place (intervals_of place bytes) (committed place (c ∷ []) is state)) one.no_insert
      (subst (λ cs. HasState place (intervals_of place bytes) (committed place cs inserts state)) one.only makes.has) in
      let same = has_one_state place (intervals_of place bytes) state (with_change place state c) has behind in
      let below = (in_area place c.dedb c.anchor here).1 in
      roots_same (state.roots (c.anchor - place.first_anchor)) c.roots (one.differs here)
      (same.roots (c.anchor - place.first_anchor) below ∙ changed_roots place state c here)

  pub just_one : (items : List Item) → length items ≤ 1
      → MakesArea place set imaged bytes (committed place changes inserts state) items → length items ≡ 1
  just_one [] most makes = absurd (some_item makes)
  just_one (item ∷ items) most makes = omega (arith, most)

-- ---- the intervals of an area, as a call leaves them

pub one_changed : (count after size : ℕ) (bytes : ℕ → List ℕ) (changed : Changes) → Fit after size changed
    → OneChanges (listed count bytes) (listed after (λ ci. held_or (changed ci) (bytes ci)))
    → OneChanged count bytes changed
one_changed count after size bytes changed fit one =
    let counts : after ≡ count =
    sym (length_listed after (λ ci. held_or (changed ci) (bytes ci))) ∙ one.same_number ∙ length_listed count bytes in
    record {
      ci = one.ci;
      others = λ k lt ne.
          sym (listed_at after (λ ci. held_or (changed ci) (bytes ci)) k (omega (arith, lt, counts)))
          ∙ one.others k ne ∙ listed_at count bytes k lt;
      none_new = λ k from. by k (changed k) refl (omega (arith, from, counts));
    }
  where
    by : (k : ℕ) (o : Option (List ℕ)) → changed k ≡ o → after ≤ k → o ≡ None
    by k None e from = refl
    by k (Some b) e from = let lt = (fit k b e).0 in absurd (omega (arith, lt, from))

-- ---- areas one after another

length_more : (xs ys : List Item) → length (xs ++ ys) ≡ length xs + length ys
length_more [] ys = omega arith
length_more (x ∷ xs) ys = let l = length_more xs ys in omega (arith, l)

module _ (places : List Place) (changes : List AnchorChange) (inserts : List SeqInsert) (data_set later : ℕ)
    (step : later ≡ data_set + 1) (place : Place) (is : place_at places data_set ≡ Some place)
    (items more now : List Item) (added : now ≡ items ++ more) where
  -- this one isn't concerned
  pub one_passed : is_concerned place changes inserts ≡ false → more ≡ []
      → HasOneItem places changes inserts data_set items → HasOneItem places changes inserts later now
  one_passed other none (not_yet empty before) =
      not_yet (added ∙ ap (λ l. l ++ more) empty ∙ none) (λ s next at lt. elim (cases_eq s data_set) [
        | inl e ↦
            let both : Some next ≡ Some place = sym at ∙ ap (place_at places) e ∙ is in
            let same : next ≡ place = cc in
            ap (λ (p : Place). is_concerned p changes inserts) same ∙ other
        | inr ne ↦ before s next at (omega (arith, step, lt, ne))
      ])
  one_passed other none (there one s next at lt concerned) =
      let n : length now ≡ length items + length more = ap length added ∙ length_more items more in
      let m : length more ≡ 0 = ap length none in
      there (omega (arith, n, m, one)) s next at (omega (arith, step, lt)) concerned

  -- this one is
  pub one_added : (db_one : (s t : ℕ) (p q : Place) → place_at places s ≡ Some p → place_at places t ≡ Some q
      → is_concerned p changes inserts ≡ true → is_concerned q changes inserts ≡ true → s ≡ t)
      → is_concerned place changes inserts ≡ true → length more ≡ 1
      → HasOneItem places changes inserts data_set items → HasOneItem places changes inserts later now
  one_added alone concerned one (not_yet empty before) =
      let n : length now ≡ length items + length more = ap length added ∙ length_more items more in
      let m : length items ≡ 0 = ap length empty in
      there (omega (arith, n, m, one)) data_set place is (omega (arith, step)) concerned
  one_added alone concerned one (there first s next at lt that) =
      let same = alone s data_set next place at is that concerned in
      absurd (omega (arith, same, lt))

one_in_all : (places : List Place) (changes : List AnchorChange) (inserts : List SeqInsert) (data_set n : ℕ)
    (place : Place) (items : List Item) → place_at places data_set ≡ Some place
    → is_concerned place changes inserts ≡ true → data_set < n → HasOneItem places changes inserts n items
    → length items ≡ 1
one_in_all places changes inserts data_set n place items is concerned lt (not_yet empty before) =
    absurd (not_both (sym concerned ∙ before data_set place is lt))
one_in_all places changes inserts data_set n place items is concerned lt (there one s next at below that) = one

-- behind all areas there is the one
pub one_of_all : (places : List Place) (changes : List AnchorChange) (inserts : List SeqInsert) (db : Db)
    (items : List Item) → OneSegmentChanges places db changes inserts
    → HasOneItem places changes inserts (first_area_set + length places) items → length items ≡ 1
one_of_all places changes inserts db items whole has =
    let at = within_areas places whole.set whole.place whole.is_place in
    one_in_all places changes inserts whole.set (first_area_set + length places) whole.place items whole.is_place
    whole.concerned (let low = at.0 in let high = at.1 in omega (arith, low, high)) has

-- no two areas are concerned
pub two_concerned : (places : List Place) (changes : List AnchorChange) (inserts : List SeqInsert) (one : ℕ)
    → ((other : ℕ) (next : Place) → place_at places other ≡ Some next → is_concerned next changes inserts ≡ true
    → other ≡ one)
    → (s t : ℕ) (p q : Place) → place_at places s ≡ Some p → place_at places t ≡ Some q
    → is_concerned p changes inserts ≡ true → is_concerned q changes inserts ≡ true → s ≡ t
two_concerned places changes inserts one alone s t p q at to c d = alone s p at c ∙ sym (alone t q to d)

-- ---- as the calls answer

pub ok_three : {T F : Type 0} (r : Result T F) (P Q R S : T → Type 0) → IfOk r P → IfOk r Q → IfOk r R
    → ((x : T) → P x → Q x → R x → S x) → IfOk r S
ok_three (Ok x) P Q R S p q s f = f x p q s
ok_three (Err e) P Q R S p q s f = tt
