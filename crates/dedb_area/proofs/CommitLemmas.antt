-- One area as a commit changes it: its items make it so.
use Rattle.std.proofs.Common.{◌≡◌, inl, inr, ℕ, ◌+◌, ◌<◌, ◌≤◌, Bool, true, false, List, [], ◌∷◌, length, drop, get_or, refl, sym, ◌∙◌, ap, subst, arith}
use Rattle.std.specs.Prelude.{◌||◌, Option, Some, None, Result, Ok, Err, OnOk, slice_index}
use Rattle.std.specs.List.{AllByRecursion, list_any}
use Rattle.std.proofs.lemmas.Bool.{cases_Bool, or_parts}
use Rattle.fp_model.specs.Commit.{is_too_full}
use Rattle.fp_model.specs.declared.database.AreaEnds.{AreaEnds}
use Rattle.fp_model.specs.declared.calls.AnchorChange.{AnchorChange}
use Rattle.fp_model.specs.declared.calls.SeqInsert.{SeqInsert}
use Rattle.fp_model.specs.declared.log.Item.{Item}
use Rattle.ci_space.specs.Head.{ends_of}
use Rattle.ci_overflow.specs.Lists.{bytes_at, counted}
use Rattle.ci_overflow.specs.Places.{first_independent}
use Rattle.held_intervals.specs.Holding.{held_or, listed, Changes}
use Rattle.held_intervals.proofs.Holds.{listed_same}
use Rattle.area_redo.specs.Redo.{redone_at}
use Rattle.area_redo.proofs.Items.{redone_none}
use Rattle.area_states.specs.declared.place.Place.{Place}
use Rattle.area_states.specs.Changes.{HasRoom, IsTooFull, count_of, with_changes}
use Rattle.area_states.specs.Places.{counted_by, has_anchor}
use Rattle.area_states.specs.States.{AreaState, HasState}
use Rattle.area_laws.proofs.FullLemmas.{changes_keep_ends}
use Rattle.area_laws.proofs.InsertLemmas.{all_pass}
use Rattle.area_staging.specs.Changing.{MakeChanges}
use Rattle.area_staging.specs.Staging.{length_listed}
use Rattle.dedb_area.specs.Anchors.{intervals_of}
use Rattle.dedb_area.specs.Committing.{committed, has_change, has_insert, is_concerned}
use Rattle.dedb_area.specs.inside.Committing.{HasRoomFor, IsChangedTo, MakesArea}
use Rattle.dedb_area.proofs.AnchorLemmas.{first_bytes}
use Rattle.plain_laws.proofs.Lists.{drop_whole}
use Rattle.plain_laws.proofs.Places.{rest_at}

module _ (place : Place) (set count : ℕ) (imaged : ℕ → Bool) (bytes : ℕ → List ℕ) (state : AreaState) (changed : Changes)
    (items : List Item) (counts : count ≡ counted_by (Some place) (bytes 0))
    (made : MakeChanges set count imaged bytes changed items)
    (to : IsChangedTo place count bytes state changed) where
  abbrev now : ℕ → List ℕ
  now ci = held_or (changed ci) (bytes ci)

  abbrev behind : ℕ → List ℕ
  behind ci = redone_at set ci items (bytes ci)

  is_now : (ci : ℕ) → redone_at set ci items (bytes ci) ≡ held_or (changed ci) (bytes ci)
  is_now ci = at (changed ci) refl
    where
      at : (o : Option (List ℕ)) → changed ci ≡ o → redone_at set ci items (bytes ci) ≡ held_or (changed ci) (bytes ci)
      at (Some new) is = made.gives ci new is ∙ sym (ap (λ o. held_or o (bytes ci)) is)
      at None is = redone_none set ci items (bytes ci) (made.none ci is) ∙ sym (ap (λ o. held_or o (bytes ci)) is)

  whole : to.after ≡ first_independent place.shape + slice_index (ends_of (bytes_at (listed to.after now) 0)) 2
  unfolding counted
  whole = sym (length_listed to.after now) ∙ to.has.formed.in_order.whole

  some : 0 < to.after
  some = let w = whole in omega arith

  same_count : counted_by (Some place) (behind 0) ≡ to.after
  same_count =
      ap (counted_by (Some place)) (is_now 0)
      ∙ ap (λ b. first_independent place.shape + slice_index (ends_of b) 2) (sym (first_bytes to.after now some))
      ∙ sym whole

  same_area : listed to.after now ≡ intervals_of place behind
  same_area =
      listed_same to.after now behind (λ ci below. sym (is_now ci))
      ∙ ap (λ n. listed n behind) (sym same_count)

  pub makes_area : MakesArea place set imaged bytes state items
  makes_area = record {
    images = made.images;
    fresh = λ ci from below.
        let low : count ≤ ci = omega (arith, counts, from) in
        made.fresh ci low (to.fresh ci low (let c = same_count in omega (arith, c, below)));
    other = λ ci below. made.other ci (omega (arith, counts, below));
    has = subst (λ area. HasState place area state) same_area to.has;
  }

-- an area that nothing is of stays
pub none_makes : (place : Place) (set : ℕ) (imaged : ℕ → Bool) (bytes : ℕ → List ℕ) (changes : List AnchorChange)
    (inserts : List SeqInsert) (state : AreaState)
    → AllByRecursion (λ c. has_anchor place c.dedb c.anchor ≡ false) changes
    → AllByRecursion (λ i. has_anchor place i.dedb i.anchor ≡ false) inserts
    → HasState place (intervals_of place bytes) state
    → MakesArea place set imaged bytes (committed place changes inserts state) []
none_makes place set imaged bytes changes inserts state none none2 has = record {
  images = λ ci is. refl;
  fresh = λ ci from below. absurd (omega (arith, from, below));
  other = λ ci below named. absurd cc;
  has = subst (HasState place (intervals_of place bytes)) (sym (all_pass place changes inserts state none none2)) has;
}

-- no insert is of it
count_none : (place : Place) (inserts : List SeqInsert)
    → AllByRecursion (λ i. has_anchor place i.dedb i.anchor ≡ false) inserts → count_of place inserts ≡ 0
count_none place [] none = refl
count_none place (i ∷ inserts) none = let first = none.0 in rw first (count_none place inserts none.1)

pub none_room : (place : Place) (state : AreaState) (inserts : List SeqInsert)
    → AllByRecursion (λ i. has_anchor place i.dedb i.anchor ≡ false) inserts → HasRoomFor place state inserts
none_room place state inserts none some = let n = count_none place inserts none in absurd (omega (arith, n, some))

any_none : {X : Type 0} (p : X → Bool) (xs : List X) → list_any p xs ≡ false → AllByRecursion (λ x. p x ≡ false) xs
any_none p [] none = tt
any_none p (x ∷ xs) none = let parts = or_parts (p x) (list_any p xs) none in (parts.0, any_none p xs parts.1)

-- an area that isn't concerned
module _ (place : Place) (changes : List AnchorChange) (inserts : List SeqInsert)
    (none : is_concerned place changes inserts ≡ false) where
  parts : (has_change place changes ≡ false) × (has_insert place inserts ≡ false)
  parts = or_parts (has_change place changes) (has_insert place inserts) none

  pub unconcerned_makes : (set : ℕ) (imaged : ℕ → Bool) (bytes : ℕ → List ℕ) (state : AreaState)
      → HasState place (intervals_of place bytes) state
      → MakesArea place set imaged bytes (committed place changes inserts state) []
  unconcerned_makes set imaged bytes state has =
      none_makes place set imaged bytes changes inserts state
      (any_none (λ c. has_anchor place c.dedb c.anchor) changes parts.0)
      (any_none (λ i. has_anchor place i.dedb i.anchor) inserts parts.1) has

  pub unconcerned_room : (state : AreaState) → HasRoomFor place state inserts
  unconcerned_room state =
      none_room place state inserts (any_none (λ i. has_anchor place i.dedb i.anchor) inserts parts.1)

-- ---- whether it is full, before the changed anchors

pub room_before : {T F : Type 0} (r : Result T F) (place : Place) (changes : List AnchorChange) (inserts : List SeqInsert)
    (state : AreaState)
    → (0 < count_of place inserts → OnOk r (HasRoom place (with_changes place changes state) (count_of place inserts)))
    → OnOk r (HasRoomFor place state inserts)
room_before (Ok x) place changes inserts state f = λ some.
    subst (λ e. is_too_full place.capacity e (count_of place inserts) ≡ false) (changes_keep_ends place changes state)
    (f some)
room_before (Err e) place changes inserts state f = tt

pub full_before : (place : Place) (changes : List AnchorChange) (inserts : List SeqInsert) (state : AreaState)
    (begin end n : ℕ) → IsTooFull place (with_changes place changes state) inserts begin end n
    → IsTooFull place state inserts begin end n
full_before place changes inserts state begin end n full =
    let keep = changes_keep_ends place changes state in
    record {
      is_begin = full.is_begin ∙ ap (λ (e : AreaEnds). e.begin) keep;
      is_end = full.is_end ∙ ap (λ (e : AreaEnds). e.end) keep;
      is_count = full.is_count;
      some = full.some;
      too_full = subst (λ e. is_too_full place.capacity e n ≡ true) keep full.too_full;
    }

-- ---- along a list

pub any_step : {X : Type 0} (p : X → Bool) (xs : List X) (k : ℕ) (x : X) → k < length xs → x ≡ get_or xs k x
    → list_any p (drop k xs) ≡ (p x || list_any p (drop (k + 1) xs))
any_step p xs k x lt is = ap (list_any p) (rest_at xs k x lt is) ∙ any_cons p x (drop (k + 1) xs)
  where
    any_cons : {X : Type 0} (p : X → Bool) (x : X) (xs : List X) → list_any p (x ∷ xs) ≡ (p x || list_any p xs)
    any_cons p x xs = elim (cases_Bool (p x)) [
      | inl e ↦ rw e refl
      | inr e ↦ rw e refl
    ]

pub any_end : {X : Type 0} (p : X → Bool) (xs : List X) (k : ℕ) → length xs ≤ k → list_any p (drop k xs) ≡ false
any_end p xs k le = ap (list_any p) (drop_whole xs k le)
