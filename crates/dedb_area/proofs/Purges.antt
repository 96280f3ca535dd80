-- Control of an area behind a Purge.
use Rattle.std.proofs.Common.{◌≡◌, ◌≢◌, ℕ, zero, suc, ◌+◌, ◌<◌, false, List, [], ◌∷◌, drop, get_or, refl, sym, ◌∙◌, ap, subst, arith}
use Rattle.std.proofs.lemmas.Bool.Decides.{nat_tests}
use Rattle.ci_space.specs.Head.{ends_of}
use Rattle.ci_overflow.specs.Places.{first_independent}
use Rattle.area_states.specs.Changes.{purged}
use Rattle.area_states.specs.States.{AreaState, HasState}
use Rattle.area_states.proofs.Purging.{purged_state}
use Rattle.std.specs.Prelude.{◌==◌, slice_index, min, Option, Some, Result, Ok, Err, IfOk, OnOk, IsOk}
use Rattle.ci_overflow.specs.Lists.{bytes_at}
use Rattle.ci_pool.specs.Held.{Held, newest_in}
use Rattle.ci_space.specs.Interval.{IsInterval}
use Rattle.held_intervals.specs.Holding.{Changes, held_or, listed}
use Rattle.seq_dependents.specs.Control.{ChangesEnds, PutsEnds, begin_in, begin_of, end_in, end_of}
use Rattle.area_states.specs.declared.place.Place.{Place}
use Rattle.area_states.specs.Places.{IsPlace, counted_by}
use Rattle.dedb_area.specs.Anchors.{intervals_of}
use Rattle.dedb_area.specs.inside.Anchors.{ShowsArea}
use Rattle.dedb_area.specs.Purging.{IsPurged, with_control}
use Rattle.area_staging.specs.Staging.{length_listed, staged_area, staged_or_newest}
use Rattle.dedb_area.proofs.AnchorLemmas.{first_bytes, some_counted}
use Rattle.area_staging.proofs.Staged.{newest_same}

-- the first interval of an area is control
pub control_before : (place : Place) (bytes : ℕ → List ℕ) (area : List (List ℕ)) → area ≡ intervals_of place bytes
    → bytes_at area 0 ≡ bytes 0
control_before place bytes area e =
    ap (λ a. bytes_at a 0) e
    ∙ first_bytes (counted_by (Some place) (bytes 0)) bytes (some_counted place (bytes 0))

-- and under staged changes it is what is staged of it, else what it was
pub control_after : (place : Place) (set set2 size2 count2 : ℕ) (contents contents2 : ℕ → List ℕ) (pool pool2 : Held)
    (staged : Changes) (bytes : ℕ → List ℕ) → set2 ≡ set → size2 ≡ place.shape.ci → 0 < count2
    → contents2 ≡ contents → pool2.cells ≡ pool.cells → ShowsArea place set contents pool bytes
    → bytes_at (staged_area count2 staged pool2 contents2 set2 size2) 0 ≡ held_or (staged 0) (bytes 0)
control_after place set set2 size2 count2 contents contents2 pool pool2 staged bytes e1 e2 some e4 e5 shown =
    first_bytes count2 (staged_or_newest staged pool2 contents2 set2 size2) some
    ∙ ap (held_or (staged 0)) (newest_same pool pool2 contents contents2 set2 0 size2 e5 e4
    ∙ ap (λ s. newest_in pool contents s 0 size2) e1 ∙ ap (λ z. newest_in pool contents set 0 z) e2
    ∙ shown.newest 0 (some_counted place (bytes 0)))

-- as the calls answer
pub purged_given : {E F : Type 0} (r : Result (Option (List ℕ)) F) (done : Result ℕ E) (staged : Option (List ℕ))
    (before after : List (List ℕ)) (control : List ℕ) (n : ℕ) → IfOk r (λ o. o ≡ staged) → OnOk r (IsOk done)
    → IfOk done (λ begin. PutsEnds before after begin (end_of before))
    → IfOk done (λ begin. begin ≡ min (end_of before) (begin_of before + n))
    → bytes_at before 0 ≡ control → bytes_at after 0 ≡ held_or staged control
    → IfOk r (λ o. IsPurged n control (held_or o control))
purged_given (Ok o) (Ok begin) staged before after control n same ok put moved first now =
    let last : bytes_at after 0 ≡ held_or o control = now ∙ ap (λ x. held_or x control) (sym same) in
    let P : List ℕ → List ℕ → Type 0 = λ x y. ChangesEnds x y (min (end_in x) (begin_in x + n)) (end_in x) in
    let here : P (bytes_at before 0) (bytes_at after 0) =
    subst (λ k. ChangesEnds (bytes_at before 0) (bytes_at after 0) k (end_of before)) moved put.control in
    record {
      ends = subst (λ x. P x (held_or o control)) first (subst (λ y. P (bytes_at before 0) y) last here);
      is_interval = subst IsInterval last put.is_interval;
    }
purged_given (Ok o) (Err e) staged before after control n same ok put moved first now = absurd cc
purged_given (Err e) done staged before after control n same ok put moved first now = tt

-- ---- the area with that control

pub third_stays : (xs : List ℕ) (begin end : ℕ) → slice_index (begin ∷ end ∷ drop 2 xs) 2 ≡ slice_index xs 2
third_stays [] begin end = refl
third_stays (x ∷ []) begin end = refl
third_stays (x ∷ y ∷ xs) begin end = refl

listed_here : (n : ℕ) (f g : ℕ → List ℕ) (i : ℕ) → f i ≡ g i → get_or (listed n f) i [] ≡ get_or (listed n g) i []
listed_here zero f g i e = refl
listed_here (suc n) f g zero e = e
listed_here (suc n) f g (suc i) e = listed_here n (λ k. f (suc k)) (λ k. g (suc k)) i e

module _ (place : Place) (bytes : ℕ → List ℕ) (control : List ℕ) (n : ℕ) (is : IsPurged n (bytes 0) control) where
  abbrev now : ℕ → List ℕ
  now = with_control control bytes

  same_count : counted_by (Some place) control ≡ counted_by (Some place) (bytes 0)
  same_count =
      ap (λ k. first_independent place.shape + k)
      (ap (λ l. slice_index l 2) is.ends.is_ends
      ∙ third_stays (ends_of (bytes 0)) (min (end_in (bytes 0)) (begin_in (bytes 0) + n)) (end_in (bytes 0)))

  before : bytes_at (intervals_of place bytes) 0 ≡ bytes 0
  before = first_bytes (counted_by (Some place) (bytes 0)) bytes (some_counted place (bytes 0))

  after : bytes_at (intervals_of place now) 0 ≡ control
  after = first_bytes (counted_by (Some place) control) now (some_counted place control)

  others_stay : (ci : ℕ) → ci ≢ 0
      → bytes_at (intervals_of place now) ci ≡ bytes_at (intervals_of place bytes) ci
  others_stay ci ne =
      let other : (ci == 0) ≡ false = grind (arith, nat_tests, ne) in
      let same : now ci ≡ bytes ci = rw other refl in
      ap (λ k. get_or (listed k now) ci []) same_count
      ∙ listed_here (counted_by (Some place) (bytes 0)) now bytes ci same

  puts : PutsEnds (intervals_of place bytes) (intervals_of place now)
      (min (end_of (intervals_of place bytes)) (begin_of (intervals_of place bytes) + n))
      (end_of (intervals_of place bytes))
  puts =
      let P : List ℕ → List ℕ → Type 0 = λ x y. ChangesEnds x y (min (end_in x) (begin_in x + n)) (end_in x) in
      record {
        control = subst (λ x. P x (bytes_at (intervals_of place now) 0)) (sym before)
            (subst (λ y. P (bytes 0) y) (sym after) is.ends);
        is_interval = subst IsInterval (sym after) is.is_interval;
        others = others_stay;
        same_number = length_listed (counted_by (Some place) control) now ∙ same_count
            ∙ sym (length_listed (counted_by (Some place) (bytes 0)) bytes);
      }

  -- has the state with that begin
  pub purged_here : (state : AreaState) → IsPlace place → HasState place (intervals_of place bytes) state
      → HasState place (intervals_of place now) (purged n state)
  purged_here state fine has =
      purged_state place (intervals_of place bytes) (intervals_of place now) n state fine has puts
