-- One area staged: what it shows, and what its calls answer.
use Rattle.std.proofs.Common.{◌≡◌, ℕ, List, sym, ◌∙◌, ap, subst, arith}
use Rattle.std.specs.Prelude.{Some, Result, Ok, Err, IfOk}
use Rattle.fp_model.specs.declared.log.Item.{Item}
use Rattle.ci_pool.specs.Held.{Held, SameAtHand, held_at, staged_at}
use Rattle.held_intervals.specs.Holding.{listed}
use Rattle.area_states.specs.declared.place.Place.{Place}
use Rattle.area_states.specs.Places.{counted_by}
use Rattle.area_states.specs.States.{AreaState, HasState}
use Rattle.area_staging.specs.Changing.{Shows, StagesItems}
use Rattle.area_staging.specs.Staging.{AllAtHand}
use Rattle.area_staging.proofs.AtHand.{still_at_hand}
use Rattle.plain_laws.proofs.Options.{some_value}
use Rattle.dedb_area.specs.Anchors.{intervals_of}
use Rattle.dedb_area.specs.inside.Anchors.{ShowsArea}
use Rattle.dedb_area.proofs.AnchorLemmas.{some_counted}

-- what an area shows, by how many intervals it has
pub shows_extent : (place : Place) (set count : ℕ) (contents : ℕ → List ℕ) (pool : Held) (bytes : ℕ → List ℕ)
    → count ≡ counted_by (Some place) (bytes 0) → ShowsArea place set contents pool bytes
    → Shows (record { set = set; size = place.shape.ci; count = count }) contents pool bytes
shows_extent place set count contents pool bytes e shown = record {
  told = shown.told;
  newest = λ ci below. shown.newest ci (omega (arith, below, e));
}

pub has_extent : (place : Place) (count : ℕ) (bytes : ℕ → List ℕ) (state : AreaState)
    → count ≡ counted_by (Some place) (bytes 0) → HasState place (intervals_of place bytes) state
    → HasState place (listed count bytes) state
has_extent place count bytes state e has = subst (λ n. HasState place (listed n bytes) state) (sym e) has

-- Where each interval that control counts is at hand, control was, and so the call that counted them left the site.
pub counted_at_hand : {S : Type 0} (old new : S) (set count : ℕ) (before after : Held) (place : Place)
    (control : List ℕ)
    → count ≡ counted_by (Some place) control
    → ((bytes : List ℕ) → held_at before set 0 ≡ Some bytes → new ≡ old)
    → ((bytes : List ℕ) → held_at before set 0 ≡ Some bytes → SameAtHand before after)
    → AllAtHand before set (counted_by (Some place) control)
    → (new ≡ old) × SameAtHand before after × AllAtHand after set count
counted_at_hand old new set count before after place control is unread hand all =
    let first = some_value (held_at before set 0) (all 0 (some_counted place control)) in
    let same = hand first.0 first.1 in (
      unread first.0 first.1,
      same,
      still_at_hand set count before after (subst (AllAtHand before set) (sym is) all) same,
    )

-- a look before leaves what was staged
pub stages_behind : (set : ℕ) (items : List Item) (bytes : ℕ → List ℕ) (before mid after : Held)
    → ((k : ℕ) → staged_at mid set k ≡ staged_at before set k) → StagesItems set items bytes mid after
    → StagesItems set items bytes before after
stages_behind set items bytes before mid after same staged = record {
  named = staged.named;
  others = λ ci none. staged.others ci none ∙ same ci;
}

pub ok_both : {T : Type 0} {F : Type 0} (r : Result T F) (P Q R : T → Type 0) → IfOk r P → IfOk r Q
    → ((x : T) → P x → Q x → R x) → IfOk r R
ok_both (Ok x) P Q R p q f = f x p q
ok_both (Err e) P Q R p q f = tt

-- the fault that a `?` hands on
pub handed_on : {T E : Type 0} (r : Result T E) (x z : E) → r ≡ Err z → z ≡ x → r ≡ Err x
handed_on r x z is same = cc

-- nothing is said of a value
pub none_given : {T E : Type 0} (r : Result T E) (z : E) (P : T → Type 0) → r ≡ Err z → IfOk r P
none_given r z P is = subst (λ (x : Result _ _). IfOk x P) (sym is) tt

-- an error that is handed on is that error
pub same_err : {T U F : Type 0} (a b : F) → ◌≡◌ {A = Result T F} (Err a) (Err b) → ◌≡◌ {A = Result U F} (Err a) (Err b)
same_err a b e = let same : a ≡ b = cc in ap Err same

pub same_fault_of : {T F : Type 0} (a b : F) → ◌≡◌ {A = Result T F} (Err a) (Err b) → a ≡ b
same_fault_of a b e = cc
