-- Areas staged one after another.
use Rattle.std.proofs.Common.{◌≡◌, ◌≢◌, inl, inr, ℕ, ◌+◌, ◌*◌, ◌^◌, ◌<◌, ◌≤◌, Bool, true, false, List, [], ◌∷◌, ◌++◌, refl, sym, ◌∙◌, ap, subst, arith}
use Rattle.std.specs.Prelude.{◌==◌, ◌&&◌, Some, None}
use Rattle.std.specs.List.{AllByRecursion}
use mathlib.Core.Path.{fun_ext}
use Rattle.std.proofs.lemmas.Bool.{cases_Bool, cases_eq}
use Rattle.std.proofs.lemmas.Bool.Decides.{nat_tests}
use Rattle.fp_model.specs.Items.{begins_with_image}
use Rattle.fp_model.specs.ItemTargets.{OfInterval, is_ascending, item_target, names_interval, target_precedes}
use Rattle.fp_model.specs.State.{first_area_set}
use Rattle.fp_model.specs.declared.calls.AnchorChange.{AnchorChange}
use Rattle.fp_model.specs.declared.calls.SeqInsert.{SeqInsert}
use Rattle.fp_model.specs.declared.database.Db.{Db}
use Rattle.fp_model.specs.declared.log.Item.{Item}
use Rattle.fp_model.specs.declared.log.Item.TheVariants.{Segment, Image, Range}
use Rattle.ci_pool.specs.Held.{Held, staged_at}
use Rattle.area_redo.specs.Redo.{AreaBytes, ComesWhole, count_in, names, redone, redone_at}
use Rattle.area_redo.proofs.Items.{begins_named, begins_none, names_more, redone_more, redone_none, begins_nothing}
use Rattle.area_states.specs.declared.place.Place.{Place}
use Rattle.area_states.specs.Databases.{state_of}
use Rattle.area_states.specs.Places.{counted_by, layout_of, place_at}
use Rattle.area_states.specs.States.{AreaState, HasState}
use Rattle.area_staging.specs.Changing.{IsFitFor, IsLeastOf, StagesItems}
use Rattle.area_staging.specs.inside.Changing.{AllBefore}
use Rattle.area_staging.specs.Flags.{AreFlagged, IsFlagged}
use Rattle.area_staging.specs.Items.{DiffersAtEnds, HasFlag}
use Rattle.area_staging.proofs.Flags.{all_flagged}
use Rattle.area_staging.proofs.Orders.{all_fit_before, all_later, ascends_join, before_all_fit}
use Rattle.dedb_area.specs.Anchors.{intervals_of}
use Rattle.dedb_area.specs.Committing.{IsFitItem, IsLeast, committed}
use Rattle.dedb_area.specs.inside.Committing.{AreStagedUpTo, HasRoomFor, MakesArea}
use Rattle.dedb_area.specs.Standing.{IsUnstaged}
use Rattle.dedb_area.proofs.AnchorLemmas.{within_areas}
use Rattle.plain_laws.proofs.Alls.{all_append, all_weaker}
use Rattle.plain_laws.proofs.Truths.{or_false}

-- ---- lists of items

-- items of one data set name no other
one_only : (set size s ci : ℕ) (item : Item) → s ≢ set → IsFitFor set size item → names_interval s ci item ≡ false
one_only set size s ci (Segment msdb key bytes) ne fit = absurd fit
one_only set size s ci (Image t k bytes) ne fit =
    let e = fit.0 in
    let test : (s == t) ≡ false = grind (arith, nat_tests, e, ne) in
    ap (λ b. b && ci == k) test
one_only set size s ci (Range t k at bytes) ne fit =
    let e = fit.0 in
    let test : (s == t) ≡ false = grind (arith, nat_tests, e, ne) in
    ap (λ b. b && ci == k) test

only : (set size s ci : ℕ) (items : List Item) → s ≢ set → AllByRecursion (IsFitFor set size) items
    → names s ci items ≡ false
only set size s ci [] ne fit = refl
only set size s ci (item ∷ items) ne fit =
    let first = one_only set size s ci item ne fit.0 in
    rw first (only set size s ci items ne fit.1)

-- ---- nothing is staged at first

pub none_yet : (places : List Place) (imaged : ℕ → ℕ → Bool) (newest : AreaBytes) (changes : List AnchorChange)
    (inserts : List SeqInsert) (db : Db) (pool : Held) → IsUnstaged pool
    → AreStagedUpTo places 0 imaged newest changes inserts db [] pool
none_yet places imaged newest changes inserts db pool none = record {
  staged = record { named = λ s ci is. absurd cc; others = λ s ci is. none s ci };
  later = λ s ci from. refl;
  images = λ s ci is. refl;
  grow = λ s ci from below. absurd (omega (arith, from, below));
  other = λ s ci p is below named. absurd cc;
  has = λ s p is below. let low = (within_areas places s p is).0 in absurd (omega (arith, low, below));
  room = λ s p is below. let low = (within_areas places s p is).0 in absurd (omega (arith, low, below));
}

-- ---- one area more

module _ (places : List Place) (n : ℕ) (imaged : ℕ → ℕ → Bool) (newest : AreaBytes) (changes : List AnchorChange)
    (inserts : List SeqInsert) (db : Db) (items more : List Item) (before after : Held) (place : Place) (size : ℕ)
    (is : place_at places (first_area_set + n) ≡ Some place)
    (done : AreStagedUpTo places n imaged newest changes inserts db items before)
    (makes : MakesArea place (first_area_set + n) (imaged (first_area_set + n)) (newest (first_area_set + n))
    (committed place changes inserts (state_of place db)) more)
    (stages : StagesItems (first_area_set + n) more (newest (first_area_set + n)) before after)
    (others : (s k : ℕ) → s ≢ first_area_set + n → staged_at after s k ≡ staged_at before s k)
    (fit : AllByRecursion (IsFitFor (first_area_set + n) size) more)
    (room : HasRoomFor place (state_of place db) inserts) where
  abbrev set : ℕ
  set = first_area_set + n

  abbrev all : List Item
  all = items ++ more

  -- of this area the new items alone, of the others those before
  before_none : (ci : ℕ) → names set ci items ≡ false
  before_none ci = done.later set ci (omega arith)

  more_none : (s ci : ℕ) → s ≢ set → names s ci more ≡ false
  more_none s ci ne = only set size s ci more ne fit

  redone_here : (ci : ℕ) (old : List ℕ) → redone_at set ci all old ≡ redone_at set ci more old
  redone_here ci old =
      redone_more set ci items more old
      ∙ ap (redone_at set ci more) (redone_none set ci items old (before_none ci))

  redone_there : (s ci : ℕ) (old : List ℕ) → s ≢ set → redone_at s ci all old ≡ redone_at s ci items old
  redone_there s ci old ne =
      redone_more s ci items more old ∙ redone_none s ci more (redone_at s ci items old) (more_none s ci ne)

  names_here : (ci : ℕ) → names set ci all ≡ names set ci more
  names_here ci = names_more set ci items more ∙ (let none = before_none ci in rw none refl)

  names_there : (s ci : ℕ) → s ≢ set → names s ci all ≡ names s ci items
  names_there s ci ne =
      names_more s ci items more
      ∙ (let none = more_none s ci ne in rw none (or_false (names s ci items)))

  begins_here : (ci : ℕ) → begins_with_image set ci all ≡ begins_with_image set ci more
  begins_here ci = begins_none set ci items more (before_none ci)

  begins_there : (s ci : ℕ) → s ≢ set → begins_with_image s ci items ≡ true → begins_with_image s ci all ≡ true
  begins_there s ci ne was = elim (cases_Bool (names s ci items)) [
    | inl named ↦ begins_named s ci items more named ∙ was
    | inr none ↦ begins_none s ci items more none ∙ begins_nothing s ci more (more_none s ci ne)
  ]

  bytes_here : redone all newest set ≡ (λ ci. redone_at set ci more (newest set ci))
  bytes_here = fun_ext (λ ci. redone_here ci (newest set ci))

  bytes_there : (s : ℕ) → s ≢ set → redone all newest s ≡ redone items newest s
  bytes_there s ne = fun_ext (λ ci. redone_there s ci (newest s ci) ne)

  one_place : (s : ℕ) (p : Place) → s ≡ set → place_at places s ≡ Some p → p ≡ place
  one_place s p e there =
      let both : Some p ≡ Some place = sym there ∙ ap (place_at places) e ∙ is in
      cc

  staged_named : (s ci : ℕ) → names s ci all ≡ true → staged_at after s ci ≡ Some (redone_at s ci all (newest s ci))
  staged_named s ci named = elim (cases_eq s set) [
    | inl e ↦
        subst (λ x. staged_at after x ci ≡ Some (redone_at x ci all (newest x ci))) (sym e)
        (stages.named ci (sym (names_here ci) ∙ ap (λ x. names x ci all) (sym e) ∙ named)
        ∙ ap Some (sym (redone_here ci (newest set ci))))
    | inr ne ↦
        others s ci ne ∙ done.staged.named s ci (sym (names_there s ci ne) ∙ named)
        ∙ ap Some (sym (redone_there s ci (newest s ci) ne))
  ]

  staged_others : (s ci : ℕ) → names s ci all ≡ false → staged_at after s ci ≡ None
  staged_others s ci none = elim (cases_eq s set) [
    | inl e ↦
        subst (λ x. staged_at after x ci ≡ None) (sym e)
        (stages.others ci (sym (names_here ci) ∙ ap (λ x. names x ci all) (sym e) ∙ none)
        ∙ done.staged.others set ci (before_none ci))
    | inr ne ↦ others s ci ne ∙ done.staged.others s ci (sym (names_there s ci ne) ∙ none)
  ]

  counts_here : (control : List ℕ) → counted_by (place_at places set) control ≡ counted_by (Some place) control
  counts_here control = ap (λ o. counted_by o control) is

  fresh_here : (ci : ℕ) → count_in (layout_of places) newest set ≤ ci
      → ci < count_in (layout_of places) (redone all newest) set → ComesWhole set ci all
  fresh_here ci from below =
      let now : counted_by (place_at places set) (redone_at set 0 all (newest set 0))
      ≡ counted_by (Some place) (redone_at set 0 more (newest set 0)) =
      ap (counted_by (place_at places set)) (redone_here 0 (newest set 0))
      ∙ counts_here (redone_at set 0 more (newest set 0)) in
      let was = counts_here (newest set 0) in
      let whole = makes.fresh ci (omega (arith, was, from)) (omega (arith, now, below)) in
      record { named = names_here ci ∙ whole.named; image = begins_here ci ∙ whole.image }

  fresh_there : (s ci : ℕ) → s ≢ set → count_in (layout_of places) newest s ≤ ci
      → ci < count_in (layout_of places) (redone all newest) s → ComesWhole s ci all
  fresh_there s ci ne from below =
      let same : counted_by (place_at places s) (redone_at s 0 all (newest s 0))
      ≡ counted_by (place_at places s) (redone_at s 0 items (newest s 0)) =
      ap (counted_by (place_at places s)) (redone_there s 0 (newest s 0) ne) in
      let whole = done.grow s ci from (omega (arith, same, below)) in
      record { named = names_there s ci ne ∙ whole.named; image = begins_there s ci ne whole.image }

  has_here : HasState place (intervals_of place (redone all newest set)) (committed place changes inserts (state_of place db))
  has_here =
      subst (λ (f : ℕ → List ℕ). HasState place (intervals_of place f) (committed place changes inserts (state_of place db)))
      (sym bytes_here) makes.has

  pub one_area : AreStagedUpTo places (n + 1) imaged newest changes inserts db (items ++ more) after
  one_area = record {
    staged = record { named = staged_named; others = staged_others };
    later = λ s ci from.
        let ne : s ≢ set = λ e. omega (arith, e, from) in
        names_there s ci ne ∙ done.later s ci (omega (arith, from));
    images = λ s ci none. elim (cases_eq s set) [
      | inl e ↦
          subst (λ x. begins_with_image x ci all ≡ true) (sym e)
          (begins_here ci ∙ makes.images ci (ap (λ x. imaged x ci) (sym e) ∙ none))
      | inr ne ↦ begins_there s ci ne (done.images s ci none)
    ];
    grow = λ s ci from below. elim (cases_eq s set) [
      | inl e ↦
          subst (λ x. ComesWhole x ci all) (sym e)
          (fresh_here ci (subst (λ x. count_in (layout_of places) newest x ≤ ci) e from)
          (subst (λ x. ci < count_in (layout_of places) (redone all newest) x) e below))
      | inr ne ↦ fresh_there s ci ne from below
    ];
    other = λ s ci p there below named same. elim (cases_eq s set) [
      | inl e ↦
          let one : p ≡ place = one_place s p e there in
          let below2 : ci < counted_by (Some place) (newest set 0) =
          subst (λ x. ci < counted_by (Some place) (newest x 0)) e
          (subst (λ (q : Place). ci < counted_by (Some q) (newest s 0)) one below) in
          let named2 : names set ci more ≡ true = sym (names_here ci) ∙ ap (λ x. names x ci all) (sym e) ∙ named in
          let same2 : redone_at set ci more (newest set ci) ≡ newest set ci =
          sym (redone_here ci (newest set ci))
          ∙ subst (λ x. redone_at x ci all (newest x ci) ≡ newest x ci) e same in
          makes.other ci below2 named2 same2
      | inr ne ↦
          done.other s ci p there below (sym (names_there s ci ne) ∙ named)
          (sym (redone_there s ci (newest s ci) ne) ∙ same)
    ];
    has = λ s p there below. elim (cases_eq s set) [
      | inl e ↦
          subst (λ (q : Place). HasState q (intervals_of q (redone all newest s))
          (committed q changes inserts (state_of q db))) (sym (one_place s p e there))
          (subst (λ x. HasState place (intervals_of place (redone all newest x))
          (committed place changes inserts (state_of place db))) (sym e) has_here)
      | inr ne ↦
          subst (λ (f : ℕ → List ℕ). HasState p (intervals_of p f) (committed p changes inserts (state_of p db)))
          (sym (bytes_there s ne)) (done.has s p there (omega (arith, below, ne)))
    ];
    room = λ s p there below. elim (cases_eq s set) [
      | inl e ↦
          subst (λ (q : Place). HasRoomFor q (state_of q db) inserts) (sym (one_place s p e there)) room
      | inr ne ↦ done.room s p there (omega (arith, below, ne))
    ];
  }

-- ---- the items, without the site

fit_item : (places : List Place) (data_set : ℕ) (place : Place) (item : Item) → place_at places data_set ≡ Some place
    → IsFitFor data_set place.shape.ci item → IsFitItem places item
fit_item places data_set place (Segment msdb key bytes) is fit = absurd fit
fit_item places data_set place (Image s ci bytes) is fit = record {
  place = place;
  is_place = ap (place_at places) fit.0 ∙ is;
  is_size = fit.1;
  ends = subst (λ n. (ci + 1) * n ≤ 2 ^ 62) (sym fit.1) fit.2;
}
fit_item places data_set place (Range s ci at bytes) is fit = (
  place.shape.ci,
  record { place = place; is_place = ap (place_at places) fit.0 ∙ is; is_size = refl; ends = fit.2 },
  fit.1,
)

pub fit_more_items : (places : List Place) (set : ℕ) (place : Place) (items more : List Item)
    → place_at places set ≡ Some place → AllByRecursion (IsFitItem places) items
    → AllByRecursion (IsFitFor set place.shape.ci) more → AllByRecursion (IsFitItem places) (items ++ more)
fit_more_items places set place items more is all fit =
    all_append (IsFitItem places) items more all
    (all_weaker (IsFitFor set place.shape.ci) (IsFitItem places) more (λ item f. fit_item places set place item is f) fit)

-- each is the least
least_item : (places : List Place) (data_set : ℕ) (place : Place) (a b : ℕ → ℕ → Bool) (newest : AreaBytes) (item : Item)
    → place_at places data_set ≡ Some place → ((s k : ℕ) → a s k ≡ b s k) → IsFitFor data_set place.shape.ci item
    → IsLeastOf (counted_by (Some place) (newest data_set 0)) (a data_set) (newest data_set) item → IsLeast places b newest item
least_item places data_set place a b newest (Segment msdb key new) is same fit least = tt
least_item places data_set place a b newest (Image s ci new) is same fit least = λ lt.
    let here : ci < counted_by (place_at places data_set) (newest data_set 0) =
    subst (λ x. ci < counted_by (place_at places x) (newest x 0)) fit.0 lt in
    sym (same s ci) ∙ ap (λ x. a x ci) fit.0
    ∙ least (subst (λ o. ci < counted_by o (newest data_set 0)) is here)
least_item places data_set place a b newest (Range s ci at new) is same fit least =
    subst (λ x. DiffersAtEnds (newest x ci) at new) (sym fit.0) least

least_items : (places : List Place) (data_set : ℕ) (place : Place) (a b : ℕ → ℕ → Bool) (newest : AreaBytes)
    (items : List Item) → place_at places data_set ≡ Some place → ((s k : ℕ) → a s k ≡ b s k)
    → AllByRecursion (IsFitFor data_set place.shape.ci) items
    → AllByRecursion (IsLeastOf (counted_by (Some place) (newest data_set 0)) (a data_set) (newest data_set)) items
    → AllByRecursion (IsLeast places b newest) items
least_items places data_set place a b newest [] is same fit least = tt
least_items places data_set place a b newest (item ∷ items) is same fit least = (
  least_item places data_set place a b newest item is same fit.0 least.0,
  least_items places data_set place a b newest items is same fit.1 least.1,
)

pub least_more_items : (places : List Place) (data_set : ℕ) (place : Place) (a b : ℕ → ℕ → Bool) (newest : AreaBytes)
    (items more : List Item) → place_at places data_set ≡ Some place → ((s k : ℕ) → a s k ≡ b s k)
    → AllByRecursion (IsLeast places b newest) items
    → AllByRecursion (IsLeastOf (counted_by (Some place) (newest data_set 0)) (a data_set) (newest data_set)) more
    → AllByRecursion (IsFitFor data_set place.shape.ci) more → AllByRecursion (IsLeast places b newest) (items ++ more)
least_more_items places data_set place a b newest items more is same all least fit =
    all_append (IsLeast places b newest) items more all
    (least_items places data_set place a b newest more is same fit least)

pub order_more_items : (set size : ℕ) (items more : List Item) → AllBefore set 0 items → is_ascending items ≡ true
    → is_ascending more ≡ true → AllByRecursion (IsFitFor set size) more → is_ascending (items ++ more) ≡ true
order_more_items set size items more before up up2 fit =
    ascends_join items more up up2 (before_all_fit items more set size before fit)

pub before_next_area : (set next size : ℕ) (items more : List Item) → set < next → AllBefore set 0 items
    → AllByRecursion (IsFitFor set size) more → AllBefore next 0 (items ++ more)
before_next_area set next size items more lt before fit =
    all_append (λ item. target_precedes (item_target item) (OfInterval next 0) ≡ true) items more
    (all_later items set next 0 before (omega (arith, lt))) (all_fit_before set size next 0 more lt fit)

pub flag_more_items : (imaged after : List (List Bool)) (items more : List Item)
    → ((s k : ℕ) → HasFlag imaged s k → HasFlag after s k) → AreFlagged imaged items → AreFlagged after more
    → AreFlagged after (items ++ more)
flag_more_items imaged after items more kept all flagged =
    all_append (IsFlagged after) items more (all_flagged imaged after kept items all) flagged

-- with the same flags
pub makes_as : (place : Place) (data_set : ℕ) (a b : ℕ → Bool) (bytes : ℕ → List ℕ) (state : AreaState) (items : List Item)
    → ((ci : ℕ) → a ci ≡ b ci) → MakesArea place data_set a bytes state items → MakesArea place data_set b bytes state items
makes_as place data_set a b bytes state items same makes = record {
  images = λ ci none. makes.images ci (same ci ∙ none);
  fresh = makes.fresh;
  other = makes.other;
  has = makes.has;
}

-- ---- as a loop along the areas takes them

pub area_more : (places : List Place) (n data_set : ℕ) (imaged : ℕ → ℕ → Bool) (newest : AreaBytes) (changes : List AnchorChange)
    (inserts : List SeqInsert) (db : Db) (items more now : List Item) (before after : Held) (place : Place)
    → data_set ≡ first_area_set + n → now ≡ items ++ more → place_at places data_set ≡ Some place
    → AreStagedUpTo places n imaged newest changes inserts db items before
    → MakesArea place data_set (imaged data_set) (newest data_set) (committed place changes inserts (state_of place db)) more
    → StagesItems data_set more (newest data_set) before after
    → ((s k : ℕ) → s ≢ data_set → staged_at after s k ≡ staged_at before s k)
    → AllByRecursion (IsFitFor data_set place.shape.ci) more → HasRoomFor place (state_of place db) inserts
    → AreStagedUpTo places (n + 1) imaged newest changes inserts db now after
area_more places n data_set imaged newest changes inserts db items more now before after place e l is done makes stages others
    fit room =
    subst (λ all. AreStagedUpTo places (n + 1) imaged newest changes inserts db all after) (sym l)
    (one_area places n imaged newest changes inserts db items more before after place place.shape.ci
    (subst (λ x. place_at places x ≡ Some place) e is) done
    (subst (λ x. MakesArea place x (imaged x) (newest x) (committed place changes inserts (state_of place db)) more) e
    makes)
    (subst (λ x. StagesItems x more (newest x) before after) e stages)
    (subst (λ x. (s k : ℕ) → s ≢ x → staged_at after s k ≡ staged_at before s k) e others)
    (subst (λ x. AllByRecursion (IsFitFor x place.shape.ci) more) e fit) room)
