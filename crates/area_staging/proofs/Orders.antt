-- The order of items.
use Rattle.std.proofs.Common.{◌≡◌, ℕ, ◌<◌, ◌≤◌, Bool, true, false, List, [], ◌∷◌, ◌++◌, refl, ◌∙◌, ap, arith}
use Rattle.std.specs.Prelude.{◌&&◌}
use Rattle.std.specs.List.{AllByRecursion}
use Rattle.std.proofs.lemmas.Bool.Decides.{nat_tests}
use Rattle.fp_model.specs.ItemTargets.{ItemTarget, OfInterval, OfSegment, is_ascending, item_target, precedes, target_precedes}
use Rattle.fp_model.specs.declared.log.Item.{Item}
use Rattle.fp_model.specs.declared.log.Item.TheVariants.{Segment, Image, Range}
use Rattle.area_staging.specs.Changing.{IsFitFor}
use Rattle.area_staging.specs.inside.Changing.{AllBefore}
use Rattle.plain_laws.proofs.Alls.{all_append, all_weaker}

-- ---- one of a list

-- ---- intervals one after another

-- an interval stands before those of a greater number, and of later data sets
pub goes_before : (set ci set2 ci2 : ℕ) → target_precedes (OfInterval set ci) (OfInterval set2 ci2) ≡ true → (k : ℕ)
    → ci2 ≤ k → target_precedes (OfInterval set ci) (OfInterval set2 k) ≡ true
goes_before set ci set2 ci2 is k le = grind (arith, nat_tests)

pub next_number : (set ci k : ℕ) → ci < k → target_precedes (OfInterval set ci) (OfInterval set k) ≡ true
next_number set ci k lt = grind (arith, nat_tests)

pub next_set : (set ci s k : ℕ) → set < s → target_precedes (OfInterval set ci) (OfInterval s k) ≡ true
next_set set ci s k lt = grind (arith, nat_tests)

-- what stands before each interval of a data set stands before those of later ones
later_set : (t : ItemTarget) (set s k : ℕ) → target_precedes t (OfInterval set 0) ≡ true → set ≤ s
    → target_precedes t (OfInterval s k) ≡ true
later_set (OfSegment msdb key) set s k is le = refl
later_set (OfInterval set2 ci2) set s k is le = grind (arith, nat_tests)

pub all_later : (items : List Item) (set s k : ℕ) → AllBefore set 0 items → set ≤ s → AllBefore s k items
all_later [] set s k all le = tt
all_later (item ∷ items) set s k all le =
    (later_set (item_target item) set s k all.0 le, all_later items set s k all.1 le)

-- ---- a list that goes on

-- by one that all of it stands before
pub ascends_push : (items : List Item) (item : Item) → is_ascending items ≡ true
    → AllByRecursion (λ x. precedes x item ≡ true) items → is_ascending (items ++ item ∷ []) ≡ true
ascends_push [] item up before = refl
ascends_push (x ∷ []) item up before = let first = before.0 in rw first refl
ascends_push (x ∷ y ∷ items) item up before =
    let first : precedes x y ≡ true = both_first (precedes x y) (is_ascending (y ∷ items)) up in
    let rest : is_ascending (y ∷ items) ≡ true = both_second (precedes x y) (is_ascending (y ∷ items)) up in
    let more = ascends_push (y ∷ items) item rest before.1 in
    rw first more
  where
    both_first : (a b : Bool) → (a && b) ≡ true → a ≡ true
    both_first true b e = refl
    both_first false b e = e

    both_second : (a b : Bool) → (a && b) ≡ true → b ≡ true
    both_second true b e = e
    both_second false b e = absurd cc

-- the first of a list is one that all of another stands before, and so is each
pub ascends_join : (items more : List Item) → is_ascending items ≡ true → is_ascending more ≡ true
    → AllByRecursion (λ x. AllByRecursion (λ y. precedes x y ≡ true) more) items → is_ascending (items ++ more) ≡ true
ascends_join [] more up up2 before = up2
ascends_join (x ∷ []) [] up up2 before = refl
ascends_join (x ∷ []) (y ∷ more) up up2 before = let first = before.0.0 in rw first up2
ascends_join (x ∷ y ∷ items) more up up2 before =
    let first : precedes x y ≡ true = both_first (precedes x y) (is_ascending (y ∷ items)) up in
    let rest : is_ascending (y ∷ items) ≡ true = both_second (precedes x y) (is_ascending (y ∷ items)) up in
    let all = ascends_join (y ∷ items) more rest up2 before.1 in
    rw first all
  where
    both_first : (a b : Bool) → (a && b) ≡ true → a ≡ true
    both_first true b e = refl
    both_first false b e = e

    both_second : (a b : Bool) → (a && b) ≡ true → b ≡ true
    both_second true b e = e
    both_second false b e = absurd cc

-- ---- items of one data set

-- what stands before its intervals stands before its items
before_fit : (t : ItemTarget) (set size : ℕ) (item : Item) → target_precedes t (OfInterval set 0) ≡ true
    → IsFitFor set size item → target_precedes t (item_target item) ≡ true
before_fit t set size (Segment msdb key bytes) is fit = absurd fit
before_fit t set size (Image s ci bytes) is fit = later_set t set s ci is (let e = fit.0 in omega (arith, e))
before_fit t set size (Range s ci at bytes) is fit = later_set t set s ci is (let e = fit.0 in omega (arith, e))

pub before_all_fit : (items more : List Item) (set size : ℕ) → AllBefore set 0 items
    → AllByRecursion (IsFitFor set size) more
    → AllByRecursion (λ x. AllByRecursion (λ y. precedes x y ≡ true) more) items
before_all_fit [] more set size before fit = tt
before_all_fit (x ∷ items) more set size before fit = (
  all_weaker (IsFitFor set size) (λ y. precedes x y ≡ true) more
      (λ y f. before_fit (item_target x) set size y before.0 f) fit,
  before_all_fit items more set size before.1 fit,
)

-- they stand before later data sets
fit_before : (set size s k : ℕ) (item : Item) → set < s → IsFitFor set size item
    → target_precedes (item_target item) (OfInterval s k) ≡ true
fit_before set size s k (Segment msdb key bytes) lt fit = absurd fit
fit_before set size s k (Image t ci bytes) lt fit = next_set t ci s k (let e = fit.0 in omega (arith, e, lt))
fit_before set size s k (Range t ci at bytes) lt fit = next_set t ci s k (let e = fit.0 in omega (arith, e, lt))

pub all_fit_before : (set size s k : ℕ) (items : List Item) → set < s → AllByRecursion (IsFitFor set size) items
    → AllBefore s k items
all_fit_before set size s k items lt fit =
    all_weaker (IsFitFor set size) (λ item. target_precedes (item_target item) (OfInterval s k) ≡ true) items
    (λ item f. fit_before set size s k item lt f) fit

-- one interval's item more
pub before_push : (items : List Item) (item : Item) (set ci k : ℕ) → item_target item ≡ OfInterval set ci → ci < k
    → AllBefore set k items → AllBefore set k (items ++ item ∷ [])
before_push items item set ci k is lt all =
    all_append (λ x. target_precedes (item_target x) (OfInterval set k) ≡ true) items (item ∷ []) all
    (ap (λ t. target_precedes t (OfInterval set k)) is ∙ next_number set ci k lt, tt)

pub ascends_one : (items : List Item) (item : Item) (set ci : ℕ) → item_target item ≡ OfInterval set ci
    → AllBefore set ci items → is_ascending items ≡ true → is_ascending (items ++ item ∷ []) ≡ true
ascends_one items item set ci is before up =
    ascends_push items item up
    (all_weaker (λ x. target_precedes (item_target x) (OfInterval set ci) ≡ true) (λ x. precedes x item ≡ true) items
    (λ x h. ap (target_precedes (item_target x)) is ∙ h) before)
