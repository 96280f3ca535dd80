-- One changed interval more.
use Rattle.std.proofs.Common.{◌≡◌, ◌≢◌, inl, inr, ℕ, ◌+◌, ◌<◌, ◌≤◌, ◌*◌, ◌^◌, Bool, true, false, List, [], ◌∷◌, ◌++◌, ◌-◌, length, take, drop, refl, sym, ◌∙◌, ap, subst, arith}
use Rattle.std.specs.Prelude.{◌==◌, ◌&&◌, if◌then◌else◌, nat_lt, Option, Some, None, IsSome, IfSome}
use Rattle.std.specs.List.{AllByRecursion}
use mathlib.Core.Path.{fun_ext}
use Rattle.std.proofs.lemmas.Bool.{cases_Bool, cases_eq, cases_lt}
use Rattle.std.proofs.lemmas.Bool.Decides.{nat_tests}
use Rattle.std.proofs.lemmas.List.{append-nil, length-drop, length-take-le}
use Rattle.fp_model.specs.Items.{begins_with_image, is_image}
use Rattle.fp_model.specs.ItemTargets.{is_ascending, names_interval}
use Rattle.fp_model.specs.State.{first_area_set}
use Rattle.fp_model.specs.declared.log.Item.{Item}
use Rattle.fp_model.specs.declared.log.Item.TheVariants.{Segment, Image, Range}
use Rattle.held_intervals.specs.Holding.{Changes}
use Rattle.ci_pool.specs.Held.{Held, staged_at}
use Rattle.area_redo.specs.Redo.{names, put, redone_at}
use Rattle.area_redo.proofs.Changes.{no_change, one_change}
use Rattle.area_redo.proofs.Items.{begins_named, begins_none, names_more, redone_none}
use Rattle.area_staging.specs.declared.extent.Extent.{Extent}
use Rattle.area_staging.specs.Changing.{IsFitFor, MakeChanges, StagesItems}
use Rattle.area_staging.specs.inside.Changing.{AllBefore, IsFitItem, IsItemFor, IsOneStaged}
use Rattle.area_staging.specs.Flags.{AreFlagged, IsFlagged}
use Rattle.area_staging.specs.Items.{HasFlag, IsChange, IsItemOf, items_in}
use Rattle.area_staging.proofs.Flags.{all_flagged}
use Rattle.area_staging.proofs.ItemLemmas.{names_item, put_item}
use Rattle.area_staging.proofs.Orders.{ascends_one, before_push}
use Rattle.plain_laws.proofs.Alls.{all_append}
use Rattle.plain_laws.proofs.Truths.{and_false, and_true, or_false}
use Rattle.plain_laws.proofs.Numbers.{lt_false, lt_true}

-- ---- the item of an interval

-- of one that stood, as it is changed
pub changed_item : (imaged : Bool) (area : Extent) (ci : ℕ) (old new : List ℕ) (o : Option Item) → ci < area.count
    → IsChange imaged area.set ci old new o → IsItemFor imaged area ci old new o
changed_item imaged area ci old new None below change = (below, change)
changed_item imaged area ci old new (Some item) below change =
    let flag : (imaged && nat_lt ci area.count) ≡ imaged =
    ap (λ b. imaged && b) (lt_true ci area.count below) ∙ and_true imaged in
    (subst (λ b. IsItemOf b area.set ci old new item) (sym flag) change.1, λ lt. change.0)

-- of one that is new
pub new_item : (imaged : Bool) (area : Extent) (ci : ℕ) (old new : List ℕ) (item : Item) → area.count ≤ ci
    → item ≡ Image area.set ci new → IsItemFor imaged area ci old new (Some item)
new_item imaged area ci old new item from is =
    let flag : (imaged && nat_lt ci area.count) ≡ false =
    ap (λ b. imaged && b) (lt_false ci area.count from) ∙ and_false imaged in
    (subst (λ b. IsItemOf b area.set ci old new item) (sym flag) is, λ lt. absurd (omega (arith, lt, from)))

-- with the same flag
pub item_as : (area : Extent) (ci : ℕ) (old new : List ℕ) (o : Option Item) (a b : Bool) → a ≡ b
    → IsItemFor a area ci old new o → IsItemFor b area ci old new o
item_as area ci old new o a b e is = subst (λ f. IsItemFor f area ci old new o) e is

-- it fits
pub fit_image : (area : Extent) (ci : ℕ) (new : List ℕ) (item : Item) → item ≡ Image area.set ci new
    → length new ≡ area.size → (ci + 1) * area.size ≤ 2 ^ 62 → IsFitItem area ci (Some item)
fit_image area ci new item is long end =
    subst (λ i. IsFitItem area ci (Some i)) (sym is) ((refl, long, end), refl)

fit_one : (flag : Bool) (area : Extent) (ci : ℕ) (old new : List ℕ) (item : Item) → length new ≡ area.size
    → (ci + 1) * area.size ≤ 2 ^ 62 → IsItemOf flag area.set ci old new item → IsFitItem area ci (Some item)
fit_one false area ci old new item long end is = fit_image area ci new item is long end
fit_one true area ci old new item long end is =
    let some = is.differs.some in
    let within = is.differs.within in
    let rest = length-drop is.first new in
    let part : length (take (is.last - is.first) (drop is.first new)) ≡ is.last - is.first =
    length-take-le (is.last - is.first) (drop is.first new) (omega (arith, rest, within, some)) in
    subst (λ i. IsFitItem area ci (Some i)) (sym is.is)
    ((refl, omega (arith, part, some, within, long), end), refl)

pub fit_change : (imaged : Bool) (area : Extent) (ci : ℕ) (old new : List ℕ) (o : Option Item)
    → length new ≡ area.size → (ci + 1) * area.size ≤ 2 ^ 62 → IsChange imaged area.set ci old new o
    → IsFitItem area ci o
fit_change imaged area ci old new None long end change = tt
fit_change imaged area ci old new (Some item) long end change = fit_one imaged area ci old new item long end change.1

-- what it makes of the interval
put_for : (imaged : Bool) (area : Extent) (ci : ℕ) (old new : List ℕ) (item : Item)
    → IsItemFor imaged area ci old new (Some item) → (ci < area.count → length old ≡ length new) → put item old ≡ new
put_for imaged area ci old new item is long = elim (cases_lt ci area.count) [
  | inl lt ↦ put_item (imaged && nat_lt ci area.count) area.set ci old new item (long lt) is.0
  | inr from ↦
      let flag : (imaged && nat_lt ci area.count) ≡ false =
      ap (λ b. imaged && b) (lt_false ci area.count from) ∙ and_false imaged in
      let image : item ≡ Image area.set ci new = subst (λ b. IsItemOf b area.set ci old new item) flag is.0 in
      ap (λ i. put i old) image
]

pub image_then : (flag : Bool) (set ci : ℕ) (old new : List ℕ) (item : Item) → flag ≡ false
    → IsItemOf flag set ci old new item → is_image item ≡ true
image_then false set ci old new item e is = ap is_image is
image_then true set ci old new item e is = absurd cc

-- ---- lists of items

here_or : (s k set ci : ℕ) → (s ≡ set) → (k ≡ ci) → (s == set && k == ci) ≡ true
here_or s k set ci e f = grind (arith, nat_tests, e, f)

other_set : (s k set ci : ℕ) → s ≢ set → (s == set && k == ci) ≡ false
other_set s k set ci ne = grind (arith, nat_tests, ne)

other_number : (s k set ci : ℕ) → k ≢ ci → (s == set && k == ci) ≡ false
other_number s k set ci ne = elim (cases_Bool (s == set)) [
  | inl e ↦ let n : (k == ci) ≡ false = grind (arith, nat_tests, ne) in rw (e, n) refl
  | inr e ↦ rw e refl
]

-- what other data sets have staged stays
pub other_staged : (set ci s k : ℕ) (bytes : List ℕ) (mid after : Held) → s ≢ set
    → staged_at after s k ≡ (if s == set && k == ci then Some bytes else staged_at mid s k)
    → staged_at after s k ≡ staged_at mid s k
other_staged set ci s k bytes mid after ne is =
    is ∙ ap (λ t. if t then Some bytes else staged_at mid s k) (other_set s k set ci ne)

-- nothing is made at first
pub none_made : (set count : ℕ) (imaged : ℕ → Bool) (bytes : ℕ → List ℕ) (changed : Changes)
    → ((ci : ℕ) → changed ci ≡ None) → MakeChanges set count imaged bytes changed []
none_made set count imaged bytes changed none = record {
  none = λ ci is. refl;
  gives = λ ci new is. let both : Some new ≡ None = sym is ∙ none ci in absurd cc;
  images = λ ci is. refl;
  fresh = λ ci from some. absurd (none_there (changed ci) (none ci) some);
  other = λ ci below named. absurd cc;
}
  where
    none_there : (o : Option (List ℕ)) → o ≡ None → IsSome o → ⊥
    none_there None e is = cc
    none_there (Some x) e is = cc

pub none_staged : (set : ℕ) (bytes : ℕ → List ℕ) (pool : Held) → StagesItems set [] bytes pool pool
none_staged set bytes pool = record { named = λ ci is. absurd cc; others = λ ci is. refl }

module _ (imaged : ℕ → Bool) (area : Extent) (bytes : ℕ → List ℕ) (ci : ℕ) (new : List ℕ) (done more : Changes)
    (items : List Item) (made : MakeChanges area.set area.count imaged bytes done items) (not_yet : done ci ≡ None)
    (here : more ci ≡ Some new) (others : (k : ℕ) → (k ≡ ci → ⊥) → more k ≡ done k) where
  unnamed : names area.set ci items ≡ false
  unnamed = made.none ci not_yet

  some_there : (k : ℕ) (b : List ℕ) → k ≡ ci → more k ≡ Some b → b ≡ new
  some_there k b e is = let both : Some b ≡ Some new = sym is ∙ ap more e ∙ here in cc

  -- one that stood and keeps its bytes has no item
  pub same_made : ci < area.count → new ≡ bytes ci → MakeChanges area.set area.count imaged bytes more items
  same_made below same = record {
    none = λ k is. elim (cases_eq k ci) [
      | inl e ↦ let both : Some new ≡ None = sym here ∙ ap more (sym e) ∙ is in absurd cc
      | inr ne ↦ made.none k (sym (others k ne) ∙ is)
    ];
    gives = λ k b is. elim (cases_eq k ci) [
      | inl e ↦
          let eq : b ≡ new = some_there k b e is in
          ap (λ i. redone_at area.set i items (bytes i)) e ∙ redone_none area.set ci items (bytes ci) unnamed
          ∙ sym same ∙ sym eq
      | inr ne ↦ made.gives k b (sym (others k ne) ∙ is)
    ];
    images = made.images;
    fresh = λ k from some. elim (cases_eq k ci) [
      | inl e ↦ absurd (omega (arith, e, below, from))
      | inr ne ↦ made.fresh k from (subst IsSome (others k ne) some)
    ];
    other = made.other;
  }

  -- another is made by its item
  module _ (item : Item) (step : IsItemFor (imaged ci) area ci (bytes ci) new (Some item))
      (long : ci < area.count → length (bytes ci) ≡ length new) where
    named_by : (s k : ℕ) → names_interval s k item ≡ (s == area.set && k == ci)
    named_by = names_item (imaged ci && nat_lt ci area.count) area.set ci (bytes ci) new item step.0

    is_here : names_interval area.set ci item ≡ true
    is_here = named_by area.set ci ∙ here_or area.set ci area.set ci refl refl

    is_not : (k : ℕ) → (k ≡ ci → ⊥) → names_interval area.set k item ≡ false
    is_not k ne = named_by area.set k ∙ other_number area.set k area.set ci ne

    named_other : (k : ℕ) → (k ≡ ci → ⊥) → names area.set k (items ++ item ∷ []) ≡ names area.set k items
    named_other k ne =
        names_more area.set k items (item ∷ [])
        ∙ (let other = is_not k ne in rw other (or_false (names area.set k items)))

    named_here : names area.set ci (items ++ item ∷ []) ≡ true
    named_here = names_more area.set ci items (item ∷ []) ∙ rw unnamed (rw is_here refl)

    gives_here : redone_at area.set ci (items ++ item ∷ []) (bytes ci) ≡ new
    gives_here =
        one_change area.set ci items item (bytes ci) unnamed is_here
        ∙ put_for (imaged ci) area ci (bytes ci) new item step long

    gives_other : (k : ℕ) → (k ≡ ci → ⊥)
        → redone_at area.set k (items ++ item ∷ []) (bytes k) ≡ redone_at area.set k items (bytes k)
    gives_other k ne = no_change area.set k items item (bytes k) (is_not k ne)

    begins_here : is_image item ≡ true → begins_with_image area.set ci (items ++ item ∷ []) ≡ true
    begins_here image = begins_none area.set ci items (item ∷ []) unnamed ∙ rw is_here image

    begins_other : (k : ℕ) → (k ≡ ci → ⊥) → begins_with_image area.set k items ≡ true
        → begins_with_image area.set k (items ++ item ∷ []) ≡ true
    begins_other k ne was = elim (cases_Bool (names area.set k items)) [
      | inl some ↦ begins_named area.set k items (item ∷ []) some ∙ was
      | inr none ↦
          begins_none area.set k items (item ∷ []) none
          ∙ (let other = is_not k ne in rw other refl)
    ]

    pub one_made : MakeChanges area.set area.count imaged bytes more (items ++ item ∷ [])
    one_made = record {
      none = λ k is. elim (cases_eq k ci) [
        | inl e ↦ let both : Some new ≡ None = sym here ∙ ap more (sym e) ∙ is in absurd cc
        | inr ne ↦ named_other k ne ∙ made.none k (sym (others k ne) ∙ is)
      ];
      gives = λ k b is. elim (cases_eq k ci) [
        | inl e ↦
            let eq : b ≡ new = some_there k b e is in
            ap (λ i. redone_at area.set i (items ++ item ∷ []) (bytes i)) e ∙ gives_here ∙ sym eq
        | inr ne ↦ gives_other k ne ∙ made.gives k b (sym (others k ne) ∙ is)
      ];
      images = λ k none. elim (cases_eq k ci) [
        | inl e ↦
            let flag : (imaged ci && nat_lt ci area.count) ≡ false =
            ap (λ b. b && nat_lt ci area.count) (ap imaged (sym e) ∙ none) in
            ap (λ i. begins_with_image area.set i (items ++ item ∷ [])) e
            ∙ begins_here (image_then (imaged ci && nat_lt ci area.count) area.set ci (bytes ci) new item flag step.0)
        | inr ne ↦ begins_other k ne (made.images k none)
      ];
      fresh = λ k from some. elim (cases_eq k ci) [
        | inl e ↦
            let flag : (imaged ci && nat_lt ci area.count) ≡ false =
            ap (λ b. imaged ci && b) (lt_false ci area.count (omega (arith, e, from))) ∙ and_false (imaged ci) in
            let image = image_then (imaged ci && nat_lt ci area.count) area.set ci (bytes ci) new item flag step.0 in
            record {
              named = ap (λ i. names area.set i (items ++ item ∷ [])) e ∙ named_here;
              image = ap (λ i. begins_with_image area.set i (items ++ item ∷ [])) e ∙ begins_here image;
            }
        | inr ne ↦
            let was = made.fresh k from (subst IsSome (others k ne) some) in
            record { named = named_other k ne ∙ was.named; image = begins_other k ne was.image }
      ];
      other = λ k below named same. elim (cases_eq k ci) [
        | inl e ↦
            let now : redone_at area.set ci (items ++ item ∷ []) (bytes ci) ≡ bytes ci =
            ap (λ i. redone_at area.set i (items ++ item ∷ []) (bytes i)) (sym e) ∙ same ∙ ap bytes e in
            step.1 (omega (arith, e, below)) (sym gives_here ∙ now)
        | inr ne ↦ made.other k below (sym (named_other k ne) ∙ named) (sym (gives_other k ne) ∙ same)
      ];
    }

    -- and staged
    pub one_staged : (before mid after : Held) → StagesItems area.set items bytes before mid
        → IsOneStaged area.set ci new mid after (Some item) → StagesItems area.set (items ++ item ∷ []) bytes before after
    one_staged before mid after staged now = record {
      named = λ k named. elim (cases_eq k ci) [
        | inl e ↦
            now area.set k
            ∙ ap (λ t. if t then Some new else staged_at mid area.set k) (here_or area.set k area.set ci refl e)
            ∙ ap Some (sym gives_here)
            ∙ ap (λ i. Some (redone_at area.set i (items ++ item ∷ []) (bytes i))) (sym e)
        | inr ne ↦
            now area.set k
            ∙ ap (λ t. if t then Some new else staged_at mid area.set k) (other_number area.set k area.set ci ne)
            ∙ staged.named k (sym (named_other k ne) ∙ named)
            ∙ ap Some (sym (gives_other k ne))
      ];
      others = λ k none. elim (cases_eq k ci) [
        | inl e ↦
            let both : true ≡ false =
            sym named_here ∙ ap (λ i. names area.set i (items ++ item ∷ [])) (sym e) ∙ none in
            absurd cc
        | inr ne ↦
            now area.set k
            ∙ ap (λ t. if t then Some new else staged_at mid area.set k) (other_number area.set k area.set ci ne)
            ∙ staged.others k (sym (named_other k ne) ∙ none)
      ];
    }

-- ---- intervals that are taken one by one

pub some_bytes : (o : Option (List ℕ)) (b : List ℕ) → o ≡ Some b → IsSome o
some_bytes (Some x) b e = refl
some_bytes None b e = absurd cc

abbrev pub not_left : Option (List ℕ) → Option (List ℕ) → Option (List ℕ)
not_left None all = all
not_left (Some bytes) all = None

-- those that are taken already
abbrev pub done_of : Changes → Changes → Changes
done_of all left = λ ci. not_left (left ci) (all ci)

pub at_first : (all : Changes) (ci : ℕ) → done_of all all ci ≡ None
at_first all ci = first (all ci)
  where
    first : (o : Option (List ℕ)) → not_left o o ≡ None
    first None = refl
    first (Some b) = refl

pub at_last : (all left : Changes) → ((ci : ℕ) → left ci ≡ None) → done_of all left ≡ all
at_last all left none = fun_ext (λ ci. ap (λ o. not_left o (all ci)) (none ci))

module _ (imaged : ℕ → Bool) (area : Extent) (bytes : ℕ → List ℕ) (ci : ℕ) (new : List ℕ) (all left left2 : Changes)
    (was : left ci ≡ Some new) (is : all ci ≡ Some new) (gone : left2 ci ≡ None)
    (others : (k : ℕ) → (k ≡ ci → ⊥) → left2 k ≡ left k) where
  not_yet : done_of all left ci ≡ None
  not_yet = ap (λ x. not_left x (all ci)) was

  here : done_of all left2 ci ≡ Some new
  here = ap (λ x. not_left x (all ci)) gone ∙ is

  other : (k : ℕ) → (k ≡ ci → ⊥) → done_of all left2 k ≡ done_of all left k
  other k ne = ap (λ x. not_left x (all k)) (others k ne)

  -- one more is taken
  pub taken : (items after : List Item) (o : Option Item)
      → MakeChanges area.set area.count imaged bytes (done_of all left) items
      → IsItemFor (imaged ci) area ci (bytes ci) new o → (ci < area.count → length (bytes ci) ≡ length new)
      → after ≡ items ++ items_in o → MakeChanges area.set area.count imaged bytes (done_of all left2) after
  taken items after None made step long e =
      subst (MakeChanges area.set area.count imaged bytes (done_of all left2)) (sym (e ∙ append-nil items))
      (same_made imaged area bytes ci new (done_of all left) (done_of all left2) items made not_yet here other step.0
      step.1)
  taken items after (Some item) made step long e =
      subst (MakeChanges area.set area.count imaged bytes (done_of all left2)) (sym e)
      (one_made imaged area bytes ci new (done_of all left) (done_of all left2) items made not_yet here other item step
      long)

  pub taken_staged : (items after : List Item) (o : Option Item) (before mid pool : Held)
      → MakeChanges area.set area.count imaged bytes (done_of all left) items
      → IsItemFor (imaged ci) area ci (bytes ci) new o → (ci < area.count → length (bytes ci) ≡ length new)
      → after ≡ items ++ items_in o → StagesItems area.set items bytes before mid
      → IsOneStaged area.set ci new mid pool o → StagesItems area.set after bytes before pool
  taken_staged items after None before mid pool made step long e staged now =
      subst (λ l. StagesItems area.set l bytes before pool) (sym (e ∙ append-nil items)) (record {
        named = λ k n. now area.set k ∙ staged.named k n;
        others = λ k n. now area.set k ∙ staged.others k n;
      })
  taken_staged items after (Some item) before mid pool made step long e staged now =
      subst (λ l. StagesItems area.set l bytes before pool) (sym e)
      (one_staged imaged area bytes ci new (done_of all left) (done_of all left2) items made not_yet here other item
      step long before mid pool staged now)

-- ---- the list of items

-- each fits
pub fit_more : (area : Extent) (ci : ℕ) (items after : List Item) (o : Option Item) → IsFitItem area ci o
    → after ≡ items ++ items_in o → AllByRecursion (IsFitFor area.set area.size) items
    → AllByRecursion (IsFitFor area.set area.size) after
fit_more area ci items after None fit e all =
    subst (AllByRecursion (IsFitFor area.set area.size)) (sym (e ∙ append-nil items)) all
fit_more area ci items after (Some item) fit e all =
    subst (AllByRecursion (IsFitFor area.set area.size)) (sym e)
    (all_append (IsFitFor area.set area.size) items (item ∷ []) all (fit.0, tt))

-- they ascend
pub order_more : (area : Extent) (ci : ℕ) (items after : List Item) (o : Option Item) → IsFitItem area ci o
    → after ≡ items ++ items_in o → AllBefore area.set ci items → is_ascending items ≡ true
    → is_ascending after ≡ true
order_more area ci items after None fit e before up = ap is_ascending (e ∙ append-nil items) ∙ up
order_more area ci items after (Some item) fit e before up =
    ap is_ascending e ∙ ascends_one items item area.set ci fit.1 before up

pub before_more : (area : Extent) (ci k : ℕ) (items after : List Item) (o : Option Item) → IsFitItem area ci o
    → after ≡ items ++ items_in o → ci < k → AllBefore area.set k items → AllBefore area.set k after
before_more area ci k items after None fit e lt before =
    subst (AllBefore area.set k) (sym (e ∙ append-nil items)) before
before_more area ci k items after (Some item) fit e lt before =
    subst (AllBefore area.set k) (sym e) (before_push items item area.set ci k fit.1 lt before)

-- each interval has a flag
flag_one : (imaged : List (List Bool)) (area : Extent) (ci : ℕ) (item : Item) → IsFitItem area ci (Some item)
    → first_area_set ≤ area.set → HasFlag imaged area.set ci → IsFlagged imaged item
flag_one imaged area ci (Segment msdb key bytes) fit from has = absurd fit.0
flag_one imaged area ci (Image s k bytes) fit from has =
    let at : s ≡ area.set = fit.0.0 in
    let number : k ≡ ci = (let both = fit.1 in cc) in (
      subst (λ x. first_area_set ≤ x) (sym at) from,
      subst (λ x. HasFlag imaged x k) (sym at) (subst (HasFlag imaged area.set) (sym number) has),
    )
flag_one imaged area ci (Range s k at bytes) fit from has =
    let set_is : s ≡ area.set = fit.0.0 in
    let number : k ≡ ci = (let both = fit.1 in cc) in (
      subst (λ x. first_area_set ≤ x) (sym set_is) from,
      subst (λ x. HasFlag imaged x k) (sym set_is) (subst (HasFlag imaged area.set) (sym number) has),
    )

pub flags_more : (before after : List (List Bool)) (area : Extent) (ci : ℕ) (items more : List Item) (o : Option Item)
    → IsFitItem area ci o → more ≡ items ++ items_in o → first_area_set ≤ area.set
    → ((s k : ℕ) → HasFlag before s k → HasFlag after s k) → IfSome o (λ i. HasFlag after area.set ci)
    → AreFlagged before items → AreFlagged after more
flags_more before after area ci items more None fit e from kept has all =
    subst (AreFlagged after) (sym (e ∙ append-nil items)) (all_flagged before after kept items all)
flags_more before after area ci items more (Some item) fit e from kept has all =
    subst (AreFlagged after) (sym e)
    (all_append (IsFlagged after) items (item ∷ []) (all_flagged before after kept items all)
    (flag_one after area ci item fit from has, tt))
