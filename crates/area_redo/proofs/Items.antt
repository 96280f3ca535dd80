-- What lists of items make of one interval.
use Rattle.std.proofs.Common.{◌≡◌, inl, inr, ℕ, true, false, ◌||◌, List, [], ◌∷◌, ◌++◌, refl, sym, ◌∙◌, ap}
use Rattle.std.proofs.lemmas.Bool.{cases_Bool, or_parts}
use Rattle.fp_model.specs.declared.log.Item.{Item}
use Rattle.fp_model.specs.declared.log.Item.TheVariants.{Segment, Image, Range}
use Rattle.fp_model.specs.ItemTargets.{names_interval}
use Rattle.fp_model.specs.Items.{is_image, begins_with_image}
use Rattle.area_redo.specs.Redo.{names, put, with_item_at, redone_at}

-- one list after another
pub redone_more : (set ci : ℕ) (items more : List Item) (old : List ℕ)
    → redone_at set ci (items ++ more) old ≡ redone_at set ci more (redone_at set ci items old)
redone_more set ci [] more old = refl
redone_more set ci (item ∷ items) more old = redone_more set ci items more (with_item_at set ci old item)

-- what no item names stays
pub redone_none : (set ci : ℕ) (items : List Item) (old : List ℕ) → names set ci items ≡ false
    → redone_at set ci items old ≡ old
redone_none set ci [] old none = refl
redone_none set ci (item ∷ items) old none =
    let parts = or_parts (names_interval set ci item) (names set ci items) none in
    let other : names_interval set ci item ≡ false = parts.0 in
    rw other (redone_none set ci items old parts.1)

-- an image takes the place of whatever stood there
image_any : (item : Item) (a b : List ℕ) → is_image item ≡ true → put item a ≡ put item b
image_any (Segment msdb key bytes) a b is = cc
image_any (Image set ci bytes) a b is = refl
image_any (Range set ci at bytes) a b is = cc

-- so what the items of an interval make of it, the first an image, doesn't depend on what stood there
pub redone_any : (set ci : ℕ) (items : List Item) (a b : List ℕ) → names set ci items ≡ true
    → begins_with_image set ci items ≡ true → redone_at set ci items a ≡ redone_at set ci items b
redone_any set ci [] a b some begin = cc
redone_any set ci (item ∷ items) a b some begin = elim (cases_Bool (names_interval set ci item)) [
  | inl is ↦
      let image : is_image item ≡ true = rw is at begin in
      let same = image_any item a b image in
      rw is (ap (redone_at set ci items) same)
  | inr other ↦
      let later : begins_with_image set ci items ≡ true = rw other at begin in
      let named : names set ci items ≡ true = rw other at some in
      rw other (redone_any set ci items a b named later)
]

-- twice is once
pub redone_twice : (set ci : ℕ) (items : List Item) (old : List ℕ) → begins_with_image set ci items ≡ true
    → redone_at set ci items (redone_at set ci items old) ≡ redone_at set ci items old
redone_twice set ci items old begin = elim (cases_Bool (names set ci items)) [
  | inl is ↦ redone_any set ci items (redone_at set ci items old) old is begin
  | inr none ↦ redone_none set ci items (redone_at set ci items old) none
]

-- of two lists
pub names_more : (set ci : ℕ) (items more : List Item) → names set ci
    (items ++ more) ≡ (names set ci items || names set ci more)
names_more set ci [] more = refl
names_more set ci (item ∷ items) more = elim (cases_Bool (names_interval set ci item)) [
  | inl is ↦ rw is refl
  | inr other ↦ rw other (names_more set ci items more)
]

-- a list whose interval begins well goes on well, however it goes on
pub begins_named : (set ci : ℕ) (items more : List Item) → names set ci items ≡ true
    → begins_with_image set ci (items ++ more) ≡ begins_with_image set ci items
begins_named set ci [] more some = cc
begins_named set ci (item ∷ items) more some = elim (cases_Bool (names_interval set ci item)) [
  | inl is ↦ rw is refl
  | inr other ↦
      let named : names set ci items ≡ true = rw other at some in
      rw other (begins_named set ci items more named)
]

-- and where none names it, as the second begins
pub begins_none : (set ci : ℕ) (items more : List Item) → names set ci items ≡ false
    → begins_with_image set ci (items ++ more) ≡ begins_with_image set ci more
begins_none set ci [] more none = refl
begins_none set ci (item ∷ items) more none =
    let parts = or_parts (names_interval set ci item) (names set ci items) none in
    let other : names_interval set ci item ≡ false = parts.0 in
    rw other (begins_none set ci items more parts.1)

-- a list that doesn't name the interval
pub begins_nothing : (set ci : ℕ) (items : List Item) → names set ci items ≡ false → begins_with_image set ci items ≡ true
begins_nothing set ci [] none = refl
begins_nothing set ci (item ∷ items) none =
    let parts = or_parts (names_interval set ci item) (names set ci items) none in
    let other : names_interval set ci item ≡ false = parts.0 in
    rw other (begins_nothing set ci items parts.1)

-- the first part of a list that begins well does
pub begins_first : (set ci : ℕ) (items more : List Item) → begins_with_image set ci (items ++ more) ≡ true
    → begins_with_image set ci items ≡ true
begins_first set ci items more begin = elim (cases_Bool (names set ci items)) [
  | inl is ↦ sym (begins_named set ci items more is) ∙ begin
  | inr none ↦ begins_nothing set ci items none
]
