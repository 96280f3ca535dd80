-- One item for each interval that changes: its image, or the range in which it differs.
use Rattle.std.proofs.Common.{◌≡◌, ◌⊎◌, inl, inr, ℕ, ◌+◌, ◌-◌, ◌<◌, ◌≤◌, true, false, List, [], ◌∷◌, ◌++◌, length, get_or, take, drop, refl, sym, ◌∙◌, ap, arith}
use Rattle.std.specs.List.{AllByRecursion}
use Rattle.std.proofs.lemmas.Bool.{cases_lt, cases_Bool}
use Rattle.std.proofs.lemmas.List.{ext_get_or, length-take, length-drop, get_or-take, get_or-drop}
use Rattle.fp_site.specs.Disk.{written}
use Rattle.fp_site.specs.Written.{length-written, written_other}
use Rattle.fp_model.specs.declared.log.Item.{Item}
use Rattle.fp_model.specs.ItemTargets.{names_interval}
use Rattle.fp_model.specs.Items.{is_image, begins_with_image}
use Rattle.area_redo.specs.Redo.{names, put, redone_at, AllBegin}
use Rattle.area_redo.specs.Standing.{behind}
use Rattle.area_redo.proofs.Items.{redone_more, redone_none, begins_named, begins_none}
use Rattle.area_redo.proofs.Places.{written_here}

-- the bytes of a range, of an interval as it is to be, over the interval as it was
pub range_gives : (old new : List ℕ) (first last : ℕ) → length old ≡ length new → first ≤ last → last ≤ length new
    → ((i : ℕ) → (i < first) ⊎ (last ≤ i) → get_or old i 0 ≡ get_or new i 0)
    → written old first (take (last - first) (drop first new)) ≡ new
range_gives old new first last long order within same =
    ext_get_or 0 (written old first part) new (omega (arith, long_part, length-written old first part))
    (λ i lt. elim (cases_lt i first) [
      | inl before ↦ written_other old first part i (inl before) ∙ same i (inl before)
      | inr ge ↦ elim (cases_lt i last) [
        | inl inside ↦
            ap (λ k. get_or (written old first part) k 0) (let e : i ≡ first + (i - first) = omega arith in e)
            ∙ written_here old first part (i - first) (omega (arith, long_part))
            ∙ get_or-take (last - first) (drop first new) (i - first) 0 (omega arith)
            ∙ get_or-drop first new (i - first) 0
            ∙ ap (λ k. get_or new k 0) (let e : first + (i - first) ≡ i = omega arith in e)
        | inr behind ↦ written_other old first part i (inr (omega (arith, long_part))) ∙ same i (inr behind)
      ]
    ])
  where
    part : List ℕ
    part = take (last - first) (drop first new)

    long_part : length part ≡ last - first
    long_part = omega (arith, length-take (last - first) (drop first new), length-drop first new)

-- an interval that the items so far don't name, and one item more
pub one_change : (set ci : ℕ) (items : List Item) (item : Item) (old : List ℕ) → names set ci items ≡ false
    → names_interval set ci item ≡ true → redone_at set ci (items ++ item ∷ []) old ≡ put item old
one_change set ci items item old none is = redone_more set ci items (item ∷ []) old
    ∙ rw is (ap (put item) (redone_none set ci items old none))

-- and the others
pub no_change : (set ci : ℕ) (items : List Item) (item : Item) (old : List ℕ) → names_interval set ci item ≡ false
    → redone_at set ci (items ++ item ∷ []) old ≡ redone_at set ci items old
no_change set ci items item old other = redone_more set ci items (item ∷ []) old ∙ rw other refl

-- items whose every one of an interval is an image begin well there
pub begins_images : (set ci : ℕ) (items : List Item) → AllByRecursion
    (λ item. names_interval set ci item ≡ true → is_image item ≡ true) items → begins_with_image set ci items ≡ true
begins_images set ci [] each = refl
begins_images set ci (item ∷ items) each = elim (cases_Bool (names_interval set ci item)) [
  | inl is ↦ rw is (each.0 is)
  | inr other ↦ rw other (begins_images set ci items each.1)
]

-- a list that begins well goes on well by an image, or by a range of an interval that it names
pub begins_push : (items : List Item) (item : Item) → AllBegin items
    → ((set ci : ℕ) → names_interval set ci item ≡ true → is_image item ≡ false → names set ci items ≡ true)
    → AllBegin (items ++ item ∷ [])
begins_push items item all known set ci = elim (cases_Bool (names set ci items)) [
  | inl some ↦ begins_named set ci items (item ∷ []) some ∙ all set ci
  | inr none ↦ begins_none set ci items (item ∷ []) none ∙ elim (cases_Bool (names_interval set ci item)) [
    | inr other ↦ rw other refl
    | inl is ↦ rw is (elim (cases_Bool (is_image item)) [
      | inl image ↦ image
      | inr range ↦ let both : true ≡ false = sym (known set ci is range) ∙ none in cc
    ])
  ]
]

-- and by no other
pub begins_not : (set ci : ℕ) (items : List Item) (item : Item) → names_interval set ci item ≡ true
    → is_image item ≡ false → names set ci items ≡ false → begins_with_image set ci (items ++ item ∷ []) ≡ false
begins_not set ci items item is range none = begins_none set ci items (item ∷ []) none ∙ rw is range
