-- Items by the entries that have them.
use Rattle.std.proofs.Common.{◌≡◌, inl, inr, ℕ, zero, suc, ◌<◌, ◌≤◌, true, false, List, [], ◌∷◌, ◌++◌, length, refl, sym, ◌∙◌, subst, arith, append_assoc}
use Rattle.std.proofs.lemmas.Bool.{cases_Bool, cases_lt, or_parts}
use Rattle.std.proofs.lemmas.List.{append-nil}
use Rattle.fp_model.specs.declared.log.Item.{Item}
use Rattle.fp_model.specs.declared.log.Entry.{Entry}
use Rattle.fp_model.specs.Items.{items_of}
use Rattle.area_redo.specs.Redo.{AreaBytes, names, redone, Layout, count_in, AreRedone}
use Rattle.area_redo.specs.Standing.{behind, EachGrows, names_at}
use Rattle.area_redo.proofs.Items.{names_more, redone_none, redone_more}
use Rattle.area_redo.proofs.Areas.{more_redone}

-- what some entry names its list names
pub named_from : (set ci : ℕ) (entries : List Entry) (k : ℕ) → names_at set ci entries k ≡ true
    → names set ci (items_of entries) ≡ true
named_from set ci [] k is = cc
named_from set ci (e ∷ entries) zero is = names_more set ci e.items (items_of entries) ∙ rw is refl
named_from set ci (e ∷ entries) (suc k) is =
    let later = named_from set ci entries k is in
    names_more set ci e.items (items_of entries) ∙ elim (cases_Bool (names set ci e.items)) [
      | inl here ↦ rw here refl
      | inr other ↦ rw other later
    ]

-- and what the list names some entry does
pub named_at : (set ci : ℕ) (entries : List Entry) → names set ci (items_of entries) ≡ true → (k : ℕ)
    × (k < length entries) × (names_at set ci entries k ≡ true)
named_at set ci [] is = cc
named_at set ci (e ∷ entries) is = elim (cases_Bool (names set ci e.items)) [
  | inl here ↦ (0, omega arith, here)
  | inr other ↦
      let rest : names set ci (items_of entries) ≡ true = rw other at
      (sym (names_more set ci e.items (items_of entries)) ∙ is) in
      let found = named_at set ci entries rest in
      (suc found.0, omega (arith, found.1), found.2)
]

-- an interval that no entry names stays
pub behind_none : (set ci : ℕ) (entries : List Entry) (now : AreaBytes) → names set ci (items_of entries) ≡ false
    → behind entries now set ci ≡ now set ci
behind_none set ci [] now none = refl
behind_none set ci (e ∷ entries) now none =
    let parts = or_parts (names set ci e.items) (names set ci (items_of entries))
    (sym (names_more set ci e.items (items_of entries)) ∙ none) in
    behind_none set ci entries (redone e.items now) parts.1 ∙ redone_none set ci e.items (now set ci) parts.0

-- entries one after another give what their items in one list give
pub behind_is : (entries : List Entry) (now : AreaBytes) (set ci : ℕ)
    → behind entries now set ci ≡ redone (items_of entries) now set ci
behind_is [] now set ci = refl
behind_is (e ∷ entries) now set ci = behind_is entries (redone e.items now) set ci
    ∙ sym (redone_more set ci e.items (items_of entries) (now set ci))

-- entries one after another
pub behind_more : (a b : List Entry) (now : AreaBytes) → behind (a ++ b) now ≡ behind b (behind a now)
behind_more [] b now = refl
behind_more (e ∷ a) b now = behind_more a b (redone e.items now)

pub grows_more : (layout : Layout) (a b : List Entry) (now : AreaBytes) → EachGrows layout a now
    → EachGrows layout b (behind a now) → EachGrows layout (a ++ b) now
grows_more layout [] b now first second = second
grows_more layout (e ∷ a) b now first second = (first.0, grows_more layout a b (redone e.items now) first.1 second)

pub grows_first : (layout : Layout) (a b : List Entry) (now : AreaBytes) → EachGrows layout (a ++ b) now
    → EachGrows layout a now × EachGrows layout b (behind a now)
grows_first layout [] b now all = (tt, all)
grows_first layout (e ∷ a) b now all = let rest = grows_first layout a b (redone e.items now) all.1 in
    ((all.0, rest.0), rest.1)

-- what a crash leaves goes on to give the areas behind more entries
pub entries_redone : (layout : Layout) (items : List Item) (entries : List Entry) (now : AreaBytes)
    (images : ℕ → List ℕ) → AreRedone layout items now images → EachGrows layout entries now
    → AreRedone layout (items ++ items_of entries) (behind entries now) images
entries_redone layout items [] now images old grow = subst (λ l. AreRedone layout l now images)
    (sym (append-nil items)) old
entries_redone layout items (e ∷ entries) now images old grow =
    subst (λ l. AreRedone layout l (behind entries (redone e.items now)) images)
    (append_assoc items e.items (items_of entries))
    (entries_redone layout (items ++ e.items) entries (redone e.items now) images
    (more_redone layout items e.items now images old grow.0) grow.1)

-- an interval that is new behind entries is named by one of them
pub grown_named : (layout : Layout) (set ci : ℕ) (entries : List Entry) (now : AreaBytes) → EachGrows layout entries now
    → count_in layout now set ≤ ci → ci < count_in layout (behind entries now) set
    → names set ci (items_of entries) ≡ true
grown_named layout set ci [] now grow ge below = absurd (omega arith)
grown_named layout set ci (e ∷ entries) now grow ge below = names_more set ci e.items (items_of entries)
    ∙ elim (cases_lt ci (count_in layout (redone e.items now) set)) [
      | inl lt ↦ let here = (grow.0 set ci ge lt).named in rw here refl
      | inr later ↦
          let rest = grown_named layout set ci entries (redone e.items now) grow.1 later below in
          elim (cases_Bool (names set ci e.items)) [
            | inl here ↦ rw here refl
            | inr other ↦ rw other rest
          ]
    ]
