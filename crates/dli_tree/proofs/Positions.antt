-- Places of types: among the children of a type, and on the line from the root.
use Rattle.std.proofs.Common.{◌≡◌, ℕ, zero, suc, ◌+◌, ◌-◌, ◌<◌, ◌≤◌, List, [], ◌∷◌, ◌++◌, drop, length, get_or, Option, Some, None, Bool, true, false, ◌&&◌, ◌||◌, not, refl, sym, ap, ◌∙◌, subst, add-one}
use Rattle.std.specs.Prelude.{option_map, position, if◌then◌else◌}
use Rattle.std.specs.List.{list_any, position_from}
use Rattle.std.specs.Option.{option_map_or}
use Rattle.std.proofs.lemmas.Iterator.Adapters.{position_from-zero}
use Rattle.std.proofs.Math.Seq.{drop-cons}
use Rattle.std.proofs.lemmas.List.{drop_all}
use Rattle.fp_model.specs.declared.definitions.SegDef.{SegDef}
use Rattle.fp_model.specs.Order.{is_child_of, line_within, numbers_from, parent_of}

-- the place of the first number that passes, from the types at a place on, where so many stood before
abbrev pub place_from : (ℕ → Bool) → (SegDef → Bool) → ℕ → ℕ → List SegDef → Option ℕ
place_from p test row at defs = position_from p row (numbers_from at test (drop at defs))

pub place_init : (p : ℕ → Bool) (test : SegDef → Bool) (defs : List SegDef)
    → position p (numbers_from 0 test defs) ≡ place_from p test 0 0 defs
place_init p test defs = position_from-zero p (numbers_from 0 test defs)

module _ (p : ℕ → Bool) (test : SegDef → Bool) (row at : ℕ) (defs : List SegDef) (def : SegDef) (lt : at < length defs)
    (is : def ≡ get_or defs at def) where
  opened : drop at defs ≡ def ∷ drop (at + 1) defs
  opened = drop-cons defs at def lt ∙ ap (λ (d : SegDef). d ∷ drop (suc at) defs) (sym is) ∙ ap
      (λ (n : ℕ). def ∷ drop n defs) (sym (add-one at))

  -- a type that doesn't pass the test
  pub place_other : test def ≡ false → place_from p test row at defs ≡ place_from p test row (at + 1) defs
  place_other e = ap (λ (ds : List SegDef). position_from p row (numbers_from at test ds)) opened ∙ (rw e refl)

  -- one that does, and isn't looked for
  pub place_next : test def ≡ true → p at ≡ false → place_from p test row at defs ≡ place_from p test (row + 1) (at + 1)
      defs
  place_next e f = ap (λ (ds : List SegDef). position_from p row (numbers_from at test ds)) opened ∙
      (rw (e, f) (rw add-one refl))

  -- the one that is looked for
  pub place_found : test def ≡ true → p at ≡ true → place_from p test row at defs ≡ Some row
  place_found e f = ap (λ (ds : List SegDef). position_from p row (numbers_from at test ds)) opened ∙ (rw (e, f) refl)

-- behind the last type there is none
pub place_end : (p : ℕ → Bool) (test : SegDef → Bool) (row at : ℕ) (defs : List SegDef) → length defs ≤ at
    → place_from p test row at defs ≡ None
place_end p test row at defs past = ap (λ (ds : List SegDef). position_from p row (numbers_from at test ds))
    (drop_all at defs past)

-- ---- the line

module _ (p : ℕ → Bool) (types : List SegDef) where
  -- it ends with the type itself
  pub any_last : (xs : List ℕ) (type : ℕ) → p type ≡ true → list_any p (xs ++ type ∷ []) ≡ true
  any_last [] type e = rw e refl
  any_last (x ∷ xs) type e = rw (any_last xs type e) (by (p x))
    where
      by : (b : Bool) → (b || true) ≡ true
      by true = refl
      by false = refl

  pub any_before : (xs : List ℕ) (type : ℕ) → p type ≡ false → list_any p (xs ++ type ∷ []) ≡ list_any p xs
  any_before [] type e = rw e refl
  any_before (x ∷ xs) type e = ap (λ (b : Bool). p x || b) (any_before xs type e)

  pub line_here : (n type : ℕ) → p type ≡ true → list_any p (line_within n types type) ≡ true
  line_here zero type e = any_last [] type e
  line_here (suc n) type e = by (parent_of types type)
    where
      by : (o : Option ℕ) → list_any p (option_map_or (λ q. line_within n types q ++ type ∷ []) o (type ∷ [])) ≡ true
      by None = any_last [] type e
      by (Some q) = any_last (line_within n types q) type e

  pub line_up : (n type parent : ℕ) → p type ≡ false → parent_of types type ≡ Some parent
      → list_any p (line_within (suc n) types type) ≡ list_any p (line_within n types parent)
  line_up n type parent e f = ap (λ (o : Option ℕ). list_any p
      (option_map_or (λ q. line_within n types q ++ type ∷ []) o (type ∷ []))) f ∙ any_before
      (line_within n types parent) type e

  pub line_top : (n type : ℕ) → p type ≡ false → parent_of types type ≡ None
      → list_any p (line_within (suc n) types type) ≡ false
  line_top n type e f = ap (λ (o : Option ℕ). list_any p
      (option_map_or (λ q. line_within n types q ++ type ∷ []) o (type ∷ []))) f ∙ any_before [] type e

  pub line_end : (type : ℕ) → list_any p (line_within 0 types type) ≡ p type
  line_end type = by (p type)
    where
      by : (b : Bool) → (b || false) ≡ b
      by true = refl
      by false = refl

-- ---- counted on

-- the place of the first that passes, counted on from a number
abbrev pub on_from : ℕ → Option ℕ → Option ℕ
on_from n found = option_map (λ k. n + k) found
