-- The place of an area among those of all databases, database by database.
use Rattle.std.proofs.Common.{◌≡◌, ℕ, suc, ◌+◌, List, [], ◌∷◌, ◌++◌, length, Bool, true, false, cond, Option, Some, None, refl, sym, ap, ◌∙◌, arith}
use Rattle.std.specs.Prelude.{position, option_map}
use Rattle.std.specs.List.{position_or_len}
use Rattle.fp_model.specs.declared.definitions.AreaDef.{AreaDef}
use Rattle.fp_model.specs.declared.definitions.DedbDef.{DedbDef}
use Rattle.fp_model.specs.State.{Area, anchors_in, areas_from, areas_of_all}
use Rattle.plain_laws.proofs.Places.{first_place}

-- ---- places in lists

-- a place, or else one behind so many elements
abbrev or_behind : Option ℕ → ℕ → Option ℕ → Option ℕ
or_behind (Some place) before other = Some place
or_behind None before other = option_map (λ place. before + place) other

behind_none : (o : Option ℕ) → option_map (λ place. 0 + place) o ≡ o
behind_none None = refl
behind_none (Some place) = ap (λ (k : ℕ). Some k) (omega arith)

pub behind_both : (n m : ℕ) (o : Option ℕ) → option_map (λ place. n + place) (option_map (λ place. m + place) o) ≡
    option_map (λ place. n + m + place) o
behind_both n m None = refl
behind_both n m (Some place) = ap (λ (k : ℕ). Some k) (omega arith)

one_more : (o other : Option ℕ) (n : ℕ) → option_map suc (or_behind o n other) ≡ or_behind (option_map suc o) (suc n)
    other
one_more (Some place) other n = refl
one_more None None n = refl
one_more None (Some place) n = ap (λ (k : ℕ). Some k) (omega arith)

module _ {X : Type 0} (p : X → Bool) where
  pub position_cons : (x : X) (xs : List X) → position p (x ∷ xs) ≡ cond (p x) (Some 0) (option_map suc (position p xs))
  position_cons x xs = first_place (p x) (position_or_len p xs) (length xs)

  join_by : (b : Bool) (o other joined : Option ℕ) (n : ℕ) → joined ≡ or_behind o n other
      → cond b (Some 0) (option_map suc joined) ≡ or_behind (cond b (Some 0) (option_map suc o)) (suc n) other
  join_by true o other joined n is = refl
  join_by false o other joined n is = ap (option_map suc) is ∙ one_more o other n

  pub position_append : (xs ys : List X) → position p (xs ++ ys) ≡ or_behind (position p xs) (length xs) (position p ys)
  position_append [] ys = sym (behind_none (position p ys))
  position_append (x ∷ xs) ys =
      position_cons x (xs ++ ys)
      ∙ join_by (p x) (position p xs) (position p ys) (position p (xs ++ ys)) (length xs) (position_append xs ys)
      ∙ ap (λ (o : Option ℕ). or_behind o (suc (length xs)) (position p ys)) (sym (position_cons x xs))

-- ---- areas

module _ (test : AreaDef → Bool) where
  abbrev of_area : Area → Bool
  of_area area = test area.def

  -- the areas of one database have the places of their definitions
  position_from : (dedb number before : ℕ) (areas : List AreaDef)
      → position of_area (areas_from dedb number before areas) ≡ position test areas
  position_from dedb number before [] = refl
  position_from dedb number before (a ∷ others) =
      position_cons of_area (record { dedb = dedb; number = number; first_anchor = before; def = a })
      (areas_from dedb (number + 1) (before + anchors_in a) others)
      ∙ ap (λ (o : Option ℕ). cond (test a) (Some 0) (option_map suc o))
      (position_from dedb (number + 1) (before + anchors_in a) others)
      ∙ sym (position_cons test a others)

  length_from : (dedb number before : ℕ) (areas : List AreaDef)
      → length (areas_from dedb number before areas) ≡ length areas
  length_from dedb number before [] = refl
  length_from dedb number before (a ∷ others) = ap suc (length_from dedb (number + 1) (before + anchors_in a) others)

  -- the place among all areas, database by database
  abbrev pub place_among : List DedbDef → Option ℕ
  place_among [] = None
  place_among (d ∷ ds) = or_behind (position test d.areas) (length d.areas) (place_among ds)

  pub position_of_all : (dedb : ℕ) (ds : List DedbDef) → position of_area (areas_of_all dedb ds) ≡ place_among ds
  position_of_all dedb [] = refl
  position_of_all dedb (d ∷ ds) =
      position_append of_area (areas_from dedb 0 0 d.areas) (areas_of_all (dedb + 1) ds)
      ∙ rw (position_from dedb 0 0 d.areas, length_from dedb 0 0 d.areas, position_of_all (dedb + 1) ds) refl

  pub found_here : (before place : ℕ) (d : DedbDef) (ds : List DedbDef) → position test d.areas ≡ Some place
      → option_map (λ k. before + k) (place_among (d ∷ ds)) ≡ Some (before + place)
  found_here before place d ds is = rw is refl

  pub found_later : (before : ℕ) (d : DedbDef) (ds : List DedbDef) → position test d.areas ≡ None
      → option_map (λ k. before + k) (place_among (d ∷ ds)) ≡ option_map (λ k. before + length d.areas + k)
      (place_among ds)
  found_later before d ds is = rw is (behind_both before (length d.areas) (place_among ds))
