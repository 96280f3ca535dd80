-- Areas that are too full, one after another.
use Rattle.std.proofs.Common.{◌≡◌, ℕ, ◌+◌, ◌<◌, List, [], ◌∷◌, ◌++◌, length, drop, get_or, Option, Some, None, refl, sym, ◌∙◌, ap, Bool, true, false, ◌&&◌, nat_lt, slice_get, arith}
use Rattle.std.specs.Prelude.{filter, if◌then◌else◌, is_some, option_map}
use Rattle.std.proofs.lemmas.Bool.Decides.{nat_tests}
use Rattle.fp_model.specs.Commit.{FillsPart, Settlement, ends_at, first_full, is_too_full, takes}
use Rattle.fp_model.specs.State.{Area, anchors_in, areas_from, areas_of_all}
use Rattle.fp_model.specs.declared.calls.SeqInsert.{SeqInsert}
use Rattle.fp_model.specs.declared.database.AreaEnds.{AreaEnds}
use Rattle.fp_model.specs.declared.database.Db.{Db}
use Rattle.fp_model.specs.declared.definitions.AreaDef.{AreaDef}
use Rattle.fp_model.specs.declared.definitions.DedbDef.{DedbDef}
use Rattle.past_anchors.specs.Fullness.{full_as}
use Rattle.past_anchors.specs.inside.Fullness.{full_at}
use Rattle.past_anchors.specs.declared.full.Full.{Full}
use Rattle.past_anchors.proofs.Areas.{all_step, area, areas_step, length_areas}
use Rattle.std.proofs.lemmas.Option.{same_Some, slice_get-get_or, slice_get_within}

-- ---- one area

chosen_none : (b : Bool) (x : Settlement) (rest : Option Settlement) → (if b then Some x else None) ≡ None
    → (if b then Some x else rest) ≡ rest
chosen_none true x rest e = cc
chosen_none false x rest e = refl

chosen_some : (b : Bool) (x y : Settlement) (rest : Option Settlement) → (if b then Some x else None) ≡ Some y
    → (if b then Some x else rest) ≡ Some y
chosen_some true x y rest e = e
chosen_some false x y rest e = cc

module _ (db : Db) (inserts : List SeqInsert) where
  abbrev n_of : Area → ℕ
  n_of a = length (filter (takes a) inserts)

  pub full_later : (set : ℕ) (a : Area) (areas : List Area) → full_at db inserts set a ≡ None
      → first_full db inserts set (a ∷ areas) ≡ first_full db inserts (set + 1) areas
  full_later set a areas e =
      chosen_none (nat_lt 0 (n_of a) && is_too_full a.def.capacity (ends_at db a) (n_of a))
      (FillsPart set (ends_at db a).begin (ends_at db a).end (n_of a)) (first_full db inserts (set + 1) areas) e

  pub full_here : (set : ℕ) (a : Area) (areas : List Area) (s : Settlement) → full_at db inserts set a ≡ Some s
      → first_full db inserts set (a ∷ areas) ≡ Some s
  full_here set a areas s e =
      chosen_some (nat_lt 0 (n_of a) && is_too_full a.def.capacity (ends_at db a) (n_of a))
      (FillsPart set (ends_at db a).begin (ends_at db a).end (n_of a)) s (first_full db inserts (set + 1) areas) e

  -- as the code tells it
  module _ (set : ℕ) (a : Area) (n : ℕ) (ends : AreaEnds) (n_is : n ≡ n_of a) (ends_are : ends ≡ ends_at db a) where
    abbrev by_those : ℕ → AreaEnds → Option Settlement
    by_those k e =
        if nat_lt 0 k && is_too_full a.def.capacity e k then Some (FillsPart set e.begin e.end k) else None

    those : by_those n ends ≡ full_at db inserts set a
    those =
        ap (λ (k : ℕ). by_those k ends) n_is ∙ ap (by_those (n_of a)) ends_are

    pub full_is : 0 < n → is_too_full a.def.capacity ends n ≡ true
        → Some (FillsPart set ends.begin ends.end n) ≡ full_at db inserts set a
    full_is some too = let less : nat_lt 0 n ≡ true = grind (arith, nat_tests) in
        sym (by (nat_lt 0 n) (is_too_full a.def.capacity ends n) less too) ∙ those
      where
        by : (p q : Bool) → p ≡ true → q ≡ true
            → (if p && q then Some (FillsPart set ends.begin ends.end n) else None)
            ≡ Some (FillsPart set ends.begin ends.end n)
        by p q e f = rw (e, f) refl

    pub no_full : is_too_full a.def.capacity ends n ≡ false → None ≡ full_at db inserts set a
    no_full not = sym (by (nat_lt 0 n) (is_too_full a.def.capacity ends n) not) ∙ those
      where
        by : (p q : Bool) → q ≡ false → (if p && q then Some (FillsPart set ends.begin ends.end n) else None) ≡ None
        by true q f = rw f refl
        by false q f = refl

    pub no_inserts : n ≡ 0 → None ≡ full_at db inserts set a
    no_inserts none =
        sym (ap (λ (k : ℕ). if nat_lt 0 k && is_too_full a.def.capacity ends n
        then Some (FillsPart set ends.begin ends.end n) else None) none) ∙ those

  -- ---- those of a database

  -- one step of a walk
  module _ (first_set dedb number before : ℕ) (areas : List AreaDef) (i : ℕ) (x : AreaDef) (k : ℕ)
      (at : slice_get areas i ≡ Some x) (k_is : k ≡ number) where
    less_at : i < length areas
    less_at = slice_get_within areas i x at

    x_is : get_or areas i x ≡ x
    x_is = same_Some (get_or areas i x) x (sym (slice_get-get_or areas i x less_at) ∙ at)

    pub walk_here : (s : Settlement) → Some s ≡ full_at db inserts (first_set + k) (area dedb number before x)
        → Some s ≡ first_full db inserts (first_set + number) (areas_from dedb number before (drop i areas))
    walk_here s e =
        sym (ap (first_full db inserts (first_set + number)) (areas_step dedb number before areas i x less_at)
        ∙ full_here (first_set + number) (area dedb number before (get_or areas i x))
        (areas_from dedb (number + 1) (before + anchors_in (get_or areas i x)) (drop (i + 1) areas)) s
        (ap (λ (d : AreaDef). full_at db inserts (first_set + number) (area dedb number before d)) x_is
        ∙ ap (λ (m : ℕ). full_at db inserts (first_set + m) (area dedb number before x)) (sym k_is) ∙ sym e))

    pub walk_later : (step : ℕ) → step ≡ anchors_in x
        → None ≡ full_at db inserts (first_set + k) (area dedb number before x)
        → first_full db inserts (first_set + (number + 1))
        (areas_from dedb (number + 1) (before + step) (drop (i + 1) areas))
        ≡ first_full db inserts (first_set + number) (areas_from dedb number before (drop i areas))
    walk_later step step_is e =
        let set_is : first_set + (number + 1) ≡ first_set + number + 1 = omega arith in
        let step_at : step ≡ anchors_in (get_or areas i x) = step_is ∙ ap anchors_in (sym x_is) in
        ap (λ (m : ℕ). first_full db inserts m (areas_from dedb (number + 1) (before + step) (drop (i + 1) areas))) set_is
        ∙ ap (λ (m : ℕ). first_full db inserts (first_set + number + 1)
        (areas_from dedb (number + 1) (before + m) (drop (i + 1) areas))) step_at
        ∙ sym (ap (first_full db inserts (first_set + number)) (areas_step dedb number before areas i x less_at)
        ∙ full_later (first_set + number) (area dedb number before (get_or areas i x))
        (areas_from dedb (number + 1) (before + anchors_in (get_or areas i x)) (drop (i + 1) areas))
        (ap (λ (d : AreaDef). full_at db inserts (first_set + number) (area dedb number before d)) x_is
        ∙ ap (λ (m : ℕ). full_at db inserts (first_set + m) (area dedb number before x)) (sym k_is) ∙ sym e))

  -- ---- those of all

  either_none : (b : Bool) (x : Settlement) (set : ℕ) (xs : List Area)
      → (if b then Some x else first_full db inserts set xs) ≡ None
      → (b ≡ false) × (first_full db inserts set xs ≡ None)
  either_none true x set xs e = cc
  either_none false x set xs e = (refl, e)

  none_in_front : (set n : ℕ) (xs ys : List Area) → n ≡ set + length xs → first_full db inserts set xs ≡ None
      → first_full db inserts set (xs ++ ys) ≡ first_full db inserts n ys
  none_in_front set n [] ys is e = ap (λ (k : ℕ). first_full db inserts k ys) (omega (arith, is))
  none_in_front set n (a ∷ xs) ys is e =
      let both = either_none (nat_lt 0 (n_of a) && is_too_full a.def.capacity (ends_at db a) (n_of a))
      (FillsPart set (ends_at db a).begin (ends_at db a).end (n_of a)) (set + 1) xs e in
      rw (both.0) (none_in_front (set + 1) n xs ys (omega (arith, is)) both.1)

  some_by : (b : Bool) (x s : Settlement) (set : ℕ) (xs ys : List Area)
      → (first_full db inserts set xs ≡ Some s → first_full db inserts set (xs ++ ys) ≡ Some s)
      → (if b then Some x else first_full db inserts set xs) ≡ Some s
      → (if b then Some x else first_full db inserts set (xs ++ ys)) ≡ Some s
  some_by true x s set xs ys later e = e
  some_by false x s set xs ys later e = later e

  one_in_front : (set : ℕ) (xs ys : List Area) (s : Settlement) → first_full db inserts set xs ≡ Some s
      → first_full db inserts set (xs ++ ys) ≡ Some s
  one_in_front set [] ys s e = cc
  one_in_front set (a ∷ xs) ys s e =
      some_by (nat_lt 0 (n_of a) && is_too_full a.def.capacity (ends_at db a) (n_of a))
      (FillsPart set (ends_at db a).begin (ends_at db a).end (n_of a)) s (set + 1) xs ys
      (λ f. one_in_front (set + 1) xs ys s f) e

  module _ (set dedb : ℕ) (defs : List DedbDef) (i : ℕ) (d : DedbDef) (areas : List AreaDef) (less : i < length defs)
      (its : areas ≡ (get_or defs i d).areas) where
    here : areas_of_all dedb (drop i defs) ≡ areas_from dedb 0 0 areas ++ areas_of_all (dedb + 1) (drop (i + 1) defs)
    here = all_step dedb defs i d less
        ∙ ap (λ (xs : List AreaDef). areas_from dedb 0 0 xs ++ areas_of_all (dedb + 1) (drop (i + 1) defs)) (sym its)

    pub in_all_here : (o : Option Full) → is_some o ≡ true
        → option_map full_as o ≡ first_full db inserts set (areas_from dedb 0 0 areas)
        → option_map full_as o ≡ first_full db inserts set (areas_of_all dedb (drop i defs))
    in_all_here None some e = cc
    in_all_here (Some full) some e =
        sym (ap (first_full db inserts set) here
        ∙ one_in_front set (areas_from dedb 0 0 areas) (areas_of_all (dedb + 1) (drop (i + 1) defs)) (full_as full)
        (sym e))

    pub in_all_later : (o : Option Full) (n : ℕ) → is_some o ≡ false → n ≡ length areas
        → option_map full_as o ≡ first_full db inserts set (areas_from dedb 0 0 areas)
        → first_full db inserts (set + n) (areas_of_all (dedb + 1) (drop (i + 1) defs))
        ≡ first_full db inserts set (areas_of_all dedb (drop i defs))
    in_all_later (Some full) n none is e = cc
    in_all_later None n none is e =
        sym (ap (first_full db inserts set) here
        ∙ none_in_front set (set + n) (areas_from dedb 0 0 areas) (areas_of_all (dedb + 1) (drop (i + 1) defs))
        (omega (arith, is, length_areas dedb 0 0 areas)) (sym e))

-- no area is too full for no inserts
none_is_full : (db : Db) (set : ℕ) (areas : List Area) → first_full db [] set areas ≡ None
none_is_full db set [] = refl
none_is_full db set (a ∷ areas) = none_is_full db (set + 1) areas

pub none_is_full_of : (db : Db) (inserts : List SeqInsert) (set : ℕ) (areas : List Area) → inserts ≡ []
    → None ≡ first_full db inserts set areas
none_is_full_of db inserts set areas e =
    sym (ap (λ (is : List SeqInsert). first_full db is set areas) e ∙ none_is_full db set areas)
