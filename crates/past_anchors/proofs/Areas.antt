-- Areas of definitions: a walk over those of a database, and over those of all.
use Rattle.std.proofs.Common.{◌≡◌, ℕ, zero, suc, ◌+◌, ◌-◌, ◌<◌, ◌≤◌, List, [], ◌∷◌, ◌++◌, length, take, drop, get_or, Option, Some, None, refl, sym, ◌∙◌, ap, subst, Bool, true, false, ◌==◌, nat_lt, slice_get, arith}
use Rattle.std.specs.Prelude.{find, sum_by}
use Rattle.std.specs.List.{AllByRecursion}
use Rattle.std.specs.Option.{option_or}
use Rattle.std.proofs.lemmas.Bool.Decides.{nat_tests}
use Rattle.std.proofs.lemmas.List.Folds.{find-append}
use Rattle.std.proofs.lemmas.List.Sums.{sum_by-cons}
use Rattle.fp_model.specs.Commit.{area_of_set}
use Rattle.fp_model.specs.State.{Area, anchors_in, areas_from, areas_of, areas_of_all, has_anchor}
use Rattle.fp_model.specs.WellFormed.{IsDedbDef}
use Rattle.fp_model.specs.declared.definitions.AreaDef.{AreaDef}
use Rattle.fp_model.specs.declared.definitions.DedbDef.{DedbDef}
use Rattle.fp_model.specs.declared.definitions.Defs.{Defs}
use Rattle.past_anchors.specs.inside.Places.{AreFew}
use Rattle.past_anchors.proofs.Lists.{all_at, drop_more, get_right}
use Rattle.plain_laws.proofs.Places.{get_left}

-- ---- those of a database

abbrev pub area : ℕ → ℕ → ℕ → AreaDef → Area
area dedb number before def = record { dedb = dedb; number = number; first_anchor = before; def = def }

pub areas_step : (dedb number before : ℕ) (areas : List AreaDef) (i : ℕ) (d : AreaDef) → i < length areas
    → areas_from dedb number before (drop i areas) ≡ area dedb number before (get_or areas i d)
    ∷ areas_from dedb (number + 1) (before + anchors_in (get_or areas i d)) (drop (i + 1) areas)
areas_step dedb number before areas i d less = ap (areas_from dedb number before) (drop_more areas i d less)

pub sum_step : (areas : List AreaDef) (i : ℕ) (d : AreaDef) → i < length areas
    → sum_by anchors_in (drop i areas) ≡ anchors_in (get_or areas i d) + sum_by anchors_in (drop (i + 1) areas)
sum_step areas i d less = ap (sum_by anchors_in) (drop_more areas i d less)
    ∙ sum_by-cons anchors_in (get_or areas i d) (drop (i + 1) areas)

module _ (p : Area → Bool) (dedb number before : ℕ) (areas : List AreaDef) (i : ℕ) (d : AreaDef)
    (less : i < length areas) where
  pub find_here : p (area dedb number before (get_or areas i d)) ≡ true
      → find p (areas_from dedb number before (drop i areas)) ≡ Some (area dedb number before (get_or areas i d))
  find_here e = ap (find p) (areas_step dedb number before areas i d less) ∙ rw e refl

  pub find_later : p (area dedb number before (get_or areas i d)) ≡ false
      → find p (areas_from dedb number before (drop i areas))
      ≡ find p (areas_from dedb (number + 1) (before + anchors_in (get_or areas i d)) (drop (i + 1) areas))
  find_later e = ap (find p) (areas_step dedb number before areas i d less) ∙ rw e refl

pub length_areas : (dedb number before : ℕ) (areas : List AreaDef) → length (areas_from dedb number before areas)
    ≡ length areas
length_areas dedb number before [] = refl
length_areas dedb number before (a ∷ areas) = ap suc (length_areas dedb (number + 1) (before + anchors_in a) areas)

-- the area of a number
pub get_area : (dedb number before : ℕ) (areas : List AreaDef) (k n first : ℕ) (d : AreaDef) → k < length areas
    → n ≡ number + k → first ≡ before + sum_by anchors_in (take k areas)
    → slice_get (areas_from dedb number before areas) k ≡ Some (area dedb n first (get_or areas k d))
get_area dedb number before [] k n first d less is at = absurd (omega (arith, less))
get_area dedb number before (a ∷ areas) zero n first d less is at =
    let same : number ≡ n = omega (arith, is) in
    let there : before ≡ first = omega (arith, at) in
    cc
get_area dedb number before (a ∷ areas) (suc k) n first d less is at =
    get_area dedb (number + 1) (before + anchors_in a) areas k n first d (omega (arith, less)) (omega (arith, is))
    (omega (arith, at, sum_by-cons anchors_in a (take k areas)))

-- ---- those of all databases

pub all_step : (dedb : ℕ) (defs : List DedbDef) (i : ℕ) (d : DedbDef) → i < length defs
    → areas_of_all dedb (drop i defs)
    ≡ areas_from dedb 0 0 (get_or defs i d).areas ++ areas_of_all (dedb + 1) (drop (i + 1) defs)
all_step dedb defs i d less = ap (areas_of_all dedb) (drop_more defs i d less)

pub in_first : (dedb : ℕ) (defs : List DedbDef) (i k : ℕ) (d : DedbDef) → i < length defs
    → k < length (get_or defs i d).areas
    → slice_get (areas_of_all dedb (drop i defs)) k ≡ slice_get (areas_from dedb 0 0 (get_or defs i d).areas) k
in_first dedb defs i k d less within =
    ap (λ (xs : List Area). slice_get xs k) (all_step dedb defs i d less)
    ∙ get_left (areas_from dedb 0 0 (get_or defs i d).areas) (areas_of_all (dedb + 1) (drop (i + 1) defs)) k
    (omega (arith, within, length_areas dedb 0 0 (get_or defs i d).areas))

pub in_later : (dedb : ℕ) (defs : List DedbDef) (i k : ℕ) (d : DedbDef) → i < length defs
    → length (get_or defs i d).areas ≤ k
    → slice_get (areas_of_all dedb (drop i defs)) k
    ≡ slice_get (areas_of_all (dedb + 1) (drop (i + 1) defs)) (k - length (get_or defs i d).areas)
in_later dedb defs i k d less past =
    ap (λ (xs : List Area). slice_get xs k) (all_step dedb defs i d less)
    ∙ get_right (areas_from dedb 0 0 (get_or defs i d).areas) (areas_of_all (dedb + 1) (drop (i + 1) defs)) k
    (length (get_or defs i d).areas) (sym (length_areas dedb 0 0 (get_or defs i d).areas)) past

-- the area of a data set
module _ (defs : Defs) (dedb i k set : ℕ) (d : DedbDef) (areas : List AreaDef) (from : 3 ≤ set)
    (less : i < length defs.dedbs) (its : areas ≡ (get_or defs.dedbs i d).areas)
    (inv : slice_get (areas_of_all dedb (drop i defs.dedbs)) k ≡ slice_get (areas_of defs) (set - 3)) where
  there_is : slice_get (areas_of defs) (set - 3) ≡ area_of_set defs set
  there_is = let not : nat_lt set 3 ≡ false = grind (arith, nat_tests) in rw not refl

  pub set_found : (a : Area) (n : ℕ) → n ≡ k → k < length areas → slice_get (areas_from dedb 0 0 areas) n ≡ Some a
      → Some a ≡ area_of_set defs set
  set_found a n is within at =
      sym at ∙ ap (λ (m : ℕ). slice_get (areas_from dedb 0 0 areas) m) is
      ∙ ap (λ (xs : List AreaDef). slice_get (areas_from dedb 0 0 xs) k) its
      ∙ sym (in_first dedb defs.dedbs i k d less
      (subst (λ (xs : List AreaDef). k < length xs) its within)) ∙ inv ∙ there_is

  pub set_later : (n : ℕ) → n ≡ length areas → n ≤ k
      → slice_get (areas_of_all (dedb + 1) (drop (i + 1) defs.dedbs)) (k - n) ≡ slice_get (areas_of defs) (set - 3)
  set_later n is past =
      let long : n ≡ length (get_or defs.dedbs i d).areas = is ∙ ap length its in
      ap (λ (m : ℕ). slice_get (areas_of_all (dedb + 1) (drop (i + 1) defs.dedbs)) (k - m)) long
      ∙ sym (in_later dedb defs.dedbs i k d less (omega (arith, long, past))) ∙ inv

-- ---- definitions that were read

pub are_few : (defs : List DedbDef) (i : ℕ) (d : DedbDef) → AllByRecursion IsDedbDef defs → i < length defs
    → AreFew (get_or defs i d).areas
are_few defs i d good less =
    let its : IsDedbDef (get_or defs i d) = all_at IsDedbDef defs i d good less in
    record { count = its.areas.1; anchors = its.anchors }

-- ---- the area that has an anchor

not_equal : (a b : ℕ) → a < b → (a == b) ≡ false
not_equal a b less = grind arith

pub not_equal_back : (a b : ℕ) → b < a → (a == b) ≡ false
not_equal_back a b less = grind arith

-- none of another database
none_there : (dedb number before : ℕ) (areas : List AreaDef) (other anchor : ℕ) → (dedb == other) ≡ false
    → find (λ a. has_anchor a other anchor) (areas_from dedb number before areas) ≡ None
none_there dedb number before [] other anchor e = refl
none_there dedb number before (a ∷ areas) other anchor e =
    rw e (none_there dedb (number + 1) (before + anchors_in a) areas other anchor e)

none_later : (dedb : ℕ) (defs : List DedbDef) (other anchor : ℕ) → other < dedb
    → find (λ a. has_anchor a other anchor) (areas_of_all dedb defs) ≡ None
none_later dedb [] other anchor less = refl
none_later dedb (d ∷ defs) other anchor less =
    find-append (λ a. has_anchor a other anchor) (areas_from dedb 0 0 d.areas) (areas_of_all (dedb + 1) defs)
    ∙ ap (λ o. option_or o (find (λ a. has_anchor a other anchor) (areas_of_all (dedb + 1) defs)))
    (none_there dedb 0 0 d.areas other anchor (not_equal_back dedb other less))
    ∙ none_later (dedb + 1) defs other anchor (omega (arith, less))

or_none : {X : Type 0} (o : Option X) → option_or o None ≡ o
or_none None = refl
or_none (Some x) = refl

-- it is one of its database
pub found_in : (dedb : ℕ) (defs : List DedbDef) (n k : ℕ) (def : DedbDef) (anchor : ℕ) → n ≡ dedb + k
    → slice_get defs k ≡ Some def
    → find (λ a. has_anchor a n anchor) (areas_of_all dedb defs) ≡ find (λ a. has_anchor a n anchor)
    (areas_from n 0 0 def.areas)
found_in dedb [] n k def anchor is at = cc
found_in dedb (d ∷ defs) n zero def anchor is at =
    let same : dedb ≡ n = omega (arith, is) in
    let its : d.areas ≡ def.areas = cc in
    find-append (λ a. has_anchor a n anchor) (areas_from dedb 0 0 d.areas) (areas_of_all (dedb + 1) defs)
    ∙ ap (λ o. option_or (find (λ a. has_anchor a n anchor) (areas_from dedb 0 0 d.areas)) o)
    (none_later (dedb + 1) defs n anchor (omega (arith, is)))
    ∙ or_none (find (λ a. has_anchor a n anchor) (areas_from dedb 0 0 d.areas))
    ∙ ap (λ (m : ℕ). find (λ a. has_anchor a n anchor) (areas_from m 0 0 d.areas)) same
    ∙ ap (λ (areas : List AreaDef). find (λ a. has_anchor a n anchor) (areas_from n 0 0 areas)) its
found_in dedb (d ∷ defs) n (suc k) def anchor is at =
    find-append (λ a. has_anchor a n anchor) (areas_from dedb 0 0 d.areas) (areas_of_all (dedb + 1) defs)
    ∙ ap (λ o. option_or o (find (λ a. has_anchor a n anchor) (areas_of_all (dedb + 1) defs)))
    (none_there dedb 0 0 d.areas n anchor (not_equal dedb n (omega (arith, is))))
    ∙ found_in (dedb + 1) defs n k def anchor (omega (arith, is)) at

-- none where there is no such database
pub found_nowhere : (dedb : ℕ) (defs : List DedbDef) (n anchor : ℕ) → dedb + length defs ≤ n
    → find (λ a. has_anchor a n anchor) (areas_of_all dedb defs) ≡ None
found_nowhere dedb [] n anchor past = refl
found_nowhere dedb (d ∷ defs) n anchor past =
    find-append (λ a. has_anchor a n anchor) (areas_from dedb 0 0 d.areas) (areas_of_all (dedb + 1) defs)
    ∙ ap (λ o. option_or o (find (λ a. has_anchor a n anchor) (areas_of_all (dedb + 1) defs)))
    (none_there dedb 0 0 d.areas n anchor (not_equal dedb n (omega (arith, past))))
    ∙ found_nowhere (dedb + 1) defs n anchor (omega (arith, past))
