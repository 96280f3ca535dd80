-- An item of an interval of an area fits the definitions that give the areas, and the other way round.
use Rattle.std.proofs.Common.{◌≡◌, ℕ, zero, suc, ◌+◌, ◌-◌, ◌≤◌, false, List, [], ◌∷◌, ◌++◌, length, map, replicate, flat_map, refl, sym, ◌∙◌, ap, subst, arith}
use Rattle.std.specs.Prelude.{Option, Some, None, nat_lt, option_map, slice_get}
use Rattle.std.specs.List.{AllByRecursion}
use Rattle.std.proofs.lemmas.Bool.Decides.{nat_tests}
use Rattle.fp_model.specs.Items.{IsAreaInterval, IsFit, area_sizes}
use Rattle.fp_model.specs.State.{anchors_in, areas_from, first_area_set}
use Rattle.fp_model.specs.declared.definitions.AreaDef.{AreaDef}
use Rattle.fp_model.specs.declared.definitions.DedbDef.{DedbDef}
use Rattle.fp_model.specs.declared.definitions.Defs.{Defs}
use Rattle.fp_model.specs.declared.log.Item.{Item}
use Rattle.fp_model.specs.declared.log.Item.TheVariants.{Segment, Image, Range}
use Rattle.area_states.specs.declared.place.Place.{Place}
use Rattle.area_states.specs.Places.{place_at, place_of, places_from, places_of}
use Rattle.dedb_area.specs.Applying.{IsFitImage, IsFitInterval}
use Rattle.dedb_area.specs.Committing.{IsFitItem}
use Rattle.dedb_area.proofs.AnchorLemmas.{within_areas}
use Rattle.plain_laws.proofs.Alls.{all_weaker}

-- ---- the sizes of the areas' intervals

abbrev size_in : Place → ℕ
size_in place = place.shape.ci

map_more : (xs ys : List Place) → map size_in (xs ++ ys) ≡ map size_in xs ++ map size_in ys
map_more [] ys = refl
map_more (x ∷ xs) ys = ap (λ l. size_in x ∷ l) (map_more xs ys)

own_sizes : (def : DedbDef) (dedb number before : ℕ) (areas : List AreaDef)
    → map size_in (map (place_of def) (areas_from dedb number before areas)) ≡ replicate (length areas) def.ci
own_sizes def dedb number before [] = refl
own_sizes def dedb number before (a ∷ areas) =
    ap (λ l. def.ci ∷ l) (own_sizes def dedb (number + 1) (before + anchors_in a) areas)

all_sizes : (dedb : ℕ) (defs : List DedbDef)
    → map size_in (places_from dedb defs) ≡ flat_map (λ (d : DedbDef). replicate (length d.areas) d.ci) defs
all_sizes dedb [] = refl
all_sizes dedb (d ∷ ds) =
    map_more (map (place_of d) (areas_from dedb 0 0 d.areas)) (places_from (dedb + 1) ds)
    ∙ ap (λ l. l ++ map size_in (places_from (dedb + 1) ds)) (own_sizes d dedb 0 0 d.areas)
    ∙ ap (λ l. replicate (length d.areas) d.ci ++ l) (all_sizes (dedb + 1) ds)

sizes_are : (defs : Defs) → map size_in (places_of defs) ≡ area_sizes defs
sizes_are defs = all_sizes 0 defs.dedbs

size_at : (places : List Place) (n : ℕ) → slice_get (map size_in places) n ≡ option_map size_in (slice_get places n)
size_at [] n = refl
size_at (p ∷ places) zero = refl
size_at (p ∷ places) (suc n) = size_at places n

-- ---- an interval of an area

in_list : (places : List Place) (set : ℕ) → first_area_set ≤ set
    → place_at places set ≡ slice_get places (set - first_area_set)
in_list places set from =
    let test : nat_lt set first_area_set ≡ false = grind (arith, nat_tests, from) in
    rw test refl

pub defined_interval : (defs : Defs) (set ci size : ℕ) → IsFitInterval (places_of defs) set ci size
    → IsAreaInterval defs set ci size
defined_interval defs set ci size fit =
    let from = (within_areas (places_of defs) set fit.place fit.is_place).0 in
    let here : slice_get (places_of defs) (set - first_area_set) ≡ Some fit.place =
    sym (in_list (places_of defs) set from) ∙ fit.is_place in
    record {
      is_area = from;
      has_size = ap (λ l. slice_get l (set - first_area_set)) (sym (sizes_are defs))
          ∙ size_at (places_of defs) (set - first_area_set)
          ∙ ap (option_map size_in) here
          ∙ ap Some (sym fit.is_size);
      end = fit.ends;
    }

sized_place : (o : Option Place) (size : ℕ) → option_map size_in o ≡ Some size
    → (place : Place) × (o ≡ Some place) × (size ≡ place.shape.ci)
sized_place None size e = absurd (cc)
sized_place (Some place) size e = (place, refl, let same : size_in place ≡ size = cc in sym same)

pub interval_of_area : (defs : Defs) (set ci size : ℕ) → IsAreaInterval defs set ci size
    → IsFitInterval (places_of defs) set ci size
interval_of_area defs set ci size fit =
    let found = sized_place (slice_get (places_of defs) (set - first_area_set)) size
    (sym (size_at (places_of defs) (set - first_area_set))
    ∙ ap (λ l. slice_get l (set - first_area_set)) (sizes_are defs) ∙ fit.has_size) in
    record {
      place = found.0;
      is_place = in_list (places_of defs) set fit.is_area ∙ found.1;
      is_size = found.2;
      ends = fit.end;
    }

-- ---- items

defined_item : (defs : Defs) (item : Item) → IsFitItem (places_of defs) item → IsFit defs item
defined_item defs (Segment msdb key bytes) fit = absurd fit
defined_item defs (Image set ci bytes) fit = defined_interval defs set ci (length bytes) fit
defined_item defs (Range set ci at bytes) fit = (fit.0, defined_interval defs set ci fit.0 fit.1, fit.2)

pub defined_items : (defs : Defs) (places : List Place) (items : List Item) → places ≡ places_of defs
    → AllByRecursion (IsFitItem places) items → AllByRecursion (IsFit defs) items
defined_items defs places items e fit =
    all_weaker (IsFitItem (places_of defs)) (IsFit defs) items (defined_item defs)
    (subst (λ ps. AllByRecursion (IsFitItem ps) items) e fit)

fit_image : (defs : Defs) (item : Item) → IsFit defs item → IsFitImage (places_of defs) item
fit_image defs (Segment msdb key bytes) fit = tt
fit_image defs (Image set ci bytes) fit = interval_of_area defs set ci (length bytes) fit
fit_image defs (Range set ci at bytes) fit = tt

pub fit_images : (defs : Defs) (items : List Item) → AllByRecursion (IsFit defs) items
    → AllByRecursion (IsFitImage (places_of defs)) items
fit_images defs items fit = all_weaker (IsFit defs) (IsFitImage (places_of defs)) items (fit_image defs) fit
