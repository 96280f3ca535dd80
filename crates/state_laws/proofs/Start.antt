-- The start: what is loaded ascends by key, and what is formatted is empty.
use Rattle.std.proofs.Common.{◌≡◌, ℕ, zero, suc, List, [], ◌∷◌, map, length, take, drop, replicate, Some, refl, sym, subst, Bool, true, false, ◌||◌, ◌==◌, slice_get, arith}
use Rattle.std.specs.Prelude.{fold, flat_map, nat_le, nat_lt}
use Rattle.std.specs.List.{AllByRecursion, AllZip, IsDistinct}
use Rattle.std.proofs.lemmas.Map.Keys.{IsDistinct-head, IsDistinct-tail}
use Rattle.std.proofs.lemmas.Bool.Decides.{nat_tests}
use Rattle.std.proofs.lemmas.Grind.{common_steps}
use Rattle.fp_model.specs.declared.database.AreaEnds.{AreaEnds}
use Rattle.fp_model.specs.declared.database.Root.{Root}
use Rattle.fp_model.specs.declared.definitions.AreaDef.{AreaDef}
use Rattle.fp_model.specs.declared.definitions.DedbDef.{DedbDef}
use Rattle.fp_model.specs.declared.definitions.Defs.{Defs}
use Rattle.fp_model.specs.declared.definitions.MsdbDef.{MsdbDef}
use Rattle.fp_model.specs.CheckpointText.{IsMsdbOf}
use Rattle.fp_model.specs.Shape.{IsDbOf, IsDedbOf, are_ends, is_anchor}
use Rattle.fp_model.specs.State.{anchors_in, anchor_count, first_ends, formatted, key_of, loaded, put_by_key, start}
use Rattle.fp_model.specs.Texts.{same_text}
use Rattle.fp_model.specs.WellFormed.{AreDefs, IsLoaded, IsMsdbDef}
use Rattle.key_order.proofs.Ascending.{all_put, put_ascends}

-- ---- main storage databases

-- no segment has the key of one that is left to load
abbrev AreOthers : (List ℕ → List ℕ) → List (List ℕ) → List (List ℕ) → Type 0
AreOthers key segments rest = AllByRecursion (λ r. AllByRecursion (λ y. same_text (key y) (key r) ≡ false) segments)
    rest

still_others : (key : List ℕ → List ℕ) (s : List ℕ) (segments rest : List (List ℕ))
    → AllByRecursion (λ k. same_text (key s) k ≡ false) (map key rest) → AreOthers key segments rest
    → AreOthers key (put_by_key key s segments) rest
still_others key s segments [] head others = tt
still_others key s segments (r ∷ rest) head others = (
  all_put key (λ y. same_text (key y) (key r) ≡ false) s segments head.0 others.0,
  still_others key s segments rest head.1 others.1,
)

no_others : (key : List ℕ → List ℕ) (rest : List (List ℕ)) → AreOthers key [] rest
no_others key [] = tt
no_others key (r ∷ rest) = (tt, no_others key rest)

-- segments that are loaded one after another
loading : (def : MsdbDef) (segments rest : List (List ℕ)) → IsMsdbOf def (record { segments = segments })
    → AllByRecursion (IsLoaded def) rest
    → IsDistinct same_text (map (key_of def.fields) rest) → AreOthers (key_of def.fields) segments rest
    → IsMsdbOf def (record {
      segments = fold (λ (ss : List (List ℕ)) s. put_by_key (key_of def.fields) s ss) segments
          rest;
    })
loading def segments [] good loads distinct others = good
loading def segments (s ∷ rest) good loads distinct others =
    let key : List ℕ → List ℕ = key_of def.fields in
    loading def (put_by_key key s segments) rest
    (record {
      lengths = all_put key (λ y. length y ≡ def.length) s segments loads.0.whole good.lengths;
      in_order = put_ascends key s segments good.in_order others.0;
    })
    loads.1 (IsDistinct-tail same_text (key s) (map key rest) distinct)
    (still_others key s segments rest (IsDistinct-head same_text (key s) (map key rest) distinct) others.1)

pub loaded_good : (def : MsdbDef) → IsMsdbDef def → IsMsdbOf def (loaded def)
loaded_good def is = loading def [] def.load (record { lengths = tt; in_order = refl }) is.loaded is.keys
    (no_others (key_of def.fields) def.load)

all_loaded : (defs : List MsdbDef) → AllByRecursion IsMsdbDef defs → AllZip IsMsdbOf defs (map loaded defs)
all_loaded [] all = tt
all_loaded (def ∷ defs) all = (loaded_good def all.0, all_loaded defs all.1)

-- ---- data entry databases

first_ends_good : (capacity : ℕ) → are_ends capacity first_ends ≡ true
first_ends_good capacity = let low : nat_le 0 capacity ≡ true = grind (arith, nat_tests) in
    rw low (by (nat_lt 0 capacity))
  where
    by : (b : Bool) → (b || true) ≡ true
    by true = refl
    by false = refl

all_first_ends : (areas : List AreaDef) → AllZip (λ (area : AreaDef) (ends : AreaEnds). are_ends area.capacity ends ≡
    true) areas (map (λ (area : AreaDef). first_ends) areas)
all_first_ends [] = tt
all_first_ends (area ∷ areas) = (first_ends_good area.capacity, all_first_ends areas)

all_empty : (n : ℕ) → length (replicate {A = List Root} n []) ≡ n
all_empty n = grind (arith, common_steps)

empty_at : (n at : ℕ) (roots : List Root) → slice_get (replicate n []) at ≡ Some roots → roots ≡ []
empty_at zero at roots e = cc
empty_at (suc n) zero roots e = cc
empty_at (suc n) (suc at) roots e = empty_at n at roots e

formatted_good : (def : DedbDef) → IsDedbOf def (formatted def)
unfolding IsDistinct
formatted_good def = record {
  anchors = all_empty (anchor_count def);
  areas = all_first_ends def.areas;
  each_anchor = λ area ends anchor roots there at has is.
      subst (λ (rs : List Root). is_anchor def anchor ends rs ≡ true)
      (sym (empty_at (anchor_count def) anchor roots is)) refl;
  serials = λ area there. subst (IsDistinct ◌==◌) (sym
      (no_serials (anchors_in area.def) area.first_anchor (anchor_count def))) tt;
}
  where
    no_serials : (own first n : ℕ) → flat_map (λ (roots : List Root). flat_map
        (λ (root : Root). map (λ item. item.serial) root.seqs) roots) (take own (drop first (replicate n []))) ≡ []
    no_serials zero first n = refl
    no_serials (suc own) zero zero = refl
    no_serials (suc own) zero (suc n) = no_serials own zero n
    no_serials (suc own) (suc first) zero = refl
    no_serials (suc own) (suc first) (suc n) = no_serials (suc own) first n

pub all_formatted : (defs : List DedbDef) → AllZip IsDedbOf defs (map formatted defs)
all_formatted [] = tt
all_formatted (def ∷ defs) = (formatted_good def, all_formatted defs)

pub start_good : (defs : Defs) → AreDefs defs → IsDbOf defs (start defs)
start_good defs are = record { msdbs = all_loaded defs.msdbs are.each_msdb; dedbs = all_formatted defs.dedbs }
