-- Changed anchors in the databases and in an area.
use Rattle.std.proofs.Common.{◌≡◌, ◌≢◌, inl, inr, ℕ, zero, suc, ◌+◌, ◌-◌, ◌<◌, true, false, List, [], ◌∷◌, length, refl, sym, ◌∙◌, ap, subst, arith}
use Rattle.std.specs.Prelude.{◌==◌, Option, Some, slice_get, slice_set, unwrap_or}
use Rattle.std.specs.Option.{option_map_or}
use Rattle.std.specs.List.{AllByRecursion}
use Rattle.std.proofs.lemmas.Bool.{cases_Bool, cases_eq}
use Rattle.std.proofs.lemmas.Bool.Decides.{nat_tests}
use Rattle.fp_model.specs.declared.calls.AnchorChange.{AnchorChange}
use Rattle.fp_model.specs.declared.database.AreaEnds.{AreaEnds}
use Rattle.fp_model.specs.declared.database.Root.{Root}
use Rattle.fp_model.specs.declared.database.Dedb.{Dedb}
use Rattle.fp_model.specs.declared.database.Db.{Db}
use Rattle.fp_model.specs.State.{first_ends, roots_at, with_roots}
use Rattle.fp_model.specs.Commit.{with_anchors}
use Rattle.area_states.specs.declared.place.Place.{Place}
use Rattle.area_states.specs.Places.{has_anchor}
use Rattle.area_states.specs.States.{AreaState, SameState}
use Rattle.area_states.specs.Changes.{with_change, with_changes}
use Rattle.area_states.specs.Databases.{HasAnchorOf, ends_in, state_of}
use Rattle.area_states.proofs.Changing.{in_area}
use Rattle.plain_laws.proofs.Places.{get_set, length_set}
use Rattle.std.proofs.lemmas.Option.{slice_get_within}

get_other : {X : Type 0} (xs : List X) (i k : ℕ) (a : X) → k ≢ i → slice_get (slice_set xs i a) k ≡ slice_get xs k
get_other [] i k a ne = refl
get_other (x ∷ xs) zero zero a ne = absurd (ne refl)
get_other (x ∷ xs) zero (suc k) a ne = refl
get_other (x ∷ xs) (suc i) zero a ne = refl
get_other (x ∷ xs) (suc i) (suc k) a ne = get_other xs i k a (λ e. ne (ap suc e))

abbrev pub roots_in : ℕ → Option Dedb → List Root
roots_in anchor o = option_map_or (λ (d : Dedb). unwrap_or (slice_get d.anchors anchor) []) o []

abbrev pub ends_of : ℕ → Option Dedb → AreaEnds
ends_of number o = option_map_or (λ (d : Dedb). unwrap_or (slice_get d.areas number) first_ends) o first_ends

-- one changed anchor
module _ (db : Db) (c : AnchorChange) (has : HasAnchorOf db c) where
  abbrev pub other : Dedb
  other = record has.dedb { anchors = slice_set has.dedb.anchors c.anchor c.roots }

  abbrev pub after : Db
  after = with_roots c.dedb c.anchor c.roots db

  dedbs_are : after.dedbs ≡ slice_set db.dedbs c.dedb other
  dedbs_are = ap (λ o. option_map_or
      (λ (d : Dedb). slice_set db.dedbs c.dedb (record d { anchors = slice_set d.anchors c.anchor c.roots })) o
      db.dedbs) has.is_dedb

  here : slice_get after.dedbs c.dedb ≡ Some other
  here = ap (λ l. slice_get l c.dedb) dedbs_are
      ∙ get_set db.dedbs c.dedb other (slice_get_within db.dedbs c.dedb has.dedb has.is_dedb)

  elsewhere : (k : ℕ) → k ≢ c.dedb → slice_get after.dedbs k ≡ slice_get db.dedbs k
  elsewhere k ne = ap (λ l. slice_get l k) dedbs_are ∙ get_other db.dedbs c.dedb k other ne

  its_roots : roots_at after c.dedb c.anchor ≡ c.roots
  its_roots = ap (roots_in c.anchor) here
      ∙ ap (λ o. unwrap_or o []) (get_set has.dedb.anchors c.anchor c.roots has.below)

  other_roots : (dedb anchor : ℕ) → (dedb ≡ c.dedb → anchor ≢ c.anchor)
      → roots_at after dedb anchor ≡ roots_at db dedb anchor
  other_roots dedb anchor ne = elim (cases_eq dedb c.dedb) [
    | inl e ↦
        ap (λ d. roots_at after d anchor) e ∙ ap (roots_in anchor) here
        ∙ ap (λ o. unwrap_or o []) (get_other has.dedb.anchors c.anchor anchor c.roots (ne e))
        ∙ sym (ap (roots_in anchor) has.is_dedb) ∙ ap (λ d. roots_at db d anchor) (sym e)
    | inr far ↦ ap (roots_in anchor) (elsewhere dedb far)
  ]

  same_ends : (place : Place) → ends_in after place ≡ ends_in db place
  same_ends place = elim (cases_eq place.dedb c.dedb) [
    | inl e ↦
        ap (λ k. ends_of place.number (slice_get after.dedbs k)) e ∙ ap (ends_of place.number) here
        ∙ sym (ap (ends_of place.number) has.is_dedb)
        ∙ ap (λ k. ends_of place.number (slice_get db.dedbs k)) (sym e)
    | inr far ↦ ap (ends_of place.number) (elsewhere place.dedb far)
  ]

  still_has : (d : AnchorChange) → HasAnchorOf db d → HasAnchorOf after d
  still_has d it = elim (cases_eq d.dedb c.dedb) [
    | inl e ↦
        let both : Some it.dedb ≡ Some has.dedb = sym it.is_dedb ∙ ap (λ k. slice_get db.dedbs k) e ∙ has.is_dedb in
        let same : it.dedb ≡ has.dedb = cc in
        let long = length_set has.dedb.anchors c.anchor c.roots in
        let below : d.anchor < length has.dedb.anchors =
        subst (λ (x : Dedb). d.anchor < length x.anchors) same it.below in
        record {
          dedb = other;
          is_dedb = ap (λ k. slice_get after.dedbs k) e ∙ here;
          below = omega (arith, long, below);
        }
    | inr far ↦ record { dedb = it.dedb; is_dedb = elsewhere d.dedb far ∙ it.is_dedb; below = it.below }
  ]

  -- what the area has of it
  one_changed : (place : Place) → SameState place (with_change place (state_of place db) c) (state_of place after)
  one_changed place = record {
    roots = λ a lt. elim (cases_Bool (has_anchor place c.dedb c.anchor)) [
      | inl is ↦ elim (cases_eq (place.first_anchor + a) c.anchor) [
        | inl e ↦
            let low = (in_area place c.dedb c.anchor is).0 in
            let same : c.dedb ≡ place.dedb = grind (arith, nat_tests, is) in
            let it : (a == c.anchor - place.first_anchor) ≡ true = grind (arith, nat_tests, e, low) in
            rw (is, it) (sym (ap (λ x. roots_at after x (place.first_anchor + a)) (sym same)
            ∙ ap (λ x. roots_at after c.dedb x) e ∙ its_roots))
        | inr ne ↦
            let low = (in_area place c.dedb c.anchor is).0 in
            let not : (a == c.anchor - place.first_anchor) ≡ false = grind (arith, nat_tests, ne, low) in
            rw (is, not) (sym (other_roots place.dedb (place.first_anchor + a) (λ d. ne)))
      ]
      | inr outside ↦
          let apart : place.dedb ≡ c.dedb → place.first_anchor + a ≢ c.anchor =
          λ d e. (grind (arith, nat_tests, outside, lt)) in
          rw outside (sym (other_roots place.dedb (place.first_anchor + a) apart))
    ];
    begin = elim (cases_Bool (has_anchor place c.dedb c.anchor)) [
      | inl is ↦ rw is (ap (λ e. e.begin) (sym (same_ends place)))
      | inr outside ↦ rw outside (ap (λ e. e.begin) (sym (same_ends place)))
    ];
    end = elim (cases_Bool (has_anchor place c.dedb c.anchor)) [
      | inl is ↦ rw is (ap (λ e. e.end) (sym (same_ends place)))
      | inr outside ↦ rw outside (ap (λ e. e.end) (sym (same_ends place)))
    ];
  }

still_have : (db : Db) (c : AnchorChange) (has : HasAnchorOf db c) (cs : List AnchorChange)
    → AllByRecursion (HasAnchorOf db) cs → AllByRecursion (HasAnchorOf (with_roots c.dedb c.anchor c.roots db)) cs
still_have db c has [] all = tt
still_have db c has (d ∷ cs) all = (still_has db c has d all.0, still_have db c has cs all.1)

-- the same state gives the same behind a change
same_change : (place : Place) (c : AnchorChange) (a b : AreaState) → SameState place a b
    → SameState place (with_change place a c) (with_change place b c)
same_change place c a b same = elim (cases_Bool (has_anchor place c.dedb c.anchor)) [
  | inl is ↦ rw is (record {
    roots = λ k lt. elim (cases_Bool (k == c.anchor - place.first_anchor)) [
      | inl it ↦ rw it refl
      | inr other ↦ rw other (same.roots k lt)
    ];
    begin = same.begin;
    end = same.end;
  })
  | inr outside ↦ rw outside same
]

pub same_changes : (place : Place) (cs : List AnchorChange) (a b : AreaState) → SameState place a b
    → SameState place (with_changes place cs a) (with_changes place cs b)
same_changes place [] a b same = same
same_changes place (c ∷ cs) a b same =
    same_changes place cs (with_change place a c) (with_change place b c) (same_change place c a b same)

-- and a list of them
pub all_changed : (place : Place) (cs : List AnchorChange) (db : Db) → AllByRecursion (HasAnchorOf db) cs
    → SameState place (with_changes place cs (state_of place db)) (state_of place (with_anchors cs db))
all_changed place [] db all = record { roots = λ a lt. refl; begin = refl; end = refl }
all_changed place (c ∷ cs) db all =
    let first = same_changes place cs (with_change place (state_of place db) c)
    (state_of place (with_roots c.dedb c.anchor c.roots db)) (one_changed db c all.0 place) in
    let rest = all_changed place cs (with_roots c.dedb c.anchor c.roots db) (still_have db c all.0 cs all.1) in
    record {
      roots = λ a lt. first.roots a lt ∙ rest.roots a lt;
      begin = first.begin ∙ rest.begin;
      end = first.end ∙ rest.end;
    }
