-- Keys that ascend, and sequential lists that changed roots bring.
use Rattle.std.proofs.Common.{◌≡◌, ◌≢◌, inl, inr, ℕ, ◌+◌, ◌-◌, ◌<◌, true, false, List, [], ◌∷◌, length, map, min, Some, None, Option, refl, sym, ◌∙◌, ap, subst, arith}
use Rattle.std.specs.Prelude.{◌&&◌, ◌==◌, slice_get, unwrap_or}
use Rattle.std.specs.List.{AllByRecursion, list_all}
use Rattle.std.specs.Option.{option_map_or}
use Rattle.std.proofs.lemmas.Bool.{cases_Bool}
use Rattle.std.proofs.lemmas.Bool.Decides.{nat_tests}
use Rattle.fp_model.specs.Commit.{kept_from}
use Rattle.fp_model.specs.declared.calls.AnchorChange.{AnchorChange}
use Rattle.fp_model.specs.declared.calls.SeqInsert.{SeqInsert}
use Rattle.fp_model.specs.declared.database.AreaEnds.{AreaEnds}
use Rattle.fp_model.specs.declared.database.Db.{Db}
use Rattle.fp_model.specs.declared.database.Dedb.{Dedb}
use Rattle.fp_model.specs.declared.database.Root.{Root}
use Rattle.fp_model.specs.declared.definitions.DedbDef.{DedbDef}
use Rattle.fp_model.specs.declared.definitions.Defs.{Defs}
use Rattle.fp_model.specs.declared.definitions.SegDef.{SegDef}
use Rattle.fp_model.specs.Exits.{anchor_of}
use Rattle.fp_model.specs.Order.{root_key}
use Rattle.fp_model.specs.Shape.{IsDbOf, is_anchor, is_root}
use Rattle.fp_model.specs.State.{Area, anchors_in, areas_of, ascend, first_area_set, has_anchor, roots_at}
use Rattle.fp_model.specs.Workspace.{change_precedes}
use Rattle.area_states.specs.declared.place.Place.{Place}
use Rattle.area_states.specs.Places.{has_anchor as lies_in, place_at, places_of}
use Rattle.area_states.specs.States.{AreaState}
use Rattle.area_states.specs.Changes.{AllKeepLists, AreOrdered, HasListOf, KeepsLists, purged, with_change, with_changes, with_insert, with_inserts}
use Rattle.area_states.specs.Databases.{HasAnchorOf, state_of}
use Rattle.area_states.proofs.Changing.{in_area, ordered_insert}
use Rattle.state_laws.specs.Changes.{HasNoneOrNow}
use Rattle.state_laws.specs.Parts.{FitsAnchorChange, changes_ascend}
use Rattle.state_laws.proofs.Areas.{alone}
use Rattle.state_laws.proofs.Stands.{at_area}
use Rattle.root_anchor.specs.Chains.{anchor_count}
use Rattle.area_laws.specs.Areas.{AreSentTo, BringsOrder}
use Rattle.area_laws.proofs.PlaceLemmas.{area_of_place}
use Rattle.state_laws.proofs.Committing.{others_ascend}
use Rattle.plain_laws.proofs.Truths.{first_of_both, second_of_both}
use Rattle.plain_laws.proofs.Alls.{get_contains}
use Rattle.plain_laws.proofs.Places.{get_there}
use Rattle.std.proofs.lemmas.Option.{same_Some}

-- ---- keys

pub shaped_order : (defs : Defs) (set : ℕ) (place : Place) (db : Db) → IsDbOf defs db
    → place_at (places_of defs) set ≡ Some place → AreOrdered place (state_of place db)
shaped_order defs set place db good at =
    let a = area_of_place defs set place at in
    subst (λ (p : Place). AreOrdered p (state_of p db)) (sym a.is_place)
    (λ k lt. own a.area a.def a.defined a.there k lt)
  where
    inside : (area : Area) (k : ℕ) → k < anchors_in area.def → has_anchor (alone area) 0 (area.first_anchor + k) ≡ true
    inside area k lt = grind (arith, nat_tests, lt)

    own : (area : Area) (def : DedbDef) → slice_get defs.dedbs area.dedb ≡ Some def
        → slice_get (areas_of defs) (set - first_area_set) ≡ Some area → (k : ℕ) → k < anchors_in area.def
        → ascend (map (root_key def.segments) (roots_at db area.dedb (area.first_anchor + k))) ≡ true
    own area def defined there k lt =
        let x = at_area defs db good area (get_contains (areas_of defs) (set - first_area_set) area there) in
        let same : x.def ≡ def = same_Some x.def def (sym x.defined ∙ defined) in
        let roots_are : roots_at db area.dedb (area.first_anchor + k)
        ≡ unwrap_or (slice_get x.dedb.anchors (area.first_anchor + k)) [] =
        rw x.now refl in
        let ascends : ascend (map (root_key x.def.segments)
        (unwrap_or (slice_get x.dedb.anchors (area.first_anchor + k)) [])) ≡ true =
        by x.def (slice_get x.dedb.anchors (area.first_anchor + k)) x.ends
        (λ roots e. x.good.each_anchor (alone area) x.ends (area.first_anchor + k) roots x.there x.ends_now
        (inside area k lt) e) in
        subst (λ (d : DedbDef). ascend (map (root_key d.segments) (roots_at db area.dedb (area.first_anchor + k)))
        ≡ true) same (rw roots_are ascends)
      where
        by : (d : DedbDef) (o : Option (List Root)) (ends : AreaEnds)
            → ((roots : List Root) → o ≡ Some roots → is_anchor d (area.first_anchor + k) ends roots ≡ true)
            → ascend (map (root_key d.segments) (unwrap_or o [])) ≡ true
        by d None ends each = refl
        by d (Some roots) ends each =
            second_of_both (list_all (is_root d.segments ends) roots) (ascend (map (root_key d.segments) roots))
            (first_of_both (list_all (is_root d.segments ends) roots && ascend (map (root_key d.segments) roots))
            (list_all (λ root. anchor_of d (root_key d.segments root) == area.first_anchor + k) roots)
            (each roots refl))

all_equal : (def : DedbDef) (anchor : ℕ) (roots : List Root)
    → list_all (λ root. anchor_of def (root_key def.segments root) == anchor) roots ≡ true → AreSentTo def anchor roots
all_equal def anchor [] e = tt
all_equal def anchor (r ∷ roots) e =
    let first = first_of_both (anchor_of def (root_key def.segments r) == anchor)
    (list_all (λ root. anchor_of def (root_key def.segments root) == anchor) roots) e in (
      grind (arith, nat_tests, first),
      all_equal def anchor roots (second_of_both (anchor_of def (root_key def.segments r) == anchor)
          (list_all (λ root. anchor_of def (root_key def.segments root) == anchor) roots) e),
    )

-- a root's key is one that is sent to its anchor
pub shaped_keys : (defs : Defs) (set : ℕ) (place : Place) (db : Db) (def : DedbDef) (number : ℕ) → IsDbOf defs db
    → place_at (places_of defs) set ≡ Some place → slice_get defs.dedbs place.dedb ≡ Some def
    → number < anchor_count place.shape
    → AreSentTo def (place.first_anchor + number) ((state_of place db).roots number)
shaped_keys defs set place db def number good at defined below =
    let a = area_of_place defs set place at in
    let defined2 : slice_get defs.dedbs a.area.dedb ≡ Some def =
    subst (λ (p : Place). slice_get defs.dedbs p.dedb ≡ Some def) a.is_place defined in
    let below2 : number < anchors_in a.area.def =
    subst (λ (p : Place). number < anchor_count p.shape) a.is_place below in
    subst (λ (p : Place). AreSentTo def (p.first_anchor + number) ((state_of p db).roots number)) (sym a.is_place)
    (own a.area defined2 a.there number below2)
  where
    inside : (area : Area) (k : ℕ) → k < anchors_in area.def → has_anchor (alone area) 0 (area.first_anchor + k) ≡ true
    inside area k lt = grind (arith, nat_tests, lt)

    own : (area : Area) → slice_get defs.dedbs area.dedb ≡ Some def
        → slice_get (areas_of defs) (set - first_area_set) ≡ Some area → (k : ℕ) → k < anchors_in area.def
        → AreSentTo def (area.first_anchor + k) (roots_at db area.dedb (area.first_anchor + k))
    own area defined there k lt =
        let x = at_area defs db good area (get_contains (areas_of defs) (set - first_area_set) area there) in
        let same : x.def ≡ def = same_Some x.def def (sym x.defined ∙ defined) in
        let roots_are : roots_at db area.dedb (area.first_anchor + k)
        ≡ unwrap_or (slice_get x.dedb.anchors (area.first_anchor + k)) [] =
        rw x.now refl in
        let sent : AreSentTo x.def (area.first_anchor + k)
        (unwrap_or (slice_get x.dedb.anchors (area.first_anchor + k)) []) =
        by x.def (slice_get x.dedb.anchors (area.first_anchor + k)) x.ends
        (λ roots e. x.good.each_anchor (alone area) x.ends (area.first_anchor + k) roots x.there x.ends_now
        (inside area k lt) e) in
        subst (λ (d : DedbDef). AreSentTo d (area.first_anchor + k)
        (roots_at db area.dedb (area.first_anchor + k))) same
        (subst (AreSentTo x.def (area.first_anchor + k)) (sym roots_are) sent)
      where
        by : (d : DedbDef) (o : Option (List Root)) (ends : AreaEnds)
            → ((roots : List Root) → o ≡ Some roots → is_anchor d (area.first_anchor + k) ends roots ≡ true)
            → AreSentTo d (area.first_anchor + k) (unwrap_or o [])
        by d None ends each = tt
        by d (Some roots) ends each =
            all_equal d (area.first_anchor + k) roots
            (second_of_both (list_all (is_root d.segments ends) roots && ascend (map (root_key d.segments) roots))
            (list_all (λ root. anchor_of d (root_key d.segments root) == area.first_anchor + k) roots)
            (each roots refl))

pub changed_order : (place : Place) (changes : List AnchorChange) (state : AreaState) → AreOrdered place state
    → AllByRecursion (BringsOrder place) changes → AreOrdered place (with_changes place changes state)
changed_order place [] state ordered all = ordered
changed_order place (c ∷ changes) state ordered all =
    changed_order place changes (with_change place state c)
    (elim (cases_Bool (lies_in place c.dedb c.anchor)) [
      | inl is ↦ rw is (λ a lt. elim (cases_Bool (a == c.anchor - place.first_anchor)) [
        | inl it ↦ rw it (all.0 is)
        | inr other ↦ rw other (ordered a lt)
      ])
      | inr outside ↦ rw outside ordered
    ]) all.1

-- inserts and a Purge change no key
pub inserted_order : (place : Place) (inserts : List SeqInsert) (state : AreaState) → AreOrdered place state
    → AreOrdered place (with_inserts place inserts state)
inserted_order place [] state ordered = ordered
inserted_order place (i ∷ inserts) state ordered =
    inserted_order place inserts (with_insert place state i) (ordered_insert place state i ordered)

kept_keys : (types : List SegDef) (begin : ℕ) (roots : List Root)
    → map (root_key types) (map (kept_from begin) roots) ≡ map (root_key types) roots
kept_keys types begin [] = refl
kept_keys types begin (r ∷ roots) = ap (λ ks. root_key types r ∷ ks) (kept_keys types begin roots)

pub purged_order : (place : Place) (n : ℕ) (state : AreaState) → AreOrdered place state
    → AreOrdered place (purged n state)
purged_order place n state ordered anchor lt =
    ap ascend (kept_keys place.segments (min state.end (state.begin + n)) (state.roots anchor)) ∙ ordered anchor lt

-- ---- lists

-- a change behind another is of another anchor
precedes_apart : (c d : AnchorChange) → change_precedes c d ≡ true → c.dedb ≡ d.dedb → c.anchor ≢ d.anchor
precedes_apart c d p e f = grind (arith, nat_tests)

precedes_on : (c d e : AnchorChange) → change_precedes c d ≡ true → change_precedes d e ≡ true
    → change_precedes c e ≡ true
precedes_on c d e p q = grind (arith, nat_tests)

all_behind : (c : AnchorChange) (changes : List AnchorChange) → changes_ascend (c ∷ changes) ≡ true
    → AllByRecursion (λ d. change_precedes c d ≡ true) changes
all_behind c [] e = tt
all_behind c (d ∷ changes) e =
    let first = first_of_both (change_precedes c d) (changes_ascend (d ∷ changes)) e in
    let rest = second_of_both (change_precedes c d) (changes_ascend (d ∷ changes)) e in
    (first, on changes (all_behind d changes rest) first)
  where
    on : (ds : List AnchorChange) → AllByRecursion (λ x. change_precedes d x ≡ true) ds → change_precedes c d ≡ true
        → AllByRecursion (λ x. change_precedes c x ≡ true) ds
    on [] all first = tt
    on (x ∷ ds) all first = (precedes_on c d x first all.0, on ds all.1 first)

-- a state has at the anchors of changes what databases have there
abbrev HaveNow : Place → AreaState → Db → List AnchorChange → Type 0
HaveNow place state db changes =
    AllByRecursion (λ (d : AnchorChange). lies_in place d.dedb d.anchor ≡ true
    → state.roots (d.anchor - place.first_anchor) ≡ roots_at db d.dedb d.anchor) changes

none_or_now : (key : Root → List ℕ) (now roots : List Root) → AllByRecursion (HasNoneOrNow key now) roots
    → AllByRecursion (HasListOf now) roots
none_or_now key now [] all = tt
none_or_now key now (r ∷ roots) all = (one all.0, none_or_now key now roots all.1)
  where
    one : HasNoneOrNow key now r → HasListOf now r
    one (inl none) = inl none
    one (inr found) = inr (found.0, found.1.there, found.1.same_dependents)

keeps_one : (defs : Defs) (db : Db) (place : Place) (state : AreaState) (c : AnchorChange)
    → FitsAnchorChange defs db c → HasAnchorOf db c
    → (lies_in place c.dedb c.anchor ≡ true
    → state.roots (c.anchor - place.first_anchor) ≡ roots_at db c.dedb c.anchor)
    → KeepsLists place state c
keeps_one defs db place state c fit has now is =
    let same : has.dedb ≡ fit.dedb = same_Some has.dedb fit.dedb (sym has.is_dedb ∙ fit.now) in
    let low : c.anchor < length fit.dedb.anchors = subst (λ (d : Dedb). c.anchor < length d.anchors) same has.below in
    let at = get_there fit.dedb.anchors c.anchor low in
    let roots_are : roots_at db c.dedb c.anchor ≡ at.0 =
    ap (λ (o : Option Dedb). option_map_or (λ (d : Dedb). unwrap_or (slice_get d.anchors c.anchor) []) o []) fit.now
    ∙ ap (λ (o : Option (List Root)). unwrap_or o []) at.1 in
    subst (λ (rs : List Root). AllByRecursion (HasListOf rs) c.roots) (sym (now is ∙ roots_are))
    (none_or_now (root_key fit.def.segments) at.0 c.roots (fit.fits.dependents at.0 at.1))

still_now : (place : Place) (state : AreaState) (db : Db) (c : AnchorChange) (changes : List AnchorChange)
    → AllByRecursion (λ d. change_precedes c d ≡ true) changes → HaveNow place state db changes
    → HaveNow place (with_change place state c) db changes
still_now place state db c [] apart have = tt
still_now place state db c (d ∷ changes) apart have =
    (one have.0, still_now place state db c changes apart.1 have.1)
  where
    one : (lies_in place d.dedb d.anchor ≡ true
        → state.roots (d.anchor - place.first_anchor) ≡ roots_at db d.dedb d.anchor)
        → lies_in place d.dedb d.anchor ≡ true
        → (with_change place state c).roots (d.anchor - place.first_anchor) ≡ roots_at db d.dedb d.anchor
    one now is = elim (cases_Bool (lies_in place c.dedb c.anchor)) [
      | inl mine ↦
          let both : c.dedb ≡ d.dedb = grind (arith, nat_tests, mine, is) in
          let ne = precedes_apart c d apart.0 both in
          let a = (in_area place c.dedb c.anchor mine).0 in
          let b = (in_area place d.dedb d.anchor is).0 in
          let other : (d.anchor - place.first_anchor == c.anchor - place.first_anchor) ≡ false =
          grind (arith, nat_tests, ne, a, b) in
          rw mine (rw other (now is))
      | inr outside ↦ rw outside (now is)
    ]

keeps_all : (defs : Defs) (db : Db) (place : Place) (changes : List AnchorChange) (state : AreaState)
    → AllByRecursion (FitsAnchorChange defs db) changes → AllByRecursion (HasAnchorOf db) changes
    → changes_ascend changes ≡ true → HaveNow place state db changes → AllKeepLists place state changes
keeps_all defs db place [] state fit has order now = tt
keeps_all defs db place (c ∷ changes) state fit has order now = (
  keeps_one defs db place state c fit.0 has.0 now.0,
  keeps_all defs db place changes (with_change place state c) fit.1 has.1 (others_ascend c changes order)
      (still_now place state db c changes (all_behind c changes order) now.1),
)

have_now : (place : Place) (db : Db) (changes : List AnchorChange) → HaveNow place (state_of place db) db changes
have_now place db [] = tt
have_now place db (d ∷ changes) = (one, have_now place db changes)
  where
    one : lies_in place d.dedb d.anchor ≡ true
        → roots_at db place.dedb (place.first_anchor + (d.anchor - place.first_anchor)) ≡ roots_at db d.dedb d.anchor
    one is =
        let same : place.dedb ≡ d.dedb = grind (arith, nat_tests, is) in
        let low = (in_area place d.dedb d.anchor is).0 in
        let number : place.first_anchor + (d.anchor - place.first_anchor) ≡ d.anchor = omega (arith, low) in
        ap (λ (n : ℕ). roots_at db n (place.first_anchor + (d.anchor - place.first_anchor))) same
        ∙ ap (roots_at db d.dedb) number

pub fit_changes_keep_lists : (defs : Defs) (db : Db) (place : Place) (changes : List AnchorChange)
    → AllByRecursion (FitsAnchorChange defs db) changes → AllByRecursion (HasAnchorOf db) changes
    → changes_ascend changes ≡ true → AllKeepLists place (state_of place db) changes
fit_changes_keep_lists defs db place changes fit has order =
    keeps_all defs db place changes (state_of place db) fit has order (have_now place db changes)
