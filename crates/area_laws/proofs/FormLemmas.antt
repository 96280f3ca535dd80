-- Roots in shape may be stored: their rows are in form.
use Rattle.std.proofs.Common.{◌≡◌, inl, inr, ℕ, suc, ◌+◌, ◌-◌, ◌<◌, Bool, true, false, List, [], ◌∷◌, length, map, Some, None, Option, refl, sym, ◌∙◌, ap, subst, arith}
use Rattle.std.specs.Prelude.{Contains, ◌&&◌, ◌==◌, nat_lt, slice_get}
use Rattle.std.specs.List.{AllByRecursion, list_all, position_or_len}
use Rattle.std.specs.Option.{option_map_or}
use Rattle.std.proofs.lemmas.Bool.{cases_Bool, and_from}
use Rattle.std.proofs.lemmas.Bool.Decides.{nat_tests}
use Rattle.fp_model.specs.declared.calls.AnchorChange.{AnchorChange}
use Rattle.fp_model.specs.declared.calls.SeqInsert.{SeqInsert}
use Rattle.fp_model.specs.declared.database.AreaEnds.{AreaEnds}
use Rattle.fp_model.specs.declared.database.Db.{Db}
use Rattle.fp_model.specs.declared.database.Dedb.{Dedb}
use Rattle.fp_model.specs.declared.database.Node.{Node, map-Node, roll-Node}
use Rattle.fp_model.specs.declared.database.Node.TheFolds.{fold-roll-Node, ind-Node}
use Rattle.fp_model.specs.declared.database.Node.TheOpen.{Node-F}
use Rattle.fp_model.specs.declared.database.Root.{Root}
use Rattle.fp_model.specs.declared.database.SeqItem.{SeqItem}
use Rattle.fp_model.specs.declared.definitions.DedbDef.{DedbDef}
use Rattle.fp_model.specs.declared.definitions.Defs.{Defs}
use Rattle.fp_model.specs.declared.definitions.SegDef.{SegDef}
use Rattle.fp_model.specs.Exits.{anchor_of}
use Rattle.fp_model.specs.Order.{child_types, key_in, root_key, sequential_type}
use Rattle.fp_model.specs.Shape.{IsDbOf, Seen, are_newest_first, are_rows, has_length, have_lengths, is_root, is_row, seen_as, seen_step}
use Rattle.fp_model.specs.State.{Area, areas_from, areas_of, ascend, first_area_set, has_anchor}
use Rattle.fp_model.specs.WellFormed.{AreDefs, HasCapacity, IsAreaDef, IsDedbDef, has_sequential}
use Rattle.anchor_elements.specs.Elements.{segment_length}
use Rattle.root_anchor.specs.Chains.{newest}
use Rattle.root_anchor.specs.Stored.{are_storable, form_step, is_in_form, is_newest, is_storable, rows_have_form}
use Rattle.root_anchor.specs.inside.Stored.{row_has_form}
use Rattle.area_states.specs.declared.place.Place.{Place}
use Rattle.area_states.specs.Places.{has_anchor as lies_in, place_at, place_of, places_of, sequential_length}
use Rattle.area_states.specs.Changes.{IsInsertable, IsStorable, kept_root}
use Rattle.area_states.specs.States.{newest_serial}
use Rattle.state_laws.specs.Parts.{FitsAnchorChange, FitsSeqInsert}
use Rattle.state_laws.proofs.Areas.{alone, database, placed}
use Rattle.state_laws.proofs.Lists.{all_at, true_is_not_false}
use Rattle.state_laws.proofs.Stands.{at_area}
use Rattle.area_laws.specs.Areas.{BringsOrder}
use Rattle.area_laws.proofs.PlaceLemmas.{area_of_place}
use Rattle.root_anchor.proofs.TypeLemmas.{length-is}
use Rattle.plain_laws.proofs.Truths.{first_of_both, second_of_both}
use Rattle.plain_laws.proofs.Alls.{get_contains}
use Rattle.std.proofs.lemmas.Option.{none-some, same_Some}

-- ---- nodes

module _ (types : List SegDef) where
  -- a node in shape, as a type sees it, is in form
  abbrev IsFormed : Node → Type 0
  IsFormed n = (type : ℕ) → (seen_as types n type).in_shape ≡ true → is_in_form types n type ≡ true

  row_formed : (type : ℕ) (row : List Node) → AllByRecursion IsFormed row
      → list_all (λ (seen : ℕ → Seen). (seen type).in_shape) (map (seen_as types) row) ≡ true
      → row_has_form types type row ≡ true
  row_formed type [] all e = refl
  row_formed type (n ∷ row) all e =
      let a = (seen_as types n type).in_shape in
      let b = list_all (λ (seen : ℕ → Seen). (seen type).in_shape) (map (seen_as types) row) in
      and_from (is_in_form types n type) (row_has_form types type row) (all.0 type (first_of_both a b e))
      (row_formed type row all.1 (second_of_both a b e))

  rows_formed : (kinds : List ℕ) (rows : List (List Node)) → AllByRecursion (λ row. AllByRecursion IsFormed row) rows
      → are_rows types kinds (map (map (seen_as types)) rows) ≡ true → rows_have_form types kinds rows ≡ true
  rows_formed [] [] all e = refl
  rows_formed [] (row ∷ rows) all e = e
  rows_formed (type ∷ kinds) [] all e = e
  rows_formed (type ∷ kinds) (row ∷ rows) all e =
      let seen : List (ℕ → Seen) = map (seen_as types) row in
      let here = is_row types type seen in
      let rest = are_rows types kinds (map (map (seen_as types)) rows) in
      let keys = ascend (map (λ (child : ℕ → Seen). key_in types type (child type).bytes) seen) in
      let shapes = list_all (λ (child : ℕ → Seen). (child type).in_shape) seen in
      and_from (row_has_form types type row) (rows_have_form types kinds rows)
      (row_formed type row all.0 (first_of_both shapes keys (first_of_both here rest e)))
      (rows_formed kinds rows all.1 (second_of_both here rest e))

  nodes_of : (row : List ((n : Node) × IsFormed n)) → AllByRecursion IsFormed (map (λ e. e.0) row)
  nodes_of [] = tt
  nodes_of (n ∷ row) = (n.1, nodes_of row)

  rows_of : (rows : List (List ((n : Node) × IsFormed n)))
      → AllByRecursion (λ row. AllByRecursion IsFormed row) (map (map (λ e. e.0)) rows)
  rows_of [] = tt
  rows_of (row ∷ rows) = (nodes_of row, rows_of rows)

  rolled_formed : (y : Node-F ((n : Node) × IsFormed n)) → IsFormed (roll-Node (map-Node _ _ (λ e. e.0) y))
  rolled_formed y type e =
      let f : Node-F Node = map-Node _ _ (λ e. e.0) y in
      let rows : List (List Node) = map (map (λ e. e.0)) y.children in
      let a = has_length types type y.bytes in
      let b = are_rows types (child_types types type) (map (map (seen_as types)) rows) in
      let shape : (a && b) ≡ true =
      sym (ap (λ (s : ℕ → Seen). (s type).in_shape) (fold-roll-Node (ℕ → Seen) (seen_step types) f)) ∙ e in
      ap (λ (s : ℕ → Bool). s type) (fold-roll-Node (ℕ → Bool) (form_step types) f)
      ∙ and_from a (rows_have_form types (child_types types type) rows) (first_of_both a b shape)
      (rows_formed (child_types types type) rows (rows_of y.children) (second_of_both a b shape))

  node_formed : (n : Node) → IsFormed n
  node_formed = ind-Node IsFormed (λ x y is. subst (λ (z : Node-F Node). IsFormed (roll-Node z)) is (rolled_formed y))

  each_formed : (row : List Node) → AllByRecursion IsFormed row
  each_formed [] = tt
  each_formed (n ∷ row) = (node_formed n, each_formed row)

  all_formed : (rows : List (List Node)) → AllByRecursion (λ row. AllByRecursion IsFormed row) rows
  all_formed [] = tt
  all_formed (row ∷ rows) = (each_formed row, all_formed rows)

-- ---- roots

no_place : (types : List SegDef) → has_sequential types ≡ false
    → position_or_len (λ (d : SegDef). d.sequential) types ≡ length types
no_place [] e = refl
no_place (d ∷ ds) e = elim (cases_Bool d.sequential) [
  | inl is ↦ absurd (true_is_not_false (rw is at e))
  | inr other ↦ (let rest = no_place ds (rw other at e) in rw other (one_more rest))
]
  where
    one_more : {m n : ℕ} → m ≡ n → 1 + m ≡ suc n
    one_more e = omega (arith, e)

no_type : (types : List SegDef) → has_sequential types ≡ false → sequential_type types ≡ None
no_type types e =
    let at = no_place types e in
    let not : nat_lt (position_or_len (λ (d : SegDef). d.sequential) types) (length types) ≡ false =
    grind (arith, nat_tests, at) in
    rw not refl

-- sequential dependents of a root in shape are of a type
has_type : (types : List SegDef) (item : SeqItem) (items : List SeqItem) → have_lengths types (item ∷ items) ≡ true
    → has_sequential types ≡ true
has_type types item items e = by (has_sequential types) refl
  where
    long : List SegDef → Bool
    long ts = option_map_or (λ type. has_length ts type item.bytes) (sequential_type ts) false

    by : (b : Bool) → has_sequential types ≡ b → b ≡ true
    by true is = refl
    by false is =
        let first : option_map_or (λ type. has_length types type item.bytes) (sequential_type types) false ≡ true =
        first_of_both (option_map_or (λ type. has_length types type item.bytes) (sequential_type types) false)
        (have_lengths types items) e in
        let none = no_type types is in
        absurd (true_is_not_false (sym first
        ∙ ap (λ (o : Option ℕ). option_map_or (λ type. has_length types type item.bytes) o false) none))

newest_fits : (types : List SegDef) (items : List SeqItem) → have_lengths types items ≡ true
    → is_newest types (newest (newest_serial items)) ≡ true
newest_fits types [] e = refl
newest_fits types (item ∷ items) e =
    let has = has_type types item items e in
    elim (cases_Bool (item.serial == 0)) [
      | inl none ↦ rw none refl
      | inr some ↦ (let lt : nat_lt 0 item.serial ≡ true = grind (arith, nat_tests) in rw some (rw (has, lt) refl))
    ]

root_storable : (types : List SegDef) (ends : AreaEnds) (root : Root) → is_root types ends root ≡ true
    → is_storable types (kept_root root) ≡ true
root_storable types ends root e =
    let a = has_length types 0 root.bytes in
    let b = are_rows types (child_types types 0) (map (map (seen_as types)) root.children) in
    let c = are_newest_first ends.begin ends.end root.seqs in
    let d = have_lengths types root.seqs in
    let abc = first_of_both (a && b && c) d e in
    let ab = first_of_both (a && b) c abc in
    let list = newest_fits types root.seqs (second_of_both (a && b && c) d e) in
    let rows = rows_formed types (child_types types 0) root.children (all_formed types root.children)
    (second_of_both a b ab) in
    and_from (a && rows_have_form types (child_types types 0) root.children)
    (is_newest types (newest (newest_serial root.seqs)))
    (and_from a (rows_have_form types (child_types types 0) root.children) (first_of_both a b ab) rows) list

roots_storable : (types : List SegDef) (ends : AreaEnds) (roots : List Root)
    → list_all (is_root types ends) roots ≡ true → are_storable types (map kept_root roots) ≡ true
roots_storable types ends [] e = refl
roots_storable types ends (r ∷ roots) e =
    let a = is_root types ends r in
    let b = list_all (is_root types ends) roots in
    and_from (is_storable types (kept_root r)) (are_storable types (map kept_root roots))
    (root_storable types ends r (first_of_both a b e)) (roots_storable types ends roots (second_of_both a b e))

-- ---- changes

inside : (area : Area) (dedb anchor : ℕ) → has_anchor area dedb anchor ≡ true → has_anchor (alone area) 0 anchor ≡ true
inside area dedb anchor e = grind (arith, nat_tests, e)

its_dedb : (area : Area) (dedb anchor : ℕ) → has_anchor area dedb anchor ≡ true → area.dedb ≡ dedb
its_dedb area dedb anchor e = grind (arith, nat_tests, e)

storable_change : (defs : Defs) (set : ℕ) (place : Place) (db : Db) (c : AnchorChange) → IsDbOf defs db
    → place_at (places_of defs) set ≡ Some place → FitsAnchorChange defs db c → IsStorable place c
storable_change defs set place db c good at fit =
    let a = area_of_place defs set place at in
    subst (λ (p : Place). IsStorable p c) (sym a.is_place) (own a.area a.def a.defined a.there)
  where
    own : (area : Area) (def : DedbDef) → slice_get defs.dedbs area.dedb ≡ Some def
        → slice_get (areas_of defs) (set - first_area_set) ≡ Some area → IsStorable (place_of def area) c
    own area def defined there is =
        let x = at_area defs db good area (get_contains (areas_of defs) (set - first_area_set) area there) in
        let d = its_dedb area c.dedb c.anchor is in
        let fit_def : fit.def ≡ def =
        same_Some fit.def def (sym fit.defined ∙ ap (slice_get defs.dedbs) (sym d) ∙ defined) in
        let x_def : x.def ≡ fit.def =
        same_Some x.def fit.def (sym x.defined ∙ ap (slice_get defs.dedbs) d ∙ fit.defined) in
        let now : x.dedb ≡ fit.dedb = same_Some x.dedb fit.dedb (sym x.now ∙ ap (slice_get db.dedbs) d ∙ fit.now) in
        let there2 : Contains (areas_from 0 0 0 fit.def.areas) (alone area) =
        subst (λ (y : DedbDef). Contains (areas_from 0 0 0 y.areas) (alone area)) x_def x.there in
        let ends : slice_get fit.dedb.areas area.number ≡ Some x.ends =
        subst (λ (y : Dedb). slice_get y.areas area.number ≡ Some x.ends) now x.ends_now in
        let shape = fit.fits.in_shape (alone area) x.ends there2 ends (inside area c.dedb c.anchor is) in
        let roots : list_all (is_root fit.def.segments x.ends) c.roots ≡ true =
        first_of_both (list_all (is_root fit.def.segments x.ends) c.roots)
        (ascend (map (root_key fit.def.segments) c.roots))
        (first_of_both (list_all (is_root fit.def.segments x.ends) c.roots
        && ascend (map (root_key fit.def.segments) c.roots))
        (list_all (λ root. anchor_of fit.def (root_key fit.def.segments root) == c.anchor) c.roots) shape) in
        subst (λ (y : DedbDef). are_storable y.segments (map kept_root c.roots) ≡ true) fit_def
        (roots_storable fit.def.segments x.ends c.roots roots)

pub storable_changes : (defs : Defs) (set : ℕ) (place : Place) (db : Db) (changes : List AnchorChange) → IsDbOf defs db
    → place_at (places_of defs) set ≡ Some place → AllByRecursion (FitsAnchorChange defs db) changes
    → AllByRecursion (IsStorable place) changes
storable_changes defs set place db [] good at fit = tt
storable_changes defs set place db (c ∷ changes) good at fit =
    (storable_change defs set place db c good at fit.0, storable_changes defs set place db changes good at fit.1)

-- they bring roots in order
order_brought : (defs : Defs) (set : ℕ) (place : Place) (db : Db) (c : AnchorChange)
    → place_at (places_of defs) set ≡ Some place → FitsAnchorChange defs db c → BringsOrder place c
order_brought defs set place db c at fit =
    let a = area_of_place defs set place at in
    subst (λ (p : Place). BringsOrder p c) (sym a.is_place) (own a.area a.def a.defined)
  where
    own : (area : Area) (def : DedbDef) → slice_get defs.dedbs area.dedb ≡ Some def → BringsOrder (place_of def area) c
    own area def defined is =
        let d = its_dedb area c.dedb c.anchor is in
        let same : fit.def ≡ def =
        same_Some fit.def def (sym fit.defined ∙ ap (slice_get defs.dedbs) (sym d) ∙ defined) in
        subst (λ (y : DedbDef). ascend (map (root_key y.segments) c.roots) ≡ true) same fit.fits.keys

pub orders_brought : (defs : Defs) (set : ℕ) (place : Place) (db : Db) (changes : List AnchorChange)
    → place_at (places_of defs) set ≡ Some place → AllByRecursion (FitsAnchorChange defs db) changes
    → AllByRecursion (BringsOrder place) changes
orders_brought defs set place db [] at fit = tt
orders_brought defs set place db (c ∷ changes) at fit =
    (order_brought defs set place db c at fit.0, orders_brought defs set place db changes at fit.1)

-- ---- inserts

insertable : (defs : Defs) (set : ℕ) (place : Place) (i : SeqInsert) → AreDefs defs
    → place_at (places_of defs) set ≡ Some place → FitsSeqInsert defs i → IsInsertable place i
insertable defs set place i good at fit =
    let a = area_of_place defs set place at in
    let there = get_contains (areas_of defs) (set - first_area_set) a.area a.there in
    let h = database 0 defs.dedbs a.area there in
    let number : h.place ≡ a.area.dedb = (let d = h.its_dedb in omega (arith, d)) in
    let def_at : slice_get defs.dedbs a.area.dedb ≡ Some h.def =
    subst (λ (k : ℕ). slice_get defs.dedbs k ≡ Some h.def) number h.its_def in
    let def_is : h.def ≡ a.def = same_Some h.def a.def (sym def_at ∙ a.defined) in
    let among : Contains (areas_from a.area.dedb 0 0 a.def.areas) a.area =
    subst (λ (d : DedbDef). Contains (areas_from a.area.dedb 0 0 d.areas) a.area) def_is h.there in
    let p = placed a.area.dedb 0 0 a.def.areas a.area among in
    let its = all_at IsDedbDef defs.dedbs a.area.dedb a.def good.each_dedb a.defined in
    let area_good = all_at (IsAreaDef a.def.segments) a.def.areas p.place a.area.def its.each_area p.its_def in
    subst (λ (q : Place). IsInsertable q i) (sym a.is_place)
    (λ is. own a.area a.def a.defined area_good.capacity is)
  where
    some : (b : Bool) (capacity : ℕ) → HasCapacity b capacity → b ≡ true → 0 < capacity
    some true capacity has e = (let low = has.0 in omega (arith, low))
    some false capacity has e = absurd (true_is_not_false (sym e))

    typed : (types : List SegDef) (type : ℕ) → sequential_type types ≡ Some type → has_sequential types ≡ true
    typed types type e = by (has_sequential types) refl
      where
        by : (b : Bool) → has_sequential types ≡ b → b ≡ true
        by true is = refl
        by false is = absurd (none-some type (sym (no_type types is) ∙ e))

    own : (area : Area) (def : DedbDef) → slice_get defs.dedbs area.dedb ≡ Some def
        → HasCapacity (has_sequential def.segments) area.def.capacity
        → lies_in (place_of def area) i.dedb i.anchor ≡ true
        → (0 < area.def.capacity) × (length i.bytes ≡ sequential_length def.segments)
    own area def defined capacity is =
        let d = its_dedb area i.dedb i.anchor is in
        let same : fit.def ≡ def =
        same_Some fit.def def (sym fit.defined ∙ ap (slice_get defs.dedbs) (sym d) ∙ defined) in
        let kind : sequential_type def.segments ≡ Some fit.type =
        subst (λ (y : DedbDef). sequential_type y.segments ≡ Some fit.type) same fit.kind in
        let long : has_length def.segments fit.type i.bytes ≡ true =
        subst (λ (y : DedbDef). has_length y.segments fit.type i.bytes ≡ true) same fit.long in (
          some (has_sequential def.segments) area.def.capacity capacity (typed def.segments fit.type kind),
          length-is def.segments fit.type i.bytes long
              ∙ ap (λ (o : Option ℕ). option_map_or (segment_length def.segments) o 0) (sym kind),
        )

pub all_insertable : (defs : Defs) (set : ℕ) (place : Place) (inserts : List SeqInsert) → AreDefs defs
    → place_at (places_of defs) set ≡ Some place → AllByRecursion (FitsSeqInsert defs) inserts
    → AllByRecursion (IsInsertable place) inserts
all_insertable defs set place [] good at fit = tt
all_insertable defs set place (i ∷ inserts) good at fit =
    (insertable defs set place i good at fit.0, all_insertable defs set place inserts good at fit.1)
