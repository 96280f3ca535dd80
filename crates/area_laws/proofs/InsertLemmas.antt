-- Sequential inserts in the databases and in an area.
use Rattle.std.proofs.Common.{◌≡◌, ◌≢◌, inl, inr, ℕ, ◌+◌, ◌-◌, true, false, List, [], ◌∷◌, Some, None, Option, refl, sym, ◌∙◌, ap, subst, arith}
use Rattle.std.specs.Prelude.{Contains, ◌==◌, find, option_map, slice_get, slice_set, unwrap_or}
use Rattle.std.specs.Option.{option_map_or}
use Rattle.std.specs.List.{AllByRecursion}
use Rattle.std.proofs.lemmas.Bool.{cases_Bool, cases_eq}
use Rattle.std.proofs.lemmas.Bool.Decides.{nat_tests}
use Rattle.fp_model.specs.declared.calls.AnchorChange.{AnchorChange}
use Rattle.fp_model.specs.declared.calls.SeqInsert.{SeqInsert}
use Rattle.fp_model.specs.declared.database.AreaEnds.{AreaEnds}
use Rattle.fp_model.specs.declared.database.Db.{Db}
use Rattle.fp_model.specs.declared.database.Dedb.{Dedb}
use Rattle.fp_model.specs.declared.database.Root.{Root}
use Rattle.fp_model.specs.declared.database.SeqItem.{SeqItem}
use Rattle.fp_model.specs.declared.definitions.DedbDef.{DedbDef}
use Rattle.fp_model.specs.declared.definitions.Defs.{Defs}
use Rattle.fp_model.specs.declared.definitions.SegDef.{SegDef}
use Rattle.fp_model.specs.Commit.{ends_at, takes, types_of, with_anchors, with_dependent, with_ends, with_insert, with_inserts, with_newest, numbered_at}
use Rattle.fp_model.specs.Order.{root_key}
use Rattle.fp_model.specs.State.{Area, areas_of, change_key, roots_at, with_roots}
use Rattle.area_states.specs.declared.place.Place.{Place}
use Rattle.area_states.specs.Places.{has_anchor as lies_in, place_of}
use Rattle.area_states.specs.States.{AreaState, SameState}
use Rattle.area_states.specs.Changes.{numbered_at as numbered_here, with_changes, with_insert as with_insert_here, with_inserts as with_inserts_here}
use Rattle.area_states.specs.Databases.{HasAnchorOf, state_of}
use Rattle.area_states.proofs.Changing.{in_area}
use Rattle.area_states.proofs.DbLemmas.{all_changed}
use Rattle.state_laws.proofs.Nodes.{none_found}
use Rattle.state_laws.proofs.Stands.{same_area}
use Rattle.area_laws.specs.Areas.{HasArea, area_count}
use Rattle.area_laws.proofs.DedbLemmas.{changed_here, count_in, ends_in, ends_keep_count, ends_keep_roots, its_ends, other_ends, roots_in, stays_in}
use Rattle.area_laws.proofs.PlaceLemmas.{one_taker}
use Rattle.plain_laws.proofs.Alls.{found_is_there, found_passes}
use Rattle.plain_laws.proofs.Places.{get_other, get_set_same}

-- ---- a dependent in front of those of its root

-- the roots of an anchor with it
abbrev pub with_item : List SegDef → List ℕ → SeqItem → List Root → List Root
with_item types key item roots = change_key (root_key types) key (with_newest item) roots

module _ (defs : Defs) (i : SeqInsert) (item : SeqItem) (db : Db) where
  abbrev pub changed : Dedb → Dedb
  changed d = record d {
    anchors =
        option_map_or (λ (roots : List Root). slice_set d.anchors i.anchor
        (with_item (types_of defs i.dedb) i.key item roots)) (slice_get d.anchors i.anchor) d.anchors;
  }

  item_here : (d : Dedb) → unwrap_or (slice_get (changed d).anchors i.anchor) []
      ≡ with_item (types_of defs i.dedb) i.key item (unwrap_or (slice_get d.anchors i.anchor) [])
  item_here d = by (slice_get d.anchors i.anchor) refl
    where
      by : (o : Option (List Root)) → slice_get d.anchors i.anchor ≡ o
          → unwrap_or (slice_get (option_map_or (λ (roots : List Root). slice_set d.anchors i.anchor
          (with_item (types_of defs i.dedb) i.key item roots)) o d.anchors) i.anchor) []
          ≡ with_item (types_of defs i.dedb) i.key item (unwrap_or o [])
      by None e = ap (λ (o : Option (List Root)). unwrap_or o []) e
      by (Some roots) e = ap (λ (o : Option (List Root)). unwrap_or o [])
          (get_set_same d.anchors i.anchor (with_item (types_of defs i.dedb) i.key item roots) roots e)

  item_other : (d : Dedb) (anchor : ℕ) → anchor ≢ i.anchor
      → slice_get (changed d).anchors anchor ≡ slice_get d.anchors anchor
  item_other d anchor ne = by (slice_get d.anchors i.anchor)
    where
      by : (o : Option (List Root)) → slice_get (option_map_or (λ (roots : List Root). slice_set d.anchors i.anchor
          (with_item (types_of defs i.dedb) i.key item roots)) o d.anchors) anchor ≡ slice_get d.anchors anchor
      by None = refl
      by (Some roots) = get_other d.anchors i.anchor anchor
          (with_item (types_of defs i.dedb) i.key item roots) ne

  abbrev pub after : Db
  after = with_dependent defs i item db

  pub its_roots : roots_at after i.dedb i.anchor ≡ with_item (types_of defs i.dedb) i.key item
      (roots_at db i.dedb i.anchor)
  its_roots = ap (roots_in i.anchor) (changed_here i.dedb changed db) ∙ by (slice_get db.dedbs i.dedb)
    where
      by : (o : Option Dedb) → roots_in i.anchor (option_map changed o)
          ≡ with_item (types_of defs i.dedb) i.key item (roots_in i.anchor o)
      by None = refl
      by (Some d) = item_here d

  pub other_roots : (dedb anchor : ℕ) → (dedb ≡ i.dedb → anchor ≢ i.anchor)
      → roots_at after dedb anchor ≡ roots_at db dedb anchor
  other_roots dedb anchor ne = stays_in i.dedb changed db (roots_in anchor) dedb
      (λ e d. ap (λ (o : Option (List Root)). unwrap_or o []) (item_other d anchor (ne e)))

  pub ends_stay : (area : Area) → ends_at after area ≡ ends_at db area
  ends_stay area = stays_in i.dedb changed db (ends_in area.number) area.dedb (λ e d. refl)

  pub count_stays : (dedb : ℕ) → area_count after dedb ≡ area_count db dedb
  count_stays dedb = stays_in i.dedb changed db count_in dedb (λ e d. refl)

-- ---- one insert

module _ (defs : Defs) (area : Area) (def : DedbDef) (there : Contains (areas_of defs) area)
    (defined : slice_get defs.dedbs area.dedb ≡ Some def) where
  abbrev pub its_place : Place
  its_place = place_of def area

  -- an insert of another area
  elsewhere : (db : Db) (i : SeqInsert) (other : Area) → Contains (areas_of defs) other → takes other i ≡ true
      → lies_in its_place i.dedb i.anchor ≡ false
      → SameState its_place (state_of its_place db) (state_of its_place (numbered_at defs i other db))
  elsewhere db i other c takes_it out =
      let ends : AreaEnds = ends_at db other in
      let item : SeqItem = record { serial = ends.end; bytes = i.bytes } in
      let mid : Db = with_dependent defs i item db in
      let late : AreaEnds = record ends { end = ends.end + 1 } in
      let ne : area.dedb ≡ other.dedb → area.number ≢ other.number =
      λ d n. (let same = same_area defs.dedbs area other there c d n in
      let t : lies_in its_place i.dedb i.anchor ≡ true = subst (λ (a : Area). takes a i ≡ true) (sym same) takes_it in
      let no : true ≡ false = sym t ∙ out in cc) in
      let same_ends : ends_at (with_ends other late mid) area ≡ ends_at db area =
      other_ends other late mid area ne ∙ ends_stay defs i item db area in
      record {
        roots = λ k lt.
            let apart : its_place.dedb ≡ i.dedb → its_place.first_anchor + k ≢ i.anchor =
            λ d e. (grind (arith, nat_tests, out, lt)) in
            sym (ends_keep_roots other late mid its_place.dedb (its_place.first_anchor + k)
            ∙ other_roots defs i item db its_place.dedb (its_place.first_anchor + k) apart);
        begin = ap (λ (e : AreaEnds). e.begin) (sym same_ends);
        end = ap (λ (e : AreaEnds). e.end) (sym same_ends);
      }

  types_are : (i : SeqInsert) → area.dedb ≡ i.dedb → types_of defs i.dedb ≡ def.segments
  types_are i e = ap (types_of defs) (sym e)
      ∙ ap (λ (o : Option DedbDef). option_map_or (λ (d : DedbDef). d.segments) o []) defined

  -- an insert of this area
  here : (db : Db) (i : SeqInsert) → HasArea db its_place → lies_in its_place i.dedb i.anchor ≡ true
      → SameState its_place (numbered_here its_place i (state_of its_place db))
      (state_of its_place (numbered_at defs i area db))
  here db i has is =
      let ends : AreaEnds = ends_at db area in
      let item : SeqItem = record { serial = ends.end; bytes = i.bytes } in
      let mid : Db = with_dependent defs i item db in
      let late : AreaEnds = record ends { end = ends.end + 1 } in
      let new : Db = with_ends area late mid in
      let count = count_stays defs i item db area.dedb in
      let new_ends : ends_at new area ≡ late = its_ends area late mid (omega (arith, count, has)) in
      let same : area.dedb ≡ i.dedb = grind (arith, nat_tests, is) in
      let low = (in_area its_place i.dedb i.anchor is).0 in
      record {
        roots = λ k lt. elim (cases_eq (its_place.first_anchor + k) i.anchor) [
          | inl e ↦
              let it : (k == i.anchor - its_place.first_anchor) ≡ true = grind (arith, nat_tests, e, low) in
              let at : i.anchor - its_place.first_anchor ≡ k = omega (arith, e) in
              rw it (ap (λ (n : ℕ). with_item def.segments i.key item
              (roots_at db area.dedb (its_place.first_anchor + n))) at
              ∙ ap (λ (n : ℕ). with_item def.segments i.key item (roots_at db area.dedb n)) e
              ∙ ap (λ (n : ℕ). with_item def.segments i.key item (roots_at db n i.anchor)) same
              ∙ ap (λ (t : List SegDef). with_item t i.key item (roots_at db i.dedb i.anchor))
              (sym (types_are i same))
              ∙ sym (its_roots defs i item db)
              ∙ ap (λ (n : ℕ). roots_at mid n i.anchor) (sym same)
              ∙ ap (λ (n : ℕ). roots_at mid area.dedb n) (sym e)
              ∙ sym (ends_keep_roots area late mid area.dedb (its_place.first_anchor + k)))
          | inr ne ↦
              let not : (k == i.anchor - its_place.first_anchor) ≡ false = grind (arith, nat_tests, ne, low) in
              rw not (sym (ends_keep_roots area late mid area.dedb (its_place.first_anchor + k)
              ∙ other_roots defs i item db area.dedb (its_place.first_anchor + k) (λ d. ne)))
        ];
        begin = ap (λ (e : AreaEnds). e.begin) (sym new_ends);
        end = ap (λ (e : AreaEnds). e.end) (sym new_ends);
      }

  same_itself : (a : AreaState) → SameState its_place a a
  same_itself a = record { roots = λ k lt. refl; begin = refl; end = refl }

  pub one_inserted : (db : Db) (i : SeqInsert) → HasArea db its_place
      → SameState its_place (with_insert_here its_place (state_of its_place db) i)
      (state_of its_place (with_insert defs db i))
  one_inserted db i has = by (find (λ a. takes a i) (areas_of defs)) refl
    where
      by : (o : Option Area) → find (λ a. takes a i) (areas_of defs) ≡ o
          → SameState its_place (with_insert_here its_place (state_of its_place db) i)
          (state_of its_place (option_map_or (λ a. numbered_at defs i a db) o db))
      by None none =
          let out : lies_in its_place i.dedb i.anchor ≡ false =
          none_found (λ a. takes a i) (areas_of defs) area none there in
          rw out (same_itself (state_of its_place db))
      by (Some other) found =
          let c = found_is_there (λ a. takes a i) (areas_of defs) other found in
          let t = found_passes (λ a. takes a i) (areas_of defs) other found in
          elim (cases_Bool (lies_in its_place i.dedb i.anchor)) [
            | inl is ↦
                let same : area ≡ other = one_taker defs.dedbs area other i there c is t in
                rw is (subst (λ (a : Area). SameState its_place (numbered_here its_place i (state_of its_place db))
                (state_of its_place (numbered_at defs i a db))) same (here db i has is))
            | inr out ↦ rw out (elsewhere db i other c t out)
          ]

-- ---- all of them

-- an insert leaves each area where it is
pub insert_keeps_area : (defs : Defs) (db : Db) (i : SeqInsert) (dedb : ℕ)
    → area_count (with_insert defs db i) dedb ≡ area_count db dedb
insert_keeps_area defs db i dedb = by (find (λ a. takes a i) (areas_of defs))
  where
    by : (o : Option Area) → area_count (option_map_or (λ a. numbered_at defs i a db) o db) dedb ≡ area_count db dedb
    by None = refl
    by (Some a) =
        let ends : AreaEnds = ends_at db a in
        let item : SeqItem = record { serial = ends.end; bytes = i.bytes } in
        ends_keep_count a (record ends { end = ends.end + 1 }) (with_dependent defs i item db) dedb
        ∙ count_stays defs i item db dedb

pub same_trans : (place : Place) (a b c : AreaState) → SameState place a b → SameState place b c
    → SameState place a c
same_trans place a b c x y = record {
  roots = λ k lt. x.roots k lt ∙ y.roots k lt;
  begin = x.begin ∙ y.begin;
  end = x.end ∙ y.end;
}

-- the same state gives the same behind an insert
same_insert : (place : Place) (i : SeqInsert) (a b : AreaState) → SameState place a b
    → SameState place (with_insert_here place a i) (with_insert_here place b i)
same_insert place i a b same = elim (cases_Bool (lies_in place i.dedb i.anchor)) [
  | inl is ↦
      let within = (in_area place i.dedb i.anchor is).1 in
      let roots_same = same.roots (i.anchor - place.first_anchor) within in
      rw is (record {
        roots = λ k lt. elim (cases_Bool (k == i.anchor - place.first_anchor)) [
          | inl it ↦ rw it (ap (λ (rs : List Root). with_item place.segments i.key
              (record { serial = a.end; bytes = i.bytes }) rs) roots_same
              ∙ ap (λ (n : ℕ). with_item place.segments i.key (record { serial = n; bytes = i.bytes })
              (b.roots (i.anchor - place.first_anchor))) same.end)
          | inr other ↦ rw other (same.roots k lt)
        ];
        begin = same.begin;
        end = ap (λ (n : ℕ). n + 1) same.end;
      })
  | inr outside ↦ rw outside same
]

pub same_inserts : (place : Place) (inserts : List SeqInsert) (a b : AreaState) → SameState place a b
    → SameState place (with_inserts_here place inserts a) (with_inserts_here place inserts b)
same_inserts place [] a b same = same
same_inserts place (i ∷ inserts) a b same =
    same_inserts place inserts (with_insert_here place a i) (with_insert_here place b i) (same_insert place i a b same)

pub all_inserted : (defs : Defs) (area : Area) (def : DedbDef) → Contains (areas_of defs) area
    → slice_get defs.dedbs area.dedb ≡ Some def → (inserts : List SeqInsert) (db : Db)
    → HasArea db (place_of def area)
    → SameState (place_of def area) (with_inserts_here (place_of def area) inserts (state_of (place_of def area) db))
    (state_of (place_of def area) (with_inserts defs inserts db))
all_inserted defs area def there defined [] db has = record { roots = λ k lt. refl; begin = refl; end = refl }
all_inserted defs area def there defined (i ∷ inserts) db has =
    let p : Place = place_of def area in
    let kept = insert_keeps_area defs db i area.dedb in
    let first = one_inserted defs area def there defined db i has in
    same_trans p (with_inserts_here p inserts (with_insert_here p (state_of p db) i))
    (with_inserts_here p inserts (state_of p (with_insert defs db i)))
    (state_of p (with_inserts defs inserts (with_insert defs db i)))
    (same_inserts p inserts (with_insert_here p (state_of p db) i) (state_of p (with_insert defs db i)) first)
    (all_inserted defs area def there defined inserts (with_insert defs db i) (omega (arith, kept, has)))

-- ---- changed anchors and inserts

roots_keep_area : (c : AnchorChange) (db : Db) (dedb : ℕ)
    → area_count (with_roots c.dedb c.anchor c.roots db) dedb ≡ area_count db dedb
roots_keep_area c db dedb =
    stays_in c.dedb (λ (d : Dedb). record d { anchors = slice_set d.anchors c.anchor c.roots }) db count_in dedb
    (λ e d. refl)

pub changes_keep_area : (changes : List AnchorChange) (db : Db) (dedb : ℕ)
    → area_count (with_anchors changes db) dedb ≡ area_count db dedb
changes_keep_area [] db dedb = refl
changes_keep_area (c ∷ changes) db dedb =
    changes_keep_area changes (with_roots c.dedb c.anchor c.roots db) dedb ∙ roots_keep_area c db dedb

pub all_done : (defs : Defs) (area : Area) (def : DedbDef) → Contains (areas_of defs) area
    → slice_get defs.dedbs area.dedb ≡ Some def → (changes : List AnchorChange) (inserts : List SeqInsert) (db : Db)
    → HasArea db (place_of def area) → AllByRecursion (HasAnchorOf db) changes
    → SameState (place_of def area) (with_inserts_here (place_of def area) inserts
    (with_changes (place_of def area) changes (state_of (place_of def area) db)))
    (state_of (place_of def area) (with_inserts defs inserts (with_anchors changes db)))
all_done defs area def there defined changes inserts db has have =
    let p : Place = place_of def area in
    let mid : Db = with_anchors changes db in
    let kept = changes_keep_area changes db area.dedb in
    same_trans p (with_inserts_here p inserts (with_changes p changes (state_of p db)))
    (with_inserts_here p inserts (state_of p mid)) (state_of p (with_inserts defs inserts mid))
    (same_inserts p inserts (with_changes p changes (state_of p db)) (state_of p mid)
    (all_changed p changes db have))
    (all_inserted defs area def there defined inserts mid (omega (arith, kept, has)))

-- ---- an area that nothing is of

pub changes_pass : (place : Place) (changes : List AnchorChange) (state : AreaState)
    → AllByRecursion (λ c. lies_in place c.dedb c.anchor ≡ false) changes
    → with_changes place changes state ≡ state
changes_pass place [] state all = refl
changes_pass place (c ∷ changes) state all = rw all.0 (changes_pass place changes state all.1)

inserts_pass : (place : Place) (inserts : List SeqInsert) (state : AreaState)
    → AllByRecursion (λ i. lies_in place i.dedb i.anchor ≡ false) inserts
    → with_inserts_here place inserts state ≡ state
inserts_pass place [] state all = refl
inserts_pass place (i ∷ inserts) state all = rw all.0 (inserts_pass place inserts state all.1)

pub all_pass : (place : Place) (changes : List AnchorChange) (inserts : List SeqInsert) (state : AreaState)
    → AllByRecursion (λ c. lies_in place c.dedb c.anchor ≡ false) changes
    → AllByRecursion (λ i. lies_in place i.dedb i.anchor ≡ false) inserts
    → with_inserts_here place inserts (with_changes place changes state) ≡ state
all_pass place changes inserts state none all =
    inserts_pass place inserts (with_changes place changes state) all ∙ changes_pass place changes state none
