-- A commit's sequential inserts, one after another: the count leaves each area room for them.
use Rattle.std.proofs.Common.{◌≡◌, ℕ, ◌+◌, ◌-◌, ◌^◌, ◌<◌, ◌≤◌, List, [], ◌∷◌, length, Option, Some, None, refl, sym, ◌∙◌, ap, subst, Bool, true, false, ◌&&◌, ◌||◌, ◌==◌, nat_le, nat_lt, slice_get, slice_set, arith, ◌⊎◌, inl, inr}
use Rattle.std.specs.Prelude.{Contains, filter, find, if◌then◌else◌, unwrap_or}
use Rattle.std.specs.List.{AllByRecursion, AllZip}
use Rattle.std.specs.Option.{option_map_or}
use Rattle.std.proofs.lemmas.Bool.{cases_eq, and_from}
use Rattle.std.proofs.lemmas.Bool.Decides.{nat_tests}
use Rattle.fp_model.specs.declared.calls.SeqInsert.{SeqInsert}
use Rattle.fp_model.specs.declared.database.AreaEnds.{AreaEnds}
use Rattle.fp_model.specs.declared.database.Db.{Db}
use Rattle.fp_model.specs.declared.database.Dedb.{Dedb}
use Rattle.fp_model.specs.declared.database.Root.{Root}
use Rattle.fp_model.specs.declared.definitions.DedbDef.{DedbDef}
use Rattle.fp_model.specs.declared.definitions.Defs.{Defs}
use Rattle.fp_model.specs.declared.definitions.SegDef.{SegDef}
use Rattle.fp_model.specs.Commit.{Commits, FillsPart, ends_at, first_full, is_too_full, numbered_at, takes, types_of, with_dedb, with_insert, with_inserts, with_newest}
use Rattle.fp_model.specs.Order.{root_key, sequential_type}
use Rattle.fp_model.specs.Shape.{IsDbOf, IsDedbOf, are_ends, has_length}
use Rattle.fp_model.specs.State.{Area, anchors_in, anchor_count, areas_of, change_key, first_ends, has_anchor}
use Rattle.state_laws.specs.Inserts.{FitsSequential, ending_at, with_sequential, with_serial}
use Rattle.state_laws.specs.Parts.{FitsSeqInsert}
use Rattle.state_laws.proofs.Areas.{alone, lies_in, placed}
use Rattle.state_laws.proofs.Lists.{each_at, true_is_not_false}
use Rattle.state_laws.proofs.Purging.{dedb_changed, ends_are}
use Rattle.state_laws.proofs.Serials.{sequential_good}
use Rattle.state_laws.proofs.Stands.{AtArea, at_area, ends_in, ends_within, same_area}
use Rattle.plain_laws.proofs.Alls.{each_set, found_is_there, found_passes}
use Rattle.plain_laws.proofs.Truths.{first_of_both, second_of_both}
use Rattle.plain_laws.proofs.Places.{get_other, get_set_same, get_there, set_twice}
use Rattle.std.proofs.lemmas.Option.{none-some, same_Some}

-- ---- room

-- how many of the inserts an area takes
abbrev pub count : Area → List SeqInsert → ℕ
count area inserts = length (filter (takes area) inserts)

-- where an area takes some of the inserts, it has room for them
abbrev pub HasRoom : Db → List SeqInsert → Area → Type 0
HasRoom db inserts area =
    let n : ℕ = count area inserts in
    let ends : AreaEnds = ends_at db area in
    0 < n → (ends.end - ends.begin + n ≤ area.def.capacity) × (ends.end + n ≤ 2 ^ 62)

count_more : (area : Area) (i : SeqInsert) (others : List SeqInsert)
    → count area (i ∷ others) ≡ (if takes area i then 1 else 0) + count area others
count_more area i others = by (takes area i)
  where
    by : (b : Bool) → length (if b then i ∷ filter (takes area) others else filter (takes area) others)
        ≡ (if b then 1 else 0) + count area others
    by true = omega arith
    by false = omega arith

-- no area is too full
pub room_left : (db : Db) (inserts : List SeqInsert) (set : ℕ) (areas : List Area)
    → first_full db inserts set areas ≡ None → AllByRecursion (HasRoom db inserts) areas
room_left db inserts set [] e = tt
room_left db inserts set (area ∷ areas) e =
    by (nat_lt 0 (count area inserts)) (is_too_full area.def.capacity (ends_at db area) (count area inserts)) refl
    refl e
    (λ f. room_left db inserts (set + 1) areas f)
  where
    not_less : (a b : ℕ) → nat_lt a b ≡ false → b ≤ a
    not_less a b e = grind (arith, nat_tests)

    less : (a b : ℕ) → a < b → nat_lt a b ≡ true
    less a b e = grind (arith, nat_tests)

    first_false : (a b : Bool) → (a || b) ≡ false → a ≡ false
    first_false true b e = e
    first_false false b e = refl

    second_false : (a b : Bool) → (a || b) ≡ false → b ≡ false
    second_false true b e = cc
    second_false false b e = e

    by : (some full : Bool) → nat_lt 0 (count area inserts) ≡ some
        → is_too_full area.def.capacity (ends_at db area) (count area inserts) ≡ full
        → (if some && full then Some (FillsPart set (ends_at db area).begin (ends_at db area).end (count area inserts))
        else first_full db inserts (set + 1) areas) ≡ None
        → (first_full db inserts (set + 1) areas ≡ None → AllByRecursion (HasRoom db inserts) areas)
        → AllByRecursion (HasRoom db inserts) (area ∷ areas)
    by true true is too e later = absurd (none-some _ (sym e))
    by true false is too e later =
        let a = nat_lt area.def.capacity ((ends_at db area).end - (ends_at db area).begin + count area inserts) in
        let b = nat_lt (2 ^ 62) ((ends_at db area).end + count area inserts) in (
          λ some. (not_less _ _ (first_false a b too), not_less _ _ (second_false a b too)),
          later e,
        )
    by false full is too e later =
        (λ some. absurd (true_is_not_false (sym (less 0 (count area inserts) some) ∙ is)), later e)

-- too full is all that the count finds
pub full_is : (db : Db) (inserts : List SeqInsert) (set : ℕ) (areas : List Area) (next : Db)
    → first_full db inserts set areas ≡ Some (Commits next) → ⊥
full_is db inserts set [] next e = none-some (Commits next) e
full_is db inserts set (area ∷ areas) next e =
    by (nat_lt 0 (count area inserts) && is_too_full area.def.capacity (ends_at db area) (count area inserts)) e
    (λ f. full_is db inserts (set + 1) areas next f)
  where
    by : (b : Bool)
        → (if b then Some (FillsPart set (ends_at db area).begin (ends_at db area).end (count area inserts))
        else first_full db inserts (set + 1) areas) ≡ Some (Commits next)
        → (first_full db inserts (set + 1) areas ≡ Some (Commits next) → ⊥) → ⊥
    by true e later = cc
    by false e later = later e

-- ---- one insert

module _ (defs : Defs) (db : Db) (good : IsDbOf defs db) (i : SeqInsert) (fit : FitsSeqInsert defs i) (area : Area)
    (c : Contains (areas_of defs) area) (takes_it : takes area i ≡ true) where
  its : AtArea defs db area
  its = at_area defs db good area c

  -- its database is the area's
  dedb_is : area.dedb ≡ i.dedb
  dedb_is = number_is area.dedb i.dedb (first_of_both (area.dedb == i.dedb) (nat_le area.first_anchor i.anchor)
      (first_of_both (area.dedb == i.dedb && nat_le area.first_anchor i.anchor)
      (nat_lt i.anchor (area.first_anchor + anchors_in area.def)) takes_it))
    where
      number_is : (a b : ℕ) → (a == b) ≡ true → a ≡ b
      number_is a b e = grind arith

  in_area : has_anchor (alone area) 0 i.anchor ≡ true
  in_area =
      let front = first_of_both (area.dedb == i.dedb && nat_le area.first_anchor i.anchor)
      (nat_lt i.anchor (area.first_anchor + anchors_in area.def)) takes_it in
      and_from (0 == 0 && nat_le area.first_anchor i.anchor)
      (nat_lt i.anchor (area.first_anchor + anchors_in area.def))
      (second_of_both (area.dedb == i.dedb) (nat_le area.first_anchor i.anchor) front)
      (second_of_both (area.dedb == i.dedb && nat_le area.first_anchor i.anchor)
      (nat_lt i.anchor (area.first_anchor + anchors_in area.def)) takes_it)

  def_is : fit.def ≡ its.def
  def_is = same_Some fit.def its.def
      (sym (subst (λ (n : ℕ). slice_get defs.dedbs n ≡ Some fit.def) (sym dedb_is) fit.defined) ∙ its.defined)

  -- the roots of its anchor
  roots_there : (roots : List Root) × (slice_get its.dedb.anchors i.anchor ≡ Some roots)
  roots_there =
      let inside = lies_in (alone area) 0 i.anchor in_area in
      let within = ends_within 0 0 0 its.def.areas (alone area) its.there in
      let long : length its.dedb.anchors ≡ anchor_count its.def = its.good.anchors in
      get_there its.dedb.anchors i.anchor (omega (arith, inside.high, within, long))

  abbrev after : Db
  after = numbered_at defs i area db

  -- the database with the insert
  abbrev new : Dedb
  new = with_sequential its.def (alone area) i.anchor its.ends roots_there.0 i.key i.bytes its.dedb

  -- with the dependent, and then with the ends
  abbrev first : AreaEnds → List SegDef → Dedb → Dedb
  first ends types d = record d {
    anchors =
        option_map_or (λ (roots : List Root). slice_set d.anchors i.anchor
        (change_key (root_key types) i.key (with_newest (record { serial = ends.end; bytes = i.bytes })) roots))
        (slice_get d.anchors i.anchor) d.anchors;
  }

  abbrev second : AreaEnds → Dedb → Dedb
  second ends d = record d { areas = slice_set d.areas area.number (ending_at (ends.end + 1) ends) }

  both_are : second (ends_at db area) (first (ends_at db area) (types_of defs i.dedb) its.dedb) ≡ new
  both_are =
      let at : slice_get defs.dedbs i.dedb ≡ Some its.def =
      subst (λ (n : ℕ). slice_get defs.dedbs n ≡ Some its.def) dedb_is its.defined in
      let types_are : types_of defs i.dedb ≡ its.def.segments = rw at refl in
      ap (λ (e : AreaEnds). second e (first e (types_of defs i.dedb) its.dedb)) its.ends_are
      ∙ ap (λ (types : List SegDef). second its.ends (first its.ends types its.dedb)) types_are
      ∙ ap (λ (o : Option (List Root)). second its.ends (record its.dedb {
        anchors =
            option_map_or (λ (roots : List Root). slice_set its.dedb.anchors i.anchor
            (with_serial its.def its.ends.end i.key i.bytes roots)) o its.dedb.anchors;
      })) roots_there.1

  inserted_to : after.dedbs ≡ slice_set db.dedbs area.dedb new
  inserted_to =
      let ends : AreaEnds = ends_at db area in
      let put : Dedb → Dedb = first ends (types_of defs i.dedb) in
      let one = dedb_changed area.dedb put db its.dedb its.now in
      let there : slice_get (with_dedb area.dedb put db).dedbs area.dedb ≡ Some (put its.dedb) =
      ap (λ (ds : List Dedb). slice_get ds area.dedb) one
      ∙ get_set_same db.dedbs area.dedb (put its.dedb) its.dedb its.now in
      ap (λ (n : ℕ). (with_dedb area.dedb (second ends) (with_dedb n put db)).dedbs) (sym dedb_is)
      ∙ dedb_changed area.dedb (second ends) (with_dedb area.dedb put db) (put its.dedb) there
      ∙ ap (λ (ds : List Dedb). slice_set ds area.dedb (second ends (put its.dedb))) one
      ∙ set_twice db.dedbs area.dedb (put its.dedb) (second ends (put its.dedb))
      ∙ ap (λ (d : Dedb). slice_set db.dedbs area.dedb d) both_are

  -- ---- the ends behind it

  new_there : slice_get after.dedbs area.dedb ≡ Some new
  new_there =
      ap (λ (ds : List Dedb). slice_get ds area.dedb) inserted_to ∙ get_set_same db.dedbs area.dedb new its.dedb its.now

  ends_here : ends_at after area ≡ ending_at (its.ends.end + 1) its.ends
  ends_here = ends_in after area new (ending_at (its.ends.end + 1) its.ends) new_there
      (get_set_same its.dedb.areas area.number (ending_at (its.ends.end + 1) its.ends) its.ends its.ends_now)

  -- another area's ends stay
  ends_there : (b : Area) → Contains (areas_of defs) b → (b.dedb ≡ area.dedb → ¬ (b.number ≡ area.number))
      → ends_at after b ≡ ends_at db b
  ends_there b b_there other = elim (cases_eq b.dedb area.dedb) [
    | inl same ↦
        let b_its = at_area defs db good b b_there in
        let at : slice_get db.dedbs area.dedb ≡ Some b_its.dedb =
        subst (λ (n : ℕ). slice_get db.dedbs n ≡ Some b_its.dedb) same b_its.now in
        let dedb_same : b_its.dedb ≡ its.dedb = same_Some b_its.dedb its.dedb (sym at ∙ its.now) in
        let b_ends : slice_get its.dedb.areas b.number ≡ Some b_its.ends =
        subst (λ (d : Dedb). slice_get d.areas b.number ≡ Some b_its.ends) dedb_same b_its.ends_now in
        let new_at : slice_get after.dedbs b.dedb ≡ Some new =
        subst (λ (n : ℕ). slice_get after.dedbs n ≡ Some new) (sym same) new_there in
        ends_in after b new b_its.ends new_at
        (get_other its.dedb.areas area.number b.number (ending_at (its.ends.end + 1) its.ends) (other same)
        ∙ b_ends) ∙ sym b_its.ends_are
    | inr far ↦
        ap (ends_of b)
        (ap (λ (ds : List Dedb). slice_get ds b.dedb) inserted_to ∙ get_other db.dedbs area.dedb b.dedb new far)
  ]
    where
      ends_of : Area → Option Dedb → AreaEnds
      ends_of b o = option_map_or (λ (d : Dedb). unwrap_or (slice_get d.areas b.number) first_ends) o first_ends

  -- ---- what stays

  module _ (others : List SeqInsert) (room : HasRoom db (i ∷ others) area) where
    -- room for it and the others
    is_room : (its.ends.end - its.ends.begin + (1 + count area others) ≤ area.def.capacity)
        × (its.ends.end + (1 + count area others) ≤ 2 ^ 62)
    is_room =
        let n : count area (i ∷ others) ≡ 1 + count area others =
        count_more area i others ∙ ap (λ b. (if b then 1 else 0) + count area others) takes_it in
        let both = room (omega (arith, n)) in
        subst
        (λ (e : AreaEnds). (e.end - e.begin + (1 + count area others) ≤ area.def.capacity)
        × (e.end + (1 + count area others) ≤ 2 ^ 62)) its.ends_are
        (subst
        (λ (k : ℕ). ((ends_at db area).end - (ends_at db area).begin + k ≤ area.def.capacity)
        × ((ends_at db area).end + k ≤ 2 ^ 62)) n both)

    order : its.ends.begin ≤ its.ends.end
    order =
        let p = placed 0 0 0 its.def.areas (alone area) its.there in
        let place : p.place ≡ area.number = omega (arith, p.its_number) in
        let at : slice_get its.def.areas area.number ≡ Some area.def =
        subst (λ (k : ℕ). slice_get its.def.areas k ≡ Some area.def) place p.its_def in
        (ends_are area.def.capacity its.ends
        (each_at (λ area ends. are_ends area.capacity ends ≡ true) its.def.areas its.dedb.areas area.number area.def
        its.ends its.good.areas at its.ends_now)).order

    insert_good : IsDbOf defs after
    insert_good =
        let fits : FitsSequential its.def its.dedb (alone area) i.anchor its.ends roots_there.0 i.bytes = record {
          area_there = its.there;
          in_area = in_area;
          ends_now = its.ends_now;
          roots_now = roots_there.1;
          type = fit.type;
          kind = subst (λ (d : DedbDef). sequential_type d.segments ≡ Some fit.type) def_is fit.kind;
          long = subst (λ (d : DedbDef). has_length d.segments fit.type i.bytes ≡ true) def_is fit.long;
          room = omega (arith, is_room.0, order);
          last = omega (arith, is_room.1);
        } in
        record {
          msdbs = good.msdbs;
          dedbs = subst (AllZip IsDedbOf defs.dedbs) (sym inserted_to)
              (each_set IsDedbOf defs.dedbs db.dedbs area.dedb its.def new good.dedbs its.defined
              (sequential_good its.def its.dedb (alone area) i.anchor its.ends roots_there.0 i.key i.bytes its.good
              fits));
        }

    -- the others have room as before
    room_here : HasRoom after others area
    room_here some =
        subst
        (λ (e : AreaEnds). (e.end - e.begin + count area others ≤ area.def.capacity)
        × (e.end + count area others ≤ 2 ^ 62)) (sym ends_here)
        (omega (arith, is_room.0, order), omega (arith, is_room.1))

  room_there : (others : List SeqInsert) (b : Area) → Contains (areas_of defs) b
      → (b.dedb ≡ area.dedb → ¬ (b.number ≡ area.number)) → HasRoom db others b → HasRoom after others b
  room_there others b b_there other room some =
      subst
      (λ (e : AreaEnds). (e.end - e.begin + count b others ≤ b.def.capacity) × (e.end + count b others ≤ 2 ^ 62))
      (sym (ends_there b b_there other)) (room some)

-- ---- all inserts

-- fewer inserts have room where all have
fewer_have_room : (db : Db) (i : SeqInsert) (others : List SeqInsert) (b : Area) → HasRoom db (i ∷ others) b
    → HasRoom db others b
fewer_have_room db i others b room some =
    let n = count_more b i others in
    let both = room (omega (arith, n, some)) in
    (omega (arith, n, both.0), omega (arith, n, both.1))

-- a state in shape, whose areas have room for inserts
pub record HasShapeAndRoom (defs : Defs) (inserts : List SeqInsert) (db : Db) : Type 0 where
  pub good : IsDbOf defs db
  pub room : (area : Area) → Contains (areas_of defs) area → HasRoom db inserts area

pub one_insert : (defs : Defs) (db : Db) (i : SeqInsert) (others : List SeqInsert) → FitsSeqInsert defs i
    → HasShapeAndRoom defs (i ∷ others) db → HasShapeAndRoom defs others (with_insert defs db i)
one_insert defs db i others fit has = by (find (λ area. takes area i) (areas_of defs)) refl
  where
    fewer : (b : Area) → Contains (areas_of defs) b → HasRoom db others b
    fewer b b_there = fewer_have_room db i others b (has.room b b_there)

    other : (area b : Area) → (c : Contains (areas_of defs) area) → (t : takes area i ≡ true)
        → Contains (areas_of defs) b → (b.dedb ≡ area.dedb) ⊎ ¬ (b.dedb ≡ area.dedb)
        → (b.number ≡ area.number) ⊎ ¬ (b.number ≡ area.number) → HasRoom (numbered_at defs i area db) others b
    other area b c t b_there (inl dedb) (inl number) =
        subst (HasRoom (numbered_at defs i area db) others) (sym (same_area defs.dedbs b area b_there c dedb number))
        (room_here defs db has.good i fit area c t others (has.room area c))
    other area b c t b_there (inl dedb) (inr number) =
        room_there defs db has.good i fit area c t others b b_there (λ e. number) (fewer b b_there)
    other area b c t b_there (inr dedb) any =
        room_there defs db has.good i fit area c t others b b_there (λ e. absurd (dedb e)) (fewer b b_there)

    by : (o : Option Area) → find (λ area. takes area i) (areas_of defs) ≡ o
        → HasShapeAndRoom defs others (option_map_or (λ area. numbered_at defs i area db) o db)
    by None e = record { good = has.good; room = fewer }
    by (Some area) e =
        let c = found_is_there (λ area. takes area i) (areas_of defs) area e in
        let t = found_passes (λ area. takes area i) (areas_of defs) area e in
        record {
          good = insert_good defs db has.good i fit area c t others (has.room area c);
          room = λ b b_there. other area b c t b_there (cases_eq b.dedb area.dedb) (cases_eq b.number area.number);
        }

pub inserts_good : (defs : Defs) (inserts : List SeqInsert) (db : Db) → AllByRecursion (FitsSeqInsert defs) inserts
    → HasShapeAndRoom defs inserts db → IsDbOf defs (with_inserts defs inserts db)
inserts_good defs [] db all has = has.good
inserts_good defs (i ∷ others) db all has =
    inserts_good defs others (with_insert defs db i) all.1 (one_insert defs db i others all.0 has)
