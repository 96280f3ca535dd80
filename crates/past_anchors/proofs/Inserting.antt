-- Sequential inserts: what one needs of its database, and what it makes of the state.
use Rattle.std.proofs.Common.{◌≡◌, ℕ, ◌+◌, ◌<◌, ◌≤◌, ◌^◌, List, [], ◌∷◌, map, length, get_or, Option, Some, None, refl, sym, ◌∙◌, ap, subst, Bool, true, ◌&&◌, ◌==◌, nat_le, nat_lt, slice_get, slice_set, arith}
use Rattle.std.specs.Prelude.{Contains, filter, find, if◌then◌else◌}
use Rattle.std.specs.List.{AllByRecursion, list_all}
use Rattle.std.specs.Option.{option_map_or}
use Rattle.fp_model.specs.Commit.{FillsPart, ends_at, first_full, is_too_full, numbered_at, takes, types_of, with_anchors, with_dedb, with_insert, with_newest}
use Rattle.fp_model.specs.Exits.{anchor_of}
use Rattle.fp_model.specs.Order.{root_key}
use Rattle.fp_model.specs.Shape.{IsDbOf, IsDedbOf, are_ends, is_anchor, is_root}
use Rattle.fp_model.specs.State.{Area, anchors_in, anchor_count, areas_from, areas_of, ascend, change_key, first_area_set, has_anchor, loaded}
use Rattle.fp_model.specs.WellFormed.{AreDefs}
use Rattle.fp_model.specs.declared.calls.AnchorChange.{AnchorChange}
use Rattle.fp_model.specs.declared.calls.SeqInsert.{SeqInsert}
use Rattle.fp_model.specs.declared.database.AreaEnds.{AreaEnds}
use Rattle.fp_model.specs.declared.database.Db.{Db}
use Rattle.fp_model.specs.declared.database.Dedb.{Dedb}
use Rattle.fp_model.specs.declared.database.Msdb.{Msdb}
use Rattle.fp_model.specs.declared.database.Root.{Root}
use Rattle.fp_model.specs.declared.definitions.AreaDef.{AreaDef}
use Rattle.fp_model.specs.declared.definitions.DedbDef.{DedbDef}
use Rattle.fp_model.specs.declared.definitions.Defs.{Defs}
use Rattle.fp_model.specs.declared.definitions.SegDef.{SegDef}
use Rattle.past_anchors.specs.Databases.{AreDedbsOf, FitsCommit, HasRoom, state_of}
use Rattle.past_anchors.specs.inside.Inserts.{one_later, with_numbered}
use Rattle.past_anchors.proofs.Areas.{found_in, found_nowhere}
use Rattle.state_laws.specs.Parts.{FitsAnchorChange, FitsSeqInsert}
use Rattle.state_laws.proofs.Areas.{alone, alone_there, lies_in, placed}
use Rattle.state_laws.proofs.Committing.{anchors_good, anchors_leave_ends}
use Rattle.state_laws.proofs.Lists.{each_at}
use Rattle.state_laws.proofs.Numbering.{HasShapeAndRoom, one_insert, room_left}
use Rattle.state_laws.proofs.Purging.{dedb_changed, ends_are, partner}
use Rattle.state_laws.proofs.Stands.{all_contained, ends_in, ends_within}
use Rattle.state_laws.proofs.Start.{start_good}
use Rattle.std.proofs.lemmas.Bool.{and_from}
use Rattle.plain_laws.proofs.Truths.{first_of_both, second_of_both}
use Rattle.plain_laws.proofs.Alls.{found_is_there, found_passes}
use Rattle.plain_laws.proofs.Places.{get_set_same, get_there, set_twice, stands_at}
use Rattle.std.proofs.lemmas.Option.{slice_get_within}

-- ---- the whole state

-- with the main storage databases of the start beside them
abbrev pub beside : Defs → List Dedb → Db
beside defs dedbs = state_of (map loaded defs.msdbs) dedbs

pub whole : (defs : Defs) (dedbs : List Dedb) → AreDefs defs → AreDedbsOf defs dedbs → IsDbOf defs (beside defs dedbs)
whole defs dedbs are shape = record { msdbs = (start_good defs are).msdbs; dedbs = shape }

-- ---- a database

pub dedb_within : (defs : Defs) (dedbs : List Dedb) (n : ℕ) (def : DedbDef) → AreDedbsOf defs dedbs
    → slice_get defs.dedbs n ≡ Some def → n < length dedbs
dedb_within defs dedbs n def shape defined =
    let d = partner IsDedbOf defs.dedbs dedbs n def shape defined in
    slice_get_within dedbs n d.0 d.1

pub dedb_good : (defs : Defs) (dedbs : List Dedb) (n : ℕ) (def : DedbDef) (d : Dedb) → AreDedbsOf defs dedbs
    → slice_get defs.dedbs n ≡ Some def → slice_get dedbs n ≡ Some d → IsDedbOf def d
dedb_good defs dedbs n def d shape defined now = each_at IsDedbOf defs.dedbs dedbs n def d shape defined now

-- its definition, as it was read
pub its_def : (defs items : List DedbDef) (n k : ℕ) (def : DedbDef) → items ≡ defs → n ≡ k → n < length defs
    → def ≡ get_or items n def → slice_get defs k ≡ Some def
its_def defs items n k def same is less at =
    subst (λ (m : ℕ). slice_get defs m ≡ Some def) is
    (stands_at defs n def less (at ∙ ap (λ (xs : List DedbDef). get_or xs n def) same))

-- its area that has an anchor, as it was found
pub its_area : (dedb anchor : ℕ) (areas others : List AreaDef) (o : Option Area)
    → o ≡ find (λ a. has_anchor a dedb anchor) (areas_from dedb 0 0 areas) → areas ≡ others
    → find (λ a. has_anchor a dedb anchor) (areas_from dedb 0 0 others) ≡ o
its_area dedb anchor areas others o found same =
    sym (found ∙ ap (λ (xs : List AreaDef). find (λ a. has_anchor a dedb anchor) (areas_from dedb 0 0 xs)) same)

-- an area of it that has an anchor
module _ (def : DedbDef) (d : Dedb) (good : IsDedbOf def d) (n anchor : ℕ) (area : Area)
    (found : find (λ a. has_anchor a n anchor) (areas_from n 0 0 def.areas) ≡ Some area) where
  has : has_anchor area n anchor ≡ true
  has = found_passes (λ a. has_anchor a n anchor) (areas_from n 0 0 def.areas) area found

  there : Contains (areas_from 0 0 0 def.areas) (alone area)
  there = alone_there n 0 0 def.areas area
      (found_is_there (λ a. has_anchor a n anchor) (areas_from n 0 0 def.areas) area found)

  has_alone : has_anchor (alone area) 0 anchor ≡ true
  has_alone =
      let last : Bool = nat_lt anchor (area.first_anchor + anchors_in area.def) in
      let front = first_of_both (area.dedb == n && nat_le area.first_anchor anchor) last has in
      and_from (0 == 0 && nat_le area.first_anchor anchor) last
      (second_of_both (area.dedb == n) (nat_le area.first_anchor anchor) front)
      (second_of_both (area.dedb == n && nat_le area.first_anchor anchor) last has)

  -- its number and definition
  area_at : slice_get def.areas area.number ≡ Some area.def
  area_at =
      let p = placed 0 0 0 def.areas (alone area) there in
      let place : p.place ≡ area.number = omega (arith, p.its_number) in
      subst (λ (k : ℕ). slice_get def.areas k ≡ Some area.def) place p.its_def

  pub ends_there : (e : AreaEnds) × (slice_get d.areas area.number ≡ Some e)
  ends_there = partner (λ area ends. are_ends area.capacity ends ≡ true) def.areas d.areas area.number area.def
      good.areas area_at

  pub number_within : area.number < length d.areas
  number_within = slice_get_within d.areas area.number ends_there.0 ends_there.1

  pub anchor_within : anchor < length d.anchors
  anchor_within =
      let inside = lies_in (alone area) 0 anchor has_alone in
      let within = ends_within 0 0 0 def.areas (alone area) there in
      let long : length d.anchors ≡ anchor_count def = good.anchors in
      omega (arith, inside.high, within, long)

  pub roots_there : (roots : List Root) × (slice_get d.anchors anchor ≡ Some roots)
  roots_there = get_there d.anchors anchor anchor_within

  pub last_is : (ends : AreaEnds) → slice_get d.areas area.number ≡ Some ends → ends.end < 2 ^ 63
  last_is ends at =
      let e = ends_are area.def.capacity ends
      (each_at (λ area ends. are_ends area.capacity ends ≡ true) def.areas d.areas area.number area.def ends good.areas
      area_at at) in
      omega (arith, e.last)

  pub keys_ascend : (roots : List Root) → slice_get d.anchors anchor ≡ Some roots
      → ascend (map (root_key def.segments) roots) ≡ true
  keys_ascend roots at =
      let is : is_anchor def anchor ends_there.0 roots ≡ true =
      good.each_anchor (alone area) ends_there.0 anchor roots there ends_there.1 has_alone at in
      let a = list_all (is_root def.segments ends_there.0) roots in
      let b = ascend (map (root_key def.segments) roots) in
      let c = list_all (λ root. anchor_of def (root_key def.segments root) == anchor) roots in
      second_of_both a b (first_of_both (a && b) c is)

-- ---- one insert

module _ (defs : Defs) (msdbs : List Msdb) (dedbs : List Dedb) (i : SeqInsert) where
  -- none where no area takes it
  nothing : find (λ a. takes a i) (areas_of defs) ≡ None
      → with_insert defs (state_of msdbs dedbs) i ≡ state_of msdbs dedbs
  nothing e = ap (λ o. option_map_or (λ a. numbered_at defs i a (state_of msdbs dedbs)) o (state_of msdbs dedbs)) e

  pub no_database : length defs.dedbs ≤ i.dedb → with_insert defs (state_of msdbs dedbs) i ≡ state_of msdbs dedbs
  no_database past = nothing (found_nowhere 0 defs.dedbs i.dedb i.anchor (omega (arith, past)))

  module _ (def : DedbDef) (defined : slice_get defs.dedbs i.dedb ≡ Some def) where
    found_there_alone : find (λ a. takes a i) (areas_of defs)
        ≡ find (λ a. has_anchor a i.dedb i.anchor) (areas_from i.dedb 0 0 def.areas)
    found_there_alone = found_in 0 defs.dedbs i.dedb i.dedb def i.anchor (omega arith) defined

    pub no_area : find (λ a. has_anchor a i.dedb i.anchor) (areas_from i.dedb 0 0 def.areas) ≡ None
        → with_insert defs (state_of msdbs dedbs) i ≡ state_of msdbs dedbs
    no_area none = nothing (found_there_alone ∙ none)

    module _ (area : Area) (d : Dedb) (ends : AreaEnds) (roots : List Root)
        (found : find (λ a. has_anchor a i.dedb i.anchor) (areas_from i.dedb 0 0 def.areas) ≡ Some area)
        (now : slice_get dedbs i.dedb ≡ Some d) (ends_now : slice_get d.areas area.number ≡ Some ends)
        (roots_now : slice_get d.anchors i.anchor ≡ Some roots) where
      abbrev db : Db
      db = state_of msdbs dedbs

      dedb_is : area.dedb ≡ i.dedb
      dedb_is =
          number_is area.dedb i.dedb (first_of_both (area.dedb == i.dedb) (nat_le area.first_anchor i.anchor)
          (first_of_both (area.dedb == i.dedb && nat_le area.first_anchor i.anchor)
          (nat_lt i.anchor (area.first_anchor + anchors_in area.def))
          (found_passes (λ a. has_anchor a i.dedb i.anchor) (areas_from i.dedb 0 0 def.areas) area found)))
        where
          number_is : (a b : ℕ) → (a == b) ≡ true → a ≡ b
          number_is a b e = grind arith

      -- with the dependent, and then with the ends
      abbrev first : AreaEnds → List SegDef → Dedb → Dedb
      first ends types d = record d {
        anchors =
            option_map_or (λ (roots : List Root). slice_set d.anchors i.anchor
            (change_key (root_key types) i.key (with_newest (record { serial = ends.end; bytes = i.bytes })) roots))
            (slice_get d.anchors i.anchor) d.anchors;
      }

      abbrev second : AreaEnds → Dedb → Dedb
      second ends d = record d { areas = slice_set d.areas area.number (one_later ends) }

      there_now : slice_get dedbs area.dedb ≡ Some d
      there_now = subst (λ (n : ℕ). slice_get dedbs n ≡ Some d) (sym dedb_is) now

      both_are : second (ends_at db area) (first (ends_at db area) (types_of defs i.dedb) d)
          ≡ with_numbered def.segments area.number i ends roots d
      both_are =
          let types_are : types_of defs i.dedb ≡ def.segments = rw defined refl in
          ap (λ (e : AreaEnds). second e (first e (types_of defs i.dedb) d))
          (ends_in db area d ends there_now ends_now)
          ∙ ap (λ (types : List SegDef). second ends (first ends types d)) types_are
          ∙ ap (λ (o : Option (List Root)). second ends (record d {
            anchors =
                option_map_or (λ (roots : List Root). slice_set d.anchors i.anchor
                (change_key (root_key def.segments) i.key
                (with_newest (record { serial = ends.end; bytes = i.bytes })) roots)) o d.anchors;
          })) roots_now

      inserted_to : (numbered_at defs i area db).dedbs
          ≡ slice_set dedbs area.dedb (with_numbered def.segments area.number i ends roots d)
      inserted_to =
          let e : AreaEnds = ends_at db area in
          let put : Dedb → Dedb = first e (types_of defs i.dedb) in
          let one = dedb_changed area.dedb put db d there_now in
          let changed : slice_get (with_dedb area.dedb put db).dedbs area.dedb ≡ Some (put d) =
          ap (λ (ds : List Dedb). slice_get ds area.dedb) one ∙ get_set_same dedbs area.dedb (put d) d there_now in
          ap (λ (n : ℕ). (with_dedb area.dedb (second e) (with_dedb n put db)).dedbs) (sym dedb_is)
          ∙ dedb_changed area.dedb (second e) (with_dedb area.dedb put db) (put d) changed
          ∙ ap (λ (ds : List Dedb). slice_set ds area.dedb (second e (put d))) one
          ∙ set_twice dedbs area.dedb (put d) (second e (put d))
          ∙ ap (λ (x : Dedb). slice_set dedbs area.dedb x) both_are

      pub inserted : with_insert defs db i
          ≡ state_of msdbs (slice_set dedbs i.dedb (with_numbered def.segments area.number i ends roots d))
      inserted =
          ap (λ o. option_map_or (λ a. numbered_at defs i a db) o db) (found_there_alone ∙ found)
          ∙ ap (λ (ds : List Dedb). state_of msdbs ds) (inserted_to ∙ ap
          (λ (n : ℕ). slice_set dedbs n (with_numbered def.segments area.number i ends roots d)) dedb_is)

-- ---- all inserts, behind changed anchors

-- too full is only what the ends say
same_ends : (a b : Db) (inserts : List SeqInsert) (set : ℕ) (areas : List Area)
    → ((area : Area) → ends_at a area ≡ ends_at b area) → first_full a inserts set areas
    ≡ first_full b inserts set areas
same_ends a b inserts set [] h = refl
same_ends a b inserts set (area ∷ areas) h =
    let n : ℕ = length (filter (takes area) inserts) in
    ap (λ (e : AreaEnds). if nat_lt 0 n && is_too_full area.def.capacity e n then Some (FillsPart set e.begin e.end n)
    else first_full a inserts (set + 1) areas) (h area)
    ∙ ap (λ o. if nat_lt 0 n && is_too_full area.def.capacity (ends_at b area) n
    then Some (FillsPart set (ends_at b area).begin (ends_at b area).end n) else o)
    (same_ends a b inserts (set + 1) areas h)

-- other segments make no difference to a change of an anchor
still_fit : (defs : Defs) (msdbs others : List Msdb) (dedbs : List Dedb) (changes : List AnchorChange)
    → AllByRecursion (FitsAnchorChange defs (state_of msdbs dedbs)) changes
    → AllByRecursion (FitsAnchorChange defs (state_of others dedbs)) changes
still_fit defs msdbs others dedbs [] all = tt
still_fit defs msdbs others dedbs (c ∷ changes) all =
    let f = all.0 in (
      record { def = f.def; dedb = f.dedb; defined = f.defined; now = f.now; fits = f.fits },
      still_fit defs msdbs others dedbs changes all.1,
    )

module _ (defs : Defs) (dedbs changed : List Dedb) (changes : List AnchorChange) (inserts : List SeqInsert)
    (are : AreDefs defs) (shape : AreDedbsOf defs dedbs) (fits : FitsCommit defs dedbs changes inserts)
    (is : (msdbs : List Msdb) → with_anchors changes (state_of msdbs dedbs) ≡ state_of msdbs changed) where
  pub shape_behind : AreDedbsOf defs changed
  shape_behind =
      let all = still_fit defs fits.msdbs (map loaded defs.msdbs) dedbs changes fits.changed in
      (subst (IsDbOf defs) (is (map loaded defs.msdbs))
      (anchors_good defs changes (beside defs dedbs) (whole defs dedbs are shape) fits.in_order all)).dedbs

  pub room_behind : HasRoom defs dedbs inserts → HasRoom defs changed inserts
  room_behind room msdbs =
      let all = still_fit defs fits.msdbs msdbs dedbs changes fits.changed in
      same_ends (state_of msdbs changed) (state_of msdbs dedbs) inserts first_area_set (areas_of defs)
      (λ area. ap (λ db. ends_at db area) (sym (is msdbs))
      ∙ anchors_leave_ends defs changes (state_of msdbs dedbs) fits.in_order all area)
      ∙ room msdbs

-- a start of a row of inserts
pub first_of : (defs : Defs) (dedbs : List Dedb) (inserts : List SeqInsert) → AreDefs defs → AreDedbsOf defs dedbs
    → HasRoom defs dedbs inserts → HasShapeAndRoom defs inserts (beside defs dedbs)
first_of defs dedbs inserts are shape room =
    let left = room_left (beside defs dedbs) inserts first_area_set (areas_of defs) (room (map loaded defs.msdbs)) in
    record {
      good = whole defs dedbs are shape;
      room = λ area c. all_contained _ (areas_of defs) area left c;
    }

-- the next of them
pub next_of : (defs : Defs) (dedbs next : List Dedb) (i : SeqInsert) (others : List SeqInsert) → FitsSeqInsert defs i
    → with_insert defs (beside defs dedbs) i ≡ beside defs next
    → HasShapeAndRoom defs (i ∷ others) (beside defs dedbs) → HasShapeAndRoom defs others (beside defs next)
next_of defs dedbs next i others fit is has =
    subst (HasShapeAndRoom defs others) is (one_insert defs (beside defs dedbs) i others fit has)
