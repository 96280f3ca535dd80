-- A data entry database that is read is well formed, and so are all of them together.
use Rattle.std.proofs.Common.{◌≡◌, ℕ, ◌+◌, ◌-◌, ◌≤◌, List, [], ◌∷◌, ◌++◌, length, map, true, false, ◌||◌, ◌==◌, inl, inr, Ok, ℤ, pos, negsuc, codes, refl, sym, subst, ◌∙◌, append_assoc, arith}
use Rattle.std.specs.Prelude.{Contains}
use Rattle.std.specs.List.{AllByRecursion, IsDistinct}
use Rattle.std.proofs.lemmas.Bool.Decides.{nat_tests}
use Rattle.toml.specs.Data.{Members, as_integer}
use Rattle.fp_model.specs.declared.name.Name.{Name}
use Rattle.fp_model.specs.declared.definitions.Kind.{Kind}
use Rattle.fp_model.specs.declared.definitions.MsdbDef.{MsdbDef}
use Rattle.fp_model.specs.declared.definitions.SegDef.{SegDef}
use Rattle.fp_model.specs.declared.definitions.DedbDef.{DedbDef}
use Rattle.fp_model.specs.Texts.{same_text}
use Rattle.fp_model.specs.Names.{IsName}
use Rattle.fp_model.specs.State.{anchor_count}
use Rattle.fp_model.specs.WellFormed.{AreDistinct, IsSegDef, has_sequential, AllWithinLevels, IsAreaDef, IsDedbDef}
use Rattle.def_tables.specs.Readings.{or_fault, in_turn}
use Rattle.def_tables.specs.Values.{as_tables}
use Rattle.def_tables.specs.Keys.{occurs, only, needed, new_name, within, exit_at, not_empty, tables_at}
use Rattle.fp_defs.specs.Msdbs.{msdb_names}
use Rattle.fp_defs.specs.Segments.{segment_names, segment_of, all_fit}
use Rattle.fp_defs.specs.Areas.{area_names, area_of}
use Rattle.fp_defs.specs.Dedbs.{dedb_names, areas_named, is_interval_size, size_in, interval_size_at, depth_from, intervals_of, ended, dedb_behind, dedb_of}
use Rattle.def_tables.specs.declared.fault.DefsFault.TheVariants.{BadField, OutOfLimit}
use Rattle.def_tables.specs.declared.keys.Form.TheVariants.{Dedb}
use Rattle.fp_defs.proofs.Beside.{Beside, IsRead, read_in_turn, beside_map, beside_each}
use Rattle.fp_defs.proofs.Distinct.{no_texts, distinct_beside}
use Rattle.fp_defs.proofs.DedbLemmas.{AreaKeeps, area_keeps, SegmentKeeps, segment_keeps}
use Rattle.def_tables.proofs.KeyLemmas.{within-ok, from_test}
use Rattle.fp_defs.proofs.MsdbLemmas.{new_name-is}
use Rattle.fp_defs.proofs.SegmentLemmas.{have_places, each_fits}
use Rattle.def_tables.proofs.Steps.{ok_step}
use Rattle.std.proofs.lemmas.Bool.{or_cases}
use Rattle.plain_laws.proofs.Lists.{map_twice}

-- ---- types together

each_type : (before ys all : List SegDef) → all ≡ before ++ ys → Beside SegmentKeeps before ys
    → AllByRecursion (IsSegDef all) ys
each_type before [] all e keeps = tt
each_type before (y ∷ ys) all e keeps = (
  subst (λ (types : List SegDef). IsSegDef types y) (sym e) (keeps.0.0 (y ∷ ys)),
  each_type (before ++ y ∷ []) ys all (e ∙ sym (append_assoc before (y ∷ []) ys)) keeps.1,
)

levels_from : (types : List SegDef) (place : ℕ) (defs : List SegDef) → depth_from types place defs ≤ 4
    → AllWithinLevels types place defs
levels_from types place [] h = tt
levels_from types place (def ∷ defs) h = (grind arith, levels_from types (place + 1) defs (grind arith))

-- names that are apart, as a list of names
apart_names : {A : Type 0} (name : A → Name) (xs : List A) → IsDistinct same_text (map (λ x. (name x).0) xs)
    → AreDistinct (map name xs)
apart_names name xs distinct = subst (IsDistinct same_text) (sym (map_twice name (λ n. n.0) xs)) distinct

-- ---- the size of an interval, and tables

size_in-is : (z : ℤ) (n : ℕ) → size_in z ≡ Ok n → is_interval_size n ≡ true
size_in-is (pos m) n e = let h = from_test (is_interval_size m) m n (OutOfLimit (codes "ci") (pos m)) e in
    subst (λ (k : ℕ). is_interval_size k ≡ true) h.1 h.0
size_in-is (negsuc m) n e = absurd (cc)

interval_size-is : (table : Members) (n : ℕ) → interval_size_at table ≡ Ok n → is_interval_size n ≡ true
unfolding interval_size_at
interval_size-is table n e =
    let value = ok_step (needed (codes "ci") table) _ n e in
    let read = ok_step (or_fault (BadField (codes "ci")) (as_integer value.0)) size_in n value.2 in
    size_in-is read.0 n read.2

size_among : (n : ℕ) → is_interval_size n ≡ true → Contains (512 ∷ 1024 ∷ 2048 ∷ 4096 ∷ []) n
size_among n e =
    elim (or_cases (n == 512 || n == 1024 || n == 2048) (n == 4096) e) [
      | inr d ↦ let is : n ≡ 4096 = grind (arith, nat_tests) in (3, omega arith, sym is)
      | inl abc ↦ elim (or_cases (n == 512 || n == 1024) (n == 2048) abc) [
        | inr c ↦ let is : n ≡ 2048 = grind (arith, nat_tests) in (2, omega arith, sym is)
        | inl ab ↦ elim (or_cases (n == 512) (n == 1024) ab) [
          | inr b ↦ let is : n ≡ 1024 = grind (arith, nat_tests) in (1, omega arith, sym is)
          | inl a ↦ let is : n ≡ 512 = grind (arith, nat_tests) in (0, omega arith, sym is)
        ]
      ]
    ]

some_table : (key : List ℕ) (read tables : List Members) → not_empty key read ≡ Ok tables → 1 ≤ length tables
some_table key [] tables e = absurd (cc)
some_table key (t ∷ ts) tables e = let same : t ∷ ts ≡ tables = cc in
    subst (λ (l : List Members). 1 ≤ length l) same (omega arith)

tables_at-some : (key : List ℕ) (table : Members) (tables : List Members) → tables_at key table ≡ Ok tables
    → 1 ≤ length tables
unfolding tables_at
tables_at-some key table tables e =
    let value = ok_step (needed key table) _ tables e in
    let read = ok_step (or_fault (BadField key) (as_tables value.0)) (not_empty key) tables value.2 in
    some_table key read.0 tables read.2

-- ---- one database

pub record DedbKeeps (msdbs : List MsdbDef) (before : List DedbDef) (def : DedbDef) : Type 0 where
  pub whole : IsDedbDef def
  pub new : occurs (msdb_names msdbs ++ dedb_names before) def.name.0 ≡ false
  pub areas : Beside (λ earlier a. occurs (areas_named before ++ area_names earlier) a.name.0 ≡ false) [] def.areas
  pub intervals : intervals_of (before ++ def ∷ []) ≤ 524288

-- what the end of a table asked
record EndKeeps (before : List DedbDef) (read def : DedbDef) : Type 0 where
  same : read ≡ def
  levels : depth_from read.segments 0 read.segments ≤ 4
  areas : length read.areas ≤ 16
  anchors : anchor_count read ≤ 65536
  intervals : intervals_of (before ++ read ∷ []) ≤ 524288

end_keeps : (before : List DedbDef) (read def : DedbDef) → ended before read ≡ Ok def → EndKeeps before read def
unfolding ended
end_keeps before read def e =
    let l = ok_step (within (codes "segment") 0 4 (pos (depth_from read.segments 0 read.segments))) _ def e in
    let a = ok_step (within (codes "area") 0 16 (pos (length read.areas))) _ def l.2 in
    let n = ok_step (within (codes "area") 0 65536 (pos (anchor_count read))) _ def a.2 in
    let i = ok_step (within (codes "area") 0 524288 (pos (intervals_of (before ++ read ∷ [])))) _ def n.2 in
    let made : Ok read ≡ Ok def = i.2 in
    record {
      same = cc;
      levels = (within-ok _ _ _ _ _ l.1).1;
      areas = (within-ok _ _ _ _ _ a.1).1;
      anchors = (within-ok _ _ _ _ _ n.1).1;
      intervals = (within-ok _ _ _ _ _ i.1).1;
    }

behind_keeps : (msdbs : List MsdbDef) (before : List DedbDef) (name : Name) (randomizer : Kind) (ci : ℕ)
    (segment_tables area_tables : List Members) (def : DedbDef)
    → IsName name → occurs (msdb_names msdbs ++ dedb_names before) name.0 ≡ false → is_interval_size ci ≡ true
    → 1 ≤ length segment_tables → 1 ≤ length area_tables
    → dedb_behind before name randomizer ci segment_tables area_tables ≡ Ok def → DedbKeeps msdbs before def
unfolding dedb_behind
behind_keeps msdbs before name randomizer ci segment_tables area_tables def named new size some_segment some_area e =
    let s = ok_step (in_turn segment_of [] segment_tables) _ def e in
    let f = ok_step (all_fit (ci - 32) s.0 0 s.0) _ def s.2 in
    let a = ok_step (in_turn (area_of (has_sequential s.0) (areas_named before)) [] area_tables) _ def f.2 in
    let c = ok_step (within (codes "segment") 0 15 (pos (length s.0))) _ def a.2 in
    let read : DedbDef = record { name = name; randomizer = randomizer; ci = ci; segments = s.0; areas = a.0 } in
    let end = end_keeps before read def c.2 in
    let segments = read_in_turn segment_of segment_tables s.0 s.1 in
    let areas = read_in_turn (area_of (has_sequential s.0) (areas_named before)) area_tables a.0 a.1 in
    let each_segment = beside_map (IsRead segment_of) SegmentKeeps segment_keeps [] s.0 segments.0 in
    let each_area = beside_map (IsRead (area_of (has_sequential s.0) (areas_named before)))
    (AreaKeeps s.0 (areas_named before)) (λ earlier y r. area_keeps s.0 (areas_named before) earlier r.0 y r.1) []
    a.0 areas.0 in
    subst (DedbKeeps msdbs before) end.same
    (record {
      whole = record {
        name = named;
        size = size_among ci size;
        types = (omega (arith, segments.1), (within-ok _ _ _ _ _ c.1).1);
        places = have_places [] s.0 segments.0;
        each_type = each_type [] s.0 s.0 refl each_segment;
        type_names = apart_names (λ d. d.name) s.0 (distinct_beside (λ d. d.name.0) [] [] s.0 no_texts
            (beside_map SegmentKeeps (λ earlier y. occurs (segment_names earlier) y.name.0 ≡ false) (λ _ _ h. h.1) []
            s.0 each_segment));
        levels = levels_from s.0 0 s.0 end.levels;
        fits = each_fits ci s.0 0 s.0 f.0 f.1;
        areas = (omega (arith, areas.1), end.areas);
        each_area = beside_each (IsAreaDef s.0) [] a.0
            (beside_map (AreaKeeps s.0 (areas_named before)) (λ _ y. IsAreaDef s.0 y) (λ _ _ h. h.0) [] a.0 each_area);
        anchors = end.anchors;
      };
      new = new;
      areas = beside_map (AreaKeeps s.0 (areas_named before))
          (λ earlier y. occurs (areas_named before ++ area_names earlier) y.name.0 ≡ false) (λ _ _ h. h.1) [] a.0
          each_area;
      intervals = end.intervals;
    })

pub dedb_keeps : (msdbs : List MsdbDef) (before : List DedbDef) (def : DedbDef) → IsRead (dedb_of msdbs) before def
    → DedbKeeps msdbs before def
unfolding dedb_of
dedb_keeps msdbs before def read =
    let table = read.0 in
    let o = ok_step (only Dedb table) _ def read.1 in
    let n = ok_step (new_name (msdb_names msdbs ++ dedb_names before) table) _ def o.2 in
    let r = ok_step (exit_at (codes "randomizer") table) _ def n.2 in
    let c = ok_step (interval_size_at table) _ def r.2 in
    let s = ok_step (tables_at (codes "segment") table) _ def c.2 in
    let a = ok_step (tables_at (codes "area") table) _ def s.2 in
    let name = new_name-is (msdb_names msdbs ++ dedb_names before) table n.0 n.1 in
    behind_keeps msdbs before n.0 r.0 c.0 s.0 a.0 def name.0 name.1 (interval_size-is table c.0 c.1)
    (tables_at-some (codes "segment") table s.0 s.1) (tables_at-some (codes "area") table a.0 a.1) a.2
