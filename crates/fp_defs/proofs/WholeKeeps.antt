-- Definitions that are read are well formed.
use Rattle.std.proofs.Common.{◌≡◌, ℕ, zero, suc, ◌+◌, ◌<◌, ◌≤◌, List, [], ◌∷◌, ◌++◌, length, map, max, get_or, fold, find, Bool, true, false, cond, not, ◌==◌, ◌⊎◌, inl, inr, Option, Some, None, Result, Ok, Err, pos, nat_lt, codes, refl, sym, ap, subst, ◌∙◌, append_assoc, arith}
use Rattle.std.specs.Prelude.{⊤, Contains, flat_map, IfOk}
use Rattle.std.specs.List.{AllByRecursion, IsDistinct, list_any}
use Rattle.std.specs.Option.{option_map_or}
use Rattle.std.proofs.lemmas.Bool.Decides.{nat_tests}
use Rattle.std.proofs.lemmas.Bool.{cases_lt, or_cases}
use Rattle.std.proofs.lemmas.Grind.{flat_map-append}
use Rattle.std.proofs.lemmas.List.{map-append}
use Rattle.toml.specs.Data.{Items, Members, as_array}
use Rattle.fp_model.specs.declared.name.Name.{Name}
use Rattle.fp_model.specs.declared.definitions.MsdbDef.{MsdbDef}
use Rattle.fp_model.specs.declared.definitions.AreaDef.{AreaDef}
use Rattle.fp_model.specs.declared.definitions.DedbDef.{DedbDef}
use Rattle.fp_model.specs.declared.definitions.Defs.{Defs}
use Rattle.fp_model.specs.Texts.{same_text}
use Rattle.fp_model.specs.State.{numbers_up}
use Rattle.fp_model.specs.WellFormed.{Between, AreDistinct, IsMsdbDef, IsDedbDef, AreGroups, AreDefs}
use Rattle.def_tables.specs.Readings.{or_fault, in_turn, Gives}
use Rattle.def_tables.specs.Keys.{occurs, only, needed, within, number_or, exit_at, tables_or_none}
use Rattle.fp_defs.specs.Msdbs.{msdb_names, msdb_of}
use Rattle.fp_defs.specs.Areas.{area_names}
use Rattle.fp_defs.specs.Dedbs.{dedb_names, areas_named, intervals_of, dedb_of}
use Rattle.fp_defs.specs.Whole.{items_in, group_of, greatest, missing_group, no_gap, groups_in, regions_at, databases_of, defs_in, document_of, defs_of}
use Rattle.def_tables.specs.declared.fault.DefsFault.{DefsFault}
use Rattle.def_tables.specs.declared.fault.DefsFault.TheVariants.{NotToml, OutOfLimit, BadField, TooLong}
use Rattle.def_tables.specs.declared.keys.Form.TheVariants.{Top}
use Rattle.fp_defs.proofs.Beside.{Beside, IsRead, read_in_turn, beside_map, beside_each}
use Rattle.fp_defs.proofs.Distinct.{no_texts, nothing_more, distinct_beside}
use Rattle.fp_defs.proofs.DedbLemmas.{number_or-within, number_within-within}
use Rattle.fp_defs.proofs.DedbKeeps.{DedbKeeps, dedb_keeps}
use Rattle.def_tables.proofs.KeyLemmas.{within-ok}
use Rattle.fp_defs.proofs.MsdbLemmas.{MsdbKeeps, msdb_keeps}
use Rattle.def_tables.proofs.Steps.{ok_step, ok_same}
use Rattle.plain_laws.proofs.Lists.{greatest_from, map_twice}

-- ---- groups

none_first : (b : Bool) (x : ℕ) (rest : Option ℕ) → cond b (Some x) rest ≡ None → (b ≡ false) × (rest ≡ None)
none_first true x rest e = absurd (cc)
none_first false x rest e = (refl, e)

-- where none is found, each fails the test
from_or_later : (from g : ℕ) → from ≤ g → (from ≡ g) ⊎ (from + 1 ≤ g)
from_or_later from g low = elim (cases_lt from g) [ inl h ↦ inr (omega arith) | inr h ↦ inl (omega arith) ]

none_found : (test : ℕ → Bool) (n from g : ℕ) → find test (numbers_up n from) ≡ None → from ≤ g → g < from + n
    → test g ≡ false
none_found test zero from g e low high = absurd (omega arith)
none_found test (suc n) from g e low high =
    let h = none_first (test from) from (find test (numbers_up n (from + 1))) e in
    elim (from_or_later from g low) [
      | inl same ↦ subst (λ (k : ℕ). test k ≡ false) same h.0
      | inr later ↦ none_found test n (from + 1) g h.1 later (omega arith)
    ]

from_not : (b : Bool) → not b ≡ false → b ≡ true
from_not true e = refl
from_not false e = absurd (cc)

found_contains : (groups : List ℕ) (g : ℕ) → list_any (λ h. h == g) groups ≡ true → Contains groups g
found_contains [] g e = absurd (cc)
found_contains (h ∷ hs) g e =
    elim (or_cases (h == g) (list_any (λ k. k == g) hs) e) [
      | inl here ↦ (0, omega arith, grind (arith, nat_tests))
      | inr later ↦ let r = found_contains hs g later in (suc r.0, omega (arith, r.1), r.2)
    ]

greatest_above : (groups : List ℕ) (most k g : ℕ) → k < length groups → get_or groups k g ≡ g → g ≤ fold max most groups
greatest_above [] most k g within is = absurd (omega arith)
greatest_above (h ∷ hs) most zero g within is = let r = greatest_from hs (max most h) in grind (arith, is)
greatest_above (h ∷ hs) most (suc k) g within is = greatest_above hs (max most h) k g (omega arith) is

no_gap-by : (o : Option ℕ) (done : ⊤) → option_map_or (λ g. Err (OutOfLimit (codes "regions") (pos g))) o (Ok tt) ≡ Ok
    done → o ≡ None
no_gap-by None done e = refl
no_gap-by (Some g) done e = absurd (cc)

no_gap-none : (groups : List ℕ) (done : ⊤) → no_gap groups ≡ Ok done → missing_group groups ≡ None
unfolding no_gap
no_gap-none groups done e = no_gap-by (missing_group groups) done e

all_have : (groups : List ℕ) → missing_group groups ≡ None → (group most : ℕ) → Contains groups most → 1 ≤ group
    → group ≤ most → Contains groups group
all_have groups none group most has low high =
    let top : most ≤ greatest groups = greatest_above groups 0 has.0 most has.1 has.2 in
    found_contains groups group
    (from_not (list_any (λ h. h == group) groups) (none_found (λ g. not (list_any (λ h. h == g) groups))
    (greatest groups) 1 group none low (omega arith)))

-- what the groups of the regions keep
abbrev GroupsKeep : List ℕ → Type 0
GroupsKeep groups = Between 1 64 (length groups) × AreGroups groups

groups_keep : (items : Items) (groups : List ℕ) → groups_in items ≡ Ok groups → GroupsKeep groups
unfolding groups_in
groups_keep items groups e =
    let c = ok_step (within (codes "regions") 1 64 (pos (length (items_in items)))) _ groups e in
    let g = ok_step (in_turn group_of [] (items_in items)) _ groups c.2 in
    let n = ok_step (no_gap g.0) _ groups g.2 in
    let made : Ok g.0 ≡ Ok groups = n.2 in
    let same : g.0 ≡ groups = cc in
    let read = read_in_turn group_of (items_in items) g.0 g.1 in
    let counted = within-ok _ _ _ _ _ c.1 in
    subst GroupsKeep same (
      (omega (arith, read.1, counted.0), omega (arith, read.1, counted.1)),
      (
        beside_each (Between 1 16) [] g.0 (beside_map (IsRead group_of) (λ _ y. Between 1 16 y)
            (λ _ y r. number_within-within (codes "regions") 1 16 r.0 y r.1) [] g.0 read.0),
        all_have g.0 (no_gap-none g.0 n.0 n.1),
      ),
    )

regions_keep : (table : Members) (groups : List ℕ) → regions_at table ≡ Ok groups → GroupsKeep groups
unfolding regions_at
regions_keep table groups e =
    let value = ok_step (needed (codes "regions") table) _ groups e in
    let items = ok_step (or_fault (BadField (codes "regions")) (as_array value.0)) groups_in groups value.2 in
    groups_keep items.0 groups items.2

-- ---- databases together

intervals_beside : (before ys : List DedbDef) → intervals_of before ≤ 524288
    → Beside (λ earlier y. intervals_of (earlier ++ y ∷ []) ≤ 524288) before ys → intervals_of (before ++ ys) ≤ 524288
intervals_beside before [] few all = subst (λ (ds : List DedbDef). intervals_of ds ≤ 524288) (sym (nothing_more before))
    few
intervals_beside before (y ∷ ys) few all = subst (λ (ds : List DedbDef). intervals_of ds ≤ 524288)
    (append_assoc before (y ∷ []) ys) (intervals_beside (before ++ y ∷ []) ys all.0 all.1)

one_area : (before : List DedbDef) (y : DedbDef) → areas_named (before ++ y ∷ []) ≡ areas_named before ++ area_names
    y.areas
one_area before y = flat_map-append (λ d. area_names d.areas) before (y ∷ []) ∙ ap
    (λ (ts : List (List ℕ)). areas_named before ++ ts) (nothing_more (area_names y.areas))

areas_beside : (msdbs : List MsdbDef) (before ys : List DedbDef) → IsDistinct same_text (areas_named before)
    → Beside (DedbKeeps msdbs) before ys → IsDistinct same_text (areas_named (before ++ ys))
areas_beside msdbs before [] distinct all = subst (λ (ds : List DedbDef). IsDistinct same_text (areas_named ds))
    (sym (nothing_more before)) distinct
areas_beside msdbs before (y ∷ ys) distinct all =
    let first : IsDistinct same_text (areas_named before ++ area_names y.areas) =
    distinct_beside (λ a. a.name.0) (areas_named before) [] y.areas
    (subst (IsDistinct same_text) (sym (nothing_more (areas_named before))) distinct) all.0.areas
    in
    subst (λ (ds : List DedbDef). IsDistinct same_text (areas_named ds)) (append_assoc before (y ∷ []) ys)
    (areas_beside msdbs (before ++ y ∷ []) ys (subst (IsDistinct same_text) (sym (one_area before y)) first) all.1)

area_texts : (dedbs : List DedbDef) → map (λ n. n.0) (flat_map (λ d. map (λ a. a.name) d.areas) dedbs) ≡ areas_named
    dedbs
area_texts [] = refl
area_texts (d ∷ ds) =
    map-append (λ (n : Name). n.0) (map (λ a. a.name) d.areas) (flat_map (λ e. map (λ a. a.name) e.areas) ds)
    ∙ ap (λ (ts : List (List ℕ)). ts ++ map (λ n. n.0) (flat_map (λ e. map (λ a. a.name) e.areas) ds))
    (map_twice (λ (a : AreaDef). a.name) (λ n. n.0) d.areas)
    ∙ ap (λ (ts : List (List ℕ)). area_names d.areas ++ ts) (area_texts ds)

database_texts : (msdbs : List MsdbDef) (dedbs : List DedbDef)
    → map (λ n. n.0) (map (λ d. d.name) msdbs ++ map (λ d. d.name) dedbs) ≡ msdb_names msdbs ++ dedb_names dedbs
database_texts msdbs dedbs =
    map-append (λ (n : Name). n.0) (map (λ d. d.name) msdbs) (map (λ d. d.name) dedbs)
    ∙ ap (λ (ts : List (List ℕ)). ts ++ map (λ n. n.0) (map (λ (d : DedbDef). d.name) dedbs))
    (map_twice (λ (d : MsdbDef). d.name) (λ n. n.0) msdbs)
    ∙ ap (λ (ts : List (List ℕ)). msdb_names msdbs ++ ts) (map_twice (λ (d : DedbDef). d.name) (λ n. n.0) dedbs)

record DatabasesKeep (msdbs : List MsdbDef) (dedbs : List DedbDef) : Type 0 where
  few_msdbs : length msdbs ≤ 32
  each_msdb : AllByRecursion IsMsdbDef msdbs
  few_dedbs : length dedbs ≤ 16
  each_dedb : AllByRecursion IsDedbDef dedbs
  names : AreDistinct (map (λ d. d.name) msdbs ++ map (λ d. d.name) dedbs)
  area_names : AreDistinct (flat_map (λ d. map (λ a. a.name) d.areas) dedbs)
  intervals : intervals_of dedbs ≤ 524288

databases_keep : (msdb_tables dedb_tables : List Members) (all : List MsdbDef × List DedbDef)
    → databases_of msdb_tables dedb_tables ≡ Ok all → DatabasesKeep all.0 all.1
unfolding databases_of
databases_keep msdb_tables dedb_tables all e =
    let cm = ok_step (within (codes "msdb") 0 32 (pos (length msdb_tables))) _ all e in
    let cd = ok_step (within (codes "dedb") 0 16 (pos (length dedb_tables))) _ all cm.2 in
    let m = ok_step (in_turn msdb_of [] msdb_tables) _ all cd.2 in
    let d = ok_step (in_turn (dedb_of m.0) [] dedb_tables) _ all m.2 in
    let made : Ok (m.0, d.0) ≡ Ok all = d.2 in
    let same : (m.0, d.0) ≡ all = cc in
    let msdbs = read_in_turn msdb_of msdb_tables m.0 m.1 in
    let dedbs = read_in_turn (dedb_of m.0) dedb_tables d.0 d.1 in
    let each_msdb = beside_map (IsRead msdb_of) MsdbKeeps (λ before y r. msdb_keeps before r.0 y r.1) [] m.0 msdbs.0 in
    let each_dedb = beside_map (IsRead (dedb_of m.0)) (DedbKeeps m.0) (λ before y r. dedb_keeps m.0 before y r) [] d.0
    dedbs.0 in
    let first : IsDistinct same_text (msdb_names m.0) =
    distinct_beside (λ x. x.name.0) [] [] m.0 no_texts
    (beside_map MsdbKeeps (λ before y. occurs (msdb_names before) y.name.0 ≡ false) (λ _ _ h. h.1) [] m.0 each_msdb)
    in
    let both : IsDistinct same_text (msdb_names m.0 ++ dedb_names d.0) =
    distinct_beside (λ x. x.name.0) (msdb_names m.0) [] d.0
    (subst (IsDistinct same_text) (sym (nothing_more (msdb_names m.0))) first)
    (beside_map (DedbKeeps m.0) (λ before y. occurs (msdb_names m.0 ++ dedb_names before) y.name.0 ≡ false)
    (λ _ _ h. h.new) [] d.0 each_dedb)
    in
    subst (λ (p : List MsdbDef × List DedbDef). DatabasesKeep p.0 p.1) same
    (record {
      few_msdbs = omega (arith, msdbs.1, (within-ok _ _ _ _ _ cm.1).1);
      each_msdb = beside_each IsMsdbDef [] m.0 (beside_map MsdbKeeps (λ _ y. IsMsdbDef y) (λ _ _ h. h.0) [] m.0
          each_msdb);
      few_dedbs = omega (arith, dedbs.1, (within-ok _ _ _ _ _ cd.1).1);
      each_dedb = beside_each IsDedbDef [] d.0 (beside_map (DedbKeeps m.0) (λ _ y. IsDedbDef y) (λ _ _ h. h.whole) []
          d.0 each_dedb);
      names = subst (IsDistinct same_text) (sym (database_texts m.0 d.0)) both;
      area_names = subst (IsDistinct same_text) (sym (area_texts d.0)) (areas_beside m.0 [] d.0 no_texts each_dedb);
      intervals = intervals_beside [] d.0 (omega arith)
          (beside_map (DedbKeeps m.0) (λ before y. intervals_of (before ++ y ∷ []) ≤ 524288) (λ _ _ h. h.intervals) []
          d.0 each_dedb);
    })

-- ---- the whole

defs_keep : (text : List ℕ) (table : Members) (defs : Defs) → length text ≤ 1000000 → defs_in text table ≡ Ok defs
    → AreDefs defs
unfolding defs_in
defs_keep text table defs short e =
    let o = ok_step (only Top table) _ defs e in
    let r = ok_step (regions_at table) _ defs o.2 in
    let x = ok_step (exit_at (codes "router") table) _ defs r.2 in
    let l = ok_step (number_or 100 (codes "log_group") 1 1000 table) _ defs x.2 in
    let p = ok_step (number_or 1000 (codes "pool") 1 100000 table) _ defs l.2 in
    let t = ok_step (number_or 0 (codes "tries") 0 100 table) _ defs p.2 in
    let m = ok_step (tables_or_none (codes "msdb") table) _ defs t.2 in
    let d = ok_step (tables_or_none (codes "dedb") table) _ defs m.2 in
    let a = ok_step (databases_of m.0 d.0) _ defs d.2 in
    let read : Defs = record {
      regions = r.0;
      router = x.0;
      log_group = l.0;
      pool = p.0;
      tries = t.0;
      msdbs = a.0.0;
      dedbs = a.0.1;
      text = text;
    } in
    let same : read ≡ defs = ok_same read defs (Ok read) refl a.2 in
    let regions = regions_keep table r.0 r.1 in
    let databases = databases_keep m.0 d.0 a.0 a.1 in
    subst AreDefs same
    (record {
      regions = regions.0;
      groups = regions.1;
      log_group = number_or-within 100 (codes "log_group") 1 1000 table l.0 (omega arith, omega arith) l.1;
      pool = number_or-within 1000 (codes "pool") 1 100000 table p.0 (omega arith, omega arith) p.1;
      tries = (number_or-within 0 (codes "tries") 0 100 table t.0 (omega arith, omega arith) t.1).1;
      msdbs = databases.few_msdbs;
      each_msdb = databases.each_msdb;
      dedbs = databases.few_dedbs;
      each_dedb = databases.each_dedb;
      names = databases.names;
      area_names = databases.area_names;
      intervals = databases.intervals;
      text = short;
    })

long_by : (b : Bool) (rest : Result Defs DefsFault) (defs : Defs) → cond b (Err TooLong) rest ≡ Ok defs → (b ≡ false)
    × (rest ≡ Ok defs)
long_by true rest defs e = absurd (cc)
long_by false rest defs e = (refl, e)

-- definitions that a text is are well formed
pub are_defs : (text : List ℕ) (defs : Defs) → defs_of text ≡ Ok defs → AreDefs defs
unfolding defs_of
are_defs text defs e =
    let h = long_by (nat_lt 1000000 (length text)) _ defs e in
    let is : nat_lt 1000000 (length text) ≡ false = h.0 in
    let t = ok_step (or_fault NotToml (document_of text)) (defs_in text) defs h.1 in
    defs_keep text t.0 defs (grind (arith, nat_tests)) t.2

-- what a reader gave is well formed
pub given_are_defs : (text : List ℕ) (result : Result Defs DefsFault)
    → Gives {X = Defs} {Y = Defs} (λ defs. defs) result (defs_of text) → IfOk result AreDefs
given_are_defs text (Ok defs) gives = are_defs text defs gives
given_are_defs text (Err fault) gives = tt
