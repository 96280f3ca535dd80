-- One database of a state is changed.
use Rattle.std.proofs.Common.{◌≡◌, ◌≢◌, inl, inr, ℕ, ◌<◌, List, [], length, Some, None, Option, refl, sym, ◌∙◌, ap, arith}
use Rattle.std.specs.Prelude.{option_map, slice_get, slice_set, unwrap_or}
use Rattle.std.specs.Option.{option_map_or}
use Rattle.std.proofs.lemmas.Bool.{cases_eq}
use Rattle.fp_model.specs.declared.database.AreaEnds.{AreaEnds}
use Rattle.fp_model.specs.declared.database.Db.{Db}
use Rattle.fp_model.specs.declared.database.Dedb.{Dedb}
use Rattle.fp_model.specs.declared.database.Root.{Root}
use Rattle.fp_model.specs.Commit.{ends_at, with_dedb, with_ends}
use Rattle.fp_model.specs.State.{Area, first_ends, roots_at}
use Rattle.area_laws.specs.Areas.{area_count}
use Rattle.plain_laws.proofs.Places.{get_other, get_set, get_set_same, length_set}

-- ---- what is read of a database, if it is there

abbrev pub roots_in : ℕ → Option Dedb → List Root
roots_in anchor o = option_map_or (λ (d : Dedb). unwrap_or (slice_get d.anchors anchor) []) o []

abbrev pub ends_in : ℕ → Option Dedb → AreaEnds
ends_in number o = option_map_or (λ (d : Dedb). unwrap_or (slice_get d.areas number) first_ends) o first_ends

abbrev pub count_in : Option Dedb → ℕ
count_in o = option_map_or (λ (d : Dedb). length d.areas) o 0

-- ---- databases behind a change of one

pub changed_here : (k : ℕ) (f : Dedb → Dedb) (db : Db) → slice_get (with_dedb k f db).dedbs k ≡ option_map f
    (slice_get db.dedbs k)
changed_here k f db = by (slice_get db.dedbs k) refl
  where
    by : (o : Option Dedb) → slice_get db.dedbs k ≡ o
        → slice_get (option_map_or (λ (d : Dedb). slice_set db.dedbs k (f d)) o db.dedbs) k ≡ option_map f o
    by None e = e
    by (Some d) e = get_set_same db.dedbs k (f d) d e

pub others_stay : (k : ℕ) (f : Dedb → Dedb) (db : Db) (j : ℕ) → j ≢ k
    → slice_get (with_dedb k f db).dedbs j ≡ slice_get db.dedbs j
others_stay k f db j ne = by (slice_get db.dedbs k)
  where
    by : (o : Option Dedb) → slice_get (option_map_or (λ (d : Dedb). slice_set db.dedbs k (f d)) o db.dedbs) j
        ≡ slice_get db.dedbs j
    by None = refl
    by (Some d) = get_other db.dedbs k j (f d) ne

-- what doesn't differ in the changed database stays
pub stays_in : {X : Type 0} (k : ℕ) (f : Dedb → Dedb) (db : Db) (g : Option Dedb → X) (j : ℕ)
    → (j ≡ k → (d : Dedb) → g (Some (f d)) ≡ g (Some d))
    → g (slice_get (with_dedb k f db).dedbs j) ≡ g (slice_get db.dedbs j)
stays_in {X} k f db g j same = elim (cases_eq j k) [
  | inl e ↦
      ap (λ (n : ℕ). g (slice_get (with_dedb k f db).dedbs n)) e ∙ ap g (changed_here k f db)
      ∙ mapped e (slice_get db.dedbs k) ∙ ap (λ (n : ℕ). g (slice_get db.dedbs n)) (sym e)
  | inr ne ↦ ap g (others_stay k f db j ne)
]
  where
    mapped : j ≡ k → (o : Option Dedb) → g (option_map f o) ≡ g o
    mapped e None = refl
    mapped e (Some d) = same e d

-- ---- other ends of an area

pub ends_keep_roots : (area : Area) (ends : AreaEnds) (db : Db) (dedb anchor : ℕ)
    → roots_at (with_ends area ends db) dedb anchor ≡ roots_at db dedb anchor
ends_keep_roots area ends db dedb anchor =
    stays_in area.dedb (λ d. record d { areas = slice_set d.areas area.number ends }) db (roots_in anchor) dedb
    (λ e d. refl)

pub ends_keep_count : (area : Area) (ends : AreaEnds) (db : Db) (dedb : ℕ)
    → area_count (with_ends area ends db) dedb ≡ area_count db dedb
ends_keep_count area ends db dedb =
    stays_in area.dedb (λ d. record d { areas = slice_set d.areas area.number ends }) db count_in dedb
    (λ e d. length_set d.areas area.number ends)

-- those of another area stay
pub other_ends : (area : Area) (ends : AreaEnds) (db : Db) (other : Area)
    → (other.dedb ≡ area.dedb → other.number ≢ area.number)
    → ends_at (with_ends area ends db) other ≡ ends_at db other
other_ends area ends db other ne =
    stays_in area.dedb (λ d. record d { areas = slice_set d.areas area.number ends }) db (ends_in other.number)
    other.dedb
    (λ e d. ap (λ (o : Option AreaEnds). unwrap_or o first_ends)
    (get_other d.areas area.number other.number ends (ne e)))

-- and its own are these, if it is there
pub its_ends : (area : Area) (ends : AreaEnds) (db : Db) → area.number < area_count db area.dedb
    → ends_at (with_ends area ends db) area ≡ ends
its_ends area ends db lt =
    ap (ends_in area.number) (changed_here area.dedb
    (λ (d : Dedb). record d { areas = slice_set d.areas area.number ends }) db) ∙ by (slice_get db.dedbs area.dedb) lt
  where
    by : (o : Option Dedb) → area.number < count_in o
        → ends_in area.number (option_map (λ (d : Dedb). record d { areas = slice_set d.areas area.number ends }) o)
        ≡ ends
    by None lt = absurd (omega (arith, lt))
    by (Some d) lt = ap (λ (o : Option AreaEnds). unwrap_or o first_ends)
        (get_set d.areas area.number ends lt)
