-- A Purge of an area, staged.
use Rattle.std.proofs.Common.{◌≡◌, ◌≢◌, ℕ, ◌*◌, ◌<◌, ◌≤◌, ◌^◌, Bool, false, true, List, length, refl, sym, ◌∙◌, ap, subst, arith}
use Rattle.std.specs.Prelude.{◌==◌, ◌&&◌, if◌then◌else◌, Option, Some, None, Result, Ok, Err, IfNone, IfOk, IfSome, OnErr, is_some}
use Rattle.std.proofs.lemmas.Bool.Decides.{nat_tests}
use Rattle.fp_site.specs.Disk.{Disk}
use Rattle.fp_model.specs.State.{first_area_set}
use Rattle.fp_model.specs.declared.log.Item.{Item}
use Rattle.ci_space.specs.Interval.{IsInterval, kind_of}
use Rattle.ci_overflow.specs.Lists.{bytes_at}
use Rattle.seq_dependents.specs.Control.{AreEnds, IsControl, begin_in, end_in}
use Rattle.held_intervals.specs.Holding.{held_or}
use Rattle.ci_pool.specs.Held.{Held, staged_at}
use Rattle.area_redo.specs.Redo.{AreaBytes}
use Rattle.area_redo.specs.Standing.{Way}
use Rattle.area_states.specs.declared.place.Place.{Place}
use Rattle.area_states.specs.Places.{counted_by}
use Rattle.dedb_area.specs.Anchors.{intervals_of}
use Rattle.dedb_area.specs.Control.{AreEnds as AreEndsOf}
use Rattle.dedb_area.specs.Appending.{StagedStand}
use Rattle.area_staging.specs.Items.{HasFlag, IsChange, IsItemOf}
use Rattle.area_staging.specs.Flags.{AreFlagged, IsFlagged}
use Rattle.area_staging.specs.Items.{items_in}
use Rattle.dedb_area.specs.Purging.{IsJustStaged, IsPurgeStaged, IsPurged, MayPurge}
use Rattle.dedb_area.specs.inside.Purging.{IsControlStaged}
use Rattle.area_staging.specs.Staging.{length_listed}
use Rattle.dedb_area.specs.Standing.{AreasStand, Holding, IsUnstaged}
use Rattle.dedb_area.proofs.AnchorLemmas.{first_bytes, some_counted}
use Rattle.area_staging.proofs.Looks.{same_staged}

-- ---- control

-- it has two ends
two_ends : (capacity : ℕ) (control : List ℕ) → AreEndsOf capacity control → AreEnds (begin_in control) (end_in control)
unfolding begin_in end_in
two_ends capacity control e = record { some = e.some; ordered = e.ordered; bounded = e.bounded }

-- what may be purged is control of the area
pub control_is : (place : Place) (bytes : ℕ → List ℕ) → MayPurge place (bytes 0) → IsControl (intervals_of place bytes)
control_is place bytes may =
    let count = counted_by (Some place) (bytes 0) in
    let some : 0 < count = some_counted place (bytes 0) in
    let long : length (intervals_of place bytes) ≡ count = length_listed count bytes in
    let first : bytes 0 ≡ bytes_at (intervals_of place bytes) 0 = sym (first_bytes count bytes some) in
    record {
      below = subst (λ k. 0 < k) (sym long) some;
      is_interval = subst IsInterval first may.counts.is_control.is_interval;
      is_kind = subst (λ b. kind_of b ≡ 1) first may.counts.is_control.is_kind;
      are_ends = subst (λ b. AreEnds (begin_in b) (end_in b)) first (two_ends place.capacity (bytes 0) may.are_ends);
    }

-- and it is
pub may_be : (place : Place) (control : List ℕ) (count : ℕ) → IsInterval control → kind_of control ≡ 1
    → count ≡ counted_by (Some place) control → count * place.shape.ci ≤ 2 ^ 62 → AreEndsOf place.capacity control
    → MayPurge place control
may_be place control count interval kind same ends are = record {
  counts = record {
    is_control = record { is_interval = interval; is_kind = kind };
    ends = subst (λ n. n * place.shape.ci ≤ 2 ^ 62) same ends;
  };
  are_ends = are;
}

pub by_none : {X : Type 0} (o : Option X) (P : Type 0) → is_some o ≡ false → IfNone o P → P
by_none None P e p = p
by_none (Some x) P e p = absurd cc

pub by_some : {X : Type 0} (o : Option X) (P : Type 0) → is_some o ≡ true → IfSome o (λ x. P) → P
by_some (Some x) P e p = p
by_some None P e p = absurd cc

pub not_past : (count : ℕ) → 2 ^ 62 < count → count ≤ 2 ^ 62 → ⊥
not_past count past within = omega (arith, past, within)

-- ---- the areas

-- with nothing staged they stand
pub stands_unstaged : (way : Way) (bytes : AreaBytes) (disk : Disk) (areas : Holding) → StagedStand way bytes disk areas
    → IsUnstaged areas.pool → AreasStand way bytes disk areas
stands_unstaged way bytes disk areas stands none = record {
  fit = record { sizes = stands.fit.sizes; areas = stands.fit.areas; below = stands.fit.below; unstaged = none };
  pool = stands.pool;
  synced = stands.synced;
  imaged = stands.imaged;
}

pub still_unstaged : (pool mid : Held) → mid.cells ≡ pool.cells → IsUnstaged pool → IsUnstaged mid
still_unstaged pool mid cells none s k = same_staged pool mid cells s k ∙ none s k

-- ---- what is staged

pub purge_none : (n set : ℕ) (flag : Bool) (control : List ℕ) (pool : Held) (new : Option (List ℕ)) → new ≡ None
    → IsPurged n control (held_or new control) → IsUnstaged pool → IsPurgeStaged n set flag control pool None
purge_none n set flag control pool new is purged none = record {
  new = control;
  purged = subst (λ o. IsPurged n control (held_or o control)) is purged;
  change = refl;
  staged = none;
}

-- staging of control leaves what other data sets have staged
pub others_stay : {E : Type 0} (r : Result (Option Item) E) (set : ℕ) (control : List ℕ) (imaged : List (List Bool))
    (mid after : Held) → IfOk r (IsControlStaged set control imaged mid after) → OnErr r (after ≡ mid) → (s k : ℕ)
    → s ≢ set → staged_at after s k ≡ staged_at mid s k
others_stay (Ok None) set control imaged mid after staged err s k ne = ap (λ (p : Held). staged_at p s k) staged
others_stay (Ok (Some item)) set control imaged mid after staged err s k ne =
    let other : (s == set) ≡ false = grind (arith, nat_tests, ne) in
    staged.0 s k ∙ ap (λ t. if t && k == 0 then Some control else staged_at mid s k) other
others_stay (Err e) set control imaged mid after staged err s k ne = ap (λ (p : Held). staged_at p s k) err

pub none_staged : {E : Type 0} (r : Result (Option Item) E) (mid after : Held) → OnErr r (after ≡ mid) → IsUnstaged mid
    → OnErr r (IsUnstaged after)
none_staged (Ok item) mid after err none = tt
none_staged (Err e) mid after err none = subst IsUnstaged (sym err) none

pub stands_then : {E : Type 0} (r : Result (Option Item) E) (way : Way) (bytes : AreaBytes) (disk : Disk) (areas : Holding)
    → StagedStand way bytes disk areas → OnErr r (IsUnstaged areas.pool) → OnErr r (AreasStand way bytes disk areas)
stands_then (Ok item) way bytes disk areas stands none = tt
stands_then (Err e) way bytes disk areas stands none = stands_unstaged way bytes disk areas stands none

just_staged : (set : ℕ) (control : List ℕ) (imaged : List (List Bool)) (mid after : Held) (item : Option Item)
    → IsControlStaged set control imaged mid after item → IsUnstaged mid → IsJustStaged set control after item
just_staged set control imaged mid after None staged none = subst IsUnstaged (sym staged) none
just_staged set control imaged mid after (Some item) staged none =
    λ s k. staged.0 s k ∙ ap (λ o. if s == set && k == 0 then Some control else o) (none s k)

pub purge_staged : {E : Type 0} (r : Result (Option Item) E) (n set : ℕ) (flag : Bool) (control old new : List ℕ)
    (imaged : List (List Bool)) (mid after : Held) → old ≡ control → IsPurged n control new
    → IfOk r (IsChange flag set 0 old new) → IfOk r (IsControlStaged set new imaged mid after) → IsUnstaged mid
    → IfOk r (IsPurgeStaged n set flag control after)
purge_staged (Err e) n set flag control old new imaged mid after same purged change staged none = tt
purge_staged (Ok item) n set flag control old new imaged mid after same purged change staged none = record {
  new = new;
  purged = purged;
  change = subst (λ o. IsChange flag set 0 o new item) same change;
  staged = just_staged set new imaged mid after item staged none;
}

-- ---- its flag

flagged_item : (flag : Bool) (set : ℕ) (old new : List ℕ) (imaged : List (List Bool)) (item : Item)
    → IsItemOf flag set 0 old new item → first_area_set ≤ set → HasFlag imaged set 0 → IsFlagged imaged item
flagged_item false set old new imaged item is from has = subst (IsFlagged imaged) (sym is) (from, has)
flagged_item true set old new imaged item is from has = subst (IsFlagged imaged) (sym is.is) (from, has)

pub flagged_items : {E : Type 0} (r : Result (Option Item) E) (flag : Bool) (set : ℕ) (old new : List ℕ)
    (imaged : List (List Bool)) (mid after : Held) → first_area_set ≤ set → IfOk r (IsChange flag set 0 old new)
    → IfOk r (IsControlStaged set new imaged mid after) → IfOk r (λ item. AreFlagged imaged (items_in item))
flagged_items (Err e) flag set old new imaged mid after from change staged = tt
flagged_items (Ok None) flag set old new imaged mid after from change staged = tt
flagged_items (Ok (Some item)) flag set old new imaged mid after from change staged =
    (flagged_item flag set old new imaged item change.1 from staged.3, tt)
