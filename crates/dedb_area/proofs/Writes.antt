-- A pending interval is written, whatever is answered.
use Rattle.std.proofs.Common.{◌≡◌, ◌≢◌, ℕ, ◌+◌, ◌*◌, ◌<◌, ◌≤◌, Bool, false, List, length, refl, sym, ◌∙◌, ap, subst, arith}
use Rattle.std.specs.Prelude.{slice_get, Some}
use Rattle.fp_site.specs.Disk.{Disk, Tears, Torn, Differs, Elapses, Leaves, Broken, IsLawful, written}
use Rattle.fp_site.proofs.Runs.{elapses_weaker, started}
use Rattle.fp_site.proofs.Frames.{Anyhow, only_in_of}
use Rattle.fp_site.proofs.Images.{durable_aside}
use Rattle.fp_site.proofs.Torns.{torn_none}
use Rattle.fp_model.specs.Items.{items_of}
use Rattle.fp_model.specs.State.{first_area_set}
use Rattle.area_redo.specs.Redo.{AreaBytes, Layout, AreRedone, RedoesThrough}
use Rattle.area_redo.specs.Standing.{Way, sealed_of, since_mark, Due, Stands, MayOpen}
use Rattle.area_redo.proofs.Areas.{write_through}
use Rattle.area_redo.proofs.Steps.{wrote, wrote_not, tail_named}
use Rattle.area_redo.proofs.Opening.{tail_begins, may_wrote, may_write_through}
use Rattle.ci_pool.specs.declared.cell.Waiting.{Waiting}
use Rattle.ci_pool.specs.Held.{Held, pending_at, staged_at, IsClean, HasSize, IsOldestSealed, IsFirstOwed}
use Rattle.area_states.specs.declared.place.Place.{Place}
use Rattle.area_states.specs.Places.{place_at, size_of, ArePlaces, layout_of}
use Rattle.dedb_area.specs.Standing.{Holding, IsFitPool, due_of, owed_of, PoolStands, AreSynced}
use Rattle.dedb_area.specs.Keeping.{KeepsAreas, OnlyAreas, IsWritten, StillWaits}
use Rattle.dedb_area.proofs.Owing.{owed_less, written_waits, same_waits, still_owed, fit_still}
use Rattle.dedb_area.proofs.Data.{area_behind, some_size, place_there}
use Rattle.plain_laws.proofs.Options.{some_value}

-- the bytes of an interval are written whole, or any in their place
pub data Wrote (pool after : Held) (set ci : ℕ) (w : Waiting) (old new : Disk) : Type 0 where
  whole : IsWritten pool after set ci
      → new.contents set ≡ written (old.contents set) (ci * length w.bytes) w.bytes → Wrote pool after set ci w old new
  broken : after ≡ pool → Broken (ci * length w.bytes) (length w.bytes) (old.contents set) (new.contents set)
      → Wrote pool after set ci w old new

pub still_waits : (pool after : Held) (set ci : ℕ) (w : Waiting) (old new : Disk) → Wrote pool after set ci w old new
    → StillWaits pool after
still_waits pool after set ci w old new (whole done wrote_is) = written_waits pool after set ci done
still_waits pool after set ci w old new (broken same broke) = same_waits pool after same

-- ---- of a layout

module _ (layout : Layout) (way : Way) (bytes : AreaBytes) (pool after : Held) (set ci : ℕ) (w : Waiting) (old new : Disk)
    (is : pending_at pool set ci ≡ Some w) (long : length w.bytes ≡ layout.size set) (some : 1 ≤ layout.size set)
    (below : w.newest < sealed_of way) (law : IsLawful old) (law2 : IsLawful new)
    (stands : PoolStands layout way bytes old pool)
    (more : Elapses old new (Tears old set (ci * length w.bytes) (length w.bytes))) (leaves : Leaves set old new) where
  abbrev due : Due
  due = record { oldest = w.oldest; newest = w.newest }

  owed : owed_of pool set ci ≡ Some due
  owed = ap due_of is

  torn : Elapses old new (Tears old set (ci * layout.size set) (layout.size set))
  torn = subst (λ n. Elapses old new (Tears old set (ci * n) n)) long more

  pub pool_wrote : IsClean new.contents after → Wrote pool after set ci w old new → PoolStands layout way bytes new after
  pool_wrote clean (whole done wrote_is) = record {
    stands = subst (λ o. Stands layout way o bytes new) (sym (owed_less pool after set ci done))
        (wrote layout way (owed_of pool) bytes set ci due w.bytes old new stands.stands owed below some long
        (stands.newest set ci w is) law law2 torn leaves
        (subst (λ n. new.contents set ≡ written (old.contents set) (ci * n) w.bytes) long wrote_is));
    newest = λ s k v h. stands.newest s k v (written_waits pool after set ci done s k v h);
    clean = clean;
  }
  pool_wrote clean (broken same broke) = record {
    stands = subst (λ (p : Held). Stands layout way (owed_of p) bytes new) (sym same)
        (wrote_not layout way (owed_of pool) bytes set ci due old new stands.stands owed below law law2 torn leaves
        (subst (λ n. Broken (ci * n) n (old.contents set) (new.contents set)) long broke));
    newest = λ s k v h. stands.newest s k v (same_waits pool after same s k v h);
    clean = clean;
  }

  pub still_opens : StillWaits pool after → MayOpen layout way (owed_of pool) bytes old
      → MayOpen layout way (owed_of after) bytes new
  still_opens still may = record {
    none_below = λ s k d h. may.none_below s k d (still_owed pool after still s k d h);
    redoes = may_wrote layout way (owed_of pool) bytes set ci due old new stands.stands may owed below law law2 torn;
  }

  pub moments_wrote : RedoesThrough layout (items_of way.tail) bytes old new
  moments_wrote =
      write_through layout (items_of way.tail) bytes set ci old new law
      (tail_begins layout way (owed_of pool) bytes stands.stands.owes)
      (tail_named layout way (owed_of pool) bytes set ci due (stands.stands.owes.each set ci due owed) below) torn
      stands.stands.redoes

  pub moments_open : MayOpen layout way (owed_of pool) bytes old
      → RedoesThrough layout (items_of (since_mark way)) bytes old new
  moments_open may =
      may_write_through layout way (owed_of pool) bytes set ci due old new stands.stands may owed below law torn

-- ---- what was synced

-- of the areas that weren't written to since they were synced, this one is none
abbrev pub IsNoted : ℕ → List Bool → List Bool → Type 0
IsNoted set flags after =
    (number : ℕ) → slice_get after number ≡ Some false
    → (slice_get flags number ≡ Some false) × (set ≢ first_area_set + number)

synced_aside : (set at count : ℕ) (flags after : List Bool) (old new : Disk) → IsLawful old → IsLawful new
    → IsNoted set flags after → Leaves set old new → Elapses old new (Tears old set at count)
    → AreSynced flags old → AreSynced after new
synced_aside set at count flags after old new law law2 noted leaves more synced number is =
    let was = noted number is in
    let ne : first_area_set + number ≡ set → ⊥ = λ e. was.1 (sym e) in
    durable_aside old new set (first_area_set + number) (Torn at count) ne law law2
    (λ s left. torn_none at count (s.images set)) (leaves.contents (first_area_set + number) ne) more
    (synced number was.0)

-- ---- of areas

module _ (places : List Place) (flags flags2 : List Bool) (pool after : Held) (set ci : ℕ) (w : Waiting) (old new : Disk)
    (is : pending_at pool set ci ≡ Some w) (have : ArePlaces places) (law : IsLawful old) (law2 : IsLawful new)
    (noted : IsNoted set flags flags2)
    (more : Elapses old new (Tears old set (ci * length w.bytes) (length w.bytes))) (leaves : Leaves set old new)
    (clean : (size : ℕ) → HasSize set size pool → IsClean old.contents pool → IsClean new.contents after)
    (sizes : (s n : ℕ) → HasSize s n pool → HasSize s n after)
    (staged : (s k : ℕ) → staged_at after s k ≡ staged_at pool s k) (how : Wrote pool after set ci w old new) where
  module _ (fit : IsFitPool places pool) where
    place : (p : Place) × (place_at places set ≡ Some p)
    place = some_value (place_at places set) (fit.areas set ci w is)

    size_is : (layout_of places).size set ≡ place.0.shape.ci
    size_is = ap size_of place.1

    sized : HasSize set place.0.shape.ci pool
    sized = fit.sizes set place.0 place.1

    long : length w.bytes ≡ (layout_of places).size set
    long = sized.pending ci w is ∙ sym size_is

    some : 1 ≤ (layout_of places).size set
    some = let a = some_size place.0.shape.ci (place_there places set place.0 have place.1).size in let b = size_is in omega arith

    pub only_areas : OnlyAreas old new
    only_areas =
        only_in_of (λ s. first_area_set ≤ s) set old new (area_behind places set (fit.areas set ci w is))
        (record {
          now = leaves;
          crash = elapses_weaker old new (Tears old set (ci * length w.bytes) (length w.bytes)) (Differs old set Anyhow)
              (λ s d. record { before = d.before; left = d.left; this = tt; others = d.others; sent = d.sent }) more;
        })

  pub fits : IsFitPool places pool → IsFitPool places after
  fits fit = fit_still places pool after (still_waits pool after set ci w old new how) sizes staged fit

  module _ (imaged : List (List Bool)) (way : Way) (bytes : AreaBytes) (below : w.newest < sealed_of way) where
    abbrev was : Holding
    was = record { places = places; unsynced = flags; imaged = imaged; pool = pool }

    abbrev now : Holding
    now = record { places = places; unsynced = flags2; imaged = imaged; pool = after }

    pub keeps_written : KeepsAreas way bytes old new was now
    keeps_written = record {
      places = refl;
      stands = λ s. record {
        fit = fits s.fit;
        pool = pool_wrote (layout_of places) way bytes pool after set ci w old new is (long s.fit) (some s.fit) below law
            law2 s.pool more leaves (clean (place s.fit).0.shape.ci (sized s.fit) s.pool.clean) how;
        synced = synced_aside set (ci * length w.bytes) (length w.bytes) flags flags2 old new law law2 noted leaves more
            s.synced;
        imaged = s.imaged;
      };
      moments = λ s. moments_wrote (layout_of places) way bytes pool after set ci w old new is (long s.fit) (some s.fit)
          below law law2 s.pool more leaves;
      opening = λ s may. still_opens (layout_of places) way bytes pool after set ci w old new is (long s.fit)
          (some s.fit) below law law2 s.pool more leaves (still_waits pool after set ci w old new how) may;
      opening_moments = λ s may. moments_open (layout_of places) way bytes pool after set ci w old new is (long s.fit)
          (some s.fit) below law law2 s.pool more leaves may;
    }

-- no call yet
pub areas_none : (way : Way) (bytes : AreaBytes) (disk : Disk) (areas : Holding) → IsLawful disk
    → KeepsAreas way bytes disk disk areas areas
areas_none way bytes disk areas law = record {
  places = refl;
  stands = λ s. s;
  moments = λ s. started (λ c. AreRedone (layout_of areas.places) (items_of way.tail) bytes c.images) disk law
      s.pool.stands.redoes;
  opening = λ s may. may;
  opening_moments = λ s may. started
      (λ c. AreRedone (layout_of areas.places) (items_of (since_mark way)) bytes c.images) disk law may.redoes;
}

-- the interval that has waited longest has its newest change sealed
pub oldest_sealed_below : (pool : Held) (sealed set ci n : ℕ) (w : Waiting) → IsOldestSealed pool sealed set ci
    → sealed ≤ n → pending_at pool set ci ≡ Some w → w.newest < n
oldest_sealed_below pool sealed set ci n w oldest le is =
    let both : Some oldest.waiting ≡ Some w = sym oldest.is ∙ is in
    let same : oldest.waiting ≡ w = cc in
    let e = ap (λ (v : Waiting). v.newest) same in
    let lt = oldest.is_sealed in
    omega arith

-- and so has the first that is owed
pub first_owed_below : (pool : Held) (count sealed set ci n : ℕ) (w : Waiting)
    → IsFirstOwed pool count sealed set ci → sealed ≤ n → pending_at pool set ci ≡ Some w → w.newest < n
first_owed_below pool count sealed set ci n w first le is =
    let both : Some first.waiting ≡ Some w = sym first.is ∙ is in
    let same : first.waiting ≡ w = cc in
    let e = ap (λ (v : Waiting). v.newest) same in
    let lt = first.is_sealed in
    omega arith
