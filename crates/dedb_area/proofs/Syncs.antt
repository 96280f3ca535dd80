-- Syncs of areas, one after another.
use Rattle.std.proofs.Common.{◌≡◌, inl, inr, ℕ, ◌+◌, ◌-◌, ◌*◌, ◌<◌, ◌≤◌, Bool, true, false, List, length, refl, sym, ◌∙◌, ap, subst, arith}
use Rattle.std.specs.Prelude.{slice_get, Some}
use Rattle.std.proofs.lemmas.Bool.{cases_eq}
use Rattle.std.proofs.lemmas.Option.{slice_get_cases, slice_get_within}
use Rattle.fp_site.specs.Disk.{Disk, Differs, Elapses, Leaves, Settles, Syncs, IsLawful, IsDurable, read_range}
use Rattle.fp_site.proofs.Runs.{now_one, started, joined, elapses_weaker}
use Rattle.fp_site.proofs.Frames.{Anyhow, only_in_of, only_in_none, only_in_joined}
use Rattle.fp_site.proofs.Images.{same_step, durable_aside, durable_settles, settles_left}
use Rattle.fp_model.specs.Items.{items_of}
use Rattle.fp_model.specs.State.{first_area_set}
use Rattle.area_redo.specs.Redo.{AreaBytes, Layout, AreRedone}
use Rattle.area_redo.specs.Standing.{Way, since_mark, Owed}
use Rattle.area_redo.proofs.Areas.{sync_through}
use Rattle.area_redo.proofs.Opening.{tail_begins, since_begins, synced, may_synced}
use Rattle.ci_pool.specs.Held.{Held, IsClean}
use Rattle.area_states.specs.declared.place.Place.{Place}
use Rattle.area_states.specs.Places.{layout_of}
use Rattle.dedb_area.specs.Standing.{owed_of, AreSynced}
use Rattle.dedb_area.specs.Keeping.{AreDurable, KeepsAreas, OnlyAreas}
use Rattle.dedb_area.specs.inside.Keeping.{KeepsStanding, SyncsAreas}
use Rattle.dedb_area.proofs.AnchorLemmas.{within_areas}

module _ (layout : Layout) (way : Way) (owed : Owed) (bytes : AreaBytes) where
  -- no call yet
  pub keeps_none : (a : Disk) → IsLawful a → KeepsStanding layout way owed bytes a a
  keeps_none a law = record {
    stands = λ s. s;
    moments = λ s. started (λ c. AreRedone layout (items_of way.tail) bytes c.images) a law s.redoes;
    opening = λ s may. may;
    opening_moments = λ s may. started (λ c. AreRedone layout (items_of (since_mark way)) bytes c.images) a law
        may.redoes;
  }

  -- one run after another
  pub keeps_then : (a b c : Disk) → KeepsStanding layout way owed bytes a b → KeepsStanding layout way owed bytes b c
      → KeepsStanding layout way owed bytes a c
  keeps_then a b c first second = record {
    stands = λ s. second.stands (first.stands s);
    moments = λ s. joined (λ d. AreRedone layout (items_of way.tail) bytes d.images) a b c (first.moments s)
        (second.moments (first.stands s));
    opening = λ s may. second.opening (first.stands s) (first.opening s may);
    opening_moments = λ s may. joined (λ d. AreRedone layout (items_of (since_mark way)) bytes d.images) a b c
        (first.opening_moments s may) (second.opening_moments (first.stands s) (first.opening s may));
  }

  -- a sync
  pub keeps_synced : (set : ℕ) (old new : Disk) → IsLawful old → IsLawful new → Elapses old new (Syncs old set)
      → Leaves set old new → new.contents set ≡ old.contents set → KeepsStanding layout way owed bytes old new
  keeps_synced set old new law law2 more leaves same = record {
    stands = λ s. synced layout way owed bytes set old new s law law2 more leaves same;
    moments = λ s. sync_through layout (items_of way.tail) bytes set old new law
        (tail_begins layout way owed bytes s.owes) more s.redoes;
    opening = λ s may. may_synced layout way owed bytes set old new s may law law2 more;
    opening_moments = λ s may. sync_through layout (items_of (since_mark way)) bytes set old new law
        (since_begins layout way owed bytes s.owes) more may.redoes;
  }

-- a sync changes no contents,
pub contents_synced : (set : ℕ) (old new : Disk) → Leaves set old new → new.contents set ≡ old.contents set → (k : ℕ)
    → new.contents k ≡ old.contents k
contents_synced set old new leaves same k = elim (cases_eq k set) [
  | inl e ↦ ap new.contents e ∙ same ∙ ap old.contents (sym e)
  | inr ne ↦ leaves.contents k ne
]

-- leaves durable what was, also where it fails,
pub durable_synced : (set k : ℕ) (old new : Disk) → IsLawful old → IsLawful new → Elapses old new (Syncs old set)
    → Leaves set old new → new.contents set ≡ old.contents set → IsDurable old k → IsDurable new k
durable_synced set k old new law law2 more leaves same was = elim (cases_eq k set) [
  | inl e ↦ subst (IsDurable new) (sym e) (this (subst (IsDurable old) e was))
  | inr ne ↦ durable_aside old new set k (λ before after. Settles old set after) ne law law2 (settles_left old set)
      (leaves.contents k ne) more was
]
  where
    this : IsDurable old set → IsDurable new set
    this durable s now =
        let from = now_one old new (Syncs old set) law law2 more
        (same_step old set (λ before after. Settles old set after) (settles_left old set)) s now in
        durable_settles old set (s.images set) durable from.this ∙ sym same

-- and changes no other data set
pub only_synced : (set : ℕ) (old new : Disk) → first_area_set ≤ set → Elapses old new (Syncs old set)
    → Leaves set old new → OnlyAreas old new
only_synced set old new is more leaves =
    only_in_of (λ s. first_area_set ≤ s) set old new is
    (record {
      now = leaves;
      crash = elapses_weaker old new (Syncs old set) (Differs old set Anyhow)
          (λ s d. record { before = d.before; left = d.left; this = tt; others = d.others; sent = d.sent }) more;
    })

-- ---- syncs of areas

pub syncs_none : (a : Disk) → IsLawful a → SyncsAreas a a
syncs_none a law = record {
  contents = λ set. refl;
  durable = λ set was. was;
  only = only_in_none (λ s. first_area_set ≤ s) a;
  standing = λ layout way owed bytes. keeps_none layout way owed bytes a law;
}

pub syncs_then : (a b c : Disk) → IsLawful a → IsLawful b → SyncsAreas a b → SyncsAreas b c → SyncsAreas a c
syncs_then a b c law law2 first second = record {
  contents = λ set. second.contents set ∙ first.contents set;
  durable = λ set was. second.durable set (first.durable set was);
  only = only_in_joined (λ s. first_area_set ≤ s) a b c law law2 first.only second.only;
  standing = λ layout way owed bytes. keeps_then layout way owed bytes a b c (first.standing layout way owed bytes)
      (second.standing layout way owed bytes);
}

pub syncs_one : (set : ℕ) (old new : Disk) → first_area_set ≤ set → IsLawful old → IsLawful new
    → Elapses old new (Syncs old set) → Leaves set old new → new.contents set ≡ old.contents set → SyncsAreas old new
syncs_one set old new is law law2 more leaves same = record {
  contents = contents_synced set old new leaves same;
  durable = λ k was. durable_synced set k old new law law2 more leaves same was;
  only = only_synced set old new is more leaves;
  standing = λ layout way owed bytes. keeps_synced layout way owed bytes set old new law law2 more leaves same;
}

-- ---- all that have to be synced

-- none has to be any more
pub all_synced : (flags after : List Bool) (old new : Disk) → length after ≡ length flags
    → ((number : ℕ) → slice_get flags number ≡ Some true → IsDurable new (first_area_set + number))
    → ((set : ℕ) → IsDurable old set → IsDurable new set) → AreSynced flags old
    → (number : ℕ) → number < length after → IsDurable new (first_area_set + number)
all_synced flags after old new same these kept was number below = elim ((slice_get_cases flags number).1) [
  | inl h ↦ by_flag h.0 h.2
  | inr none ↦ let le = none.0 in absurd (omega (arith, same, below))
]
  where
    by_flag : (b : Bool) → slice_get flags number ≡ Some b → IsDurable new (first_area_set + number)
    by_flag true is = these number is
    by_flag false is = kept (first_area_set + number) (was number is)

-- each area has a flag, so each is durable
pub areas_durable : (places : List Place) (flags : List Bool) (disk : Disk) → length flags ≡ length places
    → ((number : ℕ) → number < length flags → IsDurable disk (first_area_set + number)) → AreDurable places disk
areas_durable places flags disk same each set place is =
    let within = within_areas places set place is in
    let below : set - first_area_set < length flags = omega (arith, within.1, same) in
    let e : first_area_set + (set - first_area_set) ≡ set = omega (arith, within.0) in
    subst (IsDurable disk) e (each (set - first_area_set) below)

-- so the flags may be cleared
pub cleared_synced : (flags after : List Bool) (old new : Disk) → length after ≡ length flags
    → ((number : ℕ) → slice_get flags number ≡ Some true → IsDurable new (first_area_set + number))
    → SyncsAreas old new → AreSynced flags old → AreSynced after new
cleared_synced flags after old new same these syncs was number is =
    all_synced flags after old new same these syncs.durable was number (slice_get_within after number false is)

-- the pool has what it had
module _ (way : Way) (bytes : AreaBytes) (places : List Place) (flags flags2 : List Bool)
    (imaged : List (List Bool)) (pool : Held) (old new : Disk) (syncs : SyncsAreas old new)
    (synced_still : AreSynced flags old → AreSynced flags2 new) where
  keeps : KeepsStanding (layout_of places) way (owed_of pool) bytes old new
  keeps = syncs.standing (layout_of places) way (owed_of pool) bytes

  clean_still : IsClean old.contents pool → IsClean new.contents pool
  clean_still clean set ci b has =
      clean set ci b has ∙ ap (λ xs. read_range xs (ci * length b) (length b)) (sym (syncs.contents set))

  pub areas_synced : KeepsAreas way bytes old new
      (record { places = places; unsynced = flags; imaged = imaged; pool = pool })
      (record { places = places; unsynced = flags2; imaged = imaged; pool = pool })
  areas_synced = record {
    places = refl;
    stands = λ s. record {
      fit = s.fit;
      pool = record {
        stands = keeps.stands s.pool.stands;
        newest = s.pool.newest;
        clean = clean_still s.pool.clean;
      };
      synced = synced_still s.synced;
      imaged = s.imaged;
    };
    moments = λ s. keeps.moments s.pool.stands;
    opening = λ s may. keeps.opening s.pool.stands may;
    opening_moments = λ s may. keeps.opening_moments s.pool.stands may;
  }
