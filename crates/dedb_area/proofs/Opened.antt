-- Areas that were formatted and opened stand behind no entry.
use Rattle.std.proofs.Common.{◌≡◌, inl, inr, ℕ, zero, suc, ◌+◌, ◌-◌, ◌*◌, ◌<◌, ◌≤◌, Bool, true, false, List, [], length, refl, sym, ◌∙◌, ap, subst, arith}
use Rattle.std.specs.Prelude.{Contains, Option, Some, None, slice_get, slice_index}
use Rattle.std.proofs.Math.Seq.{drop-nil}
use Rattle.std.proofs.lemmas.Option.{slice_get_cases, slice_get_within}
use Rattle.fp_site.specs.Disk.{Disk, IsDurable}
use Rattle.ci_space.specs.declared.intervals.Shape.{Shape}
use Rattle.ci_space.specs.Head.{ends_of}
use Rattle.ci_overflow.specs.Places.{first_independent}
use Rattle.fp_model.specs.State.{first_area_set, start}
use Rattle.fp_model.specs.Items.{begins_with_image, items_of}
use Rattle.fp_model.specs.WellFormed.{AreDefs}
use Rattle.fp_model.specs.declared.definitions.Defs.{Defs}
use Rattle.fp_model.specs.declared.log.Entry.{Entry}
use Rattle.ci_pool.specs.Cells.{cell_at}
use Rattle.ci_pool.specs.Held.{pending_at, staged_at, staged_of, waiting_of}
use Rattle.area_redo.specs.Redo.{AreaBytes, Redoes, StandsIn, count_in, interval_in, names}
use Rattle.area_redo.specs.Standing.{Owes, all_since_mark, names_at, owes_below, sealed_of}
use Rattle.area_states.specs.declared.place.Place.{Place}
use Rattle.area_states.specs.Databases.{AreFor}
use Rattle.area_states.specs.Places.{counted_by, layout_of, place_at, places_of, size_of}
use Rattle.area_laws.specs.Starts.{AreStarts, StartsAs as Starts}
use Rattle.area_laws.proofs.DefLemmas.{places_good}
use Rattle.area_laws.proofs.StartLemmas.{starts_for}
use Rattle.dedb_area.specs.Formatting.{StartsAs}
use Rattle.dedb_area.specs.Opening.{AreFormatted, AreOpened, bytes_in, no_entries}
use Rattle.dedb_area.specs.Standing.{AreasStand, Holding, IsFitPool, PoolStands, due_of, owed_of}
use Rattle.area_laws.proofs.FullLemmas.{at_set}
use Rattle.plain_laws.proofs.Alls.{contains_nothing}

-- ---- their bytes

in_other_words : (shape : Shape) (ci : ℕ) (bytes : List ℕ) → StartsAs shape ci bytes → Starts shape ci bytes
in_other_words shape ci bytes s = record {
  control = λ e.
      let c = s.control e in
      record { is_interval = c.is_interval; is_kind = c.is_kind; is_size = c.is_size; ends = c.ends };
  other = s.other;
}

-- an interval of an area, as its data set has it
bytes_here : (places : List Place) (contents : ℕ → List ℕ) (set ci : ℕ) (place : Place)
    → place_at places set ≡ Some place
    → bytes_in places contents set ci ≡ interval_in place.shape.ci (contents set) ci
bytes_here places contents set ci place is = ap (λ o. interval_in (size_of o) (contents set) ci) is

starts_in : (places : List Place) (disk : Disk) → AreFormatted places disk → AreStarts places (bytes_in places disk.contents)
starts_in places disk formatted set place is ci lt =
    subst (Starts place.shape ci) (sym (bytes_here places disk.contents set ci place is))
    (in_other_words place.shape ci _ ((formatted set place is).started.starts ci lt))

pub formatted_for : (defs : Defs) (disk : Disk) → AreDefs defs → AreFormatted (places_of defs) disk
    → AreFor (places_of defs) (bytes_in (places_of defs) disk.contents) (start defs)
formatted_for defs disk good formatted =
    starts_for defs (places_of defs) (bytes_in (places_of defs) disk.contents) (places_good defs good)
    (starts_in (places_of defs) disk formatted)

-- ---- nothing is held

nothing_there : {X : Type 0} (x : X) → ◌≡◌ {A = Option X} None (Some x) → ⊥
nothing_there x e = cc

module _ (places : List Place) (disk : Disk) (formatted : AreFormatted places disk) (count : ℕ) where
  abbrev bytes : AreaBytes
  bytes = bytes_in places disk.contents

  -- no independent overflow interval is counted
  counts : (set : ℕ) (place : Place) → place_at places set ≡ Some place
      → count_in (layout_of places) bytes set ≡ first_independent place.shape
  counts set place is =
      let control = (((formatted set place is).started).starts 0 (omega arith)).control refl in
      let none : slice_index (ends_of (bytes set 0)) 2 ≡ 0 =
      ap (λ b. slice_index (ends_of b) 2) (bytes_here places disk.contents set 0 place is)
      ∙ ap (λ (l : List ℕ). slice_index l 2) control.ends in
      let number : first_independent place.shape + slice_index (ends_of (bytes set 0)) 2 ≡ first_independent place.shape =
      omega (arith, none) in
      ap (λ o. counted_by o (bytes set 0)) is ∙ number

  -- a data set that is no area counts none
  counts_none : (set : ℕ) → place_at places set ≡ None → count_in (layout_of places) bytes set ≡ 0
  counts_none set none = ap (λ o. counted_by o (bytes set 0)) none

  -- what an image of the data set has, where it is as the contents are
  as_in_contents : (set : ℕ) (image : List ℕ) (o : Option Place) → place_at places set ≡ o
      → ((place : Place) → place_at places set ≡ Some place → image ≡ disk.contents set)
      → (ci : ℕ) → ci < count_in (layout_of places) bytes set
      → (interval_in (size_of (place_at places set)) image ci ≡ bytes set ci)
      × ((ci + 1) * size_of (place_at places set) ≤ length image)
  as_in_contents set image None none same ci lt =
      let zero_there = counts_none set none in
      absurd (omega (arith, lt, zero_there))
  as_in_contents set image (Some place) is same ci lt =
      let e = same place is in
      let number = counts set place is in
      let size : size_of (place_at places set) ≡ place.shape.ci = ap size_of is in
      let inside : (ci + 1) * place.shape.ci ≤ length (disk.contents set) =
      (formatted set place is).started.inside ci (omega (arith, lt, number)) in (
        ap (λ i. interval_in (size_of (place_at places set)) i ci) e,
        subst (λ n. (ci + 1) * n ≤ length image) (sym size)
            (subst (λ (i : List ℕ). (ci + 1) * place.shape.ci ≤ length i) (sym e) inside),
      )

  redone_here : Redoes (layout_of places) [] bytes disk
  redone_here s left set = record {
    gives = λ ci lt. (there ci lt).0;
    inside = λ ci lt none. (there ci lt).1;
  }
    where
      there : (ci : ℕ) → ci < count_in (layout_of places) bytes set
          → (interval_in (size_of (place_at places set)) (s.images set) ci ≡ bytes set ci)
          × ((ci + 1) * size_of (place_at places set) ≤ length (s.images set))
      there = as_in_contents set (s.images set) (place_at places set) refl
          (λ place is. (formatted set place is).durable s left)

  stand_here : (is_owed : ℕ → Bool) (set : ℕ)
      → StandsIn (size_of (place_at places set)) (count_in (layout_of places) bytes set) is_owed (disk.contents set)
      (bytes set)
  stand_here is_owed set = record {
    same = λ ci lt none. (there ci lt).0;
    inside = λ ci lt none. (there ci lt).1;
  }
    where
      there : (ci : ℕ) → ci < count_in (layout_of places) bytes set
          → (interval_in (size_of (place_at places set)) (disk.contents set) ci ≡ bytes set ci)
          × ((ci + 1) * size_of (place_at places set) ≤ length (disk.contents set))
      there = as_in_contents set (disk.contents set) (place_at places set) refl (λ place is. refl)

  none_since : all_since_mark (no_entries count) ≡ []
  none_since = drop-nil {A = Entry} (count - count)

  module _ (areas : Holding) (opened : AreOpened places areas) where
    none_pending : (set ci : ℕ) → pending_at areas.pool set ci ≡ None
    none_pending set ci = ap (λ cells. waiting_of (cell_at set ci cells)) opened.none_held

    none_staged : (set ci : ℕ) → staged_at areas.pool set ci ≡ None
    none_staged set ci = ap (λ cells. staged_of (cell_at set ci cells)) opened.none_held

    none_clean : (set ci : ℕ) (b : List ℕ) → Contains areas.pool.clean ((set, ci), b) → ⊥
    none_clean set ci b c =
        contains_nothing ((set, ci), b) (subst (λ l. Contains l ((set, ci), b)) opened.none_clean c)

    owes_none : (set ci : ℕ) → owed_of areas.pool set ci ≡ None
    owes_none set ci = ap due_of (none_pending set ci)

    fit_here : IsFitPool areas.places areas.pool
    fit_here = record {
      sizes = λ set place is. record {
        pending = λ ci w e. absurd (nothing_there w (sym (none_pending set ci) ∙ e));
        staged = λ ci b e. absurd (nothing_there b (sym (none_staged set ci) ∙ e));
        clean = λ ci b c. absurd (none_clean set ci b c);
      };
      areas = λ set ci w e. absurd (nothing_there w (sym (none_pending set ci) ∙ e));
      below = λ set ci w e. absurd (nothing_there w (sym (none_pending set ci) ∙ e));
      unstaged = none_staged;
    }

    owes_here : Owes (no_entries count) (owed_of areas.pool)
    owes_here = record {
      marked = omega arith;
      mark_sealed = omega arith;
      all_begin = λ set ci. refl;
      since_begin = λ set ci. ap (λ es. begins_with_image set ci (items_of es)) none_since;
      each = λ set ci due e. absurd (nothing_there due (sym (owes_none set ci) ∙ e));
      waits = λ set ci k from named. absurd (none_named set ci k named);
    }
      where
        none_named : (set ci k : ℕ) → names_at set ci [] k ≡ true → ⊥
        none_named set ci zero e = cc
        none_named set ci (suc k) e = cc

    stands_pool : PoolStands (layout_of places) (no_entries count) bytes disk areas.pool
    stands_pool = record {
      stands = record {
        owes = owes_here;
        grows = tt;
        redoes = redone_here;
        stand = λ set. stand_here (owes_below (sealed_of (no_entries count)) (owed_of areas.pool) set) set;
      };
      newest = λ set ci w e. absurd (nothing_there w (sym (none_pending set ci) ∙ e));
      clean = λ set ci b c. absurd (none_clean set ci b c);
    }

    synced_here : (number : ℕ) → slice_get areas.unsynced number ≡ Some false → IsDurable disk (first_area_set + number)
    synced_here number is =
        let within = slice_get_within areas.unsynced number false is in
        let count = opened.count in
        let same = ap length opened.places in
        elim ((slice_get_cases places number).1) [
          | inl there ↦ (formatted (first_area_set + number) there.0 (at_set places number there.0 there.2)).durable
          | inr past ↦ (let from = past.0 in absurd (omega (arith, within, count, same, from)))
        ]

    pub opened_stand : AreasStand (no_entries count) bytes disk areas
    opened_stand = record {
      fit = fit_here;
      pool = subst (λ ps. PoolStands (layout_of ps) (no_entries count) bytes disk areas.pool) (sym opened.places) stands_pool;
      synced = synced_here;
      imaged = λ set ci. opened.unimaged set ci ∙ sym (ap (λ es. names set ci (items_of es)) none_since);
    }
