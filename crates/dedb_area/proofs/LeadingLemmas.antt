-- The areas and the databases that they stand for, through a run.
use Rattle.std.proofs.Common.{◌≡◌, ℕ, ◌-◌, ◌<◌, ◌≤◌, ◌^◌, List, [], ◌∷◌, ◌++◌, length, take, drop, refl, sym, ◌∙◌, ap, subst}
use Rattle.std.proofs.Common.{append_assoc}
use Rattle.std.proofs.lemmas.List.{take-append-drop}
use Rattle.fp_site.specs.Disk.{Disk}
use Rattle.fp_model.specs.State.{start}
use Rattle.fp_model.specs.WellFormed.{AreDefs}
use Rattle.fp_model.specs.declared.database.Db.{Db}
use Rattle.fp_model.specs.declared.definitions.Defs.{Defs}
use Rattle.fp_model.specs.declared.log.Entry.{Entry}
use Rattle.fp_model.specs.Items.{items_of}
use Rattle.area_redo.specs.Redo.{AreaBytes, GrowByImages, names, redone}
use Rattle.area_redo.specs.Standing.{Way, all_of, behind}
use Rattle.area_redo.specs.Steps.{longer, next_place, with_mark, with_sealed}
use Rattle.area_redo.proofs.Entries.{behind_more}
use Rattle.area_redo.proofs.Steps.{sealed}
use Rattle.area_states.specs.Databases.{AreFor, ForStates}
use Rattle.area_states.specs.Places.{layout_of, places_of}
use Rattle.area_states.proofs.Behind.{one_more, some_sealed}
use Rattle.area_staging.specs.Changing.{AreStagedBy}
use Rattle.dedb_area.specs.Appending.{IsPublished, KeepsStaged, MayEnter}
use Rattle.dedb_area.specs.Keeping.{IsMarked, KeepsAreas}
use Rattle.dedb_area.specs.Leading.{DatabasesStand}
use Rattle.dedb_area.specs.Opening.{AreFormatted, AreOpened, bytes_in, no_entries}
use Rattle.dedb_area.specs.Standing.{Holding, owed_of}
use Rattle.dedb_area.proofs.Entering.{entered}
use Rattle.dedb_area.proofs.Marks.{marked}
use Rattle.dedb_area.proofs.Opened.{formatted_for, opened_stand}

pub started_for : (defs : Defs) (areas : Holding) (count : ℕ) (disk : Disk) → AreDefs defs
    → AreFormatted (places_of defs) disk → AreOpened (places_of defs) areas
    → DatabasesStand (no_entries count) (bytes_in (places_of defs) disk.contents) (start defs ∷ []) disk areas
started_for defs areas count disk good formatted opened = record {
  areas_stand = opened_stand (places_of defs) disk formatted count areas opened;
  states_stand = (
    subst (λ ps. AreFor ps (bytes_in (places_of defs) disk.contents) (start defs)) (sym opened.places)
        (formatted_for defs disk good formatted),
    refl,
  );
}

pub led_on : (way : Way) (bytes : AreaBytes) (states : List Db) (next : Db) (old new : Disk)
    (before staged after : Holding) (e : Entry) → DatabasesStand way bytes states old before
    → staged.places ≡ before.places → KeepsStaged way bytes old new before staged
    → AreStagedBy e.items (behind way.unsealed bytes) staged.pool → MayEnter way bytes before e.items
    → AreFor before.places (redone e.items (behind way.unsealed bytes)) next
    → IsPublished (next_place way) e.items staged after → next_place way < 2 ^ 64 - 1
    → DatabasesStand (longer way e) bytes (states ++ next ∷ []) new after
led_on way bytes states next old new before staged after e were same keeps is may for_next published small = record {
  areas_stand = entered way bytes new staged after e (keeps.stands were.areas_stand) is published (may.begins e refl)
      (subst (λ ps. GrowByImages (layout_of ps) e.items (behind way.unsealed bytes)) (sym same) may.grow) small;
  states_stand = subst (λ ps. ForStates ps bytes (longer way e).unsealed (states ++ next ∷ []))
      (sym (published.places ∙ same)) (one_more before.places way.unsealed bytes states e next were.states_stand for_next);
}

pub still_for : (way : Way) (bytes : AreaBytes) (states : List Db) (old new : Disk) (before after : Holding)
    → DatabasesStand way bytes states old before → KeepsAreas way bytes old new before after
    → DatabasesStand way bytes states new after
still_for way bytes states old new before after were keeps = record {
  areas_stand = keeps.stands were.areas_stand;
  states_stand = subst (λ ps. ForStates ps bytes way.unsealed states) (sym keeps.places) were.states_stand;
}

same_all : (way : Way) (n : ℕ) → all_of (with_sealed n way) ≡ all_of way
same_all way n =
    append_assoc way.tail (take n way.unsealed) (drop n way.unsealed)
    ∙ ap (λ l. way.tail ++ l) (take-append-drop n way.unsealed)

same_newest : (way : Way) (bytes : AreaBytes) (n : ℕ)
    → behind (drop n way.unsealed) (behind (take n way.unsealed) bytes) ≡ behind way.unsealed bytes
same_newest way bytes n =
    sym (behind_more (take n way.unsealed) (drop n way.unsealed) bytes)
    ∙ ap (λ es. behind es bytes) (take-append-drop n way.unsealed)

pub sealed_for : (way : Way) (bytes : AreaBytes) (states : List Db) (disk : Disk) (areas : Holding) (n : ℕ)
    → DatabasesStand way bytes states disk areas → n ≤ length way.unsealed
    → DatabasesStand (with_sealed n way) (behind (take n way.unsealed) bytes) (drop n states) disk areas
sealed_for way bytes states disk areas n were few =
    let stand = were.areas_stand in
    record {
      areas_stand = record {
        fit = stand.fit;
        pool = record {
          stands = sealed (layout_of areas.places) way (owed_of areas.pool) bytes n disk stand.pool.stands;
          newest = λ data_set ci w is. stand.pool.newest data_set ci w is
              ∙ sym (ap (λ b. b data_set ci) (same_newest way bytes n));
          clean = stand.pool.clean;
        };
        synced = stand.synced;
        imaged = λ data_set ci. stand.imaged data_set ci
            ∙ ap (λ l. names data_set ci (items_of (drop (way.mark - way.count) l))) (sym (same_all way n));
      };
      states_stand = some_sealed areas.places n way.unsealed bytes states few were.states_stand;
    }

pub marked_for : (way : Way) (bytes : AreaBytes) (states : List Db) (disk : Disk) (before after : Holding)
    → DatabasesStand way bytes states disk before → way.unsealed ≡ [] → IsMarked before after
    → DatabasesStand (with_mark way) bytes states disk after
marked_for way bytes states disk before after were none is = record {
  areas_stand = marked way bytes disk before after were.areas_stand none is;
  states_stand = subst (λ ps. ForStates ps bytes way.unsealed states) (sym is.places) were.states_stand;
}
