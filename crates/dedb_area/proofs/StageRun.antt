-- Areas are staged one after another, as a loop along them does it.
use Rattle.std.proofs.Common.{◌≡◌, inl, inr, ℕ, ◌+◌, Bool, false, List, [], ◌++◌, length, refl, sym, ◌∙◌, ap, subst, arith}
use Rattle.std.specs.Prelude.{Some, Result, Ok, Err}
use Rattle.std.specs.List.{AllByRecursion}
use Rattle.std.proofs.lemmas.Bool.{cases_Bool}
use Rattle.fp_model.specs.ItemTargets.{is_ascending}
use Rattle.fp_model.specs.State.{first_area_set}
use Rattle.fp_model.specs.declared.calls.AnchorChange.{AnchorChange}
use Rattle.fp_model.specs.declared.calls.SeqInsert.{SeqInsert}
use Rattle.fp_model.specs.declared.database.Db.{Db}
use Rattle.fp_model.specs.declared.definitions.Defs.{Defs}
use Rattle.fp_model.specs.declared.log.Item.{Item}
use Rattle.fp_site.specs.Disk.{Disk, IsLawful}
use Rattle.fp_site.specs.Site.{ReadsNothing}
use Rattle.fp_lists.proofs.FaultLemmas.{rose_behind}
use Rattle.ci_pool.specs.Held.{Held, SameAtHand}
use Rattle.area_redo.specs.Redo.{AreaBytes}
use Rattle.area_redo.specs.Standing.{Way, behind}
use Rattle.area_states.specs.declared.place.Place.{Place}
use Rattle.area_states.specs.Databases.{AreFor, state_of}
use Rattle.area_states.specs.Places.{counted_by, place_at, places_of}
use Rattle.area_staging.specs.inside.Changing.{AllBefore}
use Rattle.area_staging.specs.Flags.{AreFlagged}
use Rattle.area_staging.specs.Items.{is_imaged}
use Rattle.area_staging.proofs.AtHand.{hand_then, still_at_hand}
use Rattle.area_staging.proofs.Staged.{reads_then}
use Rattle.area_staging.proofs.Stages.{stages_itself}
use Rattle.dedb_area.specs.declared.fault.AreaFault.{AreaFault}
use Rattle.dedb_area.specs.declared.fault.AreaFault.TheVariants as fault
use Rattle.dedb_area.specs.inside.Anchors.{ShowsAreas}
use Rattle.dedb_area.specs.Committing.{ConcernedAreAtHand, FitsCommit, IsFitItem, IsLeast, committed, is_concerned}
use Rattle.dedb_area.specs.inside.Committing.{StagesAll}
use Rattle.dedb_area.specs.inside.Staging.{HasOneItem, StageAreas, StageDatabases, StageNewest, StagesArea, StagesBytes, not_yet}
use Rattle.dedb_area.specs.Standing.{AreasStand, Holding}
use Rattle.dedb_area.proofs.AnchorLemmas.{shows, state_here, within_areas}
use Rattle.dedb_area.proofs.CommitLaws.{counts_in_time, fit_areas}
use Rattle.dedb_area.proofs.CommitLemmas.{unconcerned_makes, unconcerned_room}
use Rattle.dedb_area.proofs.Ones.{not_both, one_added, one_passed, two_concerned}
use Rattle.dedb_area.proofs.StagedAreas.{area_more, before_next_area, fit_more_items, flag_more_items, least_more_items, makes_as, none_yet, order_more_items}
use Rattle.dedb_area.proofs.Staying.{all_itself, all_more, all_shown}

module _ {S : Type 0} (told : S → Type 0) (disk : S → Disk) (faults holds : S → ℕ) (keeps : S → S → Type 0)
    (tells_reads : S → ℕ → Type 0) (bytes_read : S → ℕ → ℕ) (changes : List AnchorChange)
    (inserts : List SeqInsert) where
  -- ---- one area

  -- an area that isn't concerned
  pub area_passed : (place : Place) (set : ℕ) (s : S) (pool : Held) (imaged : List (List Bool)) (items : List Item)
      → is_concerned place changes inserts ≡ false → items ≡ []
      → StagesArea told disk faults holds keeps tells_reads bytes_read place set changes inserts s s pool pool imaged
      imaged (Ok items)
  area_passed place set s pool imaged items other none =
      subst (λ l. StagesArea told disk faults holds keeps tells_reads bytes_read place set changes inserts s s pool pool
      imaged imaged (Ok l)) (sym none) (record {
        none = λ e. refl;
        fit = tt;
        in_order = refl;
        flagged = tt;
        flags = λ n k. refl;
        kept = λ n k has. has;
        count = refl;
        begins = λ n at e. absurd cc;
        here = λ n begin end m e. absurd cc;
        failed = λ e. absurd cc;
        stages = stages_itself told disk faults holds keeps set place.shape.ci s pool;
        shown = λ t bytes shown. record {
          staged = record { named = λ ci e. absurd cc; others = λ ci e. refl };
          least = tt;
          unread = λ all n tells. (tells, refl);
          hand = λ all n ci. refl;
          states = λ state has fits. record {
            made = unconcerned_makes place changes inserts other set (is_imaged imaged set) bytes state has;
            room = unconcerned_room place changes inserts other state;
            one = λ one concerned. absurd (not_both (sym concerned ∙ other));
            full = λ n begin end m e. absurd cc;
            sound = λ counts n at e. cc;
          };
        };
      })

  module _ (places : List Place) where
    -- ---- no area yet

    pub no_area : (s : S) (pool : Held) (imaged : List (List Bool)) (items : List Item) → items ≡ []
        → StageAreas told disk faults holds keeps tells_reads bytes_read places 0 changes inserts s s pool pool imaged
        imaged (Ok items)
    no_area s pool imaged items none =
        subst (λ l. StageAreas told disk faults holds keeps tells_reads bytes_read places 0 changes inserts s s pool
        pool imaged imaged (Ok l)) (sym none) (record {
          fit = tt;
          in_order = refl;
          before_next = tt;
          flagged = tt;
          flags = λ n k. refl;
          count = refl;
          begins = λ n at e. absurd cc;
          failed = λ e. absurd cc;
          stages = all_itself told disk faults holds keeps places s pool;
          shown = λ t newest shown. record {
            least = tt;
            unread = λ all n tells. (tells, refl);
            hand = λ all n ci. refl;
            databases = λ db are fits. record {
              staged = λ unstaged. none_yet places (is_imaged imaged) newest changes inserts db pool unstaged;
              one = λ whole. not_yet refl (λ n next at lt.
                  (let low = (within_areas places n next at).0 in absurd (omega (arith, low, lt))));
              full = λ unstaged n begin end m e. absurd cc;
              sound = λ ends n at e. cc;
            };
          };
        })

    -- where there is no memory for the items the areas are as they are
    pub no_memory : (n m : ℕ) (a b : S) (p q : Held) (x y : List (List Bool)) (items : List Item)
        → StageAreas told disk faults holds keeps tells_reads bytes_read places n changes inserts a b p q x y (Ok items)
        → StageAreas told disk faults holds keeps tells_reads bytes_read places m changes inserts a b p q x y
        (Err fault.Memory)
    no_memory n m a b p q x y items was = record {
      fit = tt;
      in_order = tt;
      before_next = tt;
      flagged = tt;
      flags = was.flags;
      count = was.count;
      begins = λ s at e. absurd cc;
      failed = λ e. absurd cc;
      stages = was.stages;
      shown = λ t newest shown.
          let so_far = was.shown t newest shown in
          record {
            least = tt;
            unread = so_far.unread;
            hand = so_far.hand;
            databases = λ db are fits. record {
              staged = λ unstaged. tt;
              one = λ whole. tt;
              full = λ unstaged s begin end k e. absurd cc;
              sound = λ ends s at e. cc;
            };
          };
    }

    -- ---- one area more

    module _ (lawful : (s : S) → told s → IsLawful (disk s)) (n set : ℕ) (place : Place) (a b c : S) (p q r : Held)
        (x y z : List (List Bool)) (items : List Item) (here : set ≡ first_area_set + n)
        (is : place_at places set ≡ Some place)
        (was : StageAreas told disk faults holds keeps tells_reads bytes_read places n changes inserts a b p q x y
        (Ok items)) where
      module _ (result : Result (List Item) AreaFault)
          (now : StagesArea told disk faults holds keeps tells_reads bytes_read place set changes inserts b c q r y z
          result) where
        -- what it shows
        shows_bytes : told a → (newest : AreaBytes) → ShowsAreas places (disk a).contents p newest
            → StagesBytes tells_reads bytes_read place set (is_imaged y set) (newest set) changes inserts b c q r result
        shows_bytes t newest shown =
            now.shown (was.stages.continued.still_told t) (newest set)
            (all_shown told disk faults holds keeps places a b p q newest was.stages t shown set place is)

        -- what stays
        stages_on : StagesAll told disk faults holds keeps places a c p r
        stages_on =
            all_more told disk faults holds keeps places lawful set place a b c p q r is was.stages now.stages

        hand_on : told a → (newest : AreaBytes) → ShowsAreas places (disk a).contents p newest
            → ConcernedAreAtHand places p newest changes inserts → SameAtHand p r
        hand_on t newest shown all =
            let before = (was.shown t newest shown).hand all in
            hand_then p q r before ((shows_bytes t newest shown).hand (λ some.
            still_at_hand set (counted_by (Some place) (newest set 0)) p q (all set place is some) before))

        unread_on : told a → (newest : AreaBytes) → ShowsAreas places (disk a).contents p newest
            → ConcernedAreAtHand places p newest changes inserts
            → ReadsNothing (tells_reads a) (tells_reads c) (bytes_read a) (bytes_read c)
        unread_on t newest shown all =
            let before = was.shown t newest shown in
            reads_then tells_reads bytes_read a b c (before.unread all) ((shows_bytes t newest shown).unread (λ some.
            still_at_hand set (counted_by (Some place) (newest set 0)) p q (all set place is some) (before.hand all)))

      -- it is refused
      pub area_refused : (why : AreaFault) (m : ℕ)
          → StagesArea told disk faults holds keeps tells_reads bytes_read place set changes inserts b c q r y z
          (Err why)
          → StageAreas told disk faults holds keeps tells_reads bytes_read places m changes inserts a c p r x z
          (Err why)
      area_refused why m now = record {
        fit = tt;
        in_order = tt;
        before_next = tt;
        flagged = tt;
        flags = λ s k. now.flags s k ∙ was.flags s k;
        count = now.count ∙ was.count;
        begins = λ s at e.
            let found = now.begins s at e in
            record {
              place = place;
              ci = found.1.0;
              is_place = ap (place_at places) found.0 ∙ is;
              begins = found.1.1;
            };
        failed = λ e. rose_behind (faults a) (faults b) (faults c) was.stages.continued.later (now.failed e);
        stages = stages_on (Err why) now;
        shown = λ t newest shown. record {
          least = tt;
          unread = unread_on (Err why) now t newest shown;
          hand = hand_on (Err why) now t newest shown;
          databases = λ db are fits.
              let state = (shows_bytes (Err why) now t newest shown).states (state_of place db)
              (state_here places newest db set place are is) (fits set place is) in
              record {
                staged = λ unstaged. tt;
                one = λ whole. tt;
                full = λ unstaged s begin end k e.
                    let at : s ≡ set = now.here s begin end k e in
                    let done = ((was.shown t newest shown).databases db are fits).staged unstaged in
                    record {
                      place = place;
                      is_place = ap (place_at places) at ∙ is;
                      too_full = state.full s begin end k e;
                      first = λ earlier other there lt. done.room earlier other there (omega (arith, here, at, lt));
                    };
                sound = λ ends s at e. state.sound (counts_in_time places newest db set place are ends is) s at e;
              };
        };
      }

      -- it is staged
      pub area_staged : (more all : List Item) → all ≡ items ++ more
          → StagesArea told disk faults holds keeps tells_reads bytes_read place set changes inserts b c q r y z
          (Ok more)
          → StageAreas told disk faults holds keeps tells_reads bytes_read places (n + 1) changes inserts a c p r x z
          (Ok all)
      area_staged more all added now =
          let next = first_area_set + (n + 1) in
          let step : next ≡ set + 1 = omega (arith, here) in
          let before : AllBefore set 0 items = subst (λ k. AllBefore k 0 items) (sym here) was.before_next in
          record {
            fit = subst (AllByRecursion (IsFitItem places)) (sym added)
                (fit_more_items places set place items more is was.fit now.fit);
            in_order = ap is_ascending added
                ∙ order_more_items set place.shape.ci items more before was.in_order now.in_order now.fit;
            before_next = subst (AllBefore next 0) (sym added)
                (before_next_area set next place.shape.ci items more (omega (arith, step)) before now.fit);
            flagged = subst (AreFlagged z) (sym added)
                (flag_more_items y z items more now.kept was.flagged now.flagged);
            flags = λ s k. now.flags s k ∙ was.flags s k;
            count = now.count ∙ was.count;
            begins = λ s at e. absurd cc;
            failed = λ e. absurd cc;
            stages = stages_on (Ok more) now;
            shown = λ t newest shown.
                let so_far = was.shown t newest shown in
                let here1 = shows_bytes (Ok more) now t newest shown in
                record {
                  least = subst (AllByRecursion (IsLeast places (is_imaged x) newest)) (sym added)
                      (least_more_items places set place (is_imaged y) (is_imaged x) newest items more is was.flags
                      so_far.least here1.least now.fit);
                  unread = unread_on (Ok more) now t newest shown;
                  hand = hand_on (Ok more) now t newest shown;
                  databases = λ db are fits.
                      let done = so_far.databases db are fits in
                      let state = here1.states (state_of place db) (state_here places newest db set place are is)
                      (fits set place is) in
                      record {
                        staged = λ unstaged.
                            area_more places n set (is_imaged x) newest changes inserts db items more all q r place here
                            added is (done.staged unstaged)
                            (makes_as place set (is_imaged y set) (is_imaged x set) (newest set)
                            (committed place changes inserts (state_of place db)) more (λ k. was.flags set k)
                            state.made)
                            here1.staged now.stages.others now.fit state.room;
                        one = λ whole.
                            let first = subst (λ k. HasOneItem places changes inserts k items) (sym here)
                            (done.one whole) in
                            elim (cases_Bool (is_concerned place changes inserts)) [
                              | inl concerned ↦
                                  one_added places changes inserts set next step place is items more all added
                                  (two_concerned places changes inserts whole.set whole.alone) concerned
                                  (state.one (whole.each set place is) concerned) first
                              | inr other ↦
                                  one_passed places changes inserts set next step place is items more all added other
                                  (now.none other) first
                            ];
                        full = λ unstaged s begin end k e. absurd cc;
                        sound = λ ends s at e. cc;
                      };
                };
          }

  -- ---- of areas that stand

  module _ (areas : Holding) (old new : S) (after : Held) (imaged2 : List (List Bool))
      (result : Result (List Item) AreaFault)
      (all : StageAreas told disk faults holds keeps tells_reads bytes_read areas.places (length areas.places) changes
      inserts old new areas.pool after areas.imaged imaged2 result) where
    pub stage_newest : (way : Way) (bytes : AreaBytes) → told old → AreasStand way bytes (disk old) areas
        → StageNewest tells_reads bytes_read areas.places (length areas.places) (is_imaged areas.imaged)
        (behind way.unsealed bytes) changes inserts old new areas.pool after result
    stage_newest way bytes t stands = all.shown t (behind way.unsealed bytes) (shows way bytes (disk old) areas stands)

    pub stage_databases : (way : Way) (bytes : AreaBytes) (defs : Defs) (db : Db) → told old
        → AreasStand way bytes (disk old) areas → areas.places ≡ places_of defs
        → AreFor areas.places (behind way.unsealed bytes) db → FitsCommit defs db changes inserts
        → StageDatabases areas.places (length areas.places) (is_imaged areas.imaged) (behind way.unsealed bytes) changes
        inserts db areas.pool after result
    stage_databases way bytes defs db t stands e are fits =
        (stage_newest way bytes t stands).databases db are (fit_areas defs areas.places db changes inserts e fits)
