use Rattle.std.proofs.Common.{◌≡◌, ◌∙◌, ◌≤◌, length, refl, sym, subst, true}
use Rattle.std.specs.Prelude.{IfOk, Some}
use Rattle.std.specs.List.{AllByRecursion}
use Rattle.std.specs.Ordering.{nat_cmp}
use Rattle.std.specs.BTreeMap.{get}
use Rattle.std.proofs.lemmas.Result.{err_from_is_err_and}
use Rattle.fp_model.specs.ItemTargets.{is_ascending}
use Rattle.fp_lists.proofs.FaultLemmas.{rose_behind}
use Rattle.area_states.specs.Places.{counted_by}
use Rattle.area_staging.specs.Changing.{IsFitFor, IsLeastOf, MakeChanges, StagesItems}
use Rattle.area_staging.specs.Flags.{AreFlagged}
use Rattle.area_staging.specs.Items.{is_imaged}
use Rattle.area_staging.specs.Staging.{AllAtHand}
use Rattle.area_staging.proofs.AtHand.{hand_then, still_at_hand}
use Rattle.area_staging.proofs.Looks.{looks_then, same_staged}
use Rattle.area_staging.proofs.Staged.{reads_nothing, reads_then}
use Rattle.area_staging.proofs.Stages.{stages_looked, stages_then}
use Rattle.plain_laws.proofs.Results.{at_ok, if_ok_with}
use Rattle.dedb_area.specs.inside.Committing.{MakesArea}
use Rattle.dedb_area.specs.inside.Staging.{StagesArea}
use Rattle.dedb_area.specs.Committing.{committed}
use Rattle.dedb_area.proofs.AnchorLemmas.{begin_first, by_given, still_shown}
use Rattle.dedb_area.proofs.CommitLemmas.{makes_area}
use Rattle.dedb_area.proofs.Ones.{at_most_one, just_one, not_both, ok_three}
use Rattle.dedb_area.proofs.StageLemmas.{counted_at_hand, handed_on, has_extent, ok_both, same_err, shows_extent, stages_behind}
use Rattle.dedb_area.proofs.committing.stage_area.Goals as goal

-- ---- control doesn't count

pub returns-in_err-count : goal.returns-in_err-count
returns-in_err-count g c =
    let place = c.args.place.now in
    let why = c.in_err-count.ensures in
    let p = err_from_is_err_and c.from_residual.result c.from_residual.ensures.1 in
    subst (StagesArea g.T.Site.told g.T.Site.disk g.T.Site.faults g.T.Site.holds g.T.Site.keeps g.T.Site.tells_reads
    g.T.Site.bytes_read place c.args.set c.args.changes.now c.args.inserts.now c.args.site.now c.counted.new.site
    c.args.pool.now c.counted.new.pool c.args.imaged.now.items c.args.imaged.now.items)
    (sym (handed_on _ _ _ p.1 p.2)) (record {
      none = λ other. tt;
      fit = tt;
      in_order = tt;
      flagged = tt;
      flags = λ s k. refl;
      kept = λ s k has. has;
      count = refl;
      begins = λ s at e.
          let first = why.first s at (same_err _ _ e) in
          (first.0, (0, begin_first place at first.1));
      here = λ s begin end n e. absurd (why.never_full s begin end n (same_err _ _ e));
      failed = λ e. why.failed (same_err _ _ e);
      stages = stages_looked g.T.Site.told g.T.Site.disk g.T.Site.faults g.T.Site.holds g.T.Site.keeps c.args.set
          place.shape.ci c.args.site.now c.counted.new.site c.args.pool.now c.counted.new.pool c.counted.ensures.looks;
      shown = λ told bytes shown.
          let at_hand = counted_at_hand c.args.site.now c.counted.new.site c.args.set
          (counted_by (Some place) (bytes 0)) c.args.pool.now c.counted.new.pool place (bytes 0) refl
          c.counted.ensures.unread c.counted.ensures.hand in
          record {
            staged = tt;
            least = tt;
            unread = λ all. reads_nothing g.T.Site.tells_reads g.T.Site.bytes_read c.args.site.now
                c.counted.new.site (at_hand (all c.requires.concerned)).0;
            hand = λ all. (at_hand (all c.requires.concerned)).1;
            states = λ state has fits. record {
              made = tt;
              room = tt;
              one = λ one concerned. tt;
              full = λ s begin end n e. absurd (why.never_full s begin end n (same_err _ _ e));
              sound = λ counts s at e. why.damaged told bytes shown s at (same_err _ _ e) counts;
            };
          };
    })

-- ---- the area can't be changed

pub returns-in_err-changed : goal.returns-in_err-changed
returns-in_err-changed g c =
    let place = c.args.place.now in
    let count = c.in_ok-count.count in
    let looks = c.counted.ensures.looks in
    let why = c.in_err-changed.ensures in
    let changes = c.changed_intervals.ensures in
    let p = err_from_is_err_and c.from_residual-in_err-changed.result c.from_residual-in_err-changed.ensures.1 in
    subst (StagesArea g.T.Site.told g.T.Site.disk g.T.Site.faults g.T.Site.holds g.T.Site.keeps g.T.Site.tells_reads
    g.T.Site.bytes_read place c.args.set c.args.changes.now c.args.inserts.now c.args.site.now
    c.changed_intervals.new.site c.args.pool.now c.changed_intervals.new.pool c.args.imaged.now.items
    c.args.imaged.now.items) (sym (handed_on _ _ _ p.1 p.2)) (record {
      none = λ other. tt;
      fit = tt;
      in_order = tt;
      flagged = tt;
      flags = λ s k. refl;
      kept = λ s k has. has;
      count = refl;
      begins = λ s at e. why.begins s at (same_err _ _ e);
      here = λ s begin end n e. why.here s begin end n (same_err _ _ e);
      failed = λ e. rose_behind (g.T.Site.faults c.args.site.now) (g.T.Site.faults c.counted.new.site)
          (g.T.Site.faults c.changed_intervals.new.site) looks.continued.later (why.failed (same_err _ _ e));
      stages = stages_looked g.T.Site.told g.T.Site.disk g.T.Site.faults g.T.Site.holds g.T.Site.keeps c.args.set
          place.shape.ci c.args.site.now c.changed_intervals.new.site c.args.pool.now c.changed_intervals.new.pool
          (looks_then g.T.Site.told g.T.Site.disk g.T.Site.faults g.T.Site.holds g.T.Site.keeps c.args.set
          place.shape.ci (λ s t. g.met.T.Site.lawful s t) c.args.site.now c.counted.new.site
          c.changed_intervals.new.site c.args.pool.now c.counted.new.pool c.changed_intervals.new.pool looks
          changes.looks);
      shown = λ told bytes shown.
          let from = c.in_ok-count.ensures.count told bytes shown in
          let shown1 = shows_extent place c.args.set count _ c.counted.new.pool bytes from
          (still_shown g.T.Site.told g.T.Site.disk g.T.Site.faults g.T.Site.holds g.T.Site.keeps place c.args.set bytes
          c.args.site.now c.counted.new.site c.args.pool.now c.counted.new.pool looks told shown) in
          let told1 = looks.continued.still_told told in
          let at_hand = counted_at_hand c.args.site.now c.counted.new.site c.args.set count c.args.pool.now
          c.counted.new.pool place (bytes 0) from c.counted.ensures.unread c.counted.ensures.hand in
          record {
            staged = tt;
            least = tt;
            unread = λ all.
                let at = at_hand (all c.requires.concerned) in
                reads_then g.T.Site.tells_reads g.T.Site.bytes_read c.args.site.now c.counted.new.site
                c.changed_intervals.new.site
                (reads_nothing g.T.Site.tells_reads g.T.Site.bytes_read c.args.site.now c.counted.new.site at.0)
                (changes.unread at.2);
            hand = λ all.
                let at = at_hand (all c.requires.concerned) in
                hand_then c.args.pool.now c.counted.new.pool c.changed_intervals.new.pool at.1 (changes.hand at.2);
            states = λ state has fits.
                let has1 = has_extent place count bytes state from has in
                record {
                  made = tt;
                  room = tt;
                  one = λ one concerned. tt;
                  full = λ s begin end n e.
                      why.full told1 bytes shown1 state has1 fits s begin end n (same_err _ _ e);
                  sound = λ counts s at e. why.sound told1 bytes shown1 state has1 fits s at (same_err _ _ e);
                };
          };
    })

-- ---- its intervals are staged

pub returns : goal.returns
returns g c =
    let place = c.args.place.now in
    let count = c.in_ok-count.count in
    let imaged = is_imaged c.args.imaged.now.items c.args.set in
    let looks = c.counted.ensures.looks in
    let changes = c.changed_intervals.ensures in
    let stages = c.stage_changed-staged.ensures in
    let given = c.given_items.ensures in
    let staged = c.stage_changed-staged.result in
    let looks2 = looks_then g.T.Site.told g.T.Site.disk g.T.Site.faults g.T.Site.holds g.T.Site.keeps c.args.set
    place.shape.ci (λ s t. g.met.T.Site.lawful s t) c.args.site.now c.counted.new.site c.changed_intervals.new.site
    c.args.pool.now c.counted.new.pool c.changed_intervals.new.pool looks changes.looks in
    record {
      none = λ other. absurd (not_both (sym c.requires.concerned ∙ other));
      fit = by_given c.given_items.result staged (AllByRecursion (IsFitFor c.args.set place.shape.ci)) given.same
          stages.fit;
      in_order = by_given c.given_items.result staged (λ items. is_ascending items ≡ true) given.same stages.in_order;
      flagged = by_given c.given_items.result staged (AreFlagged c.stage_changed-staged.new.imaged.items) given.same
          stages.flagged;
      flags = stages.flags;
      kept = stages.kept;
      count = stages.count;
      begins = λ s at e. absurd (given.never_damaged s at e);
      here = λ s begin end n e. absurd (given.never_full s begin end n e);
      failed = λ e. rose_behind (g.T.Site.faults c.args.site.now) (g.T.Site.faults c.changed_intervals.new.site)
          (g.T.Site.faults c.stage_changed-staged.new.site) looks2.continued.later (stages.failed (given.failed e));
      stages = stages_then g.T.Site.told g.T.Site.disk g.T.Site.faults g.T.Site.holds g.T.Site.keeps c.args.set
          place.shape.ci (λ s t. g.met.T.Site.lawful s t) c.args.site.now c.changed_intervals.new.site
          c.stage_changed-staged.new.site c.args.pool.now c.changed_intervals.new.pool
          c.stage_changed-staged.new.pool
          (stages_looked g.T.Site.told g.T.Site.disk g.T.Site.faults g.T.Site.holds g.T.Site.keeps c.args.set
          place.shape.ci c.args.site.now c.changed_intervals.new.site c.args.pool.now
          c.changed_intervals.new.pool looks2) stages.stages;
      shown = λ told bytes shown.
          let from = c.in_ok-count.ensures.count told bytes shown in
          let shown1 = shows_extent place c.args.set count _ c.counted.new.pool bytes from
          (still_shown g.T.Site.told g.T.Site.disk g.T.Site.faults g.T.Site.holds g.T.Site.keeps place c.args.set bytes
          c.args.site.now c.counted.new.site c.args.pool.now c.counted.new.pool looks told shown) in
          let shown2 = shows_extent place c.args.set count _ c.changed_intervals.new.pool bytes from
          (still_shown g.T.Site.told g.T.Site.disk g.T.Site.faults g.T.Site.holds g.T.Site.keeps place c.args.set bytes
          c.args.site.now c.changed_intervals.new.site c.args.pool.now c.changed_intervals.new.pool looks2 told
          shown) in
          let told1 = looks.continued.still_told told in
          let told2 = looks2.continued.still_told told in
          let at_hand = counted_at_hand c.args.site.now c.counted.new.site c.args.set count c.args.pool.now
          c.counted.new.pool place (bytes 0) from c.counted.ensures.unread c.counted.ensures.hand in
          let still = λ (all : AllAtHand c.counted.new.pool c.args.set count).
          still_at_hand c.args.set count c.counted.new.pool c.changed_intervals.new.pool all (changes.hand all) in
          record {
            staged = by_given c.given_items.result staged
                (λ items. StagesItems c.args.set items bytes c.args.pool.now c.stage_changed-staged.new.pool) given.same
                (if_ok_with staged
                (λ items. StagesItems c.args.set items bytes c.changed_intervals.new.pool
                c.stage_changed-staged.new.pool)
                (λ items. StagesItems c.args.set items bytes c.args.pool.now c.stage_changed-staged.new.pool)
                (stages.staged told2 bytes shown2)
                (λ items done. stages_behind c.args.set items bytes c.args.pool.now c.changed_intervals.new.pool
                c.stage_changed-staged.new.pool
                (λ k. same_staged c.args.pool.now c.changed_intervals.new.pool looks2.cells c.args.set k) done));
            least = by_given c.given_items.result staged
                (AllByRecursion (IsLeastOf (counted_by (Some place) (bytes 0)) imaged bytes)) given.same
                (subst (λ n. IfOk staged (AllByRecursion (IsLeastOf n imaged bytes))) from
                (stages.least told2 bytes shown2));
            unread = λ all.
                let at = at_hand (all c.requires.concerned) in
                reads_then g.T.Site.tells_reads g.T.Site.bytes_read c.args.site.now c.counted.new.site
                c.stage_changed-staged.new.site
                (reads_nothing g.T.Site.tells_reads g.T.Site.bytes_read c.args.site.now c.counted.new.site at.0)
                (reads_then g.T.Site.tells_reads g.T.Site.bytes_read c.counted.new.site c.changed_intervals.new.site
                c.stage_changed-staged.new.site (changes.unread at.2)
                (reads_nothing g.T.Site.tells_reads g.T.Site.bytes_read c.changed_intervals.new.site
                c.stage_changed-staged.new.site (stages.unread (still at.2))));
            hand = λ all.
                let at = at_hand (all c.requires.concerned) in
                hand_then c.args.pool.now c.counted.new.pool c.stage_changed-staged.new.pool at.1
                (hand_then c.counted.new.pool c.changed_intervals.new.pool c.stage_changed-staged.new.pool
                (changes.hand at.2) (stages.hand (still at.2)));
            states = λ state has fits.
                let has1 = has_extent place count bytes state from has in
                let behind = committed place c.args.changes.now c.args.inserts.now state in
                let changed = get nat_cmp c.in_ok-changed.changed in
                let makes = stages.made told2 bytes shown2 in
                let made : IfOk c.given_items.result (MakesArea place c.args.set imaged bytes behind) =
                by_given c.given_items.result staged (MakesArea place c.args.set imaged bytes behind) given.same
                (if_ok_with staged (MakeChanges c.args.set count imaged bytes changed)
                (MakesArea place c.args.set imaged bytes behind) makes
                (λ items done. makes_area place c.args.set count imaged bytes behind changed items from done
                (c.in_ok-changed.ensures.changed told1 bytes shown1 state has1 fits))) in
                record {
                  made = made;
                  room = at_ok c.given_items.result _ (c.in_ok-changed.ensures.room told1 bytes shown1 state has1 fits);
                  one = λ one concerned.
                      let most = by_given c.given_items.result staged (λ items. length items ≤ 1) given.same
                      (ok_three staged (MakeChanges c.args.set count imaged bytes changed)
                      (AllByRecursion (IsFitFor c.args.set place.shape.ci)) (λ items. is_ascending items ≡ true)
                      (λ items. length items ≤ 1) makes stages.fit stages.in_order
                      (λ items done fit up. at_most_one c.args.set count place.shape.ci imaged bytes changed items done
                      (c.in_ok-changed.ensures.one told1 bytes shown1 state has1 fits one) fit up)) in
                      ok_both c.given_items.result (λ items. length items ≤ 1)
                      (MakesArea place c.args.set imaged bytes behind) (λ items. length items ≡ 1) most made
                      (λ items few done. just_one place c.args.set imaged bytes c.args.changes.now c.args.inserts.now
                      state has one concerned items few done);
                  full = λ s begin end n e. absurd (given.never_full s begin end n e);
                  sound = λ counts s at e. given.never_damaged s at e;
                };
          };
    }
