use Rattle.std.proofs.Common.{◌≡◌, ◌∙◌, length, refl, sym, subst}
use Rattle.std.specs.Prelude.{IfOk}
use Rattle.std.specs.List.{AllByRecursion}
use Rattle.std.proofs.lemmas.Result.{err_from_is_err_and}
use Rattle.held_intervals.specs.Holding.{held_or}
use Rattle.area_staging.specs.Changing.{IsFitFor}
use Rattle.area_staging.specs.Items.{is_imaged, items_in}
use Rattle.area_staging.proofs.Stages.{stages_looked, stages_one}
use Rattle.plain_laws.proofs.Results.{at_ok}
use Rattle.dedb_area.specs.declared.fault.AreaFault.TheVariants as fault
use Rattle.dedb_area.specs.Purging.{IsPurged}
use Rattle.dedb_area.specs.inside.Purging.{StagesPurge}
use Rattle.dedb_area.proofs.StageLemmas.{handed_on, same_err}
use Rattle.dedb_area.proofs.StagedPurge.{flagged_items, none_staged, others_stay, purge_none, purge_staged, still_unstaged}
use Rattle.dedb_area.proofs.purging.stage_purged.Goals as goal

pub stage_control-requires-clause-same : goal.stage_control-requires-clause-same
stage_control-requires-clause-same g c =
    c.in_ok-old.ensures.size ∙ sym (c.in_ok-old.ensures.new_size c.in-Some.new c.in-Some.is)

pub returns-in_err-old : goal.returns-in_err-old
returns-in_err-old g c =
    let why = c.in_err-old.ensures in
    let looks = c.control_purged.ensures.looks in
    let p = err_from_is_err_and c.from_residual.result c.from_residual.ensures.1 in
    subst (StagesPurge g.T.Site.told g.T.Site.disk g.T.Site.faults g.T.Site.holds g.T.Site.keeps c.args.place.now
    c.args.set c.args.n c.args.site.now c.control_purged.new.site c.args.pool.now c.control_purged.new.pool
    c.args.imaged.now.items c.args.imaged.now.items) (sym (handed_on _ _ _ p.1 p.2)) (record {
      fit = tt;
      flagged = tt;
      flags = λ s k. refl;
      count = refl;
      first = λ s at e. why.first s at (same_err _ _ e);
      never_full = λ s begin end m e. why.never_full s begin end m (same_err _ _ e);
      failed = λ e. why.failed (same_err _ _ e);
      unstaged = still_unstaged c.args.pool.now c.control_purged.new.pool looks.cells;
      stages = stages_looked g.T.Site.told g.T.Site.disk g.T.Site.faults g.T.Site.holds g.T.Site.keeps c.args.set
          c.args.place.now.shape.ci c.args.site.now c.control_purged.new.site c.args.pool.now
          c.control_purged.new.pool looks;
      purged = λ told bytes shown none. tt;
      sound = λ told bytes shown. tt;
      damaged = λ told bytes shown s at e. why.damaged told bytes shown s at (same_err _ _ e);
    })

pub returns-in-None : goal.returns-in-None
returns-in-None g c =
    let looks = c.control_purged.ensures.looks in
    record {
      fit = tt;
      flagged = tt;
      flags = λ s k. refl;
      count = refl;
      first = λ s at e. absurd cc;
      never_full = λ s begin end m e. cc;
      failed = λ e. absurd cc;
      unstaged = λ none. tt;
      stages = stages_looked g.T.Site.told g.T.Site.disk g.T.Site.faults g.T.Site.holds g.T.Site.keeps c.args.set
          c.args.place.now.shape.ci c.args.site.now c.control_purged.new.site c.args.pool.now
          c.control_purged.new.pool looks;
      purged = λ told bytes shown none.
          purge_none c.args.n c.args.set (is_imaged c.args.imaged.now.items c.args.set 0) (bytes 0)
          c.control_purged.new.pool c.in_ok-old.new c.in-None.is (c.in_ok-old.ensures.purged told bytes shown)
          (still_unstaged c.args.pool.now c.control_purged.new.pool looks.cells none);
      sound = c.in_ok-old.ensures.sound;
      damaged = λ told bytes shown s at e may. cc;
    }

pub returns : goal.returns
returns g c =
    let staged = c.stage_control.ensures in
    let looks = c.control_purged.ensures.looks in
    let long : length c.in-Some.new ≡ c.args.place.now.shape.ci =
    c.in_ok-old.ensures.new_size c.in-Some.new c.in-Some.is in
    let from = c.requires.from in
    record {
      fit = subst (λ k. IfOk c.stage_control.result (λ item. AllByRecursion (IsFitFor c.args.set k) (items_in item)))
          long staged.fit;
      flagged = flagged_items c.stage_control.result (is_imaged c.args.imaged.now.items c.args.set 0) c.args.set
          c.in_ok-old.old c.in-Some.new c.stage_control.new.imaged.items c.control_purged.new.pool
          c.stage_control.new.pool from staged.item staged.staged;
      flags = staged.flags;
      count = staged.count;
      first = λ s at e.
          let clash : fault.Damaged s at ≡ fault.Memory = staged.memory (fault.Damaged s at) e in absurd cc;
      never_full = λ s begin end m e.
          let clash : fault.SeqFull s begin end m ≡ fault.Memory = staged.memory (fault.SeqFull s begin end m) e in cc;
      failed = λ e. let clash : fault.Device ≡ fault.Memory = staged.memory fault.Device e in absurd cc;
      unstaged = λ none.
          none_staged c.stage_control.result c.control_purged.new.pool c.stage_control.new.pool staged.err
          (still_unstaged c.args.pool.now c.control_purged.new.pool looks.cells none);
      stages = stages_one g.T.Site.told g.T.Site.disk g.T.Site.faults g.T.Site.holds g.T.Site.keeps c.args.set
          c.args.place.now.shape.ci c.args.site.now c.control_purged.new.site c.args.pool.now
          c.control_purged.new.pool c.stage_control.new.pool looks staged.pending staged.list
          (λ s n e has. staged.sizes s n (λ same. long ∙ sym (e same)) has)
          (others_stay c.stage_control.result c.args.set c.in-Some.new c.stage_control.new.imaged.items
          c.control_purged.new.pool c.stage_control.new.pool staged.staged staged.err);
      purged = λ told bytes shown none.
          purge_staged c.stage_control.result c.args.n c.args.set (is_imaged c.args.imaged.now.items c.args.set 0)
          (bytes 0) c.in_ok-old.old c.in-Some.new c.stage_control.new.imaged.items c.control_purged.new.pool
          c.stage_control.new.pool (c.in_ok-old.ensures.old told bytes shown)
          (subst (λ o. IsPurged c.args.n (bytes 0) (held_or o (bytes 0))) c.in-Some.is
          (c.in_ok-old.ensures.purged told bytes shown)) staged.item staged.staged
          (still_unstaged c.args.pool.now c.control_purged.new.pool looks.cells none);
      sound = λ told bytes shown. at_ok c.stage_control.result _ (c.in_ok-old.ensures.sound told bytes shown);
      damaged = λ told bytes shown s at e may.
          let clash : fault.Damaged s at ≡ fault.Memory = staged.memory (fault.Damaged s at) e in cc;
    }
