use Rattle.area_redo.specs.Standing.{behind}
use Rattle.area_staging.proofs.AtHand.{hand_of, hand_then}
use Rattle.dedb_area.specs.Dropping.{IsDropped}
use Rattle.dedb_area.proofs.CommitLaws.{fills_first, for_committed, may_enter, none_full, one_segment}
use Rattle.dedb_area.proofs.Fitting.{defined_items}
use Rattle.dedb_area.proofs.Ones.{one_of_all}
use Rattle.dedb_area.proofs.StageRun.{stage_databases, stage_newest}
use Rattle.dedb_area.proofs.Staying.{drop_stages, drop_stands}
use Rattle.dedb_area.proofs.areas.Areas.stage.Goals as goal

pub returns-in-Ok : goal.returns-in-Ok
returns-in-Ok g c =
    let areas = c.args.self.now in
    let changes = c.args.changes.now in
    let inserts = c.args.inserts.now in
    let items = c.in-Ok.items in
    let all = c.in-Ok.ensures.done in
    let newest = stage_newest g.T.Site.told g.T.Site.disk g.T.Site.faults g.T.Site.holds g.T.Site.keeps
    g.T.Site.tells_reads g.T.Site.bytes_read changes inserts areas c.args.site.now c.stage_places.new.site
    c.stage_places.new.self.pool c.stage_places.new.self.imaged _ all in
    let databases = stage_databases g.T.Site.told g.T.Site.disk g.T.Site.faults g.T.Site.holds g.T.Site.keeps
    g.T.Site.tells_reads g.T.Site.bytes_read changes inserts areas c.args.site.now c.stage_places.new.site
    c.stage_places.new.self.pool c.stage_places.new.self.imaged _ all in
    record {
      committed = λ told way bytes defs db stands e are fits.
          for_committed defs areas.places _ (behind way.unsealed bytes) changes inserts db items _ e fits
          ((databases way bytes defs db told stands e are fits).staged stands.fit.unstaged);
      staged = λ told way bytes defs db stands e are fits.
          ((databases way bytes defs db told stands e are fits).staged stands.fit.unstaged).staged;
      enters = λ told way bytes defs db stands e are fits.
          may_enter way bytes (g.T.Site.disk c.args.site.now) areas changes inserts db items _ stands
          ((databases way bytes defs db told stands e are fits).staged stands.fit.unstaged);
      other = λ told way bytes defs db stands e are fits.
          ((databases way bytes defs db told stands e are fits).staged stands.fit.unstaged).other;
      fit = all.fit;
      defined = λ defs e. defined_items defs areas.places items e all.fit;
      in_order = all.in_order;
      flagged = all.flagged;
      least = λ told way bytes stands. (newest way bytes told stands).least;
      one = λ told way bytes defs db change stands e are fits only none differs.
          let whole = one_segment defs areas.places db changes inserts change e fits only none differs in
          one_of_all areas.places changes inserts db items whole
          ((databases way bytes defs db told stands e are fits).one whole);
      full = λ told way bytes defs db stands e are fits s begin end n is. absurd cc;
      room = λ told way bytes defs db stands e are fits.
          none_full defs areas.places _ (behind way.unsealed bytes) changes inserts db items _ e fits
          ((databases way bytes defs db told stands e are fits).staged stands.fit.unstaged);
      sound = λ told way bytes defs db stands e are fits ends s at is. cc;
      begins = λ s at is. absurd cc;
      failed = λ is. absurd cc;
      unread = λ told way bytes stands. (newest way bytes told stands).unread;
      hand = λ told way bytes stands. (newest way bytes told stands).hand;
      unstaged = tt;
      stands = λ told way bytes stands. tt;
      stages = c.stage_places.ensures.stages;
    }

pub returns-in-Err : goal.returns-in-Err
returns-in-Err g c =
    let areas = c.args.self.now in
    let changes = c.args.changes.now in
    let inserts = c.args.inserts.now in
    let all = c.in-Err.ensures.done in
    let newest = stage_newest g.T.Site.told g.T.Site.disk g.T.Site.faults g.T.Site.holds g.T.Site.keeps
    g.T.Site.tells_reads g.T.Site.bytes_read changes inserts areas c.args.site.now c.stage_places.new.site
    c.stage_places.new.self.pool c.stage_places.new.self.imaged _ all in
    let databases = stage_databases g.T.Site.told g.T.Site.disk g.T.Site.faults g.T.Site.holds g.T.Site.keeps
    g.T.Site.tells_reads g.T.Site.bytes_read changes inserts areas c.args.site.now c.stage_places.new.site
    c.stage_places.new.self.pool c.stage_places.new.self.imaged _ all in
    let drop = c.drop_staged.ensures in
    let dropped : IsDropped c.stage_places.new.self c.drop_staged.new.self = record {
      pending = drop.pending;
      list = drop.list;
      fit = drop.fit;
      places = drop.places;
      unsynced = drop.unsynced;
      imaged = drop.imaged;
    } in
    record {
      committed = λ told way bytes defs db stands e are fits. tt;
      staged = λ told way bytes defs db stands e are fits. tt;
      enters = λ told way bytes defs db stands e are fits. tt;
      other = λ told way bytes defs db stands e are fits. tt;
      fit = tt;
      defined = λ defs e. tt;
      in_order = tt;
      flagged = tt;
      least = λ told way bytes stands. tt;
      one = λ told way bytes defs db change stands e are fits only none differs. tt;
      full = λ told way bytes defs db stands e are fits s begin end n is.
          fills_first defs areas.places db inserts s begin end n e
          ((databases way bytes defs db told stands e are fits).full stands.fit.unstaged s begin end n is);
      room = λ told way bytes defs db stands e are fits. tt;
      sound = λ told way bytes defs db stands e are fits. (databases way bytes defs db told stands e are fits).sound;
      begins = all.begins;
      failed = all.failed;
      unread = λ told way bytes stands. (newest way bytes told stands).unread;
      hand = λ told way bytes stands at_hand.
          hand_then areas.pool c.stage_places.new.self.pool c.drop_staged.new.self.pool
          ((newest way bytes told stands).hand at_hand)
          (hand_of c.stage_places.new.self.pool c.drop_staged.new.self.pool drop.pending drop.list);
      unstaged = drop.unstaged;
      stands = λ told way bytes.
          drop_stands g.T.Site.told g.T.Site.disk g.T.Site.faults g.T.Site.holds g.T.Site.keeps c.args.site.now
          c.stage_places.new.site areas c.stage_places.new.self c.drop_staged.new.self dropped
          c.stage_places.ensures.stages way bytes told;
      stages = drop_stages g.T.Site.told g.T.Site.disk g.T.Site.faults g.T.Site.holds g.T.Site.keeps c.args.site.now
          c.stage_places.new.site areas c.stage_places.new.self c.drop_staged.new.self dropped
          c.stage_places.ensures.stages;
    }
