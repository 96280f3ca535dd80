use Rattle.std.proofs.Common.{◌≤◌, List, length, sym, ◌∙◌, ap, subst}
use Rattle.area_states.specs.Places.{ArePlaces}
use Rattle.area_states.specs.declared.place.Place.{Place}
use Rattle.dedb_area.specs.Appending.{StagesInAreas}
use Rattle.dedb_area.specs.Committing.{MayStage}
use Rattle.dedb_area.specs.inside.Staging.{StageAreas}
use Rattle.dedb_area.specs.Standing.{Holding}
use Rattle.dedb_area.proofs.Staying.{stages_areas}
use Rattle.dedb_area.proofs.areas.Areas.stage_places.Goals as goal

pub stage_all-requires : goal.stage_all-requires
stage_all-requires g c =
    let value = c.deref-places.ensures.value in
    record {
      places = subst ArePlaces (sym value) c.self.invariant.1;
      few = subst (λ (l : List Place). length l ≤ 256) (sym value) c.self.invariant.3;
      each = c.self.invariant.2 ∙ ap length (sym value);
      stageable = subst (λ x. MayStage c.deref-places.result.now x c.as_slice-2.result.now) (sym c.as_slice.ensures)
          (subst (λ x. MayStage c.deref-places.result.now c.args.changes.now x) (sym c.as_slice-2.ensures)
          (subst (λ l. MayStage l c.args.changes.now c.args.inserts.now) (sym value)
          (subst (λ (h : Holding). MayStage h.places c.args.changes.now c.args.inserts.now) (sym c.self.view_is)
          c.requires)));
    }

pub returns : goal.returns
returns g c =
    let done = subst (λ ps. StageAreas g.T.Site.told g.T.Site.disk g.T.Site.faults g.T.Site.holds g.T.Site.keeps
    g.T.Site.tells_reads g.T.Site.bytes_read ps (length ps) c.as_slice.result.now c.as_slice-2.result.now
    c.args.site.now c.stage_all.new.site c.self.inside.pool c.stage_all.new.pool c.self.inside.imaged.items
    c.stage_all.new.imaged.items c.stage_all.result) c.deref-places.ensures.value c.stage_all.ensures in
    let done2 = subst (λ x. StageAreas g.T.Site.told g.T.Site.disk g.T.Site.faults g.T.Site.holds g.T.Site.keeps
    g.T.Site.tells_reads g.T.Site.bytes_read c.self.inside.places.items (length c.self.inside.places.items) x
    c.as_slice-2.result.now c.args.site.now c.stage_all.new.site c.self.inside.pool c.stage_all.new.pool
    c.self.inside.imaged.items c.stage_all.new.imaged.items c.stage_all.result) c.as_slice.ensures done in
    record {
      done = subst (λ (h : Holding). StageAreas g.T.Site.told g.T.Site.disk g.T.Site.faults g.T.Site.holds
          g.T.Site.keeps g.T.Site.tells_reads g.T.Site.bytes_read h.places (length h.places) c.args.changes.now
          c.args.inserts.now c.args.site.now c.stage_all.new.site h.pool c.stage_all.new.pool h.imaged
          c.stage_all.new.imaged.items c.stage_all.result) c.self.view_is
          (subst (λ x. StageAreas g.T.Site.told g.T.Site.disk g.T.Site.faults g.T.Site.holds g.T.Site.keeps
          g.T.Site.tells_reads g.T.Site.bytes_read c.self.inside.places.items (length c.self.inside.places.items)
          c.args.changes.now x c.args.site.now c.stage_all.new.site c.self.inside.pool c.stage_all.new.pool
          c.self.inside.imaged.items c.stage_all.new.imaged.items c.stage_all.result) c.as_slice-2.ensures done2);
      stages = subst (λ (h : Holding). StagesInAreas g.T.Site.told g.T.Site.disk g.T.Site.faults g.T.Site.holds
          g.T.Site.keeps c.args.site.now c.stage_all.new.site h (record {
            places = c.self.inside.places.items;
            unsynced = c.self.inside.unsynced.items;
            imaged = c.stage_all.new.imaged.items;
            pool = c.stage_all.new.pool;
          })) c.self.view_is
          (stages_areas g.T.Site.told g.T.Site.disk g.T.Site.faults g.T.Site.holds g.T.Site.keeps
          c.self.inside.places.items (λ s t. g.met.T.Site.lawful s t) c.self.inside.unsynced.items
          c.self.inside.imaged.items c.stage_all.new.imaged.items c.args.site.now c.stage_all.new.site
          c.self.inside.pool c.stage_all.new.pool done.stages done.flags);
    }
