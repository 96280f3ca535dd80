use Rattle.std.proofs.Common.{◌≡◌, ◌∙◌, [], refl, sym, subst, arith}
use Rattle.std.specs.Prelude.{IfOk, OnOk, Some}
use Rattle.std.specs.List.{AllByRecursion}
use Rattle.area_redo.specs.Redo.{AreaBytes, redone}
use Rattle.area_redo.specs.Standing.{Way, behind}
use Rattle.area_states.specs.Databases.{AreFor}
use Rattle.area_states.specs.declared.place.Place.{Place}
use Rattle.area_states.specs.Places.{ArePlaces, place_at}
use Rattle.fp_model.specs.Items.{IsFit}
use Rattle.area_staging.specs.Changing.{AreStagedBy, IsFitFor}
use Rattle.area_staging.specs.Items.{is_imaged, items_in}
use Rattle.plain_laws.proofs.Results.{if_ok_with}
use Rattle.dedb_area.specs.Appending.{MayEnter, StagesInAreas}
use Rattle.dedb_area.specs.Committing.{IsFitItem}
use Rattle.dedb_area.specs.Purging.{IsPurgeStaged, MayPurge}
use Rattle.dedb_area.specs.inside.Purging.{StagesPurge}
use Rattle.dedb_area.specs.Standing.{AreasStand, Holding}
use Rattle.dedb_area.proofs.AnchorLemmas.{shows, within_areas}
use Rattle.dedb_area.proofs.Fitting.{defined_items}
use Rattle.dedb_area.proofs.PurgeDatabases.{purge_places}
use Rattle.dedb_area.proofs.PurgeEntry.{enters_purge}
use Rattle.dedb_area.proofs.PurgeItems.{staged_by}
use Rattle.dedb_area.proofs.StagedAreas.{fit_more_items}
use Rattle.dedb_area.proofs.StagedPurge.{stands_then}
use Rattle.dedb_area.proofs.Staying.{area_stages}
use Rattle.dedb_area.proofs.areas.Areas.stage_purge.Goals as goal

pub stage_purged-requires-clause-from : goal.stage_purged-requires-clause-from
stage_purged-requires-clause-from g c =
    let is = subst (λ l. place_at l c.args.set ≡ Some c.place_in-place.result.now) c.deref-places.ensures.value
    c.place_in-place.ensures in
    (within_areas c.self.inside.places.items c.args.set c.place_in-place.result.now is).0

pub stage_purged-requires-clause-within : goal.stage_purged-requires-clause-within
stage_purged-requires-clause-within g c =
    let is = subst (λ l. place_at l c.args.set ≡ Some c.place_in-place.result.now) c.deref-places.ensures.value
    c.place_in-place.ensures in
    let within = (within_areas c.self.inside.places.items c.args.set c.place_in-place.result.now is).1 in
    let same = c.self.invariant.2 in
    omega (arith, within, same)

pub returns : goal.returns
returns g c =
    let areas = c.args.self.now in
    let set = c.args.set in
    let place = c.place_in-place.result.now in
    let item = c.stage_purged.result in
    let after = c.stage_purged.new.pool in
    let here = subst (λ l. place_at l set ≡ Some place) c.deref-places.ensures.value c.place_in-place.ensures in
    let is = subst (λ (h : Holding). place_at h.places set ≡ Some place) c.self.view_is here in
    let good = subst (λ (h : Holding). ArePlaces h.places) c.self.view_is c.self.invariant.1 in
    let done = subst (λ (h : Holding). StagesPurge g.T.Site.told g.T.Site.disk g.T.Site.faults g.T.Site.holds
    g.T.Site.keeps place set c.args.n c.args.site.now c.stage_purged.new.site h.pool after h.imaged
    c.stage_purged.new.imaged.items item) c.self.view_is c.stage_purged.ensures in
    let same : (p : Place) → place_at areas.places set ≡ Some p → place ≡ p =
    λ p there. (let both : Some place ≡ Some p = sym is ∙ there in cc) in
    let purged : g.T.Site.told c.args.site.now → (way : Way) (bytes : AreaBytes)
    → AreasStand way bytes (g.T.Site.disk c.args.site.now) areas
    → IfOk item (IsPurgeStaged c.args.n set (is_imaged areas.imaged set 0) (behind way.unsealed bytes set 0) after) =
    λ told way bytes stands.
    done.purged told (behind way.unsealed bytes set)
    (shows way bytes (g.T.Site.disk c.args.site.now) areas stands set place is) stands.fit.unstaged in
    let fit : IfOk item (λ i. AllByRecursion (IsFitItem areas.places) (items_in i)) =
    if_ok_with item (λ i. AllByRecursion (IsFitFor set place.shape.ci) (items_in i))
    (λ i. AllByRecursion (IsFitItem areas.places) (items_in i)) done.fit
    (λ i f. fit_more_items areas.places set place [] (items_in i) is tt f) in
    let stages = subst (λ (h : Holding). StagesInAreas g.T.Site.told g.T.Site.disk g.T.Site.faults g.T.Site.holds
    g.T.Site.keeps c.args.site.now c.stage_purged.new.site h (record {
      places = c.self.inside.places.items;
      unsynced = c.self.inside.unsynced.items;
      imaged = c.stage_purged.new.imaged.items;
      pool = after;
    })) c.self.view_is
    (area_stages g.T.Site.told g.T.Site.disk g.T.Site.faults g.T.Site.holds g.T.Site.keeps c.self.inside.places.items
    (λ s t. g.met.T.Site.lawful s t) set place c.self.inside.unsynced.items c.self.inside.imaged.items
    c.stage_purged.new.imaged.items c.args.site.now c.stage_purged.new.site c.self.inside.pool after here
    c.stage_purged.ensures.stages c.stage_purged.ensures.flags) in
    record {
      purged = purged;
      fit = fit;
      defined = λ defs e. if_ok_with item (λ i. AllByRecursion (IsFitItem areas.places) (items_in i))
          (λ i. AllByRecursion (IsFit defs) (items_in i)) fit
          (λ i f. defined_items defs areas.places (items_in i) e f);
      flagged = done.flagged;
      staged = λ told way bytes stands. if_ok_with item (IsPurgeStaged c.args.n set (is_imaged areas.imaged set 0)
          (behind way.unsealed bytes set 0) after) (λ i. AreStagedBy (items_in i) (behind way.unsealed bytes) after)
          (purged told way bytes stands)
          (λ i p. staged_by c.args.n set (is_imaged areas.imaged set 0) (behind way.unsealed bytes set 0) after i
          (behind way.unsealed bytes) p refl);
      enters = λ told way bytes stands. if_ok_with item (IsPurgeStaged c.args.n set (is_imaged areas.imaged set 0)
          (behind way.unsealed bytes set 0) after) (λ i. MayEnter way bytes areas (items_in i))
          (purged told way bytes stands)
          (λ i p. enters_purge way bytes (g.T.Site.disk c.args.site.now) areas c.args.n set after i place stands is p);
      databases = λ told way bytes defs db next stands e are shaped is_next.
          if_ok_with item (IsPurgeStaged c.args.n set (is_imaged areas.imaged set 0) (behind way.unsealed bytes set 0)
          after) (λ i. AreFor areas.places (redone (items_in i) (behind way.unsealed bytes)) next)
          (purged told way bytes stands)
          (λ i p. purge_places defs areas.places set c.args.n db next (behind way.unsealed bytes)
          (is_imaged areas.imaged set 0) after i e are good p shaped is_next);
      damaged = λ told way bytes p s at stands there e may.
          done.damaged told (behind way.unsealed bytes set)
          (shows way bytes (g.T.Site.disk c.args.site.now) areas stands set place is) s at e
          (subst (λ (q : Place). MayPurge q (behind way.unsealed bytes set 0)) (sym (same p there)) may);
      sound = λ told way bytes p stands there.
          subst (λ (q : Place). OnOk item (MayPurge q (behind way.unsealed bytes set 0))) (same p there)
          (done.sound told (behind way.unsealed bytes set)
          (shows way bytes (g.T.Site.disk c.args.site.now) areas stands set place is));
      first = done.first;
      failed = done.failed;
      never_full = done.never_full;
      unstaged = done.unstaged;
      stands = λ told way bytes stands.
          stands_then item way bytes (g.T.Site.disk c.stage_purged.new.site) _
          ((stages.areas told way bytes).stands stands) (done.unstaged stands.fit.unstaged);
      stages = stages;
    }
