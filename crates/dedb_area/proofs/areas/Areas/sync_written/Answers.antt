use Rattle.std.specs.Prelude.{slice_get, Some}
use Rattle.fp_site.specs.Disk.{IsDurable}
use Rattle.fp_model.specs.State.{first_area_set}
use Rattle.std.proofs.Common.{◌≡◌, ℕ, ◌+◌, ◌∙◌, true, sym, subst}
use Rattle.dedb_area.specs.Standing.{Holding, AreSynced}
use Rattle.dedb_area.specs.Keeping.{KeepsAreas}
use Rattle.dedb_area.proofs.Syncs.{all_synced, areas_durable, areas_synced, cleared_synced}
use Rattle.dedb_area.proofs.areas.Areas.sync_written.Goals as goal

pub returns-in_err-sync_all-clause-keeps_areas : goal.returns-in_err-sync_all-clause-keeps_areas
returns-in_err-sync_all-clause-keeps_areas g c told way bytes =
    let old = g.T.Site.disk c.args.site.now in
    let new = g.T.Site.disk c.sync_all.new.site in
    let syncs = c.sync_all.ensures.syncs told in
    subst (λ (h : Holding). KeepsAreas way bytes old new h h) c.self.view_is
    (areas_synced way bytes c.self.inside.places.items c.self.inside.unsynced.items c.self.inside.unsynced.items
    c.self.inside.imaged.items c.self.inside.pool old new syncs (λ was number is. syncs.durable _ (was number is)))

pub returns-clause-keeps_areas : goal.returns-clause-keeps_areas
returns-clause-keeps_areas g c told way bytes =
    let old = g.T.Site.disk c.args.site.now in
    let new = g.T.Site.disk c.sync_all.new.site in
    let syncs = c.sync_all.ensures.syncs told in
    let flags = c.self.inside.unsynced.items in
    let these = subst (λ l. (number : ℕ) → slice_get l number ≡ Some true → IsDurable new (first_area_set + number))
    c.deref.ensures.value (c.in_ok-sync_all.ensures.synced told) in
    subst (λ (h : Holding). KeepsAreas way bytes old new h (record {
      places = c.self.inside.places.items;
      unsynced = c.clear.new.unsynced.items;
      imaged = c.self.inside.imaged.items;
      pool = c.self.inside.pool;
    })) c.self.view_is
    (areas_synced way bytes c.self.inside.places.items flags c.clear.new.unsynced.items c.self.inside.imaged.items
    c.self.inside.pool old new syncs (cleared_synced flags c.clear.new.unsynced.items old new c.clear.ensures.count these syncs))

pub returns-clause-durable : goal.returns-clause-durable
returns-clause-durable g c told synced =
    let old = g.T.Site.disk c.args.site.now in
    let new = g.T.Site.disk c.sync_all.new.site in
    let flags = c.self.inside.unsynced.items in
    let these = subst (λ l. (number : ℕ) → slice_get l number ≡ Some true → IsDurable new (first_area_set + number))
    c.deref.ensures.value (c.in_ok-sync_all.ensures.synced told) in
    let was = subst (λ (h : Holding). AreSynced h.unsynced old) (sym c.self.view_is) synced in
    areas_durable c.self.inside.places.items c.clear.new.unsynced.items new
    (c.clear.ensures.count ∙ c.self.invariant.0)
    (all_synced flags c.clear.new.unsynced.items old new c.clear.ensures.count these
    (c.sync_all.ensures.syncs told).durable was)
