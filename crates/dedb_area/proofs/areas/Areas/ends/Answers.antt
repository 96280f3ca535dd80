use Rattle.std.proofs.Common.{◌≡◌, sym, subst, ◌∙◌, ap}
use Rattle.std.specs.Prelude.{Some}
use Rattle.std.proofs.lemmas.Result.{err_from_is_err_and}
use Rattle.area_redo.specs.Standing.{behind}
use Rattle.area_states.specs.declared.place.Place.{Place}
use Rattle.dedb_area.specs.Control.{ends_in, IsControl, AreEnds}
use Rattle.area_states.specs.Places.{place_at}
use Rattle.dedb_area.specs.Standing.{Holding, AreasStand}
use Rattle.dedb_area.specs.Looking.{LooksAtAreas}
use Rattle.dedb_area.proofs.Looks.{areas_looked}
use Rattle.dedb_area.proofs.Newest.{control_newest, ends_are}
use Rattle.dedb_area.proofs.areas.Areas.ends.Goals as goal

pub returns-in_err-control-clause-looks : goal.returns-in_err-control-clause-looks
returns-in_err-control-clause-looks g c =
    let is = subst (λ l. place_at l c.args.set ≡ Some c.place_in-place.result.now) c.deref.ensures.value
    c.place_in-place.ensures in
    subst (λ (h : Holding). LooksAtAreas g.T.Site.told g.T.Site.disk g.T.Site.faults g.T.Site.holds g.T.Site.keeps
    c.args.site.now c.control.new.site h (record {
      places = c.self.inside.places.items;
      unsynced = c.self.inside.unsynced.items;
      imaged = c.self.inside.imaged.items;
      pool = c.control.new.pool;
    })) c.self.view_is
    (areas_looked g.T.Site.told g.T.Site.disk g.T.Site.faults g.T.Site.holds g.T.Site.keeps
    (λ s t. g.met.T.Site.lawful s t) c.args.set c.place_in-place.result.now c.self.inside.places.items
    c.self.inside.unsynced.items c.self.inside.imaged.items c.args.site.now c.control.new.site c.self.inside.pool c.control.new.pool is
    c.control.ensures.looks)

pub returns-in-Some-clause-looks : goal.returns-in-Some-clause-looks
returns-in-Some-clause-looks g c =
    let is = subst (λ l. place_at l c.args.set ≡ Some c.place_in-place.result.now) c.deref.ensures.value
    c.place_in-place.ensures in
    subst (λ (h : Holding). LooksAtAreas g.T.Site.told g.T.Site.disk g.T.Site.faults g.T.Site.holds g.T.Site.keeps
    c.args.site.now c.control.new.site h (record {
      places = c.self.inside.places.items;
      unsynced = c.self.inside.unsynced.items;
      imaged = c.self.inside.imaged.items;
      pool = c.control.new.pool;
    })) c.self.view_is
    (areas_looked g.T.Site.told g.T.Site.disk g.T.Site.faults g.T.Site.holds g.T.Site.keeps
    (λ s t. g.met.T.Site.lawful s t) c.args.set c.place_in-place.result.now c.self.inside.places.items
    c.self.inside.unsynced.items c.self.inside.imaged.items c.args.site.now c.control.new.site c.self.inside.pool c.control.new.pool is
    c.control.ensures.looks)

pub returns-clause-looks : goal.returns-clause-looks
returns-clause-looks g c =
    let is = subst (λ l. place_at l c.args.set ≡ Some c.place_in-place.result.now) c.deref.ensures.value
    c.place_in-place.ensures in
    subst (λ (h : Holding). LooksAtAreas g.T.Site.told g.T.Site.disk g.T.Site.faults g.T.Site.holds g.T.Site.keeps
    c.args.site.now c.control.new.site h (record {
      places = c.self.inside.places.items;
      unsynced = c.self.inside.unsynced.items;
      imaged = c.self.inside.imaged.items;
      pool = c.control.new.pool;
    })) c.self.view_is
    (areas_looked g.T.Site.told g.T.Site.disk g.T.Site.faults g.T.Site.holds g.T.Site.keeps
    (λ s t. g.met.T.Site.lawful s t) c.args.set c.place_in-place.result.now c.self.inside.places.items
    c.self.inside.unsynced.items c.self.inside.imaged.items c.args.site.now c.control.new.site c.self.inside.pool c.control.new.pool is
    c.control.ensures.looks)

pub returns-in-Some-clause-ends : goal.returns-in-Some-clause-ends
returns-in-Some-clause-ends g c told way bytes stands =
    let is = subst (λ l. place_at l c.args.set ≡ Some c.place_in-place.result.now) c.deref.ensures.value
    c.place_in-place.ensures in
    let now = subst (λ (h : Holding). AreasStand way bytes (g.T.Site.disk c.args.site.now) h) (sym c.self.view_is) stands in
    let newest = c.in_ok-control.ensures.newest told now.pool.clean
    (now.fit.sizes c.args.set c.place_in-place.result.now is)
    ∙ control_newest c.self.inside.places.items way bytes (g.T.Site.disk c.args.site.now) c.self.inside.pool c.args.set
    c.place_in-place.result.now now.pool is in
    ends_are c.in-Some.ends c.in_ok-control.control c.in-Some.ensures.begin c.in-Some.ensures.end
    ∙ ap ends_in newest

pub returns-in_err-control-clause-damaged : goal.returns-in_err-control-clause-damaged
returns-in_err-control-clause-damaged g c told way bytes place s at stands there e = λ is_control.
    let is = subst (λ l. place_at l c.args.set ≡ Some c.place_in-place.result.now) c.deref.ensures.value
    c.place_in-place.ensures in
    let now = subst (λ (h : Holding). AreasStand way bytes (g.T.Site.disk c.args.site.now) h) (sym c.self.view_is) stands in
    let newest = control_newest c.self.inside.places.items way bytes (g.T.Site.disk c.args.site.now) c.self.inside.pool
    c.args.set c.place_in-place.result.now now.pool is in
    let p = err_from_is_err_and c.from_residual.result c.from_residual.ensures.1 in
    c.control.ensures.damaged told now.pool.clean (now.fit.sizes c.args.set c.place_in-place.result.now is) s at
    (cc (p.1, p.2, c.in_err-control.was)) (subst IsControl (sym newest) is_control.is_control)

pub returns-clause-damaged : goal.returns-clause-damaged
returns-clause-damaged g c told way bytes place s at stands there e = λ is_control.
    let is = subst (λ l. place_at l c.args.set ≡ Some c.place_in-place.result.now) c.deref.ensures.value
    c.place_in-place.ensures in
    let now = subst (λ (h : Holding). AreasStand way bytes (g.T.Site.disk c.args.site.now) h) (sym c.self.view_is) stands in
    let newest = c.in_ok-control.ensures.newest told now.pool.clean
    (now.fit.sizes c.args.set c.place_in-place.result.now is)
    ∙ control_newest c.self.inside.places.items way bytes (g.T.Site.disk c.args.site.now) c.self.inside.pool c.args.set
    c.place_in-place.result.now now.pool is in
    let there2 = subst (λ (h : Holding). place_at h.places c.args.set ≡ Some place) (sym c.self.view_is) there in
    let both : Some place ≡ Some c.place_in-place.result.now = sym there2 ∙ is in
    let same : place ≡ c.place_in-place.result.now = cc in
    c.in-None.ensures.none (subst (λ b. AreEnds c.place_in-place.result.now.capacity b) (sym newest)
    (subst (λ (q : Place). AreEnds q.capacity (behind way.unsealed bytes c.args.set 0)) same is_control.are_ends))

pub returns-in-Some-clause-sound : goal.returns-in-Some-clause-sound
returns-in-Some-clause-sound g c told way bytes place stands there =
    let is = subst (λ l. place_at l c.args.set ≡ Some c.place_in-place.result.now) c.deref.ensures.value
    c.place_in-place.ensures in
    let now = subst (λ (h : Holding). AreasStand way bytes (g.T.Site.disk c.args.site.now) h) (sym c.self.view_is) stands in
    let newest = c.in_ok-control.ensures.newest told now.pool.clean
    (now.fit.sizes c.args.set c.place_in-place.result.now is)
    ∙ control_newest c.self.inside.places.items way bytes (g.T.Site.disk c.args.site.now) c.self.inside.pool c.args.set
    c.place_in-place.result.now now.pool is in
    let there2 = subst (λ (h : Holding). place_at h.places c.args.set ≡ Some place) (sym c.self.view_is) there in
    let both : Some place ≡ Some c.place_in-place.result.now = sym there2 ∙ is in
    let same : place ≡ c.place_in-place.result.now = cc in
    record {
      is_control = subst IsControl newest (record {
        is_interval = c.in_ok-control.ensures.interval;
        is_kind = c.in_ok-control.ensures.kind;
      });
      are_ends = subst (λ (q : Place). AreEnds q.capacity (behind way.unsealed bytes c.args.set 0)) (sym same)
          (subst (λ b. AreEnds c.place_in-place.result.now.capacity b) newest c.in-Some.ensures.some);
    }
