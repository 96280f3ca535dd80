use Rattle.std.proofs.Common.{◌≡◌, ◌∙◌, ap, sym, subst}
use Rattle.std.specs.Prelude.{Some, IfOk}
use Rattle.fp_model.specs.State.{roots_at}
use Rattle.fp_site.specs.Site.{ReadsNothing}
use Rattle.area_redo.specs.Standing.{behind}
use Rattle.ci_pool.specs.Held.{SameAtHand}
use Rattle.area_states.specs.Databases.{AreFor}
use Rattle.area_states.specs.Places.{place_at, places_of}
use Rattle.area_laws.specs.Areas.{AreSentTo}
use Rattle.dedb_area.specs.Anchors.{AnchorIsAtHand, AreInTime, AreRootsOf, HasAnchorIn, IsDamagedFor}
use Rattle.dedb_area.specs.Looking.{LooksAtAreas}
use Rattle.dedb_area.specs.Standing.{AreasStand, Holding}
use Rattle.dedb_area.proofs.AnchorLemmas.{at_hand_here, damage_here, none_faulty, roots_are, roots_here}
use Rattle.dedb_area.proofs.Sent.{sent_here}
use Rattle.dedb_area.proofs.Looks.{areas_looked}
use Rattle.dedb_area.proofs.areas.Areas.anchor.Goals as goal
use Rattle.plain_laws.proofs.Results.{if_ok_with}

pub returns-clause-roots : goal.returns-clause-roots
returns-clause-roots g c = λ told way bytes stands.
    let places = c.self.inside.places.items in
    let set = c.area_of-set.result in
    let place = c.place_in-place.result.now in
    let has = subst (λ l. HasAnchorIn l c.args.dedb c.args.anchor set) c.deref-places.ensures.value
    c.area_of-set.ensures in
    let is = subst (λ l. place_at l set ≡ Some place) c.deref-places.ensures.value c.place_in-place.ensures in
    let now = subst (λ (h : Holding). AreasStand way bytes (g.T.Site.disk c.args.site.now) h) (sym c.self.view_is) stands in
    subst (λ (h : Holding). IfOk c.roots_at.result (AreRootsOf h.places (behind way.unsealed bytes) c.args.dedb
    c.args.anchor)) c.self.view_is
    (roots_here way bytes (g.T.Site.disk c.args.site.now) _ c.args.dedb c.args.anchor set place now has is
    c.roots_at.result (c.roots_at.ensures.roots told))

pub returns-clause-database : goal.returns-clause-database
returns-clause-database g c = λ told way bytes db stands are.
    let places = c.self.inside.places.items in
    let set = c.area_of-set.result in
    let place = c.place_in-place.result.now in
    let has = subst (λ l. HasAnchorIn l c.args.dedb c.args.anchor set) c.deref-places.ensures.value
    c.area_of-set.ensures in
    let is = subst (λ l. place_at l set ≡ Some place) c.deref-places.ensures.value c.place_in-place.ensures in
    let now = subst (λ (h : Holding). AreasStand way bytes (g.T.Site.disk c.args.site.now) h) (sym c.self.view_is) stands in
    let are2 = subst (λ (h : Holding). AreFor h.places (behind way.unsealed bytes) db) (sym c.self.view_is) are in
    if_ok_with c.roots_at.result (AreRootsOf places (behind way.unsealed bytes) c.args.dedb c.args.anchor)
    (λ roots. roots ≡ roots_at db c.args.dedb c.args.anchor)
    (roots_here way bytes (g.T.Site.disk c.args.site.now) _ c.args.dedb c.args.anchor set place now has is
    c.roots_at.result (c.roots_at.ensures.roots told))
    (λ roots h. roots_are places (behind way.unsealed bytes) db c.args.dedb c.args.anchor roots are2 h)

pub returns-clause-sent : goal.returns-clause-sent
returns-clause-sent g c = λ told way bytes defs db def stands e are shaped defined.
    let set = c.area_of-set.result in
    let has = subst (λ l. HasAnchorIn l c.args.dedb c.args.anchor set) c.deref-places.ensures.value
    c.area_of-set.ensures in
    let there : place_at (places_of defs) set ≡ Some has.place =
    ap (λ ps. place_at ps set) (sym e ∙ ap (λ (h : Holding). h.places) (sym c.self.view_is)) ∙ has.is.is_place in
    if_ok_with c.roots_at.result (λ roots. roots ≡ roots_at db c.args.dedb c.args.anchor) (AreSentTo def c.args.anchor)
    (returns-clause-database g c told way bytes db stands are)
    (λ roots same. subst (AreSentTo def c.args.anchor) (sym same)
    (sent_here defs set has.place db def c.args.dedb c.args.anchor has.number shaped there defined has.is.lies))

pub returns-clause-damaged : goal.returns-clause-damaged
returns-clause-damaged g c = λ told way bytes stands s at e.
    let set = c.area_of-set.result in
    let place = c.place_in-place.result.now in
    let has = subst (λ l. HasAnchorIn l c.args.dedb c.args.anchor set) c.deref-places.ensures.value
    c.area_of-set.ensures in
    let is = subst (λ l. place_at l set ≡ Some place) c.deref-places.ensures.value c.place_in-place.ensures in
    let now = subst (λ (h : Holding). AreasStand way bytes (g.T.Site.disk c.args.site.now) h) (sym c.self.view_is) stands in
    subst (λ (h : Holding). IsDamagedFor h.places (behind way.unsealed bytes) c.args.dedb c.args.anchor s at)
    c.self.view_is
    (damage_here way bytes (g.T.Site.disk c.args.site.now) _ c.args.dedb c.args.anchor set place now has is s at
    (c.roots_at.ensures.here s at e) (λ b shown. c.roots_at.ensures.damaged told b shown s at e))

pub returns-clause-sound : goal.returns-clause-sound
returns-clause-sound g c = λ told way bytes db stands are ends s at e.
    let places = c.self.inside.places.items in
    let set = c.area_of-set.result in
    let place = c.place_in-place.result.now in
    let has = subst (λ l. HasAnchorIn l c.args.dedb c.args.anchor set) c.deref-places.ensures.value
    c.area_of-set.ensures in
    let is = subst (λ l. place_at l set ≡ Some place) c.deref-places.ensures.value c.place_in-place.ensures in
    let now = subst (λ (h : Holding). AreasStand way bytes (g.T.Site.disk c.args.site.now) h) (sym c.self.view_is) stands in
    let are2 = subst (λ (h : Holding). AreFor h.places (behind way.unsealed bytes) db) (sym c.self.view_is) are in
    let ends2 = subst (λ (h : Holding). AreInTime h.places (behind way.unsealed bytes)) (sym c.self.view_is) ends in
    none_faulty places (behind way.unsealed bytes) db c.args.dedb c.args.anchor s at are2 ends2
    (damage_here way bytes (g.T.Site.disk c.args.site.now) _ c.args.dedb c.args.anchor set place now has is s at
    (c.roots_at.ensures.here s at e) (λ b shown. c.roots_at.ensures.damaged told b shown s at e))

pub returns-clause-unread : goal.returns-clause-unread
returns-clause-unread g c = λ told way bytes stands all.
    let set = c.area_of-set.result in
    let place = c.place_in-place.result.now in
    let has = subst (λ l. HasAnchorIn l c.args.dedb c.args.anchor set) c.deref-places.ensures.value
    c.area_of-set.ensures in
    let is = subst (λ l. place_at l set ≡ Some place) c.deref-places.ensures.value c.place_in-place.ensures in
    let now = subst (λ (h : Holding). AreasStand way bytes (g.T.Site.disk c.args.site.now) h) (sym c.self.view_is) stands in
    let all2 = subst (λ (h : Holding). AnchorIsAtHand h.places h.pool (behind way.unsealed bytes) c.args.dedb
    c.args.anchor) (sym c.self.view_is) all in
    at_hand_here way bytes (g.T.Site.disk c.args.site.now) _ c.args.dedb c.args.anchor set place now has is
    (ReadsNothing (g.T.Site.tells_reads c.args.site.now) (g.T.Site.tells_reads c.roots_at.new.site)
    (g.T.Site.bytes_read c.args.site.now) (g.T.Site.bytes_read c.roots_at.new.site)) all2
    (c.roots_at.ensures.unread told)

pub returns-clause-hand : goal.returns-clause-hand
returns-clause-hand g c = λ told way bytes stands all.
    let set = c.area_of-set.result in
    let place = c.place_in-place.result.now in
    let has = subst (λ l. HasAnchorIn l c.args.dedb c.args.anchor set) c.deref-places.ensures.value
    c.area_of-set.ensures in
    let is = subst (λ l. place_at l set ≡ Some place) c.deref-places.ensures.value c.place_in-place.ensures in
    let now = subst (λ (h : Holding). AreasStand way bytes (g.T.Site.disk c.args.site.now) h) (sym c.self.view_is) stands in
    let all2 = subst (λ (h : Holding). AnchorIsAtHand h.places h.pool (behind way.unsealed bytes) c.args.dedb
    c.args.anchor) (sym c.self.view_is) all in
    subst (λ (h : Holding). SameAtHand h.pool c.roots_at.new.pool) c.self.view_is
    (at_hand_here way bytes (g.T.Site.disk c.args.site.now) _ c.args.dedb c.args.anchor set place now has is
    (SameAtHand c.self.inside.pool c.roots_at.new.pool) all2 (c.roots_at.ensures.hand told))

pub returns-clause-looks : goal.returns-clause-looks
returns-clause-looks g c =
    let set = c.area_of-set.result in
    let place = c.place_in-place.result.now in
    let is = subst (λ l. place_at l set ≡ Some place) c.deref-places.ensures.value c.place_in-place.ensures in
    subst (λ (h : Holding). LooksAtAreas g.T.Site.told g.T.Site.disk g.T.Site.faults g.T.Site.holds g.T.Site.keeps
    c.args.site.now c.roots_at.new.site h (record {
      places = c.self.inside.places.items;
      unsynced = c.self.inside.unsynced.items;
      imaged = c.self.inside.imaged.items;
      pool = c.roots_at.new.pool;
    })) c.self.view_is
    (areas_looked g.T.Site.told g.T.Site.disk g.T.Site.faults g.T.Site.holds g.T.Site.keeps
    (λ s t. g.met.T.Site.lawful s t) set place c.self.inside.places.items c.self.inside.unsynced.items
    c.self.inside.imaged.items c.args.site.now c.roots_at.new.site c.self.inside.pool c.roots_at.new.pool is
    c.roots_at.ensures.looks)
