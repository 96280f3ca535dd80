use Rattle.std.proofs.Common.{◌≡◌, ◌<◌, ◌∙◌, ap, length, sym, subst}
use Rattle.std.specs.Prelude.{IsSome, OnErr, OnOk, Some}
use Rattle.ci_pool.specs.Cells.{pending_number}
use Rattle.ci_pool.specs.Held.{pending_at}
use Rattle.dedb_area.specs.Standing.{Holding}
use Rattle.dedb_area.specs.Keeping.{IsWritten, KeepsAreas}
use Rattle.dedb_area.proofs.Owing.{by_both}
use Rattle.dedb_area.proofs.Writes.{Wrote, keeps_written}
use Rattle.dedb_area.proofs.areas.Areas.write.Goals as goal
use Rattle.plain_laws.proofs.Options.{some_value}

pub returns-clause-done : goal.returns-clause-done
returns-clause-done g c =
    subst (λ (h : Holding). OnOk c.write_one.result (IsWritten h.pool c.write_one.new.self c.args.set c.args.ci))
    c.self.view_is c.write_one.ensures.done

pub returns-clause-err : goal.returns-clause-err
returns-clause-err g c =
    subst (λ (h : Holding). OnErr c.write_one.result (c.write_one.new.self ≡ h.pool)) c.self.view_is
    c.write_one.ensures.err

pub returns-clause-fewer : goal.returns-clause-fewer
returns-clause-fewer g c =
    subst (λ (h : Holding). OnOk c.write_one.result (pending_number c.write_one.new.self.cells
    < pending_number h.pool.cells)) c.self.view_is
    (c.write_one.ensures.fewer (subst (λ (h : Holding). IsSome (pending_at h.pool c.args.set c.args.ci))
    (sym c.self.view_is) c.requires))

pub returns-clause-places : goal.returns-clause-places
returns-clause-places g c = ap (λ (h : Holding). h.places) c.self.view_is

pub returns-clause-imaged : goal.returns-clause-imaged
returns-clause-imaged g c = ap (λ (h : Holding). h.imaged) c.self.view_is

pub returns-clause-count : goal.returns-clause-count
returns-clause-count g c = c.note_write.ensures.count ∙ ap (λ (h : Holding). length h.unsynced) c.self.view_is

pub returns-clause-cause : goal.returns-clause-cause
returns-clause-cause g c = c.write_one.ensures.cause

pub returns-clause-reads : goal.returns-clause-reads
returns-clause-reads g c = c.write_one.ensures.reads

pub returns-clause-site : goal.returns-clause-site
returns-clause-site g c = c.write_one.ensures.site

pub returns-clause-keeps_areas : goal.returns-clause-keeps_areas
returns-clause-keeps_areas g c told way bytes sealed =
    let pool = c.self.inside.pool in
    let after = c.write_one.new.self in
    let old = g.T.Site.disk c.args.site.now in
    let new = g.T.Site.disk c.write_one.new.site in
    let w = some_value (pending_at pool c.args.set c.args.ci)
    (subst (λ (h : Holding). IsSome (pending_at h.pool c.args.set c.args.ci)) (sym c.self.view_is) c.requires) in
    let below = sealed w.0 (subst (λ (h : Holding). pending_at h.pool c.args.set c.args.ci ≡ Some w.0) c.self.view_is
    w.1) in
    let how : Wrote pool after c.args.set c.args.ci w.0 old new = by_both c.write_one.result _ _ _ _ _
    c.write_one.ensures.done (c.write_one.ensures.wrote told w.0 w.1) c.write_one.ensures.err
    (c.write_one.ensures.broke told w.0 w.1) (λ done is. Wrote.whole done is) (λ same broke. Wrote.broken same broke) in
    subst (λ (h : Holding). KeepsAreas way bytes old new h (record {
      places = c.self.inside.places.items;
      unsynced = c.note_write.new.unsynced.items;
      imaged = c.self.inside.imaged.items;
      pool = after;
    })) c.self.view_is
    (keeps_written c.self.inside.places.items c.self.inside.unsynced.items c.note_write.new.unsynced.items pool after c.args.set
    c.args.ci w.0 old new w.1 c.self.invariant.1 (g.met.T.Site.lawful c.args.site.now told)
    (g.met.T.Site.lawful c.write_one.new.site (c.write_one.ensures.site.still_told told)) c.note_write.ensures.noted
    (c.write_one.ensures.crash told w.0 w.1) (c.write_one.ensures.leaves told) (c.write_one.ensures.clean told)
    c.write_one.ensures.sizes c.write_one.ensures.staged how c.self.inside.imaged.items way bytes below)
