use Rattle.std.proofs.Common.{sym, ◌∙◌}
use Rattle.dedb_area.proofs.StageRun.{area_passed}
use Rattle.dedb_area.proofs.committing.stage_here.Goals as goal

pub stage_area-requires-clause-concerned : goal.stage_area-requires-clause-concerned
stage_area-requires-clause-concerned g c = sym c.is_concerned.ensures ∙ c.if-is_concerned.true

pub returns-then-is_concerned : goal.returns-then-is_concerned
returns-then-is_concerned g c = c.stage_area.ensures

pub returns : goal.returns
returns g c =
    area_passed g.T.Site.told g.T.Site.disk g.T.Site.faults g.T.Site.holds g.T.Site.keeps g.T.Site.tells_reads
    g.T.Site.bytes_read c.args.changes.now c.args.inserts.now c.args.place.now c.args.set c.args.site.now
    c.args.pool.now c.args.imaged.now.items c.new.result (sym c.is_concerned.ensures ∙ c.if-is_concerned.false)
    c.new.ensures
