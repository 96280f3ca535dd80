use Rattle.std.proofs.Common.{◌≡◌, ◌∙◌, List, Some, ap, map, subst, sym}
use Rattle.fp_model.specs.Commit.{purged, purged_area}
use Rattle.fp_model.specs.State.{loaded}
use Rattle.fp_model.specs.declared.database.Db.{Db}
use Rattle.fp_model.specs.declared.database.Dedb.{Dedb}
use Rattle.fp_model.specs.declared.database.Msdb.{Msdb}
use Rattle.past_anchors.specs.Databases.{AreDedbsOf, state_of}
use Rattle.past_anchors.specs.inside.Places.{area_of}
use Rattle.past_anchors.proofs.Dropping.{above_zero, its_area, purge_none, purge_some, purge_without, shape_purged}
use Rattle.past_anchors.proofs.anchors.Anchors.purge.Goals as goal

pub returns-in_default-clause-purged : goal.returns-in_default-clause-purged
returns-in_default-clause-purged c msdbs =
    purge_none c.args.defs.now c.args.set c.args.n (state_of msdbs c.args.self.now) (sym c.in_default.ensures)

pub returns-then-area-eq0-clause-purged : goal.returns-then-area-eq0-clause-purged
returns-then-area-eq0-clause-purged c msdbs =
    purge_without c.args.defs.now c.args.set c.args.n (state_of msdbs c.args.self.now) (area_of c.in-Some.area)
    (sym c.in-Some.ensures) c.if-area-eq0.true

pub purge_area-requires : goal.purge_area-requires
purge_area-requires c =
    its_area c.args.defs.now c.args.set c.args.n c.self.inside.dedbs (area_of c.in-Some.area) c.requires.good
    (subst (AreDedbsOf c.args.defs.now) (sym c.self.view_is) c.requires.shape) (sym c.in-Some.ensures)

-- the purge, as the definitions have it
abbrev Purges : goal.After-purge_area → Type 0
Purges c = (msdbs : List Msdb)
    → purged c.args.defs.now c.args.set c.args.n (state_of msdbs c.args.self.now)
    ≡ Some (state_of msdbs c.purge_area.new.dedbs)

purges : (c : goal.After-purge_area) → Purges c
purges c msdbs =
    let area = area_of c.in-Some.area in
    purge_some c.args.defs.now c.args.set c.args.n (state_of msdbs c.args.self.now) area (sym c.in-Some.ensures)
    (above_zero area.def.capacity c.if-area-eq0.false)
    ∙ ap (λ (db : Db). Some db)
    (ap (λ (ds : List Dedb). purged_area area c.args.n (state_of msdbs ds)) (sym c.self.view_is)
    ∙ c.purge_area.ensures msdbs)

pub returns-clause-purged : goal.returns-clause-purged
returns-clause-purged c = purges c

pub returns-clause-shape : goal.returns-clause-shape
returns-clause-shape c =
    let defs = c.args.defs.now in
    shape_purged defs c.args.set c.args.n c.args.self.now c.purge_area.new.dedbs c.requires.good c.requires.shape
    (purges c (map loaded defs.msdbs))
