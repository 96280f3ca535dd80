use Rattle.std.proofs.Common.{◌≡◌, ◌+◌, ◌≤◌, length}
use Rattle.std.specs.Prelude.{Ok}
use Rattle.fp_model.specs.State.{first_area_set}
use Rattle.dedb_area.specs.inside.Staging.{StageAreas}
use Rattle.dedb_area.proofs.committing.stage_all.Given as goal

-- the areas before this one are staged
abbrev pub invariant-loop-place : goal.invariant-loop-place
invariant-loop-place g l = record {
  here : l.set ≡ first_area_set + l.place-index;
  within : l.place-index ≤ length l.places;
  done : StageAreas g.T.Site.told g.T.Site.disk g.T.Site.faults g.T.Site.holds g.T.Site.keeps g.T.Site.tells_reads
      g.T.Site.bytes_read l.places l.place-index l.changes l.inserts l.initial.site l.site l.initial.pool l.pool
      l.initial.imaged.items l.imaged.items (Ok l.items);
}
