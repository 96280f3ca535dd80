use Rattle.std.proofs.Common.{◌≡◌, ◌-◌, ◌≤◌, length}
use Rattle.fp_model.specs.History.{place_of}
use Rattle.fp_model.specs.Machine.{Machine}
use Rattle.fp_site.specs.Site.{ReadsNothing}
use Rattle.fp_core.specs.Fronts.{HoldsFronts, KeepsFronts}
use Rattle.fp_core.specs.Relation.{StandsFor, rules_in}
use Rattle.fp_core.specs.Sparing.{IsLogSet, Spares}
use Rattle.fp_core.specs.Standing.{Leaves, Origin, StandsAt}
use Rattle.fp_lists.specs.Continued.{IsContinued}
use Rattle.fp_core.proofs.Checkpoints.{IsSealed, IsSealedAt}
use Rattle.fp_core.proofs.engine.Engine.seal_rest.Given as goal

-- so many groups are sealed
abbrev pub invariant-loop-self : goal.invariant-loop-self
invariant-loop-self g l = record {
  stands : (m : Machine) × StandsFor l.self m;
  sealed : (m : Machine) → StandsFor l.initial.self m
      → IsSealed (rules_in l.initial.self) m (length l.initial.self.owed.items) l.self;
  at : (origin : Origin) (m : Machine) → g.T.Site.told l.initial.site
      → StandsAt origin (g.T.Site.disk l.initial.site) l.initial.self m
      → IsSealedAt origin (rules_in l.initial.self) m (length l.initial.self.owed.items) (g.T.Site.disk l.site) l.self;
  leaves : (origin : Origin) (m : Machine) → g.T.Site.told l.initial.site
      → StandsAt origin (g.T.Site.disk l.initial.site) l.initial.self m
      → Leaves origin (rules_in l.initial.self) m (place_of m.history - m.sealed) (g.T.Site.disk l.initial.site)
      (g.T.Site.disk l.site);
  rules : rules_in l.self ≡ rules_in l.initial.self;
  defs : l.self.defs ≡ l.initial.self.defs;
  scripts : l.self.scripts ≡ l.initial.self.scripts;
  count : length l.self.regions ≡ length l.initial.self.regions;
  most : l.self.log.spare ≤ l.initial.self.log.spare;
  reads : ReadsNothing (g.T.Site.tells_reads l.initial.site) (g.T.Site.tells_reads l.site)
      (g.T.Site.bytes_read l.initial.site) (g.T.Site.bytes_read l.site);
  spares : g.T.Site.told l.initial.site → Spares IsLogSet (g.T.Site.disk l.initial.site) (g.T.Site.disk l.site);
  front : g.T.Site.told l.initial.site
      → KeepsFronts (g.T.Site.disk l.initial.site) l.initial.self.log.gate (g.T.Site.disk l.site);
  front_on : g.T.Site.told l.initial.site
      → HoldsFronts (g.T.Site.disk l.initial.site) l.initial.self.log.gate (g.T.Site.disk l.site) l.self.log.gate;
  calm : g.T.Site.faults l.site ≡ g.T.Site.faults l.initial.site;
  site : IsContinued g.T.Site.told g.T.Site.faults g.T.Site.holds g.T.Site.keeps l.initial.site l.site;
}

-- fewer are owed
abbrev pub decreases-loop-self : goal.decreases-loop-self
decreases-loop-self g l = length l.self.owed.items
