use Rattle.std.proofs.Common.{◌≡◌, drop}
use Rattle.fp_model.specs.Machine.{Machine}
use Rattle.fp_site.specs.Moments.{Through}
use Rattle.fp_site.specs.Site.{ReadsNothing}
use Rattle.message_lines.specs.Lines.{fault_ahead}
use Rattle.fp_source.specs.Source.{ReadsOnly}
use Rattle.fp_source.specs.declared.part.Part.TheVariants as part
use Rattle.fp_core.specs.Draining.{IsReachedBy}
use Rattle.fp_core.specs.Fronts.{HoldsFronts, KeepsFronts}
use Rattle.fp_core.specs.Relation.{rules_in}
use Rattle.fp_core.specs.Sparing.{IsLogSet, Spares}
use Rattle.fp_core.specs.Standing.{Origin, StandsBeside}
use Rattle.fp_lists.specs.Continued.{IsContinued}
use Rattle.schedule_runs.specs.Standing.{IsLeftOnWay}
use Rattle.schedule_runs.specs.inside.Standing.{StandsOnWay}
use Rattle.schedule_runs.proofs.runs.take_events.Given as goal

-- the turns of the events so far led to a machine that core, site and source stand beside
abbrev pub invariant-loop-event : goal.invariant-loop-event
invariant-loop-event g l = record {
  reached : (m : Machine) × IsReachedBy l.core.engine m;
  stands : (origin : Origin) (m : Machine) → g.T.Site.told l.initial.site → g.S.Source.told l.initial.source
      → StandsBeside origin (g.T.Site.disk l.initial.site) l.initial.core.lines
      (g.S.Source.left l.initial.source part.Messages) l.initial.core.engine m
      → IsReachedBy l.initial.core.engine m
      → StandsOnWay origin l.initial.core.engine.defs.now (rules_in l.initial.core.engine) l.events m
      (g.T.Site.disk l.initial.site) l.initial.core.lines (drop l.event-index l.events) (g.T.Site.disk l.site)
      l.core.lines (g.S.Source.left l.source part.Messages) l.core.engine;
  moments : (origin : Origin) (m : Machine) → g.T.Site.told l.initial.site → g.S.Source.told l.initial.source
      → StandsBeside origin (g.T.Site.disk l.initial.site) l.initial.core.lines
      (g.S.Source.left l.initial.source part.Messages) l.initial.core.engine m
      → IsReachedBy l.initial.core.engine m
      → Through (g.T.Site.disk l.initial.site) (g.T.Site.disk l.site)
      (IsLeftOnWay origin l.initial.core.engine.defs.now (rules_in l.initial.core.engine) l.events m
      (g.T.Site.disk l.initial.site));
  spares : g.T.Site.told l.initial.site → Spares IsLogSet (g.T.Site.disk l.initial.site) (g.T.Site.disk l.site);
  front : g.T.Site.told l.initial.site
      → KeepsFronts (g.T.Site.disk l.initial.site) l.initial.core.engine.log.gate (g.T.Site.disk l.site);
  front_on : g.T.Site.told l.initial.site → HoldsFronts (g.T.Site.disk l.initial.site)
      l.initial.core.engine.log.gate (g.T.Site.disk l.site) l.core.engine.log.gate;
  fair : g.S.Source.told l.initial.source → fault_ahead l.core.lines (g.S.Source.left l.source part.Messages)
      ≡ fault_ahead l.initial.core.lines (g.S.Source.left l.initial.source part.Messages);
  rules : rules_in l.core.engine ≡ rules_in l.initial.core.engine;
  defs : l.core.engine.defs ≡ l.initial.core.engine.defs;
  scripts : l.core.engine.scripts ≡ l.initial.core.engine.scripts;
  routed : l.core.router.now.kind ≡ l.core.engine.defs.now.router;
  reads : ReadsNothing (g.T.Site.tells_reads l.initial.site) (g.T.Site.tells_reads l.site)
      (g.T.Site.bytes_read l.initial.site) (g.T.Site.bytes_read l.site);
  site_calm : g.T.Site.faults l.site ≡ g.T.Site.faults l.initial.site;
  source_calm : g.S.Source.faults l.source ≡ g.S.Source.faults l.initial.source;
  site : IsContinued g.T.Site.told g.T.Site.faults g.T.Site.holds g.T.Site.keeps l.initial.site l.site;
  source : ReadsOnly g.S.Source.told g.S.Source.left g.S.Source.faults g.S.Source.holds g.S.Source.keeps part.Messages
      l.initial.source l.source;
}
