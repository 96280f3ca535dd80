use Rattle.std.proofs.Common.{◌≡◌, ◌-◌}
use Rattle.fp_model.specs.Machine.{Machine}
use Rattle.fp_site.specs.Moments.{Through}
use Rattle.fp_site.specs.Site.{ReadsNothing}
use Rattle.message_lines.specs.Lines.{fault_ahead}
use Rattle.fp_source.specs.Source.{ReadsOnly}
use Rattle.fp_source.specs.declared.part.Part.TheVariants as part
use Rattle.fp_core.specs.Draining.{IsLeftByDrain}
use Rattle.fp_core.specs.Fronts.{HoldsFronts, KeepsFronts}
use Rattle.fp_core.specs.Relation.{rules_in}
use Rattle.fp_core.specs.Rooms.{IsFrugal}
use Rattle.fp_core.specs.inside.Rounding.{HasCome, NeedsFewer}
use Rattle.fp_core.specs.Sparing.{IsLogSet, Spares}
use Rattle.fp_core.specs.Standing.{Origin, StandsBeside}
use Rattle.fp_lists.specs.Continued.{IsContinued}
use Rattle.fp_core.proofs.stepping.Core.drain.Given as goal

-- fewer rounds are needed than may come, and those so far came to where engine, site and source stand
abbrev pub invariant-loop-done : goal.invariant-loop-done
invariant-loop-done g l = record {
  needs : NeedsFewer l.self.engine l.self.lines (l.most - l._done);
  come : (origin : Origin) (m : Machine) → g.T.Site.told l.initial.site → g.S.Source.told l.initial.source
      → StandsBeside origin (g.T.Site.disk l.initial.site) l.initial.self.lines
      (g.S.Source.left l.initial.source part.Messages) l.initial.self.engine m
      → HasCome origin l.initial.self.engine.defs.now (rules_in l.initial.self.engine) m (g.T.Site.disk l.initial.site)
      (g.T.Site.disk l.site)
      l.initial.self.lines l.self.lines (g.S.Source.left l.source part.Messages) l.self.engine;
  moments : (origin : Origin) (m : Machine) → g.T.Site.told l.initial.site → g.S.Source.told l.initial.source
      → StandsBeside origin (g.T.Site.disk l.initial.site) l.initial.self.lines
      (g.S.Source.left l.initial.source part.Messages) l.initial.self.engine m
      → Through (g.T.Site.disk l.initial.site) (g.T.Site.disk l.site)
      (IsLeftByDrain origin l.initial.self.engine.defs.now (rules_in l.initial.self.engine) m
      (g.T.Site.disk l.initial.site));
  spares : g.T.Site.told l.initial.site → Spares IsLogSet (g.T.Site.disk l.initial.site) (g.T.Site.disk l.site);
  front : g.T.Site.told l.initial.site
      → KeepsFronts (g.T.Site.disk l.initial.site) l.initial.self.engine.log.gate (g.T.Site.disk l.site);
  front_on : g.T.Site.told l.initial.site → HoldsFronts (g.T.Site.disk l.initial.site)
      l.initial.self.engine.log.gate (g.T.Site.disk l.site) l.self.engine.log.gate;
  fair : g.S.Source.told l.initial.source → fault_ahead l.self.lines (g.S.Source.left l.source part.Messages)
      ≡ fault_ahead l.initial.self.lines (g.S.Source.left l.initial.source part.Messages);
  rules : rules_in l.self.engine ≡ rules_in l.initial.self.engine;
  defs : l.self.engine.defs ≡ l.initial.self.engine.defs;
  scripts : l.self.engine.scripts ≡ l.initial.self.engine.scripts;
  router : l.self.router ≡ l.initial.self.router;
  frugal : IsFrugal l.initial.self.engine l.self.engine;
  reads : ReadsNothing (g.T.Site.tells_reads l.initial.site) (g.T.Site.tells_reads l.site)
      (g.T.Site.bytes_read l.initial.site) (g.T.Site.bytes_read l.site);
  site_calm : g.T.Site.faults l.site ≡ g.T.Site.faults l.initial.site;
  source_calm : g.S.Source.faults l.source ≡ g.S.Source.faults l.initial.source;
  site : IsContinued g.T.Site.told g.T.Site.faults g.T.Site.holds g.T.Site.keeps l.initial.site l.site;
  source : ReadsOnly g.S.Source.told g.S.Source.left g.S.Source.faults g.S.Source.holds g.S.Source.keeps part.Messages
      l.initial.source l.source;
}
