use Rattle.std.proofs.Common.{◌≡◌, refl, sym, ◌∙◌, subst, arith, ℕ, ◌-◌, List, Some, slice_get}
use Rattle.std.specs.Prelude.{IfOk}
use Rattle.fp_model.specs.declared.events.Event.{Event}
use Rattle.fp_model.specs.declared.events.Event.TheVariants as event
use Rattle.fp_source.specs.declared.part.Part.TheVariants as part
use Rattle.fp_core.specs.declared.did.Did.TheVariants as did
use Rattle.fp_core.specs.declared.engine.Region.TheVariants as regions
use Rattle.fp_core.specs.Relation.{rules_in}
use Rattle.fp_core.specs.Sparing.{IsLogSet}
use Rattle.fp_core.specs.Standing.{IsUnbegun, Stepped, SteppedBeside, seals_of}
use Rattle.fp_model.specs.Events.{IsEventOf}
use Rattle.fp_core.specs.inside.Standing.{SteppedAt, SteppedBy}
use Rattle.fp_core.specs.Turning.{Turned}
use Rattle.fp_core.proofs.Rounds.{on_err_sure}
use Rattle.fp_core.proofs.Takes.{idle_at}
use Rattle.fp_core.proofs.FrontLemmas.{fronts_none, holds_none, on_ok_holds}
use Rattle.fp_core.proofs.SparingLemmas.{spares_none}
use Rattle.fp_core.proofs.Steps.{ckpt_beside, ckpt_stepped, in_beside, left_alone, log_beside, log_stepped, out_beside, out_turned, region_beside, region_stepped, regions_long, stepped_with}
use Rattle.fp_core.proofs.stepping.Core.step.Goals as goal
use Rattle.plain_laws.proofs.Results.{if_ok_by}

same_region : (a b : ℕ) → event.Region a ≡ event.Region b → a ≡ b
same_region a b e = cc

pub turn-requires-clause-within : goal.turn-requires-clause-within
turn-requires-clause-within g c =
    let of : IsEventOf c.args.self.now.engine.defs.now (event.Region c.in-Region.region) =
    subst (IsEventOf c.args.self.now.engine.defs.now) c.in-Region.is c.requires.event in
    omega (arith, of.1, regions_long c.args.self.now.engine c.requires.stands.0 c.requires.stands.1)

pub returns-in_err-turn-in-Region-clause-unbegun : goal.returns-in_err-turn-in-Region-clause-unbegun
returns-in_err-turn-in-Region-clause-unbegun g c m region is s =
    let core = c.args.self.now in
    let of : IsEventOf core.engine.defs.now (event.Region region) = subst (IsEventOf core.engine.defs.now) is
    c.requires.event in
    let same : region ≡ c.in-Region.region = same_region region c.in-Region.region (sym is ∙ c.in-Region.is) in
    let idle = subst (λ (n : ℕ). slice_get core.engine.regions (n - 1) ≡ Some regions.Idle) (sym same)
    c.in_err-turn-in-Region.ensures.idle in
    on_err_sure (IsUnbegun c.turn.new.self m region) c.from_residual.result
    (record { idle = idle_at core.engine m region of.0 s idle; stands = c.in_err-turn-in-Region.ensures.err m s })

pub returns-in_err-turn-in-Region-clause-leaves : goal.returns-in_err-turn-in-Region-clause-leaves
returns-in_err-turn-in-Region-clause-leaves g c origin m told at =
    left_alone origin (rules_in c.args.self.now.engine) m (seals_of c.args.event.now m) (g.T.Site.disk c.args.site.now)
    c.args.self.now.engine (g.met.T.Site.lawful c.args.site.now told) at

pub returns-in_ok-turn-in-Region-clause-leaves : goal.returns-in_ok-turn-in-Region-clause-leaves
returns-in_ok-turn-in-Region-clause-leaves g c origin m told at =
    left_alone origin (rules_in c.args.self.now.engine) m (seals_of c.args.event.now m) (g.T.Site.disk c.args.site.now)
    c.args.self.now.engine (g.met.T.Site.lawful c.args.site.now told) at

pub returns-in-In-clause-leaves : goal.returns-in-In-clause-leaves
returns-in-In-clause-leaves g c origin m told at =
    left_alone origin (rules_in c.args.self.now.engine) m (seals_of c.args.event.now m) (g.T.Site.disk c.args.site.now)
    c.args.self.now.engine (g.met.T.Site.lawful c.args.site.now told) at

pub returns-in-Out-clause-leaves : goal.returns-in-Out-clause-leaves
returns-in-Out-clause-leaves g c origin m told at =
    left_alone origin (rules_in c.args.self.now.engine) m (seals_of c.args.event.now m) (g.T.Site.disk c.args.site.now)
    c.args.self.now.engine (g.met.T.Site.lawful c.args.site.now told) at

pub returns-in-In-clause-beside : goal.returns-in-In-clause-beside
returns-in-In-clause-beside g c origin m told tells beside =
    let core = c.args.self.now in
    let disk = g.T.Site.disk c.args.site.now in
    let left = g.S.Source.left c.read_line.new.source part.Messages in
    subst (λ (e : Event). IfOk c.read_line.result (SteppedBeside origin e m disk core.lines c.read_line.new.self.lines
    left c.read_line.new.self.engine)) (sym c.in-In.is)
    (if_ok_by (SteppedBy event.In m core.lines c.read_line.new.self.lines left c.read_line.new.self.engine)
    (SteppedBeside origin event.In m disk core.lines c.read_line.new.self.lines left c.read_line.new.self.engine)
    c.read_line.result
    (λ given by. in_beside origin disk left m core.lines c.read_line.new.self.lines core.engine
    c.read_line.new.self.engine given c.read_line.ensures.gate by beside.at)
    (c.read_line.ensures.read m tells beside.at.parts beside.lines_are))

pub returns-in_ok-turn-in-Region-clause-turned : goal.returns-in_ok-turn-in-Region-clause-turned
returns-in_ok-turn-in-Region-clause-turned g c m s =
    let core = c.args.self.now in (
      m.lines,
      subst (λ (e : Event). Stepped e m core.lines core.lines c.turn.new.self c.in_ok-turn-in-Region.field-0)
          (sym c.in-Region.is)
          (region_stepped c.in-Region.region m core.lines c.turn.new.self c.in_ok-turn-in-Region.field-0
          (c.in_ok-turn-in-Region.ensures.turned m s)),
    )

pub returns-in_ok-turn-in-Region-clause-beside : goal.returns-in_ok-turn-in-Region-clause-beside
returns-in_ok-turn-in-Region-clause-beside g c origin m told tells beside =
    let core = c.args.self.now in
    let disk = g.T.Site.disk c.args.site.now in
    let left = g.S.Source.left c.args.source.now part.Messages in
    subst (λ (e : Event). SteppedBeside origin e m disk core.lines core.lines left c.turn.new.self
    c.in_ok-turn-in-Region.field-0) (sym c.in-Region.is)
    (region_beside origin disk left m c.in-Region.region core.lines core.engine c.turn.new.self
    c.in_ok-turn-in-Region.field-0 c.turn.ensures.gate (c.in_ok-turn-in-Region.ensures.turned m beside.at.parts)
    beside)

pub returns-in-Log-clause-turned : goal.returns-in-Log-clause-turned
returns-in-Log-clause-turned g c m s =
    let core = c.args.self.now in
    subst (λ (e : Event). IfOk c.seal.result (λ given. (lines : List (List ℕ))
    × Stepped e (record m { lines = lines }) core.lines core.lines c.seal.new.self given)) (sym c.in-Log.is)
    (if_ok_by (Turned event.Log m c.seal.new.self) (λ given. (lines : List (List ℕ))
    × Stepped event.Log (record m { lines = lines }) core.lines core.lines c.seal.new.self given) c.seal.result
    (λ given turned. (m.lines, log_stepped m core.lines c.seal.new.self given turned)) (c.seal.ensures.turned m s))

pub returns-in-Log-clause-beside : goal.returns-in-Log-clause-beside
returns-in-Log-clause-beside g c origin m told tells beside =
    let core = c.args.self.now in
    let disk = g.T.Site.disk c.seal.new.site in
    let left = g.S.Source.left c.args.source.now part.Messages in
    subst (λ (e : Event). IfOk c.seal.result (SteppedBeside origin e m disk core.lines core.lines left c.seal.new.self))
    (sym c.in-Log.is)
    (if_ok_by (SteppedAt origin event.Log m disk c.seal.new.self)
    (SteppedBeside origin event.Log m disk core.lines core.lines left c.seal.new.self) c.seal.result
    (λ given at. log_beside origin disk left m core.lines c.seal.new.self given beside.lines_are at)
    (c.seal.ensures.at origin m told beside.at))

pub returns-in-Ckpt-clause-turned : goal.returns-in-Ckpt-clause-turned
returns-in-Ckpt-clause-turned g c m s =
    let core = c.args.self.now in
    subst (λ (e : Event). IfOk c.seal_all.result (λ given. (lines : List (List ℕ))
    × Stepped e (record m { lines = lines }) core.lines core.lines c.seal_all.new.self given)) (sym c.in-Ckpt.is)
    (if_ok_by (Turned event.Ckpt m c.seal_all.new.self)
    (λ given. (lines : List (List ℕ)) × Stepped event.Ckpt (record m { lines = lines }) core.lines core.lines
    c.seal_all.new.self given) c.seal_all.result
    (λ given turned. (m.lines, ckpt_stepped m core.lines c.seal_all.new.self given turned))
    (c.seal_all.ensures.turned m s))

pub returns-in-Ckpt-clause-beside : goal.returns-in-Ckpt-clause-beside
returns-in-Ckpt-clause-beside g c origin m told tells beside =
    let core = c.args.self.now in
    let disk = g.T.Site.disk c.seal_all.new.site in
    let left = g.S.Source.left c.args.source.now part.Messages in
    subst (λ (e : Event). IfOk c.seal_all.result (SteppedBeside origin e m disk core.lines core.lines left
    c.seal_all.new.self)) (sym c.in-Ckpt.is)
    (if_ok_by (SteppedAt origin event.Ckpt m disk c.seal_all.new.self)
    (SteppedBeside origin event.Ckpt m disk core.lines core.lines left c.seal_all.new.self) c.seal_all.result
    (λ given at. ckpt_beside origin disk left m core.lines c.seal_all.new.self given beside.lines_are at)
    (c.seal_all.ensures.at origin m told beside.at))

pub returns-in-Out-clause-turned : goal.returns-in-Out-clause-turned
returns-in-Out-clause-turned g c m s =
    let core = c.args.self.now in (
      m.lines,
      subst (λ (e : Event). Stepped e m core.lines core.lines core.engine did.Nothing) (sym c.in-Out.is)
          (stepped_with event.Out m core.lines core.engine did.Nothing (out_turned core.engine m s) refl),
    )

pub returns-in-Out-clause-beside : goal.returns-in-Out-clause-beside
returns-in-Out-clause-beside g c origin m told tells beside =
    let core = c.args.self.now in
    let disk = g.T.Site.disk c.args.site.now in
    let left = g.S.Source.left c.args.source.now part.Messages in
    subst (λ (e : Event). SteppedBeside origin e m disk core.lines core.lines left core.engine did.Nothing)
    (sym c.in-Out.is)
    (out_beside origin disk left m core.lines core.engine beside)

pub returns-in_err-turn-in-Region-clause-spares : goal.returns-in_err-turn-in-Region-clause-spares
returns-in_err-turn-in-Region-clause-spares g c told =
    spares_none IsLogSet (g.T.Site.disk c.args.site.now) (g.met.T.Site.lawful c.args.site.now told)

pub returns-in_ok-turn-in-Region-clause-spares : goal.returns-in_ok-turn-in-Region-clause-spares
returns-in_ok-turn-in-Region-clause-spares g c told =
    spares_none IsLogSet (g.T.Site.disk c.args.site.now) (g.met.T.Site.lawful c.args.site.now told)

pub returns-in-In-clause-spares : goal.returns-in-In-clause-spares
returns-in-In-clause-spares g c told =
    spares_none IsLogSet (g.T.Site.disk c.args.site.now) (g.met.T.Site.lawful c.args.site.now told)

pub returns-in-Out-clause-spares : goal.returns-in-Out-clause-spares
returns-in-Out-clause-spares g c told =
    spares_none IsLogSet (g.T.Site.disk c.args.site.now) (g.met.T.Site.lawful c.args.site.now told)

-- ---- what stands in front of the gate

pub returns-in_err-turn-in-Region-clause-front : goal.returns-in_err-turn-in-Region-clause-front
returns-in_err-turn-in-Region-clause-front g c told =
    fronts_none (g.T.Site.disk c.args.site.now) c.args.self.now.engine.log.gate
    (g.met.T.Site.lawful c.args.site.now told)

pub returns-in_ok-turn-in-Region-clause-front : goal.returns-in_ok-turn-in-Region-clause-front
returns-in_ok-turn-in-Region-clause-front g c told =
    fronts_none (g.T.Site.disk c.args.site.now) c.args.self.now.engine.log.gate
    (g.met.T.Site.lawful c.args.site.now told)

pub returns-in-In-clause-front : goal.returns-in-In-clause-front
returns-in-In-clause-front g c told =
    fronts_none (g.T.Site.disk c.args.site.now) c.args.self.now.engine.log.gate
    (g.met.T.Site.lawful c.args.site.now told)

pub returns-in-Out-clause-front : goal.returns-in-Out-clause-front
returns-in-Out-clause-front g c told =
    fronts_none (g.T.Site.disk c.args.site.now) c.args.self.now.engine.log.gate
    (g.met.T.Site.lawful c.args.site.now told)

pub returns-in_ok-turn-in-Region-clause-front_on : goal.returns-in_ok-turn-in-Region-clause-front_on
returns-in_ok-turn-in-Region-clause-front_on g c told =
    holds_none (g.T.Site.disk c.args.site.now) c.args.self.now.engine.log.gate c.turn.new.self.log.gate
    c.turn.ensures.gate

pub returns-in-In-clause-front_on : goal.returns-in-In-clause-front_on
returns-in-In-clause-front_on g c told =
    on_ok_holds c.read_line.result (g.T.Site.disk c.args.site.now) c.args.self.now.engine.log.gate
    c.read_line.new.self.engine.log.gate c.read_line.ensures.gate

pub returns-in-Out-clause-front_on : goal.returns-in-Out-clause-front_on
returns-in-Out-clause-front_on g c told =
    holds_none (g.T.Site.disk c.args.site.now) c.args.self.now.engine.log.gate c.args.self.now.engine.log.gate refl
