use Rattle.std.proofs.Common.{◌≡◌, ◌∙◌, ap, refl, subst, arith, ℕ, suc, ◌+◌, ◌<◌, length, Bool, Err, Some}
use Rattle.fp_model.specs.Machine.{Idle, Machine, region_at}
use Rattle.fp_model.specs.Rules.{Rules}
use Rattle.fp_model.specs.Runs.{IsDrained}
use Rattle.fp_source.specs.declared.part.Part.TheVariants as part
use Rattle.fp_core.specs.declared.stop.Stop.{Stop}
use Rattle.fp_core.specs.declared.stop.Stop.TheVariants as stops
use Rattle.fp_core.specs.Draining.{DrainStopped}
use Rattle.fp_core.specs.Relation.{rules_in}
use Rattle.fp_core.specs.Sparing.{IsLogSet}
use Rattle.fp_core.specs.inside.Rounding.{TookTurns, WentBeside, turns_of}
use Rattle.fp_core.proofs.Comings.{before_log, came_off, in_region, in_stands, moments_log, stopped_in, stopped_log, stopped_region, turns_stand, went_on}
use Rattle.fp_core.proofs.FrontLemmas.{fronts_from, fronts_none, holds_from, holds_none}
use Rattle.fp_core.proofs.SparingLemmas.{spares_none}
use Rattle.fp_core.proofs.RoomLemmas.{frugal_less, frugal_on}
use Rattle.fp_core.proofs.Rounds.{if_err_from, makes_round}
use Rattle.fp_core.proofs.stepping.Core.round.Goals as goal

-- ---- IN

pub returns-in_err-begin_round-clause-stopped : goal.returns-in_err-begin_round-clause-stopped
returns-in_err-begin_round-clause-stopped g c origin m told tells beside =
    let core = c.args.self.now in
    let disk = g.T.Site.disk c.args.site.now in
    let stop = c.in_err-begin_round.field-0.0 in
    if_err_from (DrainStopped origin core.engine.defs.now (rules_in core.engine) m core.lines disk disk)
    c.from_residual.result stop
    c.from_residual.ensures.1
    (stopped_in origin (rules_in core.engine) m core.lines disk stop (g.met.T.Site.lawful c.args.site.now told)
    core.engine beside.at
    c.in_err-begin_round.ensures.stops (λ n is. c.in_err-begin_round.ensures.number n (ap (λ (e : Stop). Err e) is)))

pub returns-then-not-branch-clause-beside : goal.returns-then-not-branch-clause-beside
returns-then-not-branch-clause-beside g c origin m told tells beside =
    let core = c.args.self.now in
    let first = c.begin_round.new.self in
    let disk = g.T.Site.disk c.args.site.now in
    let left = g.S.Source.left c.begin_round.new.source part.Messages in
    let more = c.in_ok-begin_round.field-0 in
    let by = c.in_ok-begin_round.ensures.read m tells beside.at.parts beside.lines_are in
    subst (λ (b : Bool). WentBeside origin core.engine.defs.now (rules_in core.engine) m disk disk core.lines
    first.lines left first.engine b) c.if-not-branch.true
    (came_off origin core.engine.defs.now (rules_in core.engine) m disk core.lines first.lines left first.engine more
    c.begin_round.ensures.rules c.if-not-branch.true by
    (in_stands origin disk left m first.lines core.engine first.engine core.lines more c.begin_round.ensures.gate
    beside.at by))

-- ---- the turns of regions

pub returns-in_err-turn_each-clause-stopped : goal.returns-in_err-turn_each-clause-stopped
returns-in_err-turn_each-clause-stopped g c origin m told tells beside =
    let core = c.args.self.now in
    let first = c.begin_round.new.self in
    let second = c.turn_each.new.self in
    let rules = rules_in core.engine in
    let disk = g.T.Site.disk c.args.site.now in
    let left = g.S.Source.left c.begin_round.new.source part.Messages in
    let more = c.in_ok-begin_round.field-0 in
    let by = c.in_ok-begin_round.ensures.read m tells beside.at.parts beside.lines_are in
    let undone : ¬ IsDrained rules m = subst (λ (r : Rules). ¬ IsDrained r m) c.begin_round.ensures.rules
    (by.began.goes c.if-not-branch.false) in
    let after = by.began.stepped.turned.after in
    let at = in_stands origin disk left m first.lines core.engine first.engine core.lines more
    c.begin_round.ensures.gate beside.at by in
    let among = c.in_err-turn_each.ensures.stopped after by.began.stepped.turned.stands in
    let same2 = c.turn_each.ensures.rules ∙ c.begin_round.ensures.rules in
    let many : length second.defs.now.regions ≡ length rules.regions = ap (λ d. length d.now.regions)
    (c.turn_each.ensures.defs ∙ c.begin_round.ensures.defs) in
    let few : among.count < length rules.regions = omega (arith, among.few, many) in
    let next : suc among.count ≡ among.count + 1 = omega arith in
    if_err_from (DrainStopped origin core.engine.defs.now rules m core.lines disk disk)
    c.from_residual-in_err-turn_each.result
    stops.Memory c.from_residual-in_err-turn_each.ensures.1
    (stopped_region origin rules m core.lines disk stops.Memory (g.met.T.Site.lawful c.args.site.now told)
    core.engine.defs.now second
    among.took.after (among.count + 1) refl
    (turns_stand origin disk left after first.lines first.engine second (turns_of among.count)
    c.turn_each.ensures.gate at among.took).at
    (in_region core.engine.defs.now rules m core.lines first.lines first.engine second by.began.did
    c.begin_round.ensures.rules same2
    (ap (λ d. d.now) (c.turn_each.ensures.defs ∙ c.begin_round.ensures.defs)) by.began.stepped undone among.count few
    among.took)
    (subst (λ (n : ℕ). region_at among.took.after n ≡ Some Idle) next among.idle))

-- ---- LOG

pub returns-in_err-seal-clause-stopped : goal.returns-in_err-seal-clause-stopped
returns-in_err-seal-clause-stopped g c origin m told tells beside =
    let first = c.begin_round.ensures in
    let second = c.turn_each.ensures in
    let before = before_log first.rules first.defs first.gate second.gate beside.at
    (c.in_ok-begin_round.ensures.read m tells beside.at.parts beside.lines_are)
    c.if-not-branch.false (λ mid s. c.in_ok-turn_each.ensures.turned mid s) in
    let core = c.args.self.now in
    let stop = c.in_err-seal.field-0.0 in
    if_err_from (DrainStopped origin core.engine.defs.now (rules_in core.engine) m core.lines
    (g.T.Site.disk c.args.site.now) (g.T.Site.disk c.seal.new.site)) c.from_residual-in_err-seal.result stop
    c.from_residual-in_err-seal.ensures.1
    (stopped_log (second.rules ∙ first.rules) before (ap (λ d. d.now) (second.defs ∙ first.defs))
    (c.seal.ensures.leaves origin before.took.after told before.beside.at)
    stop c.in_err-seal.ensures.stops)

pub returns-in_err-seal-clause-moments : goal.returns-in_err-seal-clause-moments
returns-in_err-seal-clause-moments g c origin m told tells beside =
    let first = c.begin_round.ensures in
    let second = c.turn_each.ensures in
    let before = before_log first.rules first.defs first.gate second.gate beside.at
    (c.in_ok-begin_round.ensures.read m tells beside.at.parts beside.lines_are)
    c.if-not-branch.false (λ mid s. c.in_ok-turn_each.ensures.turned mid s) in
    moments_log (second.rules ∙ first.rules) before (ap (λ d. d.now) (second.defs ∙ first.defs))
    (c.seal.ensures.leaves origin before.took.after told before.beside.at)

-- ---- a whole round

pub returns-clause-moments : goal.returns-clause-moments
returns-clause-moments g c origin m told tells beside =
    let first = c.begin_round.ensures in
    let second = c.turn_each.ensures in
    let before = before_log first.rules first.defs first.gate second.gate beside.at
    (c.in_ok-begin_round.ensures.read m tells beside.at.parts beside.lines_are)
    c.if-not-branch.false (λ mid s. c.in_ok-turn_each.ensures.turned mid s) in
    moments_log (second.rules ∙ first.rules) before (ap (λ d. d.now) (second.defs ∙ first.defs))
    (c.seal.ensures.leaves origin before.took.after told before.beside.at)

pub returns-clause-beside : goal.returns-clause-beside
returns-clause-beside g c origin m told tells beside =
    let first = c.begin_round.ensures in
    let second = c.turn_each.ensures in
    let before = before_log first.rules first.defs first.gate second.gate beside.at
    (c.in_ok-begin_round.ensures.read m tells beside.at.parts beside.lines_are)
    c.if-not-branch.false (λ mid s. c.in_ok-turn_each.ensures.turned mid s) in
    went_on (second.rules ∙ first.rules) before (ap (λ d. d.now) (second.defs ∙ first.defs))
    (c.seal.ensures.leaves origin before.took.after told before.beside.at)
    c.seal.new.self c.in_ok-seal.field-0 (c.seal.ensures.rules ∙ second.rules ∙ first.rules)
    (c.in_ok-seal.ensures.at origin before.took.after told before.beside.at)

pub returns-clause-went : goal.returns-clause-went
returns-clause-went g c m s =
    let core = c.args.self.now in
    let first = c.begin_round.new.self in
    let second = c.turn_each.new.self in
    let rules = rules_in core.engine in
    let some = c.in_ok-begin_round.ensures.began m s in
    let m2 : Machine = record m { lines = some.0 } in
    let undone : ¬ IsDrained rules m2 = subst (λ (r : Rules). ¬ IsDrained r m2) c.begin_round.ensures.rules
    (some.1.goes c.if-not-branch.false) in
    let stepped = some.1.stepped in
    let same2 = c.turn_each.ensures.rules ∙ c.begin_round.ensures.rules in
    let many : length first.engine.defs.now.regions ≡ length rules.regions = ap (λ d. length d.now.regions)
    c.begin_round.ensures.defs in
    let took = subst (λ (n : ℕ). TookTurns (turns_of n) stepped.turned.after second) many
    (c.in_ok-turn_each.ensures.turned stepped.turned.after stepped.turned.stands) in (
      some.0,
      makes_round rules m2 core.lines first.lines first.engine second some.1.did c.begin_round.ensures.rules same2
          stepped core.engine.defs.now
          (ap (λ d. d.now) (c.turn_each.ensures.defs ∙ c.begin_round.ensures.defs)) c.seal.new.self
          c.in_ok-seal.field-0 (c.seal.ensures.rules ∙ same2) undone took
          (c.in_ok-seal.ensures.turned took.after took.stands),
    )

-- ---- other data sets

pub returns-in_err-begin_round-clause-spares : goal.returns-in_err-begin_round-clause-spares
returns-in_err-begin_round-clause-spares g c told =
    spares_none IsLogSet (g.T.Site.disk c.args.site.now) (g.met.T.Site.lawful c.args.site.now told)

pub returns-then-not-branch-clause-spares : goal.returns-then-not-branch-clause-spares
returns-then-not-branch-clause-spares g c told =
    spares_none IsLogSet (g.T.Site.disk c.args.site.now) (g.met.T.Site.lawful c.args.site.now told)

pub returns-in_err-turn_each-clause-spares : goal.returns-in_err-turn_each-clause-spares
returns-in_err-turn_each-clause-spares g c told =
    spares_none IsLogSet (g.T.Site.disk c.args.site.now) (g.met.T.Site.lawful c.args.site.now told)

-- ---- what stands in front of the gate

pub returns-in_err-begin_round-clause-front : goal.returns-in_err-begin_round-clause-front
returns-in_err-begin_round-clause-front g c told =
    fronts_none (g.T.Site.disk c.args.site.now) c.args.self.now.engine.log.gate
    (g.met.T.Site.lawful c.args.site.now told)

pub returns-then-not-branch-clause-front : goal.returns-then-not-branch-clause-front
returns-then-not-branch-clause-front g c told =
    fronts_none (g.T.Site.disk c.args.site.now) c.args.self.now.engine.log.gate
    (g.met.T.Site.lawful c.args.site.now told)

pub returns-in_err-turn_each-clause-front : goal.returns-in_err-turn_each-clause-front
returns-in_err-turn_each-clause-front g c told =
    fronts_none (g.T.Site.disk c.args.site.now) c.args.self.now.engine.log.gate
    (g.met.T.Site.lawful c.args.site.now told)

pub returns-then-not-branch-clause-front_on : goal.returns-then-not-branch-clause-front_on
returns-then-not-branch-clause-front_on g c told =
    holds_none (g.T.Site.disk c.args.site.now) c.args.self.now.engine.log.gate
    c.begin_round.new.self.engine.log.gate c.begin_round.ensures.gate

pub returns-in_err-seal-clause-front : goal.returns-in_err-seal-clause-front
returns-in_err-seal-clause-front g c told =
    fronts_from (g.T.Site.disk c.args.site.now) (g.T.Site.disk c.seal.new.site) c.args.self.now.engine.log.gate
    c.turn_each.new.self.log.gate (c.turn_each.ensures.gate ∙ c.begin_round.ensures.gate) (c.seal.ensures.front told)

pub returns-clause-front : goal.returns-clause-front
returns-clause-front g c told =
    fronts_from (g.T.Site.disk c.args.site.now) (g.T.Site.disk c.seal.new.site) c.args.self.now.engine.log.gate
    c.turn_each.new.self.log.gate (c.turn_each.ensures.gate ∙ c.begin_round.ensures.gate) (c.seal.ensures.front told)

pub returns-clause-front_on : goal.returns-clause-front_on
returns-clause-front_on g c told =
    holds_from (g.T.Site.disk c.args.site.now) (g.T.Site.disk c.seal.new.site) c.args.self.now.engine.log.gate
    c.turn_each.new.self.log.gate c.seal.new.self.log.gate
    (c.turn_each.ensures.gate ∙ c.begin_round.ensures.gate) (c.in_ok-seal.ensures.front_on told)

-- ---- the room that the log keeps free

pub returns-in_err-begin_round-clause-frugal : goal.returns-in_err-begin_round-clause-frugal
returns-in_err-begin_round-clause-frugal g c =
    frugal_less c.args.self.now.engine c.begin_round.new.self.engine c.begin_round.ensures.most

pub returns-then-not-branch-clause-frugal : goal.returns-then-not-branch-clause-frugal
returns-then-not-branch-clause-frugal g c =
    frugal_less c.args.self.now.engine c.begin_round.new.self.engine c.begin_round.ensures.most

pub returns-in_err-turn_each-clause-frugal : goal.returns-in_err-turn_each-clause-frugal
returns-in_err-turn_each-clause-frugal g c =
    let first = c.args.self.now.engine in
    let read = c.begin_round.new.self.engine in
    frugal_on first read c.turn_each.new.self (ap (λ d. d.now) c.begin_round.ensures.defs)
    (frugal_less first read c.begin_round.ensures.most) c.turn_each.ensures.frugal

pub returns-in_err-seal-clause-frugal : goal.returns-in_err-seal-clause-frugal
returns-in_err-seal-clause-frugal g c =
    let first = c.args.self.now.engine in
    let read = c.begin_round.new.self.engine in
    let turned = frugal_on first read c.turn_each.new.self (ap (λ d. d.now) c.begin_round.ensures.defs)
    (frugal_less first read c.begin_round.ensures.most) c.turn_each.ensures.frugal in
    omega (arith, turned, c.seal.ensures.most)

pub returns-clause-frugal : goal.returns-clause-frugal
returns-clause-frugal g c =
    let first = c.args.self.now.engine in
    let read = c.begin_round.new.self.engine in
    let turned = frugal_on first read c.turn_each.new.self (ap (λ d. d.now) c.begin_round.ensures.defs)
    (frugal_less first read c.begin_round.ensures.most) c.turn_each.ensures.frugal in
    omega (arith, turned, c.seal.ensures.most)
