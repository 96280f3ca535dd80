use Rattle.std.proofs.Common.{◌≡◌, ◌∙◌, ap, refl, subst, arith, ℕ, ◌+◌, ◌<◌, length, Some, slice_get}
use Rattle.fp_core.specs.declared.engine.Region.TheVariants as regions
use Rattle.fp_core.specs.inside.Rounding.{StoppedAmong, TookTurns, turns_of}
use Rattle.fp_core.proofs.RoomLemmas.{frugal_on}
use Rattle.fp_core.proofs.Rounds.{on_err_sure, one_turned, stopped_among}
use Rattle.fp_core.proofs.Steps.{regions_long}
use Rattle.fp_core.proofs.Takes.{is_idle}
use Rattle.fp_core.proofs.engine.Engine.turn_each.Goals as goal

pub overflow_cast-count : goal.overflow_cast-count
overflow_cast-count g c =
    let s = c.requires.stands in
    omega (arith, s.1.setup.defined.regions, regions_long c.args.self.now s.0 s.1)

pub returns-in_err-turn-clause-stopped : goal.returns-in_err-turn-clause-stopped
returns-in_err-turn-clause-stopped g c m s =
    let t = c.loop-done.invariant.took m s in
    let same : length c.turn.new.self.defs.now.regions ≡ length c.args.self.now.defs.now.regions
    = ap (λ d. length d.now.regions) (c.turn.ensures.defs ∙ c.loop-done.invariant.defs) in
    let few : c.loop-done.done < length c.turn.new.self.defs.now.regions
    = omega (arith, same, regions_long c.args.self.now m s) in
    let idle : slice_get c.loop-done.self.regions c.loop-done.done ≡ Some regions.Idle
    = subst (λ (n : ℕ). slice_get c.loop-done.self.regions n ≡ Some regions.Idle) (omega arith)
    c.in_err-turn.ensures.idle in
    on_err_sure (StoppedAmong m c.turn.new.self) c.from_residual.result
    (stopped_among m c.loop-done.self c.turn.new.self c.loop-done.done c.turn.ensures.rules
    (ap (λ d. d.now) c.turn.ensures.defs) few t (c.in_err-turn.ensures.err t.after t.stands)
    (is_idle c.loop-done.self t.after c.loop-done.done t.stands idle))

pub loop-done-preserved : goal.loop-done-preserved
loop-done-preserved g c = record {
  rules = c.turn.ensures.rules ∙ c.loop-done.invariant.rules;
  defs = c.turn.ensures.defs ∙ c.loop-done.invariant.defs;
  scripts = c.turn.ensures.scripts ∙ c.loop-done.invariant.scripts;
  gate = c.turn.ensures.gate ∙ c.loop-done.invariant.gate;
  count = c.turn.ensures.count ∙ c.loop-done.invariant.count;
  frugal = frugal_on c.args.self.now c.loop-done.self c.turn.new.self (ap (λ d. d.now) c.loop-done.invariant.defs)
      c.loop-done.invariant.frugal c.turn.ensures.frugal;
  took = λ m s.
      let t = c.loop-done.invariant.took m s in
      one_turned m c.loop-done.self c.turn.new.self c.loop-done.done (c.loop-done.done + 1) (c.loop-done.done + 1)
      c.in_ok-turn.field-0 refl refl c.turn.ensures.rules (ap (λ d. d.now) c.turn.ensures.defs) t
      (c.in_ok-turn.ensures.turned t.after t.stands);
}

pub returns-clause-turned : goal.returns-clause-turned
returns-clause-turned g c m s =
    let all : c.loop-done.done ≡ length c.args.self.now.defs.now.regions
    = omega (arith, regions_long c.args.self.now m s) in
    subst (λ (n : ℕ). TookTurns (turns_of n) m c.loop-done.self) all (c.loop-done.invariant.took m s)

pub returns-in_err-turn-clause-frugal : goal.returns-in_err-turn-clause-frugal
returns-in_err-turn-clause-frugal g c =
    frugal_on c.args.self.now c.loop-done.self c.turn.new.self (ap (λ d. d.now) c.loop-done.invariant.defs)
    c.loop-done.invariant.frugal c.turn.ensures.frugal
