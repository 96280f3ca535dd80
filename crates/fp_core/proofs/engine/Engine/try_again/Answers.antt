use Rattle.std.proofs.Common.{◌≡◌, ◌∙◌, sym, ap, subst, arith, ◌-◌, Some, slice_get, slice_set}
use Rattle.fp_model.specs.declared.calls.Message.{Message}
use Rattle.fp_model.specs.Asking.{script_of}
use Rattle.fp_model.specs.History.{place_of}
use Rattle.fp_model.specs.Turns.{tried_again}
use Rattle.fp_core.specs.declared.engine.Region.TheVariants as regions
use Rattle.fp_core.specs.Relation.{StandsFor, rules_in}
use Rattle.fp_core.proofs.Ends.{region_is}
use Rattle.fp_core.proofs.Tries.{begins_again, tried_at}
use Rattle.fp_core.proofs.engine.Engine.try_again.Goals as goal

pub start-requires-clause-named : goal.start-requires-clause-named
start-requires-clause-named c =
    let engine = c.args.self.now in
    let u = c.requires.under in
    let is = region_is engine u.0 c.args.region u.1.0 (regions.Active c.active_in.result.now) u.1.1
    c.active_in.ensures.there in
    (is.script, ap (λ (x : Message). script_of engine.scripts.now.scripts x.tran) is.message ∙ is.named)

pub begin_again-requires : goal.begin_again-requires
begin_again-requires c =
    let engine = c.args.self.now in
    let u = c.requires.under in
    let same : c.from.result - 1 ≡ c.args.region - 1 = ap (λ n. n - 1) c.from.ensures in
    let at : slice_get engine.regions (c.args.region - 1) ≡ Some (regions.Active c.in-Active.active) =
    subst (λ n. slice_get engine.regions n ≡ Some (regions.Active c.in-Active.active)) same
    (c.item_mut.ensures.value ∙ ap (λ r. Some r) c.in-Active.is) in
    let is = region_is engine u.0 c.args.region u.1.0 (regions.Active c.in-Active.active) u.1.1 at in
    omega (arith, is.tries, c.requires.left u.0 u.1.0 u.1.1, u.1.1.stands.setup.defined.tries)

pub returns-clause-again : goal.returns-clause-again
returns-clause-again c m t u =
    let engine = c.args.self.now in
    let same : c.from.result - 1 ≡ c.args.region - 1 = ap (λ n. n - 1) c.from.ensures in
    let at : slice_get engine.regions (c.args.region - 1) ≡ Some (regions.Active c.in-Active.active) =
    subst (λ n. slice_get engine.regions n ≡ Some (regions.Active c.in-Active.active)) same
    (c.item_mut.ensures.value ∙ ap (λ r. Some r) c.in-Active.is) in
    let is = region_is engine m c.args.region t (regions.Active c.in-Active.active) u at in
    let seen = region_is engine m c.args.region t (regions.Active c.active_in.result.now) u c.active_in.ensures.there in
    let begun = begins_again engine.defs.now engine.scripts.now.scripts c.in_ok-program.program c.in_ok-program.work
    c.active_in.result.now c.in-Active.active c.begin_again.new.active t c.count-from.result (place_of m.history)
    (c.count-from.ensures ∙ u.stands.count)
    seen.message is.message is.tries is.refusal c.in_ok-program.ensures c.begin_again.ensures in
    subst (λ n. StandsFor (record engine {
      regions =
          slice_set engine.regions n (regions.Active c.begin_again.new.active);
      locks = c.release_all.new.self;
    })
    (tried_again (rules_in engine) c.args.region t m)) (sym same)
    (tried_at engine m c.args.region t c.begin_again.new.active c.release_all.new.self u begun
    c.release_all.ensures.lists c.release_all.ensures.regions)
