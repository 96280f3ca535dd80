use Rattle.std.proofs.Common.{◌≡◌, ◌∙◌, refl, ap, arith}
use Rattle.fp_model.specs.Asking.{Way, ended}
use Rattle.txn_machine.specs.declared.place.Place.{Place}
use Rattle.txn_machine.proofs.PlaceLemmas.{left_choice, left_loop, left_all}
use Rattle.txn_machine.proofs.WorkLemmas.{popped_less, left_less, left_nothing}
use Rattle.txn_machine.proofs.place.Place.leave_loop.Goals as goal

pub returns-in-Loop-clause-leads : goal.returns-in-Loop-clause-leads
returns-in-Loop-clause-leads c = λ defs message statements env is.
    let new : Place = record { frames = c.pop.new.self; at = c.in-Loop.behind } in
    ap ended (c.loop-frame.invariant.leads defs message statements env
    ∙ left_loop defs message statements c.loop-frame.self.frames new c.in-Some.frame c.in-Loop.behind c.in-Loop.left env
    c.in-Some.ensures c.in-Loop.is refl)

pub returns-in-Loop-clause-less : goal.returns-in-Loop-clause-less
returns-in-Loop-clause-less c = λ statements is.
    let new : Place = record { frames = c.pop.new.self; at = c.in-Loop.behind } in
    let a = left_less statements c.loop-frame.self.frames new c.in-Some.frame c.in-Loop.behind c.in-Loop.left
    c.in-Some.ensures c.in-Loop.is refl in
    let b = c.loop-frame.invariant.less statements in
    omega (arith, a, b)

pub returns-clause-leads : goal.returns-clause-leads
returns-clause-leads c = λ defs message statements env is.
    ap ended (c.loop-frame.invariant.leads defs message statements env)
    ∙ left_all defs message statements c.loop-frame.self.frames c.pop.new.self c.args.end env c.in_default.ensures.0
    c.in_default.ensures.1 is

pub returns-clause-less : goal.returns-clause-less
returns-clause-less c = λ statements is. left_nothing statements c.args.self.now.frames c.pop.new.self c.args.end
    c.in_default.ensures.1 is

pub loop-frame-preserved : goal.loop-frame-preserved
loop-frame-preserved c = record {
  leads = λ defs message statements env.
      c.loop-frame.invariant.leads defs message statements env
      ∙ left_choice defs message statements c.loop-frame.self.frames c.pop.new.self c.in-Some.frame
      c.in_default-frame.field-0 c.in_default-frame.field-1 env c.in-Some.ensures c.in_default-frame.is;
  less = λ statements.
      let a = popped_less statements c.loop-frame.self.frames c.pop.new.self c.in-Some.frame c.in-Some.ensures in
      let b = c.loop-frame.invariant.less statements in
      omega (arith, a, b);
}
