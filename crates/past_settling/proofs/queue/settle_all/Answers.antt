use Rattle.std.proofs.Common.{◌∙◌, ◌+◌, ap, sym, subst, drop, Err}
use Rattle.std.specs.Prelude.{Result}
use Rattle.fld_calls.specs.declared.arguments.SettleFault.{SettleFault}
use Rattle.fp_model.specs.Settle.{Becomes, settle_from}
use Rattle.fp_model.specs.declared.calls.Deferred.{Deferred}
use Rattle.past_segments.specs.Pasts.{databases_at}
use Rattle.past_settling.specs.declared.fault.QueueFault.{QueueFault}
use Rattle.past_settling.specs.Queues.{IsQueue}
use Rattle.past_settling.specs.inside.Queues.{IsCall, any_names, names}
use Rattle.past_settling.proofs.QueueLemmas.{any_false, failed, leaves_on, next_is, stepped}
use Rattle.past_settling.proofs.queue.settle_all.Goals as goal
use Rattle.plain_laws.proofs.Lists.{drop_whole}
use Rattle.model_laws.proofs.Segments.{all_done}

pub loop-at-preserved : goal.loop-at-preserved
loop-at-preserved c =
    let defs = c.args.defs.now.msdbs in
    let calls = c.args.calls.now in
    let before = databases_at c.args.place c.loop-at.pasts in
    let after = databases_at c.args.place c.settle_call.new.pasts in
    record {
      queue =
          next_is defs (databases_at c.args.place c.args.pasts.now) before calls c.loop-at.at c.index-calls-at.result
          c.loop-at.invariant.queue c.loop-at-test.true c.index-calls-at.is
          ∙ stepped defs c.loop-at.at before c.index-calls-at.result (drop (c.loop-at.at + 1) calls) (Becomes after)
          (subst (λ (r : Result (Unit {0}) SettleFault). IsCall defs c.index-calls-at.result before r after)
          c.in_default.is c.settle_call.ensures.call);
      leaves =
          leaves_on defs c.args.place (any_names defs calls) (names defs c.index-calls-at.result) c.args.pasts.now
          c.loop-at.pasts c.settle_call.new.pasts c.loop-at.invariant.leaves c.settle_call.ensures.leaves
          (λ n k none. ap (λ (call : Deferred). names defs call n k) c.index-calls-at.is
          ∙ any_false (λ (call : Deferred). names defs call n k) calls c.loop-at.at c.index-calls-at.result none
          c.loop-at-test.true);
    }

pub returns-clause-queue : goal.returns-clause-queue
returns-clause-queue c =
    c.loop-at.invariant.queue
    ∙ ap (settle_from c.args.defs.now.msdbs c.loop-at.at (databases_at c.args.place c.loop-at.pasts))
    (drop_whole c.args.calls.now c.loop-at.at c.loop-at-test.false)
    ∙ all_done c.args.defs.now.msdbs c.loop-at.at (databases_at c.args.place c.loop-at.pasts)

pub returns-in-Err-clause-queue : goal.returns-in-Err-clause-queue
returns-in-Err-clause-queue c =
    let defs = c.args.defs.now.msdbs in
    let calls = c.args.calls.now in
    let before = databases_at c.args.place c.loop-at.pasts in
    let after = databases_at c.args.place c.settle_call.new.pasts in
    subst (λ (f : QueueFault). IsQueue defs calls (databases_at c.args.place c.args.pasts.now) (Err f) after)
    (sym c.fault_at.ensures)
    (failed defs c.loop-at.at calls (databases_at c.args.place c.args.pasts.now) before after c.index-calls-at.result
    (drop (c.loop-at.at + 1) calls) c.in-Err.fault
    (next_is defs (databases_at c.args.place c.args.pasts.now) before calls c.loop-at.at c.index-calls-at.result
    c.loop-at.invariant.queue c.loop-at-test.true c.index-calls-at.is)
    (subst (λ (r : Result (Unit {0}) SettleFault). IsCall defs c.index-calls-at.result before r after)
    c.in-Err.is c.settle_call.ensures.call))
