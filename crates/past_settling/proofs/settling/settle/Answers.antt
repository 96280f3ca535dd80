use Rattle.std.proofs.Common.{◌≡◌, ◌∙◌, ◌+◌, ap, sym, subst, arith, Err}
use Rattle.std.specs.Prelude.{Result}
use Rattle.fp_model.specs.Settle.{settle}
use Rattle.past_segments.specs.Pasts.{databases_at}
use Rattle.past_settling.specs.declared.fault.QueueFault.{QueueFault}
use Rattle.past_settling.specs.Queues.{IsQueue}
use Rattle.past_settling.specs.inside.Queues.{any_names}
use Rattle.past_settling.proofs.BackLemmas.{are_so, as_long, ends_later, ends_so, same_counts, shows_on_all, shows_so}
use Rattle.past_settling.proofs.settling.settle.Goals as goal

pub settle_all-requires-clause-settled : goal.settle_all-requires-clause-settled
settle_all-requires-clause-settled c = ends_later c.args.place c.args.pasts.now c.requires.settled

pub take_back_all-requires-clause-many : goal.take_back_all-requires-clause-many
take_back_all-requires-clause-many c =
    as_long c.args.defs.now.msdbs c.settle_all.new.pasts c.settle_all.ensures.leaves.are

pub returns-in-Ok-clause-queue : goal.returns-in-Ok-clause-queue
returns-in-Ok-clause-queue c =
    let calls : c.as_slice-calls.result.now ≡ c.args.deferred.now = c.as_slice-calls.ensures in
    let here = shows_on_all c.args.place (c.args.place + 1) c.args.pasts.now c.requires.settled (omega (arith)) in
    sym (ap (λ ds. settle c.args.defs.now.msdbs (databases_at c.args.place c.args.pasts.now) ds) calls)
    ∙ sym (ap (λ ms. settle c.args.defs.now.msdbs ms c.as_slice-calls.result.now) here)
    ∙ subst (λ (r : Result (Unit {0}) QueueFault). IsQueue c.args.defs.now.msdbs c.as_slice-calls.result.now
    (databases_at (c.args.place + 1) c.args.pasts.now) r (databases_at (c.args.place + 1) c.settle_all.new.pasts))
    c.in-Ok.is c.settle_all.ensures.queue

pub returns-in-Err-Verify-clause-queue : goal.returns-in-Err-Verify-clause-queue
returns-in-Err-Verify-clause-queue c =
    let calls : c.as_slice-calls.result.now ≡ c.args.deferred.now = c.as_slice-calls.ensures in
    let here = shows_on_all c.args.place (c.args.place + 1) c.args.pasts.now c.requires.settled (omega (arith)) in
    sym (ap (λ ds. settle c.args.defs.now.msdbs (databases_at c.args.place c.args.pasts.now) ds) calls)
    ∙ sym (ap (λ ms. settle c.args.defs.now.msdbs ms c.as_slice-calls.result.now) here)
    ∙ subst (λ (r : Result (Unit {0}) QueueFault). IsQueue c.args.defs.now.msdbs c.as_slice-calls.result.now
    (databases_at (c.args.place + 1) c.args.pasts.now) r (databases_at (c.args.place + 1) c.settle_all.new.pasts))
    (c.in-Err-Verify.is ∙ ap Err c.in-Err-Verify.field-0-is) c.settle_all.ensures.queue

pub returns-in-Err-Verify-clause-verify : goal.returns-in-Err-Verify-clause-verify
returns-in-Err-Verify-clause-verify c =
    shows_so c.args.defs.now.msdbs c.args.place (any_names c.args.defs.now.msdbs c.as_slice-calls.result.now)
    c.args.pasts.now c.settle_all.new.pasts c.take_back_all.new.pasts c.requires.are c.requires.settled
    c.settle_all.ensures.leaves c.take_back_all.ensures

pub returns-in-Err-Verify-clause-are : goal.returns-in-Err-Verify-clause-are
returns-in-Err-Verify-clause-are c =
    are_so c.args.defs.now.msdbs c.args.place (any_names c.args.defs.now.msdbs c.as_slice-calls.result.now)
    c.args.pasts.now c.settle_all.new.pasts c.take_back_all.new.pasts c.requires.are c.requires.settled
    c.settle_all.ensures.leaves c.take_back_all.ensures
    (same_counts c.args.defs.now.msdbs c.args.pasts.now c.settle_all.new.pasts c.requires.are
    c.settle_all.ensures.leaves.are)

pub returns-in-Err-Verify-clause-settled : goal.returns-in-Err-Verify-clause-settled
returns-in-Err-Verify-clause-settled c =
    ends_later c.args.place c.take_back_all.new.pasts
    (ends_so c.args.defs.now.msdbs c.args.place (any_names c.args.defs.now.msdbs c.as_slice-calls.result.now)
    c.args.pasts.now c.settle_all.new.pasts c.take_back_all.new.pasts c.requires.are c.requires.settled
    c.settle_all.ensures.leaves c.take_back_all.ensures)
