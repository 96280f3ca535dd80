use Rattle.std.proofs.Common.{◌≡◌, ◌∙◌, ◌+◌, subst, arith}
use Rattle.std.specs.Prelude.{List}
use Rattle.fp_model.specs.declared.calls.Deferred.{Deferred}
use Rattle.fp_model.specs.declared.database.Msdb.{Msdb}
use Rattle.past_segments.specs.Pasts.{databases_at}
use Rattle.past_settling.specs.Queues.{IsQueue}
use Rattle.past_settling.specs.inside.Queues.{any_names}
use Rattle.past_settling.proofs.BackLemmas.{are_so, as_long, ends_later, ends_so, found_so, same_counts, shows_on_all, shows_so}
use Rattle.past_settling.proofs.settling.try_settle.Goals as goal

pub settle_all-found-requires-clause-settled : goal.settle_all-found-requires-clause-settled
settle_all-found-requires-clause-settled c = ends_later c.args.place c.args.pasts.now c.requires.settled

pub take_back_all-requires-clause-many : goal.take_back_all-requires-clause-many
take_back_all-requires-clause-many c =
    as_long c.args.defs.now.msdbs c.settle_all-found.new.pasts c.settle_all-found.ensures.leaves.are

pub returns-clause-queue : goal.returns-clause-queue
returns-clause-queue c =
    let defs = c.args.defs.now.msdbs in
    let next = databases_at (c.args.place + 1) c.settle_all-found.new.pasts in
    let calls : c.as_slice-queue.result.now ≡ c.args.deferred.now = c.as_slice-queue.ensures in
    let here = shows_on_all c.args.place (c.args.place + 1) c.args.pasts.now c.requires.settled (omega (arith)) in (
      next,
      subst (λ (ds : List Deferred). IsQueue defs ds (databases_at c.args.place c.args.pasts.now) c.settle_all-found.result next)
          calls
          (subst (λ (ms : List Msdb). IsQueue defs c.as_slice-queue.result.now ms c.settle_all-found.result next) here
          c.settle_all-found.ensures.queue),
    )

pub returns-clause-before : goal.returns-clause-before
returns-clause-before c p up_to =
    c.take_back_all.ensures.before p (omega (arith, up_to))
    ∙ c.settle_all-found.ensures.leaves.before p (omega (arith, up_to))

pub returns-clause-stays : goal.returns-clause-stays
returns-clause-stays c =
    found_so c.settle_all-found.result
    (shows_so c.args.defs.now.msdbs c.args.place (any_names c.args.defs.now.msdbs c.as_slice-queue.result.now)
    c.args.pasts.now c.settle_all-found.new.pasts c.take_back_all.new.pasts c.requires.are c.requires.settled
    c.settle_all-found.ensures.leaves c.take_back_all.ensures)

pub returns-clause-are : goal.returns-clause-are
returns-clause-are c =
    are_so c.args.defs.now.msdbs c.args.place (any_names c.args.defs.now.msdbs c.as_slice-queue.result.now)
    c.args.pasts.now c.settle_all-found.new.pasts c.take_back_all.new.pasts c.requires.are c.requires.settled
    c.settle_all-found.ensures.leaves c.take_back_all.ensures
    (same_counts c.args.defs.now.msdbs c.args.pasts.now c.settle_all-found.new.pasts c.requires.are
    c.settle_all-found.ensures.leaves.are)

pub returns-clause-settled : goal.returns-clause-settled
returns-clause-settled c =
    ends_later c.args.place c.take_back_all.new.pasts
    (ends_so c.args.defs.now.msdbs c.args.place (any_names c.args.defs.now.msdbs c.as_slice-queue.result.now)
    c.args.pasts.now c.settle_all-found.new.pasts c.take_back_all.new.pasts c.requires.are c.requires.settled
    c.settle_all-found.ensures.leaves c.take_back_all.ensures)
