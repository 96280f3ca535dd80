use Rattle.std.proofs.Common.{rules, arith, ◌≡◌, ◌<◌, ◌-◌, [], ◌∷◌, ◌++◌, length, map, ap, sym, ◌∙◌}
use Rattle.std.proofs.lemmas.List.{length-map}
use Rattle.fp_model.specs.Exits.{route}
use Rattle.fp_model.specs.Machine.{queued_at}
use Rattle.balancing.specs.Backlog.{group_for, spelled}
use Rattle.balancing.proofs.NameLemmas.{all_put, put_last}
use Rattle.balancing.proofs.QueueLemmas.{queued, set_kept}
use Rattle.balancing.proofs.queues.Queues.offer.Goals as goal
use Rattle.plain_laws.proofs.Results.{on_err}

-- the room that was made isn't seen
pub returns-in_err-reserve-clause-err : goal.returns-in_err-reserve-clause-err
returns-in_err-reserve-clause-err g c =
    on_err c.from_residual.result
    (ap (λ queues. record { queues = queues; busy = map spelled c.self.inside.waiting.keys })
    (set_kept (λ queue. queue.items) c.self.inside.queues.items c.group-place.result c.index_mut-queue.result.now
    c.reserve.new.self c.index_mut-queue.ensures.value c.reserve.ensures.items)
    ∙ c.self.view_is)

pub returns-in_err-insert-clause-err : goal.returns-in_err-insert-clause-err
returns-in_err-insert-clause-err g c =
    on_err c.from_residual-in_err-insert.result
    (ap (λ queues. record { queues = queues; busy = map spelled c.insert.new.self.keys })
    (set_kept (λ queue. queue.items) c.self.inside.queues.items c.group-place.result c.index_mut-queue.result.now
    c.reserve.new.self c.index_mut-queue.ensures.value c.reserve.ensures.items)
    ∙ ap (λ keys. record { queues = map (λ queue. queue.items) c.self.inside.queues.items; busy = map spelled keys })
    c.in_err-insert.ensures.err
    ∙ c.self.view_is)

pub returns-clause-queued : goal.returns-clause-queued
returns-clause-queued g c =
    λ free.
    let shown : map (λ queue. queue.items) c.self.inside.queues.items ≡ c.args.self.now.queues =
    ap (λ b. b.queues) c.self.view_is in
    let same_length : length c.args.self.now.queues ≡ length c.self.inside.queues.items =
    ap length (sym shown) ∙ length-map c.self.inside.queues.items (λ queue. queue.items) in
    let within : c.group-place.result < length c.self.inside.queues.items =
    omega (arith, c.group-place.ensures.below, c.len.ensures) in
    let exact : c.group-place.result ≡ route c.args.router.now.kind c.len.result c.args.message.tran =
    c.group-place.ensures.exact in
    let by_length : route c.args.router.now.kind c.len.result c.args.message.tran ≡ route c.args.router.now.kind
    (length c.args.self.now.queues) c.args.message.tran =
    ap (λ n. route c.args.router.now.kind n c.args.message.tran) (omega (arith, same_length, c.len.ensures)) in
    let same_place : c.group-place.result ≡ group_for c.args.router.now.kind c.args.message c.args.self.now - 1 =
    omega (arith, exact, by_length) in
    queued (λ queue. queue.items) c.self.inside.queues.items c.group-place.result c.index_mut-queue.result.now
    c.push_back_reserved.new.self c.args.message within c.index_mut-queue.ensures.value
    (c.push_back_reserved.ensures.items ∙ ap (λ messages. messages ++ c.args.message ∷ []) c.reserve.ensures.items)
    ∙ ap (λ queues. queued_at c.group-place.result c.args.message queues) shown
    ∙ ap (λ place. queued_at place c.args.message c.args.self.now.queues) same_place

pub returns-clause-marked : goal.returns-clause-marked
returns-clause-marked g c =
    λ free. put_last c.self.inside.waiting.keys c.insert.new.self.keys c.args.self.now.busy c.args.message.lterm
    c.number_of.result (search rules)
    (all_put _ c.self.inside.waiting.keys _ c.number_of.result (search rules) (search rules) c.in_ok-insert.ensures.keys) (search rules)
    c.number_of.ensures
    (ap (λ b. b.busy) c.self.view_is) c.in_ok-insert.ensures.updates.0

pub invariant_of-self-2 : goal.invariant_of-self-2
invariant_of-self-2 g c = (
  search rules,
  search rules,
  all_put _ c.self.inside.waiting.keys _ c.number_of.result c.self.invariant.2 c.number_of.type_inv
      c.in_ok-insert.ensures.keys,
)
