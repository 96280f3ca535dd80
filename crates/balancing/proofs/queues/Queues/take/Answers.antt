use Rattle.std.proofs.Common.{arith, ◌≡◌, ◌<◌, ◌-◌, [], length, map, drop, slice_get, slice_set, unwrap_or, ap, sym, ◌∙◌}
use Rattle.std.proofs.lemmas.List.{length-map}
use Rattle.balancing.proofs.QueueLemmas.{taken}
use Rattle.balancing.proofs.queues.Queues.take.Goals as goal

pub returns-clause-rest : goal.returns-clause-rest
returns-clause-rest c =
    let shown : map (λ queue. queue.items) c.self.inside.queues.items ≡ c.args.self.now.queues =
    ap (λ b. b.queues) c.self.view_is in
    let same_length : length c.args.self.now.queues ≡ length c.self.inside.queues.items =
    ap length (sym shown) ∙ length-map c.self.inside.queues.items (λ queue. queue.items) in
    let same_group : c.from.result ≡ c.args.group = c.from.ensures in
    let within : c.from.result - 1 < length c.self.inside.queues.items =
    omega (arith, same_length, same_group, c.requires.some, c.requires.within) in
    taken (λ queue. queue.items) c.self.inside.queues.items (c.from.result - 1) c.index_mut.result.now
    c.pop_front.new.self within c.index_mut.ensures.value c.pop_front.ensures.rest
    ∙ ap (λ queues. slice_set queues (c.from.result - 1) (drop 1 (unwrap_or (slice_get queues (c.from.result - 1)) [])))
    shown
    ∙ ap (λ group. slice_set c.args.self.now.queues (group - 1)
    (drop 1 (unwrap_or (slice_get c.args.self.now.queues (group - 1)) []))) same_group
