use Rattle.std.proofs.Common.{inl, ◌∙◌, take, drop, length, sym, subst, ap, arith}
use Rattle.fp_site.proofs.Images.{durable_settles}
use Rattle.log_groups.specs.Images.{IsLog}
use Rattle.log_groups.proofs.LogImages.{held_reaches}
use Rattle.log_groups.proofs.Sealing.{gated_log, sealed_through, sealed_log, sealed_kept, sealed_text, now_unsealed, now_buffered}
use Rattle.log_groups.proofs.log.Log.seal.Goals as goal

-- the group ends within the data set
pub seal_part-requires-clause-room : goal.seal_part-requires-clause-room
seal_part-requires-clause-room g c =
    let i = c.self.invariant in
    let text = ap (drop c.self.inside.start) c.as_mut_slice-buffer.ensures.value ∙ i.text in
    let part = c.oldest-count.ensures.oldest _ i.each i.count text in
    omega (arith, part.all, part.many, part.some, i.limit)

-- the buffer has the other entries
pub invariant_of-self-2 : goal.invariant_of-self-2
invariant_of-self-2 g c =
    let i = c.self.invariant in
    let value = c.as_mut_slice-buffer.ensures.value in
    let part = c.oldest-count.ensures.oldest _ i.each i.count (ap (drop c.self.inside.start) value ∙ i.text) in
    now_buffered _ _ _ _ _ _ _ _ _ _ _ _ i value c.seal_part.ensures.len c.seal_part.ensures.rest part

pub returns-clause-unsealed : goal.returns-clause-unsealed
returns-clause-unsealed g c =
    let i = c.self.invariant in
    let value = c.as_mut_slice-buffer.ensures.value in
    let part = c.oldest-count.ensures.oldest _ i.each i.count (ap (drop c.self.inside.start) value ∙ i.text) in
    rw (← c.self.view_is) (now_unsealed _ _ _ _ _ _ _ _ _ _ _ _ i value c.seal_part.ensures.len
    c.seal_part.ensures.rest part)

-- where nothing is unsealed nothing was written
pub returns-then-self-eq0-clause-settles : goal.returns-then-self-eq0-clause-settles
returns-then-self-eq0-clause-settles g c front groups image t at_rest settles =
    inl (subst (λ l. IsLog front l groups c.args.self.now.gate)
    (sym (durable_settles (g.T.Site.disk c.args.site.now) 0 image at_rest.durable settles)) at_rest.log)

pub returns-in_err-seal_part-clause-crash : goal.returns-in_err-seal_part-clause-crash
returns-in_err-seal_part-clause-crash g c =
    let i = c.self.invariant in
    let text = ap (drop c.self.inside.start) c.as_mut_slice-buffer.ensures.value ∙ i.text in
    let part = c.oldest-count.ensures.oldest _ i.each i.count text in
    rw (← c.self.view_is) (λ front groups t rest. sealed_through front groups _ _ _ _ _ rest part.spelled
    (c.seal_part.ensures.crash t rest.durable rest.log.stands))

pub returns-in_err-seal_part-clause-settles : goal.returns-in_err-seal_part-clause-settles
returns-in_err-seal_part-clause-settles g c =
    let i = c.self.invariant in
    let text = ap (drop c.self.inside.start) c.as_mut_slice-buffer.ensures.value ∙ i.text in
    let part = c.oldest-count.ensures.oldest _ i.each i.count text in
    rw (← c.self.view_is) (λ front groups image t rest settles. gated_log front groups _ _ _ _ rest.log part.spelled
    image (c.seal_part.ensures.settles image t rest.durable rest.log.stands settles))

pub returns-clause-crash : goal.returns-clause-crash
returns-clause-crash g c =
    let i = c.self.invariant in
    let text = ap (drop c.self.inside.start) c.as_mut_slice-buffer.ensures.value ∙ i.text in
    let part = c.oldest-count.ensures.oldest _ i.each i.count text in
    rw (← c.self.view_is) (λ front groups t rest. sealed_through front groups _ _ _ _ _ rest part.spelled
    (c.seal_part.ensures.crash t rest.durable rest.log.stands))

pub returns-clause-settles : goal.returns-clause-settles
returns-clause-settles g c =
    let i = c.self.invariant in
    let text = ap (drop c.self.inside.start) c.as_mut_slice-buffer.ensures.value ∙ i.text in
    let part = c.oldest-count.ensures.oldest _ i.each i.count text in
    rw (← c.self.view_is) (λ front groups image t rest settles. gated_log front groups _ _ _ _ rest.log part.spelled
    image (c.seal_part.ensures.settles image t rest.durable rest.log.stands settles))

pub returns-clause-durable : goal.returns-clause-durable
returns-clause-durable g c =
    let i = c.self.invariant in
    let text = ap (drop c.self.inside.start) c.as_mut_slice-buffer.ensures.value ∙ i.text in
    let part = c.oldest-count.ensures.oldest _ i.each i.count text in
    rw (← c.self.view_is) (λ front groups t rest. sealed_log front groups _ _ _ _ _ _ rest.log.holds part.spelled
    part.size (c.in_ok-seal_part.ensures.opened t (let stands = rest.log.stands in omega arith)))

pub returns-clause-kept : goal.returns-clause-kept
returns-clause-kept g c =
    let i = c.self.invariant in
    let text = ap (drop c.self.inside.start) c.as_mut_slice-buffer.ensures.value ∙ i.text in
    let part = c.oldest-count.ensures.oldest _ i.each i.count text in
    rw (← c.self.view_is) (λ front groups t kept. sealed_kept front groups _ _ _ _ _ _ kept.holds part.spelled
    part.size (c.in_ok-seal_part.ensures.opened t (held_reaches front groups _ _ kept.holds)))

-- ---- the bytes in front of the gate

pub returns-then-self-eq0-clause-front_settles : goal.returns-then-self-eq0-clause-front_settles
returns-then-self-eq0-clause-front_settles g c image t durable le settles =
    ap (take c.args.self.now.gate) (durable_settles (g.T.Site.disk c.args.site.now) 0 image durable settles)

pub returns-in_err-seal_part-clause-front : goal.returns-in_err-seal_part-clause-front
returns-in_err-seal_part-clause-front g c = rw (← c.self.view_is) c.seal_part.ensures.front

pub returns-in_err-seal_part-clause-front_settles : goal.returns-in_err-seal_part-clause-front_settles
returns-in_err-seal_part-clause-front_settles g c = rw (← c.self.view_is) c.seal_part.ensures.front_settles

pub returns-clause-front : goal.returns-clause-front
returns-clause-front g c = rw (← c.self.view_is) c.seal_part.ensures.front

pub returns-clause-front_settles : goal.returns-clause-front_settles
returns-clause-front_settles g c = rw (← c.self.view_is) c.seal_part.ensures.front_settles

-- ---- the bytes at Ok

pub returns-clause-text : goal.returns-clause-text
returns-clause-text g c =
    let i = c.self.invariant in
    let text = ap (drop c.self.inside.start) c.as_mut_slice-buffer.ensures.value ∙ i.text in
    let part = c.oldest-count.ensures.oldest _ i.each i.count text in
    rw (← c.self.view_is) (λ t waits le. sealed_text _ _ _ _ _ part.spelled (c.in_ok-seal_part.ensures.opened t le))

-- ---- nothing to seal

-- where an entry waits, some are unsealed
pub returns-in_err-seal_part-clause-idle : goal.returns-in_err-seal_part-clause-idle
returns-in_err-seal_part-clause-idle g c = rw (← c.self.view_is) (λ none.
    absurd (omega (arith, c.self.invariant.count, ap length none, c.if-self-eq0.false)))

pub returns-in_err-seal_part-clause-idle_log : goal.returns-in_err-seal_part-clause-idle_log
returns-in_err-seal_part-clause-idle_log g c = rw (← c.self.view_is) (λ none.
    absurd (omega (arith, c.self.invariant.count, ap length none, c.if-self-eq0.false)))

pub returns-clause-idle : goal.returns-clause-idle
returns-clause-idle g c = rw (← c.self.view_is) (λ none.
    absurd (omega (arith, c.self.invariant.count, ap length none, c.if-self-eq0.false)))

pub returns-clause-idle_log : goal.returns-clause-idle_log
returns-clause-idle_log g c = rw (← c.self.view_is) (λ none.
    absurd (omega (arith, c.self.invariant.count, ap length none, c.if-self-eq0.false)))
