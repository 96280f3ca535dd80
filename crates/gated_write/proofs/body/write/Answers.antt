use Rattle.std.proofs.Common.{◌∙◌, inl, inr, ◌+◌, ◌<◌, ◌∷◌, [], ap, arith}
use Rattle.std.proofs.lemmas.Result.{IfOk-from_err}
use Rattle.fp_lists.proofs.ContinuedLemmas.{continued_both}
use Rattle.fp_lists.proofs.FaultLemmas.{counts_err}
use Rattle.fp_site.specs.Disk.{written}
use Rattle.fp_site.proofs.Frames.{only_joined}
use Rattle.fp_site.proofs.Runs.{joined, weaker}
use Rattle.gated_write.proofs.Bodies.{begins, on_ok}
use Rattle.gated_write.proofs.Calls.{counts_from, reads_nothing_both}
use Rattle.gated_write.proofs.Fronts.{all_fronts, with_body_is}
use Rattle.gated_write.proofs.body.write.Goals as goal

pub returns-in_err-put-clause-crash : goal.returns-in_err-put-clause-crash
returns-in_err-put-clause-crash g c t durable stands =
    let t1 = c.put.ensures.site.still_told t in
    let law = g.met.S.Site.lawful c.args.site.now t in
    let law1 = g.met.S.Site.lawful c.put.new.site t1 in
    let b = begins c.args.set c.args.gate (g.S.Site.disk c.args.site.now) durable stands in
    let lt : c.args.gate < c.args.gate + 1 = omega arith in
    let run1 = c.put.ensures.crash _ c.args.gate t b.each stands lt in
    weaker _ _ _ _ (λ s un. inl un) run1

pub returns-in_err-put-clause-settles : goal.returns-in_err-put-clause-settles
returns-in_err-put-clause-settles g c image t durable stands settles =
    let t1 = c.put.ensures.site.still_told t in
    let law = g.met.S.Site.lawful c.args.site.now t in
    let law1 = g.met.S.Site.lawful c.put.new.site t1 in
    let b = begins c.args.set c.args.gate (g.S.Site.disk c.args.site.now) durable stands in
    let lt : c.args.gate < c.args.gate + 1 = omega arith in
    let each1 = c.put.ensures.settles _ c.args.gate t b.each stands lt in
    inl (each1 image settles)

pub returns-in_err-finish-clause-only : goal.returns-in_err-finish-clause-only
returns-in_err-finish-clause-only g c t =
    let t1 = c.put.ensures.site.still_told t in
    only_joined c.args.set _ _ _ (g.met.S.Site.lawful c.args.site.now t) (g.met.S.Site.lawful c.put.new.site t1)
    (c.put.ensures.only t) (c.finish.ensures.only t1)

pub returns-in_err-finish-clause-crash : goal.returns-in_err-finish-clause-crash
returns-in_err-finish-clause-crash g c t durable stands =
    let t1 = c.put.ensures.site.still_told t in
    let law = g.met.S.Site.lawful c.args.site.now t in
    let law1 = g.met.S.Site.lawful c.put.new.site t1 in
    let b = begins c.args.set c.args.gate (g.S.Site.disk c.args.site.now) durable stands in
    let lt : c.args.gate < c.args.gate + 1 = omega arith in
    let run1 = c.put.ensures.crash _ c.args.gate t b.each stands lt in
    let each1 = c.put.ensures.settles _ c.args.gate t b.each stands lt in
    let run2 = joined _ _ _ _ run1 (c.finish.ensures.crash _ c.args.gate t1 each1) in
    weaker _ _ _ _ (λ s un. inl un) run2

pub returns-in_err-finish-clause-settles : goal.returns-in_err-finish-clause-settles
returns-in_err-finish-clause-settles g c image t durable stands settles =
    let t1 = c.put.ensures.site.still_told t in
    let law = g.met.S.Site.lawful c.args.site.now t in
    let law1 = g.met.S.Site.lawful c.put.new.site t1 in
    let b = begins c.args.set c.args.gate (g.S.Site.disk c.args.site.now) durable stands in
    let lt : c.args.gate < c.args.gate + 1 = omega arith in
    let each1 = c.put.ensures.settles _ c.args.gate t b.each stands lt in
    let each2 = c.finish.ensures.settles _ c.args.gate t1 each1 in
    inl (each2 image settles)

pub returns-clause-opened : goal.returns-clause-opened
returns-clause-opened g c t durable stands =
    let t1 = c.put.ensures.site.still_told t in
    let law = g.met.S.Site.lawful c.args.site.now t in
    let law1 = g.met.S.Site.lawful c.put.new.site t1 in
    let b = begins c.args.set c.args.gate (g.S.Site.disk c.args.site.now) durable stands in
    let lt : c.args.gate < c.args.gate + 1 = omega arith in
    let run1 = c.put.ensures.crash _ c.args.gate t b.each stands lt in
    let each1 = c.put.ensures.settles _ c.args.gate t b.each stands lt in
    let t2 = c.finish.ensures.site.still_told t1 in
    let run2 = joined _ _ _ _ run1 (c.finish.ensures.crash _ c.args.gate t1 each1) in
    let each2 = c.finish.ensures.settles _ c.args.gate t1 each1 in
    let writing = c.in_ok-put.ensures.wrote _ c.args.gate [] t b (omega arith) in
    let ready = c.in_ok-finish.ensures.ready _ c.args.gate c.args.body.now t1 writing in
    c.open.ensures.opened _ c.args.body.now t2 ready

pub returns-clause-only : goal.returns-clause-only
returns-clause-only g c t =
    let t1 = c.put.ensures.site.still_told t in
    let t2 = c.finish.ensures.site.still_told t1 in
    let law = g.met.S.Site.lawful c.args.site.now t in
    only_joined c.args.set _ _ _ law (g.met.S.Site.lawful c.finish.new.site t2)
    (only_joined c.args.set _ _ _ law (g.met.S.Site.lawful c.put.new.site t1) (c.put.ensures.only t)
    (c.finish.ensures.only t1)) (c.open.ensures.only t2)

pub returns-clause-crash : goal.returns-clause-crash
returns-clause-crash g c t durable stands =
    let t1 = c.put.ensures.site.still_told t in
    let law = g.met.S.Site.lawful c.args.site.now t in
    let law1 = g.met.S.Site.lawful c.put.new.site t1 in
    let b = begins c.args.set c.args.gate (g.S.Site.disk c.args.site.now) durable stands in
    let lt : c.args.gate < c.args.gate + 1 = omega arith in
    let run1 = c.put.ensures.crash _ c.args.gate t b.each stands lt in
    let each1 = c.put.ensures.settles _ c.args.gate t b.each stands lt in
    let t2 = c.finish.ensures.site.still_told t1 in
    let run2 = joined _ _ _ _ run1 (c.finish.ensures.crash _ c.args.gate t1 each1) in
    let each2 = c.finish.ensures.settles _ c.args.gate t1 each1 in
    let writing = c.in_ok-put.ensures.wrote _ c.args.gate [] t b (omega arith) in
    let ready = c.in_ok-finish.ensures.ready _ c.args.gate c.args.body.now t1 writing in
    joined _ _ _ _ (weaker _ _ _ _ (λ s un. inl un) run2)
    (weaker _ _ _ _ (λ s staged. inr staged) (c.open.ensures.crash _ c.args.body.now t2 ready))

pub returns-clause-settles : goal.returns-clause-settles
returns-clause-settles g c image t durable stands settles =
    let t1 = c.put.ensures.site.still_told t in
    let law = g.met.S.Site.lawful c.args.site.now t in
    let law1 = g.met.S.Site.lawful c.put.new.site t1 in
    let b = begins c.args.set c.args.gate (g.S.Site.disk c.args.site.now) durable stands in
    let lt : c.args.gate < c.args.gate + 1 = omega arith in
    let run1 = c.put.ensures.crash _ c.args.gate t b.each stands lt in
    let each1 = c.put.ensures.settles _ c.args.gate t b.each stands lt in
    let t2 = c.finish.ensures.site.still_told t1 in
    let run2 = joined _ _ _ _ run1 (c.finish.ensures.crash _ c.args.gate t1 each1) in
    let each2 = c.finish.ensures.settles _ c.args.gate t1 each1 in
    let writing = c.in_ok-put.ensures.wrote _ c.args.gate [] t b (omega arith) in
    let ready = c.in_ok-finish.ensures.ready _ c.args.gate c.args.body.now t1 writing in
    inr (c.open.ensures.settles _ c.args.body.now image t2 ready settles)

-- ---- the bytes at the end

pub returns-clause-text : goal.returns-clause-text
returns-clause-text g c t le =
    let t1 = c.put.ensures.site.still_told t in
    let t2 = c.finish.ensures.site.still_told t1 in
    on_ok c.open.result (c.open.ensures.text t2) (λ text.
    text
    ∙ ap (λ l. written l c.args.gate (1 ∷ [])) (c.finish.ensures.same t1 ∙ c.in_ok-put.ensures.text t)
    ∙ with_body_is ((g.S.Site.disk c.args.site.now).contents c.args.set) c.args.gate c.args.body.now le)

-- ---- the bytes in front of the gate

pub returns-in_err-put-clause-front : goal.returns-in_err-put-clause-front
returns-in_err-put-clause-front g c t durable le =
    let each = all_fronts c.args.set c.args.gate (g.S.Site.disk c.args.site.now) durable in
    c.put.ensures.front _ c.args.gate t each le (omega arith)

pub returns-in_err-put-clause-front_settles : goal.returns-in_err-put-clause-front_settles
returns-in_err-put-clause-front_settles g c t durable le =
    let each = all_fronts c.args.set c.args.gate (g.S.Site.disk c.args.site.now) durable in
    c.put.ensures.front_settles _ c.args.gate t each le (omega arith)

pub returns-in_err-finish-clause-front : goal.returns-in_err-finish-clause-front
returns-in_err-finish-clause-front g c t durable le =
    let t1 = c.put.ensures.site.still_told t in
    let each = all_fronts c.args.set c.args.gate (g.S.Site.disk c.args.site.now) durable in
    let each1 = c.put.ensures.front_settles _ c.args.gate t each le (omega arith) in
    joined _ _ _ _ (c.put.ensures.front _ c.args.gate t each le (omega arith))
    (c.finish.ensures.front _ c.args.gate t1 each1)

pub returns-in_err-finish-clause-front_settles : goal.returns-in_err-finish-clause-front_settles
returns-in_err-finish-clause-front_settles g c t durable le =
    let t1 = c.put.ensures.site.still_told t in
    let each = all_fronts c.args.set c.args.gate (g.S.Site.disk c.args.site.now) durable in
    let each1 = c.put.ensures.front_settles _ c.args.gate t each le (omega arith) in
    c.finish.ensures.front_settles _ c.args.gate t1 each1

pub returns-clause-front : goal.returns-clause-front
returns-clause-front g c t durable le =
    let t1 = c.put.ensures.site.still_told t in
    let t2 = c.finish.ensures.site.still_told t1 in
    let each = all_fronts c.args.set c.args.gate (g.S.Site.disk c.args.site.now) durable in
    let each1 = c.put.ensures.front_settles _ c.args.gate t each le (omega arith) in
    let each2 = c.finish.ensures.front_settles _ c.args.gate t1 each1 in
    joined _ _ _ _ (joined _ _ _ _ (c.put.ensures.front _ c.args.gate t each le (omega arith))
    (c.finish.ensures.front _ c.args.gate t1 each1)) (c.open.ensures.front _ t2 each2 le)

pub returns-clause-front_settles : goal.returns-clause-front_settles
returns-clause-front_settles g c t durable le =
    let t1 = c.put.ensures.site.still_told t in
    let t2 = c.finish.ensures.site.still_told t1 in
    let each = all_fronts c.args.set c.args.gate (g.S.Site.disk c.args.site.now) durable in
    let each1 = c.put.ensures.front_settles _ c.args.gate t each le (omega arith) in
    let each2 = c.finish.ensures.front_settles _ c.args.gate t1 each1 in
    c.open.ensures.front_settles _ t2 each2 le

-- ---- no Ok, the faults, the reads and what stays

pub returns-in_err-put-clause-text : goal.returns-in_err-put-clause-text
returns-in_err-put-clause-text g c t le = IfOk-from_err c.from_residual.result _ c.from_residual.ensures.0

pub returns-in_err-put-clause-durable : goal.returns-in_err-put-clause-durable
returns-in_err-put-clause-durable g c t = IfOk-from_err c.from_residual.result _ c.from_residual.ensures.0

pub returns-in_err-put-clause-opened : goal.returns-in_err-put-clause-opened
returns-in_err-put-clause-opened g c t durable stands =
    IfOk-from_err c.from_residual.result _ c.from_residual.ensures.0

pub returns-in_err-put-clause-cause : goal.returns-in_err-put-clause-cause
returns-in_err-put-clause-cause g c = let cause = c.in_err-put.ensures.cause in
    counts_err c.from_residual.result _ _ _ c.from_residual.ensures.0 (omega arith) cause.later cause.rose

pub returns-in_err-put-clause-only : goal.returns-in_err-put-clause-only
returns-in_err-put-clause-only g c = c.put.ensures.only

pub returns-in_err-put-clause-reads : goal.returns-in_err-put-clause-reads
returns-in_err-put-clause-reads g c = c.put.ensures.reads

pub returns-in_err-put-clause-site : goal.returns-in_err-put-clause-site
returns-in_err-put-clause-site g c = c.put.ensures.site

pub returns-in_err-finish-clause-text : goal.returns-in_err-finish-clause-text
returns-in_err-finish-clause-text g c t le =
    IfOk-from_err c.from_residual-in_err-finish.result _ c.from_residual-in_err-finish.ensures.0

pub returns-in_err-finish-clause-durable : goal.returns-in_err-finish-clause-durable
returns-in_err-finish-clause-durable g c t =
    IfOk-from_err c.from_residual-in_err-finish.result _ c.from_residual-in_err-finish.ensures.0

pub returns-in_err-finish-clause-opened : goal.returns-in_err-finish-clause-opened
returns-in_err-finish-clause-opened g c t durable stands =
    IfOk-from_err c.from_residual-in_err-finish.result _ c.from_residual-in_err-finish.ensures.0

pub returns-in_err-finish-clause-cause : goal.returns-in_err-finish-clause-cause
returns-in_err-finish-clause-cause g c =
    let cause = c.in_err-finish.ensures.cause in
    counts_err c.from_residual-in_err-finish.result _ _ _ c.from_residual-in_err-finish.ensures.0
    (omega (arith, c.in_ok-put.ensures.cause.stayed)) cause.later cause.rose

pub returns-in_err-finish-clause-reads : goal.returns-in_err-finish-clause-reads
returns-in_err-finish-clause-reads g c = reads_nothing_both _ _ _ _ _ _ c.put.ensures.reads c.finish.ensures.reads

pub returns-in_err-finish-clause-site : goal.returns-in_err-finish-clause-site
returns-in_err-finish-clause-site g c = continued_both _ _ _ _ _ _ _ c.put.ensures.site c.finish.ensures.site

pub returns-clause-durable : goal.returns-clause-durable
returns-clause-durable g c t =
    c.open.ensures.durable (c.finish.ensures.site.still_told (c.put.ensures.site.still_told t))

pub returns-clause-cause : goal.returns-clause-cause
returns-clause-cause g c =
    counts_from _ _ _ _ (c.in_ok-finish.ensures.cause.stayed ∙ c.in_ok-put.ensures.cause.stayed) c.open.ensures.cause

pub returns-clause-reads : goal.returns-clause-reads
returns-clause-reads g c = reads_nothing_both _ _ _ _ _ _
    (reads_nothing_both _ _ _ _ _ _ c.put.ensures.reads c.finish.ensures.reads) c.open.ensures.reads

pub returns-clause-site : goal.returns-clause-site
returns-clause-site g c = continued_both _ _ _ _ _ _ _
    (continued_both _ _ _ _ _ _ _ c.put.ensures.site c.finish.ensures.site) c.open.ensures.site
