use Rattle.std.proofs.Common.{◌∙◌, arith}
use Rattle.gated_write.proofs.Bodies.{on_ok, only_one}
use Rattle.gated_write.proofs.Openings.{only_two, opened, settled1, settled2, synced, wrote}
use Rattle.gated_write.proofs.Fronts.{sync_settles, both_keep, write_keeps, write_settles}
use Rattle.gated_write.proofs.gate.open.Goals as goal

pub returns-in_err-write_at-clause-only : goal.returns-in_err-write_at-clause-only
returns-in_err-write_at-clause-only g c t = only_one c.args.set _ _ _ (g.met.S.Site.lawful c.args.site.now t)
    (c.write_at.ensures.leaves t) (c.write_at.ensures.crash t)

pub returns-in_err-write_at-clause-crash : goal.returns-in_err-write_at-clause-crash
returns-in_err-write_at-clause-crash g c old body t ready =
    wrote c.args.set c.args.gate _ _ (g.met.S.Site.lawful c.args.site.now t)
    (g.met.S.Site.lawful c.write_at.new.self (c.write_at.ensures.site.still_told t)) (c.write_at.ensures.crash t) old body ready

pub returns-in_err-write_at-clause-settles : goal.returns-in_err-write_at-clause-settles
returns-in_err-write_at-clause-settles g c old body image t ready =
    settled1 c.args.set c.args.gate _ _ (g.met.S.Site.lawful c.args.site.now t)
    (g.met.S.Site.lawful c.write_at.new.self (c.write_at.ensures.site.still_told t)) (c.write_at.ensures.crash t) old body ready
    image

pub returns-clause-only : goal.returns-clause-only
returns-clause-only g c t =
    let t1 = c.write_at.ensures.site.still_told t in
    only_two c.args.set c.args.gate _ _ _ (g.met.S.Site.lawful c.args.site.now t)
    (g.met.S.Site.lawful c.write_at.new.self t1) (c.write_at.ensures.leaves t) (c.write_at.ensures.crash t)
    (c.sync.ensures.leaves t1) (c.sync.ensures.crash t1)

pub returns-clause-crash : goal.returns-clause-crash
returns-clause-crash g c old body t ready =
    let t1 = c.write_at.ensures.site.still_told t in
    synced c.args.set c.args.gate _ _ (g.met.S.Site.lawful c.args.site.now t)
    (g.met.S.Site.lawful c.write_at.new.self t1) (c.write_at.ensures.crash t) old body ready _ (c.sync.ensures.crash t1)

pub returns-clause-settles : goal.returns-clause-settles
returns-clause-settles g c old body image t ready =
    let t1 = c.write_at.ensures.site.still_told t in
    settled2 c.args.set c.args.gate _ _ (g.met.S.Site.lawful c.args.site.now t)
    (g.met.S.Site.lawful c.write_at.new.self t1) (c.write_at.ensures.crash t) old body ready _ (c.sync.ensures.crash t1)
    (g.met.S.Site.lawful c.sync.new.self (c.sync.ensures.site.still_told t1)) image

pub returns-clause-opened : goal.returns-clause-opened
returns-clause-opened g c old body t ready =
    let t1 = c.write_at.ensures.site.still_told t in
    on_ok c.sync.result (c.sync.ensures.durable t1)
    (λ durable. opened old c.args.gate body ready.rest _ ready.stands ready.is c.args.set _ durable
    (c.sync.ensures.same t1 ∙ c.in_ok-write_at.ensures.wrote t))

-- ---- the bytes in front of the gate

pub returns-in_err-write_at-clause-front : goal.returns-in_err-write_at-clause-front
returns-in_err-write_at-clause-front g c old t each le =
    write_keeps c.args.set c.args.gate _ _ _ (g.met.S.Site.lawful c.args.site.now t)
    (g.met.S.Site.lawful c.write_at.new.self (c.write_at.ensures.site.still_told t)) (c.write_at.ensures.crash t) old
    c.args.gate each le (omega arith)

pub returns-in_err-write_at-clause-front_settles : goal.returns-in_err-write_at-clause-front_settles
returns-in_err-write_at-clause-front_settles g c old t each le =
    write_settles c.args.set c.args.gate _ _ _ (g.met.S.Site.lawful c.args.site.now t)
    (g.met.S.Site.lawful c.write_at.new.self (c.write_at.ensures.site.still_told t)) (c.write_at.ensures.crash t) old
    c.args.gate each le (omega arith)

pub returns-clause-front : goal.returns-clause-front
returns-clause-front g c old t each le =
    let t1 = c.write_at.ensures.site.still_told t in
    both_keep c.args.set c.args.gate _ _ _ (g.met.S.Site.lawful c.args.site.now t)
    (g.met.S.Site.lawful c.write_at.new.self t1) (c.write_at.ensures.crash t) old c.args.gate each le (omega arith) _
    (c.sync.ensures.crash t1)

pub returns-clause-front_settles : goal.returns-clause-front_settles
returns-clause-front_settles g c old t each le =
    let t1 = c.write_at.ensures.site.still_told t in
    let law1 = g.met.S.Site.lawful c.write_at.new.self t1 in
    let each1 =
    write_settles c.args.set c.args.gate _ _ _ (g.met.S.Site.lawful c.args.site.now t) law1
    (c.write_at.ensures.crash t) old c.args.gate each le (omega arith) in
    sync_settles c.args.set _ _ law1 (g.met.S.Site.lawful c.sync.new.self (c.sync.ensures.site.still_told t1))
    (c.sync.ensures.crash t1) old c.args.gate each1
