use Rattle.std.proofs.Common.{[], ◌∷◌, ◌≡◌, ◌∙◌, ap, arith}
use Rattle.std.proofs.lemmas.Result.{IfOk-from_err}
use Rattle.std.specs.Prelude.{drop}
use Rattle.fp_lists.proofs.ContinuedLemmas.{continued_both}
use Rattle.fp_lists.proofs.FaultLemmas.{counts_err, counts_ok}
use Rattle.fp_site.specs.Disk.{written}
use Rattle.gated_write.proofs.Shutting.{Left, left_all, left_look, left_sync, left_write, rest_now, shut_already, shut_now}
use Rattle.gated_write.proofs.gate.shut.Given.{Over}
use Rattle.gated_write.proofs.gate.shut.Goals as goal

-- ---- what was done, read and may be left

-- behind the first sync
done-sync : (g : Over) (c : goal.After-from_residual g)
    → Left g.S.Site.told g.S.Site.disk g.S.Site.tells_reads g.S.Site.bytes_read g.met.S.Site.lawful c.args.set
    c.args.site.now c.sync.new.self
done-sync g c =
    left_sync g.S.Site.told g.S.Site.disk g.S.Site.tells_reads g.S.Site.bytes_read g.met.S.Site.lawful c.args.set
    c.args.site.now c.sync.new.self c.sync.ensures.site.still_told c.sync.ensures.leaves c.sync.ensures.crash
    c.sync.ensures.reads

pub returns-in_err-sync-clause-only : goal.returns-in_err-sync-clause-only
returns-in_err-sync-clause-only g c = (done-sync g c).only

pub returns-in_err-sync-clause-crash : goal.returns-in_err-sync-clause-crash
returns-in_err-sync-clause-crash g c = (done-sync g c).crash

pub returns-in_err-sync-clause-settles : goal.returns-in_err-sync-clause-settles
returns-in_err-sync-clause-settles g c = (done-sync g c).settles

pub returns-in_err-sync-clause-reads : goal.returns-in_err-sync-clause-reads
returns-in_err-sync-clause-reads g c = (done-sync g c).reads

pub returns-in_err-sync-clause-few : goal.returns-in_err-sync-clause-few
returns-in_err-sync-clause-few g c = (done-sync g c).few

-- behind the look at the gate
done-is_shut : (g : Over) (c : goal.After-from_residual-in_err-is_shut g)
    → Left g.S.Site.told g.S.Site.disk g.S.Site.tells_reads g.S.Site.bytes_read g.met.S.Site.lawful c.args.set
    c.args.site.now c.is_shut.new.site
done-is_shut g c =
    left_look g.S.Site.told g.S.Site.disk g.S.Site.tells_reads g.S.Site.bytes_read g.met.S.Site.lawful c.args.set
    c.args.site.now c.sync.new.self c.sync.ensures.site.still_told c.sync.ensures.leaves c.sync.ensures.crash
    c.sync.ensures.reads c.in_ok-sync.ensures.durable c.sync.ensures.same c.is_shut.new.site
    c.is_shut.ensures.site.still_told c.is_shut.ensures.stays c.is_shut.ensures.reads c.is_shut.ensures.few

pub returns-in_err-is_shut-clause-only : goal.returns-in_err-is_shut-clause-only
returns-in_err-is_shut-clause-only g c = (done-is_shut g c).only

pub returns-in_err-is_shut-clause-crash : goal.returns-in_err-is_shut-clause-crash
returns-in_err-is_shut-clause-crash g c = (done-is_shut g c).crash

pub returns-in_err-is_shut-clause-settles : goal.returns-in_err-is_shut-clause-settles
returns-in_err-is_shut-clause-settles g c = (done-is_shut g c).settles

pub returns-in_err-is_shut-clause-reads : goal.returns-in_err-is_shut-clause-reads
returns-in_err-is_shut-clause-reads g c = (done-is_shut g c).reads

pub returns-in_err-is_shut-clause-few : goal.returns-in_err-is_shut-clause-few
returns-in_err-is_shut-clause-few g c = (done-is_shut g c).few

done-then-branch : (g : Over) (c : goal.Then-branch g)
    → Left g.S.Site.told g.S.Site.disk g.S.Site.tells_reads g.S.Site.bytes_read g.met.S.Site.lawful c.args.set
    c.args.site.now c.is_shut.new.site
done-then-branch g c =
    left_look g.S.Site.told g.S.Site.disk g.S.Site.tells_reads g.S.Site.bytes_read g.met.S.Site.lawful c.args.set
    c.args.site.now c.sync.new.self c.sync.ensures.site.still_told c.sync.ensures.leaves c.sync.ensures.crash
    c.sync.ensures.reads c.in_ok-sync.ensures.durable c.sync.ensures.same c.is_shut.new.site
    c.is_shut.ensures.site.still_told c.is_shut.ensures.stays c.is_shut.ensures.reads c.is_shut.ensures.few

pub returns-then-branch-clause-only : goal.returns-then-branch-clause-only
returns-then-branch-clause-only g c = (done-then-branch g c).only

pub returns-then-branch-clause-crash : goal.returns-then-branch-clause-crash
returns-then-branch-clause-crash g c = (done-then-branch g c).crash

pub returns-then-branch-clause-settles : goal.returns-then-branch-clause-settles
returns-then-branch-clause-settles g c = (done-then-branch g c).settles

pub returns-then-branch-clause-reads : goal.returns-then-branch-clause-reads
returns-then-branch-clause-reads g c = (done-then-branch g c).reads

pub returns-then-branch-clause-few : goal.returns-then-branch-clause-few
returns-then-branch-clause-few g c = (done-then-branch g c).few

-- behind the write
done-write_at : (g : Over) (c : goal.After-from_residual-in_err-write_at g)
    → Left g.S.Site.told g.S.Site.disk g.S.Site.tells_reads g.S.Site.bytes_read g.met.S.Site.lawful c.args.set
    c.args.site.now c.write_at.new.self
done-write_at g c =
    left_write g.S.Site.told g.S.Site.disk g.S.Site.tells_reads g.S.Site.bytes_read g.met.S.Site.lawful c.args.set
    c.args.site.now c.sync.new.self c.sync.ensures.site.still_told c.sync.ensures.leaves c.sync.ensures.crash
    c.sync.ensures.reads c.in_ok-sync.ensures.durable c.sync.ensures.same c.is_shut.new.site
    c.is_shut.ensures.site.still_told c.is_shut.ensures.stays c.is_shut.ensures.reads c.is_shut.ensures.few
    (λ t. c.in_ok-is_shut.ensures.open t c.if-branch.false) c.write_at.new.self c.write_at.ensures.site.still_told
    c.write_at.ensures.leaves c.write_at.ensures.crash c.write_at.ensures.reads

pub returns-in_err-write_at-clause-only : goal.returns-in_err-write_at-clause-only
returns-in_err-write_at-clause-only g c = (done-write_at g c).only

pub returns-in_err-write_at-clause-crash : goal.returns-in_err-write_at-clause-crash
returns-in_err-write_at-clause-crash g c = (done-write_at g c).crash

pub returns-in_err-write_at-clause-settles : goal.returns-in_err-write_at-clause-settles
returns-in_err-write_at-clause-settles g c = (done-write_at g c).settles

pub returns-in_err-write_at-clause-reads : goal.returns-in_err-write_at-clause-reads
returns-in_err-write_at-clause-reads g c = (done-write_at g c).reads

pub returns-in_err-write_at-clause-few : goal.returns-in_err-write_at-clause-few
returns-in_err-write_at-clause-few g c = (done-write_at g c).few

-- behind the second sync
done-sync-2 : (g : Over) (c : goal.After-from_residual-in_err-sync-2 g)
    → Left g.S.Site.told g.S.Site.disk g.S.Site.tells_reads g.S.Site.bytes_read g.met.S.Site.lawful c.args.set
    c.args.site.now c.sync-2.new.self
done-sync-2 g c =
    left_all g.S.Site.told g.S.Site.disk g.S.Site.tells_reads g.S.Site.bytes_read g.met.S.Site.lawful c.args.set
    c.args.site.now c.sync.new.self c.sync.ensures.site.still_told c.sync.ensures.leaves c.sync.ensures.crash
    c.sync.ensures.reads c.in_ok-sync.ensures.durable c.sync.ensures.same c.is_shut.new.site
    c.is_shut.ensures.site.still_told c.is_shut.ensures.stays c.is_shut.ensures.reads c.is_shut.ensures.few
    (λ t. c.in_ok-is_shut.ensures.open t c.if-branch.false) c.write_at.new.self c.write_at.ensures.site.still_told
    c.write_at.ensures.leaves c.write_at.ensures.crash c.write_at.ensures.reads c.sync-2.new.self
    c.sync-2.ensures.site.still_told c.sync-2.ensures.leaves c.sync-2.ensures.crash c.sync-2.ensures.reads

pub returns-in_err-sync-2-clause-only : goal.returns-in_err-sync-2-clause-only
returns-in_err-sync-2-clause-only g c = (done-sync-2 g c).only

pub returns-in_err-sync-2-clause-crash : goal.returns-in_err-sync-2-clause-crash
returns-in_err-sync-2-clause-crash g c = (done-sync-2 g c).crash

pub returns-in_err-sync-2-clause-settles : goal.returns-in_err-sync-2-clause-settles
returns-in_err-sync-2-clause-settles g c = (done-sync-2 g c).settles

pub returns-in_err-sync-2-clause-reads : goal.returns-in_err-sync-2-clause-reads
returns-in_err-sync-2-clause-reads g c = (done-sync-2 g c).reads

pub returns-in_err-sync-2-clause-few : goal.returns-in_err-sync-2-clause-few
returns-in_err-sync-2-clause-few g c = (done-sync-2 g c).few

done-ok : (g : Over) (c : goal.In_ok-sync-2 g)
    → Left g.S.Site.told g.S.Site.disk g.S.Site.tells_reads g.S.Site.bytes_read g.met.S.Site.lawful c.args.set
    c.args.site.now c.sync-2.new.self
done-ok g c =
    left_all g.S.Site.told g.S.Site.disk g.S.Site.tells_reads g.S.Site.bytes_read g.met.S.Site.lawful c.args.set
    c.args.site.now c.sync.new.self c.sync.ensures.site.still_told c.sync.ensures.leaves c.sync.ensures.crash
    c.sync.ensures.reads c.in_ok-sync.ensures.durable c.sync.ensures.same c.is_shut.new.site
    c.is_shut.ensures.site.still_told c.is_shut.ensures.stays c.is_shut.ensures.reads c.is_shut.ensures.few
    (λ t. c.in_ok-is_shut.ensures.open t c.if-branch.false) c.write_at.new.self c.write_at.ensures.site.still_told
    c.write_at.ensures.leaves c.write_at.ensures.crash c.write_at.ensures.reads c.sync-2.new.self
    c.sync-2.ensures.site.still_told c.sync-2.ensures.leaves c.sync-2.ensures.crash c.sync-2.ensures.reads

pub returns-clause-only : goal.returns-clause-only
returns-clause-only g c = (done-ok g c).only

pub returns-clause-crash : goal.returns-clause-crash
returns-clause-crash g c = (done-ok g c).crash

pub returns-clause-settles : goal.returns-clause-settles
returns-clause-settles g c = (done-ok g c).settles

pub returns-clause-reads : goal.returns-clause-reads
returns-clause-reads g c = (done-ok g c).reads

pub returns-clause-few : goal.returns-clause-few
returns-clause-few g c = (done-ok g c).few

-- ---- the gate is shut, and what stands behind it stays

pub returns-then-branch-clause-shut : goal.returns-then-branch-clause-shut
returns-then-branch-clause-shut g c t =
    let t1 = c.sync.ensures.site.still_told t in
    let law = g.met.S.Site.lawful c.args.site.now t in
    let law1 = g.met.S.Site.lawful c.sync.new.self t1 in
    let t2 = c.is_shut.ensures.site.still_told t1 in
    let law2 = g.met.S.Site.lawful c.is_shut.new.site t2 in
    shut_already c.args.set _ _ law law1 (c.sync.ensures.leaves t) (c.sync.ensures.crash t) _ law2
    (c.is_shut.ensures.stays t1) (c.in_ok-sync.ensures.durable t) (c.sync.ensures.same t)
    (c.in_ok-is_shut.ensures.shut t1 c.if-branch.true)

pub returns-then-branch-clause-rest : goal.returns-then-branch-clause-rest
returns-then-branch-clause-rest g c t =
    let t1 = c.sync.ensures.site.still_told t in
    ap (λ f. drop 1 (f c.args.set)) (c.is_shut.ensures.stays t1).contents ∙ ap (drop 1) (c.sync.ensures.same t)

-- the gate was written over what the first sync left
wrote_is : (g : Over) (c : goal.In_ok-sync-2 g) (t : g.S.Site.told c.args.site.now)
    → (g.S.Site.disk c.sync-2.new.self).contents c.args.set
    ≡ written ((g.S.Site.disk c.args.site.now).contents c.args.set) 0 (0 ∷ [])
wrote_is g c t =
    let t1 = c.sync.ensures.site.still_told t in
    let t2 = c.is_shut.ensures.site.still_told t1 in
    let t3 = c.write_at.ensures.site.still_told t2 in
    c.sync-2.ensures.same t3 ∙ c.in_ok-write_at.ensures.wrote t2
    ∙ ap (λ f. written (f c.args.set) 0 (0 ∷ [])) (c.is_shut.ensures.stays t1).contents
    ∙ ap (λ l. written l 0 (0 ∷ [])) (c.sync.ensures.same t)

pub returns-clause-shut : goal.returns-clause-shut
returns-clause-shut g c t =
    let t1 = c.sync.ensures.site.still_told t in
    let t2 = c.is_shut.ensures.site.still_told t1 in
    let t3 = c.write_at.ensures.site.still_told t2 in
    shut_now c.args.set _ _ (c.in_ok-sync-2.ensures.durable t3) (wrote_is g c t)

pub returns-clause-rest : goal.returns-clause-rest
returns-clause-rest g c t = rest_now c.args.set ((g.S.Site.disk c.args.site.now).contents c.args.set)
    (g.S.Site.disk c.sync-2.new.self) (wrote_is g c t)

-- ---- the faults and what stays

pub returns-in_err-sync-clause-shut : goal.returns-in_err-sync-clause-shut
returns-in_err-sync-clause-shut g c t = IfOk-from_err c.from_residual.result _ c.from_residual.ensures.0

pub returns-in_err-sync-clause-rest : goal.returns-in_err-sync-clause-rest
returns-in_err-sync-clause-rest g c t = IfOk-from_err c.from_residual.result _ c.from_residual.ensures.0

pub returns-in_err-sync-clause-cause : goal.returns-in_err-sync-clause-cause
returns-in_err-sync-clause-cause g c = let cause = c.in_err-sync.ensures.cause in
    counts_err c.from_residual.result _ _ _ c.from_residual.ensures.0 (omega arith) cause.later cause.rose

pub returns-in_err-sync-clause-site : goal.returns-in_err-sync-clause-site
returns-in_err-sync-clause-site g c = c.sync.ensures.site

pub returns-in_err-is_shut-clause-shut : goal.returns-in_err-is_shut-clause-shut
returns-in_err-is_shut-clause-shut g c t =
    IfOk-from_err c.from_residual-in_err-is_shut.result _ c.from_residual-in_err-is_shut.ensures.0

pub returns-in_err-is_shut-clause-rest : goal.returns-in_err-is_shut-clause-rest
returns-in_err-is_shut-clause-rest g c t =
    IfOk-from_err c.from_residual-in_err-is_shut.result _ c.from_residual-in_err-is_shut.ensures.0

pub returns-in_err-is_shut-clause-cause : goal.returns-in_err-is_shut-clause-cause
returns-in_err-is_shut-clause-cause g c =
    let cause = c.in_err-is_shut.ensures.cause in
    counts_err c.from_residual-in_err-is_shut.result _ _ _ c.from_residual-in_err-is_shut.ensures.0
    (omega (arith, c.in_ok-sync.ensures.cause.stayed)) cause.later cause.rose

pub returns-in_err-is_shut-clause-site : goal.returns-in_err-is_shut-clause-site
returns-in_err-is_shut-clause-site g c = continued_both _ _ _ _ _ _ _ c.sync.ensures.site c.is_shut.ensures.site

pub returns-then-branch-clause-cause : goal.returns-then-branch-clause-cause
returns-then-branch-clause-cause g c =
    counts_ok _ _ _ _ c.in_ok-sync.ensures.cause.stayed c.in_ok-is_shut.ensures.cause.stayed

pub returns-then-branch-clause-site : goal.returns-then-branch-clause-site
returns-then-branch-clause-site g c = continued_both _ _ _ _ _ _ _ c.sync.ensures.site c.is_shut.ensures.site

pub returns-in_err-write_at-clause-shut : goal.returns-in_err-write_at-clause-shut
returns-in_err-write_at-clause-shut g c t =
    IfOk-from_err c.from_residual-in_err-write_at.result _ c.from_residual-in_err-write_at.ensures.0

pub returns-in_err-write_at-clause-rest : goal.returns-in_err-write_at-clause-rest
returns-in_err-write_at-clause-rest g c t =
    IfOk-from_err c.from_residual-in_err-write_at.result _ c.from_residual-in_err-write_at.ensures.0

pub returns-in_err-write_at-clause-cause : goal.returns-in_err-write_at-clause-cause
returns-in_err-write_at-clause-cause g c =
    let cause = c.in_err-write_at.ensures.cause in
    counts_err c.from_residual-in_err-write_at.result _ _ _ c.from_residual-in_err-write_at.ensures.0
    (omega (arith, c.in_ok-is_shut.ensures.cause.stayed ∙ c.in_ok-sync.ensures.cause.stayed)) cause.later cause.rose

pub returns-in_err-write_at-clause-site : goal.returns-in_err-write_at-clause-site
returns-in_err-write_at-clause-site g c = continued_both _ _ _ _ _ _ _
    (continued_both _ _ _ _ _ _ _ c.sync.ensures.site c.is_shut.ensures.site) c.write_at.ensures.site

pub returns-in_err-sync-2-clause-shut : goal.returns-in_err-sync-2-clause-shut
returns-in_err-sync-2-clause-shut g c t =
    IfOk-from_err c.from_residual-in_err-sync-2.result _ c.from_residual-in_err-sync-2.ensures.0

pub returns-in_err-sync-2-clause-rest : goal.returns-in_err-sync-2-clause-rest
returns-in_err-sync-2-clause-rest g c t =
    IfOk-from_err c.from_residual-in_err-sync-2.result _ c.from_residual-in_err-sync-2.ensures.0

pub returns-in_err-sync-2-clause-cause : goal.returns-in_err-sync-2-clause-cause
returns-in_err-sync-2-clause-cause g c =
    let cause = c.in_err-sync-2.ensures.cause in
    counts_err c.from_residual-in_err-sync-2.result _ _ _ c.from_residual-in_err-sync-2.ensures.0
    (omega (
      arith,
      c.in_ok-write_at.ensures.cause.stayed ∙ c.in_ok-is_shut.ensures.cause.stayed
          ∙ c.in_ok-sync.ensures.cause.stayed,
    )) cause.later cause.rose

pub returns-in_err-sync-2-clause-site : goal.returns-in_err-sync-2-clause-site
returns-in_err-sync-2-clause-site g c = continued_both _ _ _ _ _ _ _ (continued_both _ _ _ _ _ _ _
    (continued_both _ _ _ _ _ _ _ c.sync.ensures.site c.is_shut.ensures.site) c.write_at.ensures.site)
    c.sync-2.ensures.site

pub returns-clause-cause : goal.returns-clause-cause
returns-clause-cause g c = counts_ok _ _ _ _ (c.in_ok-write_at.ensures.cause.stayed
    ∙ c.in_ok-is_shut.ensures.cause.stayed ∙ c.in_ok-sync.ensures.cause.stayed) c.in_ok-sync-2.ensures.cause.stayed

pub returns-clause-site : goal.returns-clause-site
returns-clause-site g c = continued_both _ _ _ _ _ _ _ (continued_both _ _ _ _ _ _ _
    (continued_both _ _ _ _ _ _ _ c.sync.ensures.site c.is_shut.ensures.site) c.write_at.ensures.site)
    c.sync-2.ensures.site
