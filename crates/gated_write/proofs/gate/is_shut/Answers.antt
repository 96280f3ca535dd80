use Rattle.std.proofs.Common.{refl, sym, ap, inl, inr, ◌∙◌, arith}
use Rattle.std.proofs.lemmas.Result.{IfOk-from_err}
use Rattle.fp_lists.proofs.ContinuedLemmas.{continued_both}
use Rattle.fp_lists.proofs.FaultLemmas.{counts_err, counts_ok}
use Rattle.fp_site.proofs.Runs.{stays_then}
use Rattle.gated_write.proofs.Shutting.{looked_closed, looked_open}
use Rattle.gated_write.proofs.gate.is_shut.Goals as goal

-- ---- the length isn't told

pub returns-in_err-size-clause-shut : goal.returns-in_err-size-clause-shut
returns-in_err-size-clause-shut g c t = IfOk-from_err c.from_residual.result _ c.from_residual.ensures.0

pub returns-in_err-size-clause-open : goal.returns-in_err-size-clause-open
returns-in_err-size-clause-open g c t = IfOk-from_err c.from_residual.result _ c.from_residual.ensures.0

pub returns-in_err-size-clause-cause : goal.returns-in_err-size-clause-cause
returns-in_err-size-clause-cause g c = let cause = c.in_err-size.ensures.cause in
    counts_err c.from_residual.result _ _ _ c.from_residual.ensures.0 (omega arith) cause.later cause.rose

pub returns-in_err-size-clause-stays : goal.returns-in_err-size-clause-stays
returns-in_err-size-clause-stays g c = c.size.ensures.stays

pub returns-in_err-size-clause-reads : goal.returns-in_err-size-clause-reads
returns-in_err-size-clause-reads g c k t = let r = c.size.ensures.reads k t in (r.0, λ other. r.1)

pub returns-in_err-size-clause-few : goal.returns-in_err-size-clause-few
returns-in_err-size-clause-few g c t = omega (arith, (c.size.ensures.reads c.args.set t).1)

pub returns-in_err-size-clause-site : goal.returns-in_err-size-clause-site
returns-in_err-size-clause-site g c = c.size.ensures.site

-- ---- no byte

pub returns-then-branch-eq0-clause-cause : goal.returns-then-branch-eq0-clause-cause
returns-then-branch-eq0-clause-cause g c = counts_ok _ _ _ _ refl c.in_ok-size.ensures.cause.stayed

pub returns-then-branch-eq0-clause-stays : goal.returns-then-branch-eq0-clause-stays
returns-then-branch-eq0-clause-stays g c = c.size.ensures.stays

pub returns-then-branch-eq0-clause-reads : goal.returns-then-branch-eq0-clause-reads
returns-then-branch-eq0-clause-reads g c k t = let r = c.size.ensures.reads k t in (r.0, λ other. r.1)

pub returns-then-branch-eq0-clause-few : goal.returns-then-branch-eq0-clause-few
returns-then-branch-eq0-clause-few g c t = omega (arith, (c.size.ensures.reads c.args.set t).1)

pub returns-then-branch-eq0-clause-site : goal.returns-then-branch-eq0-clause-site
returns-then-branch-eq0-clause-site g c = c.size.ensures.site

-- ---- the gate can't be read

pub returns-in_err-read_at-clause-shut : goal.returns-in_err-read_at-clause-shut
returns-in_err-read_at-clause-shut g c t =
    IfOk-from_err c.from_residual-in_err-read_at.result _ c.from_residual-in_err-read_at.ensures.0

pub returns-in_err-read_at-clause-open : goal.returns-in_err-read_at-clause-open
returns-in_err-read_at-clause-open g c t =
    IfOk-from_err c.from_residual-in_err-read_at.result _ c.from_residual-in_err-read_at.ensures.0

pub returns-in_err-read_at-clause-cause : goal.returns-in_err-read_at-clause-cause
returns-in_err-read_at-clause-cause g c =
    let cause = c.in_err-read_at.ensures.cause in
    counts_err c.from_residual-in_err-read_at.result _ _ _ c.from_residual-in_err-read_at.ensures.0
    (omega (arith, c.in_ok-size.ensures.cause.stayed)) cause.later cause.rose

pub returns-in_err-read_at-clause-stays : goal.returns-in_err-read_at-clause-stays
returns-in_err-read_at-clause-stays g c t =
    let t1 = c.size.ensures.site.still_told t in
    stays_then _ _ _ (g.met.S.Site.lawful c.args.site.now t) (g.met.S.Site.lawful c.size.new.self t1)
    (c.size.ensures.stays t) (c.read_at.ensures.stays t1)

pub returns-in_err-read_at-clause-reads : goal.returns-in_err-read_at-clause-reads
returns-in_err-read_at-clause-reads g c k t =
    let first = c.size.ensures.reads k (c.read_at.ensures.reads k t) in
    (first.0, λ other. c.read_at.ensures.others k other t ∙ first.1)

pub returns-in_err-read_at-clause-few : goal.returns-in_err-read_at-clause-few
returns-in_err-read_at-clause-few g c t =
    omega (arith, c.read_at.ensures.at_most t, (c.size.ensures.reads c.args.set (c.read_at.ensures.reads _ t)).1)

pub returns-in_err-read_at-clause-site : goal.returns-in_err-read_at-clause-site
returns-in_err-read_at-clause-site g c = continued_both _ _ _ _ _ _ _ c.size.ensures.site c.read_at.ensures.site

-- ---- the gate

pub returns-clause-cause : goal.returns-clause-cause
returns-clause-cause g c = counts_ok _ _ _ _ c.in_ok-size.ensures.cause.stayed c.in_ok-read_at.ensures.cause.stayed

pub returns-clause-stays : goal.returns-clause-stays
returns-clause-stays g c t =
    let t1 = c.size.ensures.site.still_told t in
    stays_then _ _ _ (g.met.S.Site.lawful c.args.site.now t) (g.met.S.Site.lawful c.size.new.self t1)
    (c.size.ensures.stays t) (c.read_at.ensures.stays t1)

pub returns-clause-reads : goal.returns-clause-reads
returns-clause-reads g c k t =
    let first = c.size.ensures.reads k (c.read_at.ensures.reads k t) in
    (first.0, λ other. c.read_at.ensures.others k other t ∙ first.1)

pub returns-clause-few : goal.returns-clause-few
returns-clause-few g c t =
    omega (arith, c.read_at.ensures.at_most t, (c.size.ensures.reads c.args.set (c.read_at.ensures.reads _ t)).1)

pub returns-clause-site : goal.returns-clause-site
returns-clause-site g c = continued_both _ _ _ _ _ _ _ c.size.ensures.site c.read_at.ensures.site

pub returns-clause-shut : goal.returns-clause-shut
returns-clause-shut g c t not_one =
    looked_closed _ _ _ _ (c.in_ok-size.ensures.value t) c.if-branch-eq0.false
    (ap (λ f. f c.args.set) (c.size.ensures.stays t).contents)
    (c.in_ok-read_at.ensures.value (c.size.ensures.site.still_told t)) not_one

pub returns-clause-open : goal.returns-clause-open
returns-clause-open g c t one =
    inr (looked_open _ _ _ (ap (λ f. f c.args.set) (c.size.ensures.stays t).contents)
    (c.in_ok-read_at.ensures.value (c.size.ensures.site.still_told t)) one)

pub returns-then-branch-eq0-clause-shut : goal.returns-then-branch-eq0-clause-shut
returns-then-branch-eq0-clause-shut g c t shut = absurd cc

pub returns-then-branch-eq0-clause-open : goal.returns-then-branch-eq0-clause-open
returns-then-branch-eq0-clause-open g c t one = inl (sym (c.in_ok-size.ensures.value t) ∙ c.if-branch-eq0.true)
