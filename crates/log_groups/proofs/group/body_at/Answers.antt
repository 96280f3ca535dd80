use Rattle.std.proofs.Common.{◌≡◌, Err, ◌+◌, ◌≤◌, length, take, drop, ◌∙◌, ap, arith}
use Rattle.std.proofs.lemmas.Result.{IfOk-from_err, err_from_is_err_and}
use Rattle.fp_lists.proofs.ContinuedLemmas.{continued_both}
use Rattle.fp_site.proofs.Runs.{stays_then}
use Rattle.log_groups.specs.declared.fault.LogFault.TheVariants.{Damaged, Foreign}
use Rattle.log_groups.specs.inside.Reads.{HasLength}
use Rattle.log_groups.proofs.Errs.{failed_is, failed_not_damaged, failed_not_foreign}
use Rattle.log_groups.proofs.Errs.{is_never, log_reads_both, rose_then, stayed_then}
use Rattle.log_groups.proofs.BodyReads.{body_read, group_ends, group_long}
use Rattle.log_groups.proofs.group.body_at.Goals as goal

pub returns-in_ok-body-in-Some-clause-found : goal.returns-in_ok-body-in-Some-clause-found
returns-in_ok-body-in-Some-clause-found g c t =
    let bytes = (g.S.Site.disk c.args.site.now).contents 0 in
    let has : HasLength bytes c.args.at c.in-Some.len = rw c.in-Some.is at (c.in_ok-length_at.ensures.found t) in
    let t1 = c.length_at.ensures.site.still_told t in
    let same = ap (λ f. f 0) (c.length_at.ensures.stays t).contents in
    let inside : c.args.at + 9 + c.in-Some.len ≤ length ((g.S.Site.disk c.length_at.new.site).contents 0) =
    omega (arith, has.inside, ap length same) in
    body_read bytes c.args.at c.in-Some.len c.in_ok-body-in-Some.body.items has c.in_ok-body-in-Some.ensures.long
    (c.in_ok-body-in-Some.ensures.value t1 inside ∙ ap (λ l. take c.in-Some.len (drop (c.args.at + 9) l)) same)

-- ---- what is read at most

pub returns-in_err-length_at-clause-most : goal.returns-in_err-length_at-clause-most
returns-in_err-length_at-clause-most g c entries next t has told =
    let long = group_long ((g.S.Site.disk c.args.site.now).contents 0) c.args.at entries next has in
    let few = c.length_at.ensures.most told in
    omega arith

-- the length and the body are those of the group
pub returns-in_err-body-in-Some-clause-most : goal.returns-in_err-body-in-Some-clause-most
returns-in_err-body-in-Some-clause-most g c entries next t has told =
    let bytes = (g.S.Site.disk c.args.site.now).contents 0 in
    let length_is : HasLength bytes c.args.at c.in-Some.len = rw c.in-Some.is at (c.in_ok-length_at.ensures.found t) in
    let ends = group_ends bytes c.args.at c.in-Some.len entries next length_is has in
    let few = c.length_at.ensures.most (c.bytes_at.ensures.reads 0 told).0 in
    let body = c.bytes_at.ensures.most told in
    omega arith

pub returns-in_ok-body-in-Some-clause-most : goal.returns-in_ok-body-in-Some-clause-most
returns-in_ok-body-in-Some-clause-most g c entries next t has told =
    let bytes = (g.S.Site.disk c.args.site.now).contents 0 in
    let length_is : HasLength bytes c.args.at c.in-Some.len = rw c.in-Some.is at (c.in_ok-length_at.ensures.found t) in
    let ends = group_ends bytes c.args.at c.in-Some.len entries next length_is has in
    let few = c.length_at.ensures.most (c.bytes_at.ensures.reads 0 told).0 in
    let body = c.bytes_at.ensures.most told in
    omega arith

-- ---- the length can't be read

pub returns-in_err-length_at-clause-found : goal.returns-in_err-length_at-clause-found
returns-in_err-length_at-clause-found g c t = IfOk-from_err c.from_residual.result _ c.from_residual.ensures.0

pub returns-in_err-length_at-clause-none : goal.returns-in_err-length_at-clause-none
returns-in_err-length_at-clause-none g c t one = IfOk-from_err c.from_residual.result _ c.from_residual.ensures.0

pub returns-in_err-length_at-clause-within : goal.returns-in_err-length_at-clause-within
returns-in_err-length_at-clause-within g c = IfOk-from_err c.from_residual.result _ c.from_residual.ensures.0

pub returns-in_err-length_at-clause-count : goal.returns-in_err-length_at-clause-count
returns-in_err-length_at-clause-count g c told = IfOk-from_err c.from_residual.result _ c.from_residual.ensures.0

pub returns-in_err-length_at-clause-stays : goal.returns-in_err-length_at-clause-stays
returns-in_err-length_at-clause-stays g c = c.length_at.ensures.stays

pub returns-in_err-length_at-clause-site : goal.returns-in_err-length_at-clause-site
returns-in_err-length_at-clause-site g c = c.length_at.ensures.site

pub returns-in_err-length_at-clause-reads : goal.returns-in_err-length_at-clause-reads
returns-in_err-length_at-clause-reads g c = c.length_at.ensures.reads

pub returns-in_err-length_at-clause-cause : goal.returns-in_err-length_at-clause-cause
returns-in_err-length_at-clause-cause g c is = c.in_err-length_at.ensures.cause.rose

pub returns-in_err-length_at-clause-stayed : goal.returns-in_err-length_at-clause-stayed
returns-in_err-length_at-clause-stayed g c other =
    absurd (other (failed_is c.from_residual.result c.from_residual.ensures.1))

pub returns-in_err-length_at-clause-never : goal.returns-in_err-length_at-clause-never
returns-in_err-length_at-clause-never g c = (
  failed_not_foreign c.from_residual.result c.from_residual.ensures.1,
  λ place. failed_not_damaged c.from_residual.result place c.from_residual.ensures.1,
)

-- ---- the body can't be read

pub returns-in_err-body-in-Some-clause-found : goal.returns-in_err-body-in-Some-clause-found
returns-in_err-body-in-Some-clause-found g c t =
    IfOk-from_err c.from_residual-in_err-body-in-Some.result _ c.from_residual-in_err-body-in-Some.ensures.0

pub returns-in_err-body-in-Some-clause-none : goal.returns-in_err-body-in-Some-clause-none
returns-in_err-body-in-Some-clause-none g c t one =
    IfOk-from_err c.from_residual-in_err-body-in-Some.result _ c.from_residual-in_err-body-in-Some.ensures.0

pub returns-in_err-body-in-Some-clause-within : goal.returns-in_err-body-in-Some-clause-within
returns-in_err-body-in-Some-clause-within g c =
    IfOk-from_err c.from_residual-in_err-body-in-Some.result _ c.from_residual-in_err-body-in-Some.ensures.0

pub returns-in_err-body-in-Some-clause-count : goal.returns-in_err-body-in-Some-clause-count
returns-in_err-body-in-Some-clause-count g c told =
    IfOk-from_err c.from_residual-in_err-body-in-Some.result _ c.from_residual-in_err-body-in-Some.ensures.0

pub returns-in_err-body-in-Some-clause-stays : goal.returns-in_err-body-in-Some-clause-stays
returns-in_err-body-in-Some-clause-stays g c t =
    let t1 = c.length_at.ensures.site.still_told t in
    stays_then _ _ _ (g.met.S.Site.lawful c.args.site.now t) (g.met.S.Site.lawful c.length_at.new.site t1)
    (c.length_at.ensures.stays t) (c.bytes_at.ensures.stays t1)

pub returns-in_err-body-in-Some-clause-site : goal.returns-in_err-body-in-Some-clause-site
returns-in_err-body-in-Some-clause-site g c =
    continued_both _ _ _ _ _ _ _ c.length_at.ensures.site c.bytes_at.ensures.site

pub returns-in_err-body-in-Some-clause-reads : goal.returns-in_err-body-in-Some-clause-reads
returns-in_err-body-in-Some-clause-reads g c =
    log_reads_both _ _ _ _ _ _ c.length_at.ensures.reads c.bytes_at.ensures.reads

pub returns-in_err-body-in-Some-clause-cause : goal.returns-in_err-body-in-Some-clause-cause
returns-in_err-body-in-Some-clause-cause g c =
    let p = err_from_is_err_and c.from_residual-in_err-body-in-Some.result
    c.from_residual-in_err-body-in-Some.ensures.1 in
    let same : c.from_residual-in_err-body-in-Some.result ≡ Err c.in_err-body-in-Some.field-0.0 = cc (p.1, p.2) in
    rose_then c.from_residual-in_err-body-in-Some.result c.in_err-body-in-Some.field-0.0 same _ _ _
    (omega (arith, c.in_ok-length_at.ensures.cause.stayed))
    c.in_err-body-in-Some.ensures.cause

pub returns-in_err-body-in-Some-clause-stayed : goal.returns-in_err-body-in-Some-clause-stayed
returns-in_err-body-in-Some-clause-stayed g c =
    let p = err_from_is_err_and c.from_residual-in_err-body-in-Some.result
    c.from_residual-in_err-body-in-Some.ensures.1 in
    let same : c.from_residual-in_err-body-in-Some.result ≡ Err c.in_err-body-in-Some.field-0.0 = cc (p.1, p.2) in
    stayed_then c.from_residual-in_err-body-in-Some.result c.in_err-body-in-Some.field-0.0 same _ _ _
    c.in_ok-length_at.ensures.cause.stayed
    c.in_err-body-in-Some.ensures.stayed

pub returns-in_err-body-in-Some-clause-never : goal.returns-in_err-body-in-Some-clause-never
returns-in_err-body-in-Some-clause-never g c =
    let p = err_from_is_err_and c.from_residual-in_err-body-in-Some.result
    c.from_residual-in_err-body-in-Some.ensures.1 in
    let same : c.from_residual-in_err-body-in-Some.result ≡ Err c.in_err-body-in-Some.field-0.0 = cc (p.1, p.2) in (
      is_never c.from_residual-in_err-body-in-Some.result c.in_err-body-in-Some.field-0.0 same Foreign
          c.in_err-body-in-Some.ensures.never.0,
      λ place. is_never c.from_residual-in_err-body-in-Some.result c.in_err-body-in-Some.field-0.0 same (Damaged place)
          (c.in_err-body-in-Some.ensures.never.1 place),
    )

-- ---- nothing changes

pub returns-in_ok-body-in-Some-clause-stays : goal.returns-in_ok-body-in-Some-clause-stays
returns-in_ok-body-in-Some-clause-stays g c t =
    let t1 = c.length_at.ensures.site.still_told t in
    stays_then _ _ _ (g.met.S.Site.lawful c.args.site.now t) (g.met.S.Site.lawful c.length_at.new.site t1)
    (c.length_at.ensures.stays t) (c.bytes_at.ensures.stays t1)

pub returns-in_ok-body-in-Some-clause-site : goal.returns-in_ok-body-in-Some-clause-site
returns-in_ok-body-in-Some-clause-site g c =
    continued_both _ _ _ _ _ _ _ c.length_at.ensures.site c.bytes_at.ensures.site

pub returns-in_ok-body-in-Some-clause-reads : goal.returns-in_ok-body-in-Some-clause-reads
returns-in_ok-body-in-Some-clause-reads g c =
    log_reads_both _ _ _ _ _ _ c.length_at.ensures.reads c.bytes_at.ensures.reads
