use Rattle.std.proofs.Common.{◌≡◌, Err, arith}
use Rattle.std.proofs.lemmas.Result.{IfOk-from_err, err_from_is_err_and}
use Rattle.fp_lists.proofs.ContinuedLemmas.{continued_both}
use Rattle.fp_site.proofs.Runs.{stays_then}
use Rattle.gated_write.proofs.Shutting.{then_reads}
use Rattle.log_groups.specs.declared.fault.LogFault.TheVariants.{Damaged, Foreign}
use Rattle.log_groups.proofs.Errs.{failed_is, failed_not_damaged, failed_not_foreign, is_never, rose_then, stayed_then}
use Rattle.log_groups.proofs.opening.first_bytes.Goals as goal

-- ---- the length isn't told

pub returns-in_err-size-clause-some : goal.returns-in_err-size-clause-some
returns-in_err-size-clause-some g c t = IfOk-from_err c.from_residual.result _ c.from_residual.ensures.0

pub returns-in_err-size-clause-none : goal.returns-in_err-size-clause-none
returns-in_err-size-clause-none g c t = IfOk-from_err c.from_residual.result _ c.from_residual.ensures.0

pub returns-in_err-size-clause-exact : goal.returns-in_err-size-clause-exact
returns-in_err-size-clause-exact g c t = IfOk-from_err c.from_residual.result _ c.from_residual.ensures.0

pub returns-in_err-size-clause-cause : goal.returns-in_err-size-clause-cause
returns-in_err-size-clause-cause g c is = c.in_err-size.ensures.cause.rose

pub returns-in_err-size-clause-stayed : goal.returns-in_err-size-clause-stayed
returns-in_err-size-clause-stayed g c other = absurd (other (failed_is c.from_residual.result c.from_residual.ensures.1))

pub returns-in_err-size-clause-never : goal.returns-in_err-size-clause-never
returns-in_err-size-clause-never g c = (
  λ is. failed_not_foreign c.from_residual.result c.from_residual.ensures.1 is,
  λ place is. failed_not_damaged c.from_residual.result place c.from_residual.ensures.1 is,
)

pub returns-in_err-size-clause-count : goal.returns-in_err-size-clause-count
returns-in_err-size-clause-count g c t = omega (arith, (c.size.ensures.reads 0 t).1)

pub returns-in_err-size-clause-inside : goal.returns-in_err-size-clause-inside
returns-in_err-size-clause-inside g c told t = omega (arith, (c.size.ensures.reads 0 t).1)

pub returns-in_err-size-clause-stays : goal.returns-in_err-size-clause-stays
returns-in_err-size-clause-stays g c = c.size.ensures.stays

pub returns-in_err-size-clause-reads : goal.returns-in_err-size-clause-reads
returns-in_err-size-clause-reads g c k t = let r = c.size.ensures.reads k t in (r.0, λ other. r.1)

pub returns-in_err-size-clause-site : goal.returns-in_err-size-clause-site
returns-in_err-size-clause-site g c = c.size.ensures.site

-- ---- the log is shorter

pub returns-then-branch-len-clause-count : goal.returns-then-branch-len-clause-count
returns-then-branch-len-clause-count g c t = omega (arith, (c.size.ensures.reads 0 t).1)

pub returns-then-branch-len-clause-inside : goal.returns-then-branch-len-clause-inside
returns-then-branch-len-clause-inside g c told t = omega (arith, (c.size.ensures.reads 0 t).1)

pub returns-then-branch-len-clause-stays : goal.returns-then-branch-len-clause-stays
returns-then-branch-len-clause-stays g c = c.size.ensures.stays

pub returns-then-branch-len-clause-reads : goal.returns-then-branch-len-clause-reads
returns-then-branch-len-clause-reads g c k t = let r = c.size.ensures.reads k t in (r.0, λ other. r.1)

pub returns-then-branch-len-clause-site : goal.returns-then-branch-len-clause-site
returns-then-branch-len-clause-site g c = c.size.ensures.site

-- ---- the bytes can't be read

pub returns-in_err-bytes_at-clause-some : goal.returns-in_err-bytes_at-clause-some
returns-in_err-bytes_at-clause-some g c t = IfOk-from_err c.from_residual-in_err-bytes_at.result _ c.from_residual-in_err-bytes_at.ensures.0

pub returns-in_err-bytes_at-clause-none : goal.returns-in_err-bytes_at-clause-none
returns-in_err-bytes_at-clause-none g c t = IfOk-from_err c.from_residual-in_err-bytes_at.result _ c.from_residual-in_err-bytes_at.ensures.0

pub returns-in_err-bytes_at-clause-exact : goal.returns-in_err-bytes_at-clause-exact
returns-in_err-bytes_at-clause-exact g c t = IfOk-from_err c.from_residual-in_err-bytes_at.result _ c.from_residual-in_err-bytes_at.ensures.0

pub returns-in_err-bytes_at-clause-cause : goal.returns-in_err-bytes_at-clause-cause
returns-in_err-bytes_at-clause-cause g c =
    let p = err_from_is_err_and c.from_residual-in_err-bytes_at.result c.from_residual-in_err-bytes_at.ensures.1 in
    let same : c.from_residual-in_err-bytes_at.result ≡ Err c.in_err-bytes_at.field-0.0 = cc (p.1, p.2) in
    rose_then c.from_residual-in_err-bytes_at.result c.in_err-bytes_at.field-0.0 same _ _ _ (omega (arith, c.in_ok-size.ensures.cause.stayed)) c.in_err-bytes_at.ensures.cause

pub returns-in_err-bytes_at-clause-stayed : goal.returns-in_err-bytes_at-clause-stayed
returns-in_err-bytes_at-clause-stayed g c =
    let p = err_from_is_err_and c.from_residual-in_err-bytes_at.result c.from_residual-in_err-bytes_at.ensures.1 in
    let same : c.from_residual-in_err-bytes_at.result ≡ Err c.in_err-bytes_at.field-0.0 = cc (p.1, p.2) in
    stayed_then c.from_residual-in_err-bytes_at.result c.in_err-bytes_at.field-0.0 same _ _ _ c.in_ok-size.ensures.cause.stayed c.in_err-bytes_at.ensures.stayed

pub returns-in_err-bytes_at-clause-never : goal.returns-in_err-bytes_at-clause-never
returns-in_err-bytes_at-clause-never g c =
    let p = err_from_is_err_and c.from_residual-in_err-bytes_at.result c.from_residual-in_err-bytes_at.ensures.1 in
    let same : c.from_residual-in_err-bytes_at.result ≡ Err c.in_err-bytes_at.field-0.0 = cc (p.1, p.2) in (
      λ is. is_never c.from_residual-in_err-bytes_at.result c.in_err-bytes_at.field-0.0 same Foreign c.in_err-bytes_at.ensures.never.0 is,
      λ place is. is_never c.from_residual-in_err-bytes_at.result c.in_err-bytes_at.field-0.0 same (Damaged place) (c.in_err-bytes_at.ensures.never.1 place) is,
    )

pub returns-in_err-bytes_at-clause-count : goal.returns-in_err-bytes_at-clause-count
returns-in_err-bytes_at-clause-count g c t = omega (arith, c.bytes_at.ensures.most t, (c.size.ensures.reads 0 (c.bytes_at.ensures.reads 0 t).0).1)

pub returns-in_err-bytes_at-clause-inside : goal.returns-in_err-bytes_at-clause-inside
returns-in_err-bytes_at-clause-inside g c told t =
    omega (
      arith,
      c.bytes_at.ensures.most t,
      (c.size.ensures.reads 0 (c.bytes_at.ensures.reads 0 t).0).1,
      c.in_ok-size.ensures.value told,
      c.if-branch-len.false,
    )

pub returns-in_err-bytes_at-clause-stays : goal.returns-in_err-bytes_at-clause-stays
returns-in_err-bytes_at-clause-stays g c t =
    let t1 = c.size.ensures.site.still_told t in
    stays_then _ _ _ (g.met.S.Site.lawful c.args.site.now t) (g.met.S.Site.lawful c.size.new.self t1)
    (c.size.ensures.stays t) (c.bytes_at.ensures.stays t1)

pub returns-in_err-bytes_at-clause-reads : goal.returns-in_err-bytes_at-clause-reads
returns-in_err-bytes_at-clause-reads g c = then_reads 0 _ _ _ _ _ _ c.size.ensures.reads c.bytes_at.ensures.reads

pub returns-in_err-bytes_at-clause-site : goal.returns-in_err-bytes_at-clause-site
returns-in_err-bytes_at-clause-site g c = continued_both _ _ _ _ _ _ _ c.size.ensures.site c.bytes_at.ensures.site

-- ---- they are read

pub returns-clause-count : goal.returns-clause-count
returns-clause-count g c t = omega (arith, c.bytes_at.ensures.most t, (c.size.ensures.reads 0 (c.bytes_at.ensures.reads 0 t).0).1)

pub returns-clause-inside : goal.returns-clause-inside
returns-clause-inside g c told t =
    omega (
      arith,
      c.bytes_at.ensures.most t,
      (c.size.ensures.reads 0 (c.bytes_at.ensures.reads 0 t).0).1,
      c.in_ok-size.ensures.value told,
      c.if-branch-len.false,
    )

pub returns-clause-stays : goal.returns-clause-stays
returns-clause-stays g c t =
    let t1 = c.size.ensures.site.still_told t in
    stays_then _ _ _ (g.met.S.Site.lawful c.args.site.now t) (g.met.S.Site.lawful c.size.new.self t1)
    (c.size.ensures.stays t) (c.bytes_at.ensures.stays t1)

pub returns-clause-reads : goal.returns-clause-reads
returns-clause-reads g c = then_reads 0 _ _ _ _ _ _ c.size.ensures.reads c.bytes_at.ensures.reads

pub returns-clause-site : goal.returns-clause-site
returns-clause-site g c = continued_both _ _ _ _ _ _ _ c.size.ensures.site c.bytes_at.ensures.site
