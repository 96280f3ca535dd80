use Rattle.std.proofs.Common.{◌≡◌, Err, ap, sym, subst, arith, rules}
use Rattle.std.proofs.lemmas.Result.{IfOk-from_err, err_from_is_err_and}
use Rattle.fp_lists.proofs.ContinuedLemmas.{continued_both}
use Rattle.fp_site.proofs.Runs.{stays_then}
use Rattle.log_format.specs.Faults.{Spells, IsFirstBad}
use Rattle.log_groups.specs.Reads.{HasGroup}
use Rattle.log_groups.specs.inside.Reads.{HasBody}
use Rattle.log_groups.specs.declared.fault.LogFault.TheVariants.{Damaged, Foreign}
use Rattle.log_groups.proofs.BodyReads.{group_long, group_read, body_is_damage, damaged_place}
use Rattle.log_groups.proofs.Errs.{failed_is, failed_not_damaged, failed_not_foreign, is_never, rose_then, stayed_then, log_reads_both}
use Rattle.log_groups.proofs.group.read_group.Goals as goal

pub returns-in-Ok-clause-some : goal.returns-in-Ok-clause-some
returns-in-Ok-clause-some g c t =
    let bytes = (g.S.Site.disk c.args.site.now).contents 0 in
    let t1 = c.is_open.ensures.site.still_told t in
    let same = ap (λ f. f 0) (c.is_open.ensures.stays t).contents in
    let one = c.in_ok-is_open.ensures.open t c.if-not-branch.false in
    let has : HasBody ((g.S.Site.disk c.is_open.new.site).contents 0) c.args.at c.in-Some.body.items =
    rw c.in-Some.is at (c.in_ok-body.ensures.found t1) in
    let spells : Spells c.deref.result.now c.in-Ok.entries = c.in-Ok.ensures.found in
    group_read bytes c.args.at c.in-Some.body.items c.in-Ok.entries _ one
    (subst (λ l. HasBody l c.args.at c.in-Some.body.items) same has)
    (subst (λ l. Spells l c.in-Ok.entries) c.deref.ensures.value spells) (search rules)

pub returns-clause-damaged : goal.returns-clause-damaged
returns-clause-damaged g c place t is =
    let bytes = (g.S.Site.disk c.args.site.now).contents 0 in
    let t1 = c.is_open.ensures.site.still_told t in
    let same = ap (λ f. f 0) (c.is_open.ensures.stays t).contents in
    let one = c.in_ok-is_open.ensures.open t c.if-not-branch.false in
    let has : HasBody ((g.S.Site.disk c.is_open.new.site).contents 0) c.args.at c.in-Some.body.items =
    rw c.in-Some.is at (c.in_ok-body.ensures.found t1) in
    let bad : IsFirstBad c.deref.result.now c.in-Err-BadEntry.field-0-0 =
    rw c.in-Err-BadEntry.field-0-is at c.in-Err-BadEntry.ensures.cause in (
      search (rules, damaged_place),
      body_is_damage bytes c.args.at c.in-Some.body.items _ one
          (subst (λ l. HasBody l c.args.at c.in-Some.body.items) same has)
          (subst (λ l. IsFirstBad l c.in-Err-BadEntry.field-0-0) c.deref.ensures.value bad),
    )

-- ---- whether the gate is open can't be read

pub returns-in_err-is_open-clause-some : goal.returns-in_err-is_open-clause-some
returns-in_err-is_open-clause-some g c t = IfOk-from_err c.from_residual.result _ c.from_residual.ensures.0

pub returns-in_err-is_open-clause-none : goal.returns-in_err-is_open-clause-none
returns-in_err-is_open-clause-none g c t = IfOk-from_err c.from_residual.result _ c.from_residual.ensures.0

pub returns-in_err-is_open-clause-damaged : goal.returns-in_err-is_open-clause-damaged
returns-in_err-is_open-clause-damaged g c place t is = absurd (failed_not_damaged c.from_residual.result place c.from_residual.ensures.1 is)

pub returns-in_err-is_open-clause-cause : goal.returns-in_err-is_open-clause-cause
returns-in_err-is_open-clause-cause g c is = c.in_err-is_open.ensures.cause.rose

pub returns-in_err-is_open-clause-stayed : goal.returns-in_err-is_open-clause-stayed
returns-in_err-is_open-clause-stayed g c other = absurd (other (failed_is c.from_residual.result c.from_residual.ensures.1))

pub returns-in_err-is_open-clause-never : goal.returns-in_err-is_open-clause-never
returns-in_err-is_open-clause-never g c is = failed_not_foreign c.from_residual.result c.from_residual.ensures.1 is

pub returns-in_err-is_open-clause-count : goal.returns-in_err-is_open-clause-count
returns-in_err-is_open-clause-count g c t = IfOk-from_err c.from_residual.result _ c.from_residual.ensures.0

pub returns-in_err-is_open-clause-looked : goal.returns-in_err-is_open-clause-looked
returns-in_err-is_open-clause-looked g c t = IfOk-from_err c.from_residual.result _ c.from_residual.ensures.0

pub returns-in_err-is_open-clause-most : goal.returns-in_err-is_open-clause-most
returns-in_err-is_open-clause-most g c entries next t has told =
    let long = group_long ((g.S.Site.disk c.args.site.now).contents 0) c.args.at entries next has in
    let few = c.is_open.ensures.most told in
    omega arith

pub returns-in_err-is_open-clause-one : goal.returns-in_err-is_open-clause-one
returns-in_err-is_open-clause-one g c t other told = c.is_open.ensures.most told

pub returns-in_err-is_open-clause-stays : goal.returns-in_err-is_open-clause-stays
returns-in_err-is_open-clause-stays g c = c.is_open.ensures.stays

pub returns-in_err-is_open-clause-reads : goal.returns-in_err-is_open-clause-reads
returns-in_err-is_open-clause-reads g c = c.is_open.ensures.reads

pub returns-in_err-is_open-clause-site : goal.returns-in_err-is_open-clause-site
returns-in_err-is_open-clause-site g c = c.is_open.ensures.site

-- ---- the body can't be read

pub returns-in_err-body-clause-some : goal.returns-in_err-body-clause-some
returns-in_err-body-clause-some g c t = IfOk-from_err c.from_residual-in_err-body.result _ c.from_residual-in_err-body.ensures.0

pub returns-in_err-body-clause-none : goal.returns-in_err-body-clause-none
returns-in_err-body-clause-none g c t = IfOk-from_err c.from_residual-in_err-body.result _ c.from_residual-in_err-body.ensures.0

pub returns-in_err-body-clause-damaged : goal.returns-in_err-body-clause-damaged
returns-in_err-body-clause-damaged g c place t is =
    let p = err_from_is_err_and c.from_residual-in_err-body.result c.from_residual-in_err-body.ensures.1 in
    let same : c.from_residual-in_err-body.result ≡ Err c.in_err-body.field-0.0 = cc (p.1, p.2) in
    absurd (is_never c.from_residual-in_err-body.result c.in_err-body.field-0.0 same (Damaged place)
    (c.in_err-body.ensures.never.1 place) is)

pub returns-in_err-body-clause-cause : goal.returns-in_err-body-clause-cause
returns-in_err-body-clause-cause g c =
    let p = err_from_is_err_and c.from_residual-in_err-body.result c.from_residual-in_err-body.ensures.1 in
    let same : c.from_residual-in_err-body.result ≡ Err c.in_err-body.field-0.0 = cc (p.1, p.2) in
    rose_then c.from_residual-in_err-body.result c.in_err-body.field-0.0 same _ _ _ (omega (arith, c.in_ok-is_open.ensures.cause.stayed))
    c.in_err-body.ensures.cause

pub returns-in_err-body-clause-stayed : goal.returns-in_err-body-clause-stayed
returns-in_err-body-clause-stayed g c =
    let p = err_from_is_err_and c.from_residual-in_err-body.result c.from_residual-in_err-body.ensures.1 in
    let same : c.from_residual-in_err-body.result ≡ Err c.in_err-body.field-0.0 = cc (p.1, p.2) in
    stayed_then c.from_residual-in_err-body.result c.in_err-body.field-0.0 same _ _ _ c.in_ok-is_open.ensures.cause.stayed
    c.in_err-body.ensures.stayed

pub returns-in_err-body-clause-never : goal.returns-in_err-body-clause-never
returns-in_err-body-clause-never g c =
    let p = err_from_is_err_and c.from_residual-in_err-body.result c.from_residual-in_err-body.ensures.1 in
    let same : c.from_residual-in_err-body.result ≡ Err c.in_err-body.field-0.0 = cc (p.1, p.2) in
    is_never c.from_residual-in_err-body.result c.in_err-body.field-0.0 same Foreign c.in_err-body.ensures.never.0

pub returns-in_err-body-clause-count : goal.returns-in_err-body-clause-count
returns-in_err-body-clause-count g c t = IfOk-from_err c.from_residual-in_err-body.result _ c.from_residual-in_err-body.ensures.0

pub returns-in_err-body-clause-looked : goal.returns-in_err-body-clause-looked
returns-in_err-body-clause-looked g c t = IfOk-from_err c.from_residual-in_err-body.result _ c.from_residual-in_err-body.ensures.0

pub returns-in_err-body-clause-one : goal.returns-in_err-body-clause-one
returns-in_err-body-clause-one g c t other told = absurd (other (c.in_ok-is_open.ensures.open t c.if-not-branch.false))

pub returns-in_err-body-clause-stays : goal.returns-in_err-body-clause-stays
returns-in_err-body-clause-stays g c t =
    let t1 = c.is_open.ensures.site.still_told t in
    stays_then _ _ _ (g.met.S.Site.lawful c.args.site.now t) (g.met.S.Site.lawful c.is_open.new.site t1)
    (c.is_open.ensures.stays t) (c.body_at.ensures.stays t1)

pub returns-in_err-body-clause-reads : goal.returns-in_err-body-clause-reads
returns-in_err-body-clause-reads g c = log_reads_both _ _ _ _ _ _ c.is_open.ensures.reads c.body_at.ensures.reads

pub returns-in_err-body-clause-site : goal.returns-in_err-body-clause-site
returns-in_err-body-clause-site g c = continued_both _ _ _ _ _ _ _ c.is_open.ensures.site c.body_at.ensures.site

pub returns-in_err-body-clause-most : goal.returns-in_err-body-clause-most
returns-in_err-body-clause-most g c entries next t has told =
    let same = ap (λ f. f 0) (c.is_open.ensures.stays t).contents in
    let few = c.body_at.ensures.most entries next (c.is_open.ensures.site.still_told t)
    (subst (λ l. HasGroup l c.args.at entries next) (sym same) has) told in
    omega (arith, few, c.is_open.ensures.most (c.body_at.ensures.reads 0 told).0)

-- ---- there is no such body

pub returns-in_default-clause-one : goal.returns-in_default-clause-one
returns-in_default-clause-one g c t other told = absurd (other (c.in_ok-is_open.ensures.open t c.if-not-branch.false))

pub returns-in_default-clause-stays : goal.returns-in_default-clause-stays
returns-in_default-clause-stays g c t =
    let t1 = c.is_open.ensures.site.still_told t in
    stays_then _ _ _ (g.met.S.Site.lawful c.args.site.now t) (g.met.S.Site.lawful c.is_open.new.site t1)
    (c.is_open.ensures.stays t) (c.body_at.ensures.stays t1)

pub returns-in_default-clause-reads : goal.returns-in_default-clause-reads
returns-in_default-clause-reads g c = log_reads_both _ _ _ _ _ _ c.is_open.ensures.reads c.body_at.ensures.reads

pub returns-in_default-clause-site : goal.returns-in_default-clause-site
returns-in_default-clause-site g c = continued_both _ _ _ _ _ _ _ c.is_open.ensures.site c.body_at.ensures.site

pub returns-in_default-clause-most : goal.returns-in_default-clause-most
returns-in_default-clause-most g c entries next t has told =
    let same = ap (λ f. f 0) (c.is_open.ensures.stays t).contents in
    let few = c.body_at.ensures.most entries next (c.is_open.ensures.site.still_told t)
    (subst (λ l. HasGroup l c.args.at entries next) (sym same) has) told in
    omega (arith, few, c.is_open.ensures.most (c.body_at.ensures.reads 0 told).0)

-- ---- it is entries

pub returns-in-Ok-clause-one : goal.returns-in-Ok-clause-one
returns-in-Ok-clause-one g c t other told = absurd (other (c.in_ok-is_open.ensures.open t c.if-not-branch.false))

pub returns-in-Ok-clause-stays : goal.returns-in-Ok-clause-stays
returns-in-Ok-clause-stays g c t =
    let t1 = c.is_open.ensures.site.still_told t in
    stays_then _ _ _ (g.met.S.Site.lawful c.args.site.now t) (g.met.S.Site.lawful c.is_open.new.site t1)
    (c.is_open.ensures.stays t) (c.body_at.ensures.stays t1)

pub returns-in-Ok-clause-reads : goal.returns-in-Ok-clause-reads
returns-in-Ok-clause-reads g c = log_reads_both _ _ _ _ _ _ c.is_open.ensures.reads c.body_at.ensures.reads

pub returns-in-Ok-clause-site : goal.returns-in-Ok-clause-site
returns-in-Ok-clause-site g c = continued_both _ _ _ _ _ _ _ c.is_open.ensures.site c.body_at.ensures.site

pub returns-in-Ok-clause-most : goal.returns-in-Ok-clause-most
returns-in-Ok-clause-most g c entries next t has told =
    let same = ap (λ f. f 0) (c.is_open.ensures.stays t).contents in
    let few = c.body_at.ensures.most entries next (c.is_open.ensures.site.still_told t)
    (subst (λ l. HasGroup l c.args.at entries next) (sym same) has) told in
    omega (arith, few, c.is_open.ensures.most (c.body_at.ensures.reads 0 told).0)

-- ---- there is no memory

pub returns-in-Err-Memory-clause-one : goal.returns-in-Err-Memory-clause-one
returns-in-Err-Memory-clause-one g c t other told = absurd (other (c.in_ok-is_open.ensures.open t c.if-not-branch.false))

pub returns-in-Err-Memory-clause-stays : goal.returns-in-Err-Memory-clause-stays
returns-in-Err-Memory-clause-stays g c t =
    let t1 = c.is_open.ensures.site.still_told t in
    stays_then _ _ _ (g.met.S.Site.lawful c.args.site.now t) (g.met.S.Site.lawful c.is_open.new.site t1)
    (c.is_open.ensures.stays t) (c.body_at.ensures.stays t1)

pub returns-in-Err-Memory-clause-reads : goal.returns-in-Err-Memory-clause-reads
returns-in-Err-Memory-clause-reads g c = log_reads_both _ _ _ _ _ _ c.is_open.ensures.reads c.body_at.ensures.reads

pub returns-in-Err-Memory-clause-site : goal.returns-in-Err-Memory-clause-site
returns-in-Err-Memory-clause-site g c = continued_both _ _ _ _ _ _ _ c.is_open.ensures.site c.body_at.ensures.site

pub returns-in-Err-Memory-clause-most : goal.returns-in-Err-Memory-clause-most
returns-in-Err-Memory-clause-most g c entries next t has told =
    let same = ap (λ f. f 0) (c.is_open.ensures.stays t).contents in
    let few = c.body_at.ensures.most entries next (c.is_open.ensures.site.still_told t)
    (subst (λ l. HasGroup l c.args.at entries next) (sym same) has) told in
    omega (arith, few, c.is_open.ensures.most (c.body_at.ensures.reads 0 told).0)

-- ---- it is no entries

pub returns-clause-one : goal.returns-clause-one
returns-clause-one g c t other told = absurd (other (c.in_ok-is_open.ensures.open t c.if-not-branch.false))

pub returns-clause-stays : goal.returns-clause-stays
returns-clause-stays g c t =
    let t1 = c.is_open.ensures.site.still_told t in
    stays_then _ _ _ (g.met.S.Site.lawful c.args.site.now t) (g.met.S.Site.lawful c.is_open.new.site t1)
    (c.is_open.ensures.stays t) (c.body_at.ensures.stays t1)

pub returns-clause-reads : goal.returns-clause-reads
returns-clause-reads g c = log_reads_both _ _ _ _ _ _ c.is_open.ensures.reads c.body_at.ensures.reads

pub returns-clause-site : goal.returns-clause-site
returns-clause-site g c = continued_both _ _ _ _ _ _ _ c.is_open.ensures.site c.body_at.ensures.site

pub returns-clause-most : goal.returns-clause-most
returns-clause-most g c entries next t has told =
    let same = ap (λ f. f 0) (c.is_open.ensures.stays t).contents in
    let few = c.body_at.ensures.most entries next (c.is_open.ensures.site.still_told t)
    (subst (λ l. HasGroup l c.args.at entries next) (sym same) has) told in
    omega (arith, few, c.is_open.ensures.most (c.body_at.ensures.reads 0 told).0)
