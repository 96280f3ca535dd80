use Rattle.std.proofs.Common.{subst, ◌∙◌, ap, length}
use Rattle.ci_space.specs.Interval.{IsInterval}
use Rattle.area_staging.proofs.Data.{sized_newest}
use Rattle.area_staging.proofs.looking.interval_at.Goals as goal

pub returns-clause-bad_bytes : goal.returns-clause-bad_bytes
returns-clause-bad_bytes g c told clean sizes n is =
    let bytes = c.in_ok-bytes.ensures.newest told clean sizes in
    let long = ap length bytes ∙ sized_newest c.args.set c.args.size c.args.pool.now
    (g.T.Site.disk c.args.site.now).contents c.args.ci sizes in
    subst (λ b. ¬ IsInterval b) bytes (c.interval_of.ensures.bad_bytes n is long)
