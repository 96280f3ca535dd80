use Rattle.std.proofs.Common.{◌≡◌, ◌≤◌, ◌*◌, ◌∙◌, ap, sym, subst, length}
use Rattle.fp_site.specs.Disk.{written}
use Rattle.dedb_area.specs.Formatting.{StartsAs}
use Rattle.dedb_area.proofs.Data.{some_size}
use Rattle.fp_site.proofs.Frames.{only_in_none}
use Rattle.fp_model.specs.State.{first_area_set}
use Rattle.dedb_area.proofs.Formatted.{started_more, aside_torn, torn_areas}
use Rattle.dedb_area.proofs.formatting.write_start.Goals as goal

pub returns-in-Ok-clause-started : goal.returns-in-Ok-clause-started
returns-in-Ok-clause-started g c told were =
    let old = (g.T.Site.disk c.args.site.now).contents c.args.set in
    let new = (g.T.Site.disk c.write_at.new.self).contents c.args.set in
    let bytes = c.whole.result.now in
    let is : new ≡ written old (c.args.ci * c.args.shape.now.ci) bytes =
    c.in-Ok.ensures.wrote told ∙ ap (λ n. written old (c.args.ci * n) bytes) c.from.ensures in
    let starts : StartsAs c.args.shape.now c.args.ci c.in_ok-interval.interval = record {
      control = λ zero. record {
        is_interval = c.whole.ensures.interval;
        is_kind = (c.in_ok-interval.ensures.control zero).0;
        is_size = c.in_ok-interval.ensures.size;
        ends = (c.in_ok-interval.ensures.control zero).1;
      };
      other = c.in_ok-interval.ensures.other;
    } in
    started_more c.args.shape.now c.args.ci old new bytes (some_size c.args.shape.now.ci c.requires.size)
    (ap length c.whole.ensures.bytes ∙ c.in_ok-interval.ensures.size)
    (subst (StartsAs c.args.shape.now c.args.ci) (sym c.whole.ensures.bytes) starts) is were

pub returns-in-Ok-clause-aside : goal.returns-in-Ok-clause-aside
returns-in-Ok-clause-aside g c told k ne was =
    aside_torn c.args.set _ _ k (g.T.Site.disk c.args.site.now) (g.T.Site.disk c.write_at.new.self)
    (g.met.T.Site.lawful c.args.site.now told)
    (g.met.T.Site.lawful c.write_at.new.self (c.write_at.ensures.site.still_told told)) (c.write_at.ensures.crash told)
    (c.write_at.ensures.leaves told) ne was

pub returns-clause-aside : goal.returns-clause-aside
returns-clause-aside g c told k ne was =
    aside_torn c.args.set _ _ k (g.T.Site.disk c.args.site.now) (g.T.Site.disk c.write_at.new.self)
    (g.met.T.Site.lawful c.args.site.now told)
    (g.met.T.Site.lawful c.write_at.new.self (c.write_at.ensures.site.still_told told)) (c.write_at.ensures.crash told)
    (c.write_at.ensures.leaves told) ne was

pub returns-in_err-interval-clause-areas : goal.returns-in_err-interval-clause-areas
returns-in_err-interval-clause-areas g c told =
    only_in_none (λ s. first_area_set ≤ s) (g.T.Site.disk c.args.site.now)

pub returns-in-Ok-clause-areas : goal.returns-in-Ok-clause-areas
returns-in-Ok-clause-areas g c told =
    torn_areas c.args.set _ _ (g.T.Site.disk c.args.site.now) (g.T.Site.disk c.write_at.new.self) c.requires.from
    (c.write_at.ensures.crash told) (c.write_at.ensures.leaves told)

pub returns-clause-areas : goal.returns-clause-areas
returns-clause-areas g c told =
    torn_areas c.args.set _ _ (g.T.Site.disk c.args.site.now) (g.T.Site.disk c.write_at.new.self) c.requires.from
    (c.write_at.ensures.crash told) (c.write_at.ensures.leaves told)
