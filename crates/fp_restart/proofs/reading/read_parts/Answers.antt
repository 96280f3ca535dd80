use Rattle.std.proofs.Common.{◌≡◌, ap, subst, rules}
use Rattle.fp_model.specs.LogText.{first_gate}
use Rattle.fp_site.proofs.Runs.{stays_then}
use Rattle.fp_restart.specs.Replayed.{IsFirstBadAt}
use Rattle.log_groups.specs.Images.{as_front}
use Rattle.fp_restart.proofs.reading.read_parts.Goals as goal

pub returns-in_err-lasts-clause-damaged : goal.returns-in_err-lasts-clause-damaged
returns-in_err-lasts-clause-damaged g c set at t is =
    let same = ap (λ f. f 0) (c.open.ensures.stays t).contents in
    let bad = c.replay.ensures.damaged set at (c.open.ensures.site.still_told t) (search rules) in
    let gate : c.in_ok-log.log.gate ≡ first_gate (as_front c.args.front.now) =
    ap (λ l. l.gate) c.in_ok-log.ensures.log in (
      bad.0,
      subst (λ n. IsFirstBadAt c.args.defs.now ((g.T.Site.disk c.args.site.now).contents 0) n at) gate
          (subst (λ l. IsFirstBadAt c.args.defs.now l c.in_ok-log.log.gate at) same bad.1),
    )

pub returns-clause-stays : goal.returns-clause-stays
returns-clause-stays g c t =
    let t1 = c.open.ensures.site.still_told t in
    stays_then _ _ _ (g.met.T.Site.lawful c.args.site.now t) (g.met.T.Site.lawful c.open.new.site t1)
    (c.open.ensures.stays t) (c.replay.ensures.stays t1)
