use Rattle.fp_site.proofs.Runs.{weaker}
use Rattle.gated_write.proofs.Bodies.{on_ok}
use Rattle.log_groups.proofs.Shutting.{no_front, shut_is}
use Rattle.log_groups.proofs.making.shut.Goals as goal

pub returns-clause-shut : goal.returns-clause-shut
returns-clause-shut g c t = on_ok c.shut.result (c.shut.ensures.shut t) (shut_is (g.S.Site.disk c.shut.new.site))

pub returns-clause-crash : goal.returns-clause-crash
returns-clause-crash g c t =
    let start = g.S.Site.disk c.args.site.now in
    weaker _ _ start _ (λ s p. no_front start (s.images 0) p) (c.shut.ensures.crash t)

pub returns-clause-settles : goal.returns-clause-settles
returns-clause-settles g c image t settles =
    no_front (g.S.Site.disk c.args.site.now) image (c.shut.ensures.settles image t settles)
