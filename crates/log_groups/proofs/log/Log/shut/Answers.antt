use Rattle.log_groups.proofs.Shutting.{shut_kept}
use Rattle.log_groups.proofs.log.Log.shut.Goals as goal

pub returns-clause-kept : goal.returns-clause-kept
returns-clause-kept g c t durable = shut_kept _ _ (g.met.T.Site.lawful c.args.site.now t) durable
    (c.shut.ensures.only t) (c.shut.ensures.crash t)
