use Rattle.log_groups.specs.Images.{as_front}
use Rattle.log_groups.proofs.Shutting.{made_kept}
use Rattle.log_groups.proofs.log.Log.make.Goals as goal

pub returns-clause-kept : goal.returns-clause-kept
returns-clause-kept g c t durable = made_kept (as_front c.args.front.now) _ _ (g.met.T.Site.lawful c.args.site.now t)
    durable (c.make.ensures.only t) (c.make.ensures.crash t)
