use Rattle.dedb_area.proofs.Syncs.{syncs_none, syncs_one}
use Rattle.dedb_area.proofs.syncing.sync_one.Goals as goal

pub returns-then-needed-clause-syncs : goal.returns-then-needed-clause-syncs
returns-then-needed-clause-syncs g c told =
    syncs_one c.args.set _ _ c.requires (g.met.T.Site.lawful c.args.site.now told)
    (g.met.T.Site.lawful c.sync.new.self (c.sync.ensures.site.still_told told)) (c.sync.ensures.crash told)
    (c.sync.ensures.leaves told) (c.sync.ensures.same told)

pub returns-else-needed-clause-syncs : goal.returns-else-needed-clause-syncs
returns-else-needed-clause-syncs g c told = syncs_none _ (g.met.T.Site.lawful c.args.site.now told)
