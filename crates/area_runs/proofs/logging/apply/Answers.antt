use Rattle.area_runs.proofs.BankLemmas.{all_images}
use Rattle.area_runs.proofs.logging.apply.Goals as goal

pub apply-requires-clause-fit : goal.apply-requires-clause-fit
apply-requires-clause-fit c =
    all_images c.args.defs.now c.args.areas.now.places c.requires.bank c.args.items.now c.requires.fit
