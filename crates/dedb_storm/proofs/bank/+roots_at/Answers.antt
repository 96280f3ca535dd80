use Rattle.dedb_storm.proofs.Banks.{kept_behind}
use Rattle.dedb_storm.proofs.bank.+roots_at.Goals as goal

pub returns-else-last-eq0 : goal.returns-else-last-eq0
returns-else-last-eq0 t c dedbs all = c.roots_at.ensures dedbs (kept_behind dedbs _ c.args.kept.now all)
