use Rattle.area_states.proofs.Again.{own_again}
use Rattle.area_states.proofs.roots.kept_root.Goals as goal

pub returns-clause-again : goal.returns-clause-again
returns-clause-again c = λ up number other is own.
    own_again c.args.begin c.serial_for.result c.args.root.now other c.in_ok-seqs.seqs own
    (c.serial_for.ensures.again up number other is own.bytes) c.in_ok-seqs.ensures
