use Rattle.fp_model.proofs.FrameLemmas.{turn_keeps, turn_adds}
use Rattle.fp_model.proofs.laws.a_turn_keeps.Goals as goal

pub returns-clause-keeps : goal.returns-clause-keeps
returns-clause-keeps c = turn_keeps

pub returns-clause-adds : goal.returns-clause-adds
returns-clause-adds c = turn_adds
