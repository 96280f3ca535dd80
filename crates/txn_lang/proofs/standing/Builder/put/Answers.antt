use Rattle.std.proofs.Common.{◌∷◌, []}
use Rattle.txn_lang.specs.Blocks.{none, one}
use Rattle.txn_lang.proofs.BlockLemmas.{shape_more}
use Rattle.txn_lang.proofs.standing.Builder.put.Goals as goal

pub returns-clause-built : goal.returns-clause-built
returns-clause-built c = λ said built. record {
  costs = built.costs;
  block = c.in_ok-block.ensures.costed;
  frames = built.frames;
  shape = λ closed. rw (c.in_ok-block.ensures.statements)
      (shape_more c.args.self.begun c.args.self.scripts _ c.args.self.block.statements (c.args.statement ∷ []) said _
      c.requires.begun (built.shape closed) (one c.args.statement none));
}
