use Rattle.std.proofs.Common.{◌≡◌, ◌∙◌, ap, refl, List, ◌∷◌, arith}
use Rattle.fp_model.specs.Operands.{ShownSegment}
use Rattle.txn_machine.specs.Knowing.{segment_on, segments_from}
use Rattle.txn_machine.proofs.ShownLemmas.{segments_push}
use Rattle.txn_machine.proofs.shown.Gets.make_place.Goals as goal

pub loop-self-preserved : goal.loop-self-preserved
loop-self-preserved c = record {
  same = ap (λ places. segment_on c.loop-self.self.db c.loop-self.self.newest ∷ segments_from 0 places)
      (c.in_ok-push.ensures.ok)
      ∙ ap (λ (rest : List ShownSegment). segment_on c.loop-self.self.db c.loop-self.self.newest ∷ rest)
      (segments_push 0 c.loop-self.self.older) ∙ c.loop-self.invariant.same;
  db = c.loop-self.invariant.db;
}
