use Rattle.std.proofs.Common.{◌≡◌, ◌∙◌, ap, subst, List, ◌∷◌, None}
use Rattle.std.specs.Prelude.{reverse}
use Rattle.txn_lang.specs.declared.standing.Frame.{Frame}
use Rattle.txn_lang.specs.inside.Building.{AreFrames, HasShape}
use Rattle.txn_lang.proofs.BlockLemmas.{shape_close, reverse_push}
use Rattle.txn_lang.proofs.standing.Builder.close.Goals as goal

pub returns-in_ok-block-in-Some-clause-built : goal.returns-in_ok-block-in-Some-clause-built
returns-in_ok-block-in-Some-clause-built c = λ said built.
    let popped : reverse c.args.self.frames ≡ c.in-Some.frame ∷ reverse c.pop.new.self =
    ap reverse c.in-Some.ensures ∙ reverse_push c.pop.new.self c.in-Some.frame in
    let shown = λ (none : c.args.self.left_open ≡ None). subst
    (λ (fs : List Frame). HasShape c.args.self.begun c.args.self.scripts fs c.args.self.block.statements said)
    popped (built.shape none) in
    record {
      costs = built.costs;
      block = c.in_ok-block-in-Some.ensures.costed;
      frames = (subst AreFrames popped built.frames).2;
      shape = λ none. rw c.in_ok-block-in-Some.ensures.statements
          (shape_close c.args.self.begun c.args.self.scripts (reverse c.pop.new.self) c.in-Some.frame
          c.args.self.block.statements said c.requires.begun (shown none));
    }
