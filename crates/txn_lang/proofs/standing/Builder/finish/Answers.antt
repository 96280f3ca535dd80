use Rattle.std.proofs.Common.{◌∙◌, sym, subst, refl, List}
use Rattle.std.specs.Prelude.{reverse, is_some}
use Rattle.txn_lang.specs.declared.standing.Frame.{Frame}
use Rattle.txn_lang.specs.inside.Building.{HasShape}
use Rattle.txn_lang.proofs.BlockLemmas.{shape_scripts, nothing_open}
use Rattle.txn_lang.proofs.standing.Builder.finish.Goals as goal

pub returns-in_ok-with_last-in-None-clause-ok : goal.returns-in_ok-with_last-in-None-clause-ok
returns-in_ok-with_last-in-None-clause-ok c =
    let none = sym c.unclosed.ensures ∙ c.in-None.is in
    let closed = nothing_open c.args.self.left_open (reverse c.args.self.frames) (is_some c.args.self.begun) none in
    record {
      closed = none;
      shape = λ said built. rw (c.in_ok-with_last-in-None.ensures.scripts)
          (shape_scripts c.args.self.begun c.args.self.scripts c.args.self.block.statements said
          (subst (λ (fs : List Frame). HasShape c.args.self.begun c.args.self.scripts fs c.args.self.block.statements
          said) closed.1 (built.shape closed.0)));
      costed = λ said built. c.in_ok-with_last-in-None.ensures.costs built.costs;
    }

pub returns-in-Some-clause-err : goal.returns-in-Some-clause-err
returns-in-Some-clause-err c = (c.in-Some.number, sym c.unclosed.ensures ∙ c.in-Some.is, refl)
