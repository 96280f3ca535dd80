use Rattle.std.proofs.Common.{◌≡◌, ◌∙◌, ap, subst, refl, List, ◌∷◌, [], ◌++◌, map, None}
use Rattle.std.specs.Prelude.{reverse, IsSome}
use Rattle.txn_lang.specs.declared.standing.Frame.{Frame}
use Rattle.txn_lang.specs.Blocks.{else_in}
use Rattle.txn_lang.specs.inside.Building.{AreFrames, HasShape, open_of, turned}
use Rattle.txn_lang.proofs.BlockLemmas.{shape_turn, reverse_push, choice_in, turned_opening}
use Rattle.txn_lang.proofs.standing.Builder.turn.Goals as goal

pub returns-in_ok-push-in-Some-clause-built : goal.returns-in_ok-push-in-Some-clause-built
returns-in_ok-push-in-Some-clause-built c = λ said built.
    let old : Frame = c.in-Some.field-0 in
    let frame : Frame = record old { opening = turned old.opening c.args.self.block } in
    let popped : reverse c.args.self.frames ≡ old ∷ reverse c.pop.new.self =
    ap reverse c.in-Some.ensures ∙ reverse_push c.pop.new.self old in
    let grown : c.push.new.self ≡ c.pop.new.self ++ frame ∷ [] =
    rw c.turned.ensures at c.in_ok-push-in-Some.ensures.ok in
    let pushed : reverse c.push.new.self ≡ frame ∷ reverse c.pop.new.self =
    ap reverse grown ∙ reverse_push c.pop.new.self frame in
    let is = choice_in old (map open_of (reverse c.pop.new.self))
    (subst (λ (fs : List Frame). IsSome (else_in (map open_of fs))) popped c.requires.choice) in
    let kept = subst AreFrames popped built.frames in
    let shown = λ (none : c.args.self.left_open ≡ None). subst
    (λ (fs : List Frame). HasShape c.args.self.begun c.args.self.scripts fs c.args.self.block.statements said)
    popped (built.shape none) in
    record {
      costs = built.costs;
      block = rw (c.new-block.ensures.empty, c.new-block.ensures.free) refl;
      frames = rw pushed (turned_opening old.opening c.args.self.block is built.block, kept.1, kept.2);
      shape = λ none. rw (pushed, c.new-block.ensures.empty)
          (shape_turn c.args.self.begun c.args.self.scripts (reverse c.pop.new.self) old c.args.self.block said
          c.requires.begun is (shown none));
    }
