use Rattle.std.proofs.Common.{◌≡◌, ◌∙◌, ap, refl, ◌∷◌}
use Rattle.std.specs.Prelude.{reverse}
use Rattle.txn_lang.specs.declared.standing.Frame.{Frame}
use Rattle.txn_lang.proofs.BlockLemmas.{shape_open, reverse_push}
use Rattle.txn_lang.proofs.standing.Builder.open.Goals as goal

pub returns-clause-built : goal.returns-clause-built
returns-clause-built c = λ said built.
    let frame : Frame = record { opening = c.args.opening; line = c.args.line; outer = c.args.self.block } in
    let pushed : reverse c.push.new.self ≡ frame ∷ reverse c.args.self.frames =
    ap reverse c.in_ok-push.ensures.ok ∙ reverse_push c.args.self.frames frame in
    record {
      costs = built.costs;
      block = rw (c.new-block.ensures.empty, c.new-block.ensures.free) refl;
      frames = rw pushed (c.requires.opening, built.block, built.frames);
      shape = λ none. rw (pushed, c.new-block.ensures.empty)
          (shape_open c.args.self.begun c.args.self.scripts (reverse c.args.self.frames) frame said c.requires.begun
          c.requires.first (built.shape none));
    }
