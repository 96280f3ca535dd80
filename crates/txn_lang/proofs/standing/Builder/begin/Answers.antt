use Rattle.std.proofs.Common.{◌≡◌, ◌∙◌, sym, subst, refl, List, None}
use Rattle.std.specs.Prelude.{reverse, is_some}
use Rattle.txn_lang.specs.declared.standing.Frame.{Frame}
use Rattle.txn_lang.specs.inside.Building.{HasShape}
use Rattle.txn_lang.proofs.BlockLemmas.{shape_begin, nothing_open}
use Rattle.txn_lang.proofs.standing.Builder.begin.Goals as goal

pub returns-clause-built : goal.returns-clause-built
returns-clause-built c = λ said built.
    let shown = λ (none : c.unclosed-left_open.result ≡ None).
    let closed = nothing_open c.args.self.left_open (reverse c.args.self.frames) (is_some c.args.self.begun)
    (sym c.unclosed-left_open.ensures ∙ none) in
    subst (λ (fs : List Frame). HasShape c.args.self.begun c.args.self.scripts fs c.args.self.block.statements said)
    closed.1 (built.shape closed.0) in
    record {
      costs = c.in_ok-scripts.ensures.costs built.costs;
      block = rw (c.new.ensures.empty, c.new.ensures.free) refl;
      frames = rw c.new-2.ensures tt;
      shape = λ none. rw (c.in_ok-scripts.ensures.scripts, c.new-2.ensures, c.new.ensures.empty)
          (shape_begin c.args.name c.args.self.begun c.args.self.scripts c.args.self.block.statements said
          (shown none));
    }
