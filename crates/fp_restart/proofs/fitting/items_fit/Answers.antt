use Rattle.std.proofs.Common.{◌≡◌, List, [], ◌∷◌, ◌++◌, take, ◌+◌, sym, ap, subst, ◌∙◌, true, false, take-append-drop}
use Rattle.std.specs.Prelude.{drop}
use Rattle.std.proofs.lemmas.List.{take_more}
use Rattle.std.specs.List.{AllByRecursion}
use Rattle.fp_model.specs.declared.log.Item.{Item}
use Rattle.fp_model.specs.Items.{IsFit}
use Rattle.fp_restart.specs.inside.Begun.{Judges}
use Rattle.fp_restart.proofs.Firsts.{judges-none, judges-on}
use Rattle.fp_restart.proofs.fitting.items_fit.Goals as goal
use Rattle.plain_laws.proofs.Alls.{all_append}

pub returns-then-not-branch-clause-judged : goal.returns-then-not-branch-clause-judged
returns-then-not-branch-clause-judged c =
    let defs = c.args.defs.now in
    let items = c.args.items.now in
    let so_far = take c.loop-item.item-index items in
    let more : take (c.loop-item.item-index + 1) items ≡ so_far ++ c.item-item.result ∷ [] =
    take_more items c.loop-item.item-index c.item-item.result c.loop-item-test.true
    ∙ ap (λ (x : Item). so_far ++ x ∷ []) (sym c.item-item.is) in
    let here : Judges defs c.loop-item.begun c.follows.new.begun (c.item-item.result ∷ []) false =
    subst (Judges defs c.loop-item.begun c.follows.new.begun (c.item-item.result ∷ [])) c.if-not-branch.true
    c.in_ok-follows.ensures.judged in
    let to_here = judges-on defs c.args.begun.now c.loop-item.begun c.follows.new.begun so_far (c.item-item.result ∷ [])
    false c.loop-item.invariant.judged here in
    subst (λ (xs : List Item). Judges defs c.args.begun.now c.follows.new.begun xs false)
    (ap (λ (xs : List Item). xs ++ drop (c.loop-item.item-index + 1) items) (sym more)
    ∙ take-append-drop (c.loop-item.item-index + 1) items)
    (judges-none defs c.args.begun.now c.follows.new.begun (so_far ++ c.item-item.result ∷ [])
    (drop (c.loop-item.item-index + 1) items) to_here)

pub loop-item-preserved : goal.loop-item-preserved
loop-item-preserved c =
    let defs = c.args.defs.now in
    let items = c.args.items.now in
    let so_far = take c.loop-item.item-index items in
    let more : take (c.loop-item.item-index + 1) items ≡ so_far ++ c.item-item.result ∷ [] =
    take_more items c.loop-item.item-index c.item-item.result c.loop-item-test.true
    ∙ ap (λ (x : Item). so_far ++ x ∷ []) (sym c.item-item.is) in
    let here : Judges defs c.loop-item.begun c.follows.new.begun (c.item-item.result ∷ []) true =
    subst (Judges defs c.loop-item.begun c.follows.new.begun (c.item-item.result ∷ [])) c.if-not-branch.false
    c.in_ok-follows.ensures.judged in
    record {
      judged = subst (λ (xs : List Item). Judges defs c.args.begun.now c.follows.new.begun xs true) (sym more)
          (judges-on defs c.args.begun.now c.loop-item.begun c.follows.new.begun so_far (c.item-item.result ∷ []) true
          c.loop-item.invariant.judged here);
      each = subst (AllByRecursion (IsFit defs)) (sym more)
          (all_append (IsFit defs) so_far (c.item-item.result ∷ []) c.loop-item.invariant.each
          (c.in_ok-follows.ensures.each c.if-not-branch.false, tt));
    }
