use Rattle.std.proofs.Common.{◌≡◌, ◌∙◌, ◌++◌, ◌∷◌, ◌+◌, [], List, drop, get_or, append_assoc, sym, ap, arith}
use Rattle.std.proofs.lemmas.List.{append-nil, drop_all}
use Rattle.anchor_elements.specs.declared.element.First.{First}
use Rattle.anchor_elements.specs.Elements.{Pointer}
use Rattle.anchor_elements.specs.Reading.{pointers_of}
use Rattle.root_anchor.proofs.WalkSteps.{left_first}
use Rattle.root_anchor.proofs.newest.pointers_of.Goals as goal

pub loop-first-preserved : goal.loop-first-preserved
loop-first-preserved c =
    let firsts : List First = c.args.firsts.now in
    let k = c.loop-first.first-index in
    let none : First = record { segment = 0; at = (0, 0) } in
    let first : First = get_or firsts k none in
    let items : List Pointer = c.loop-first.pointers.items in
    let left : drop k firsts ≡ first ∷ drop (k + 1) firsts = left_first firsts k none c.loop-first-test.true in
    ap (λ (xs : List Pointer). xs ++ pointers_of (drop (k + 1) firsts)) c.in_ok-push.ensures.items
    ∙ append_assoc items (first.at ∷ []) (pointers_of (drop (k + 1) firsts))
    ∙ ap (λ (xs : List First). items ++ pointers_of xs) (sym left)
    ∙ c.loop-first.invariant

pub returns : goal.returns
returns c =
    let firsts : List First = c.args.firsts.now in
    let items : List Pointer = c.loop-first.pointers.items in
    sym (append-nil items)
    ∙ ap (λ (xs : List First). items ++ pointers_of xs) (sym (drop_all c.loop-first.first-index firsts (omega arith)))
    ∙ c.loop-first.invariant
