use Rattle.std.proofs.Common.{length, ap, ◌∙◌, refl, arith}
use Rattle.std.proofs.lemmas.List.{length-append}
use Rattle.anchor_elements.proofs.ReadLemmas.{numbers_more, numbers_less, pointers_pushed}
use Rattle.anchor_elements.proofs.element.firsts_at.Goals as goal
use Rattle.anchor_elements.proofs.element.firsts_at.Goals.{then-is_child_of+in_ok-push, else-is_child_of}

pub loop-child-preserved : goal.loop-child-preserved
loop-child-preserved c = elim c.if-is_child_of.branch [
  | then-is_child_of+in_ok-push w ↦
      (let items = ap (λ v. v.items) w.firsts-is ∙ w.in_ok-push.ensures.items in
      record {
        typed = numbers_more _ _ _ c.index-segments-child.result _ _ _ _ c.loop-child-test.true
            c.index-segments-child.is (cc) items refl c.loop-child.invariant.typed;
        pointers = pointers_pushed c.args.content.now c.args.start _ _ _ items
            (rw (← c.loop-child.invariant.place) w.pointer_at-at.ensures) c.loop-child.invariant.pointers;
        place = omega (
          arith,
          w.place-is,
          c.loop-child.invariant.place,
          ap length items,
          length-append c.loop-child.firsts.items,
        );
      })
  | else-is_child_of w ↦
      (let items = ap (λ v. v.items) w.firsts-is in
      record {
        typed = rw items (numbers_less _ _ _ c.index-segments-child.result _ _ c.loop-child-test.true
            c.index-segments-child.is (cc) c.loop-child.invariant.typed);
        pointers = cc;
        place = cc;
      })
]
