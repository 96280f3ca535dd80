use Rattle.std.proofs.Common.{◌≡◌, ◌+◌, ◌*◌, ◌&&◌, ◌++◌, not, drop, length}
use Rattle.fp_model.specs.Order.{is_child_of, numbers_from, child_types}
use Rattle.anchor_elements.specs.Elements.{pointers_from}
use Rattle.anchor_elements.specs.Reading.{types_of, pointers_of}
use Rattle.anchor_elements.proofs.element.firsts_at.Given as goal

abbrev pub invariant-loop-child : goal.invariant-loop-child
invariant-loop-child l = record {
  typed : types_of l.firsts.items ++ numbers_from l.child (λ def. is_child_of l.parent def && not def.sequential)
      (drop l.child l.segments) ≡ child_types l.segments l.parent;
  pointers : pointers_of l.firsts.items ≡ pointers_from l.content l.start (length l.firsts.items);
  place : l.place ≡ l.start + 10 * length l.firsts.items;
}
