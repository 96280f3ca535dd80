use Rattle.std.proofs.Common.{◌≡◌, ◌+◌, ◌*◌, length, take}
use Rattle.ci_space.specs.Interval.{Keeps}
use Rattle.anchor_elements.specs.Elements.{pointers_from}
use Rattle.anchor_elements.proofs.spelling.put_pointers.Given as goal

abbrev pub invariant-loop-pointer : goal.invariant-loop-pointer
invariant-loop-pointer l = record {
  place : l.at ≡ l.from + 10 * l.pointer-index;
  so_far : pointers_from l.content l.from l.pointer-index ≡ take l.pointer-index l.pointers;
  below : Keeps l.initial.content l.content 0 l.from;
  above : Keeps l.initial.content l.content l.at (length l.content);
}
