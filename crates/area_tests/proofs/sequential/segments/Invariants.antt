use Rattle.std.proofs.Common.{◌≡◌, ◌<◌, All, length}
use Rattle.area_tests.proofs.sequential.segments.Given as goal

abbrev pub invariant-loop-more : goal.invariant-loop-more
invariant-loop-more l = record {
  some : 0 < length l.items;
  whole : All (λ item. length item ≡ 8) l.items;
}
