use Rattle.std.proofs.Common.{◌≡◌, drop}
use Rattle.past_segments.specs.Times.{segments_at}
use Rattle.past_segments.proofs.past.first_at.Given as goal

abbrev pub invariant-loop-slot : goal.invariant-loop-slot
invariant-loop-slot l = segments_at l.place l.slots ≡ segments_at l.place (drop l.slot-index l.slots)
