use Rattle.std.proofs.Common.{◌≡◌, length}
use Rattle.std.specs.List.{AllByRecursion}
use Rattle.fp_trace.specs.declared.following.Seat.TheVariants as seat
use Rattle.fp_trace.proofs.following.idle_seats.Given as goal

abbrev pub invariant-loop : goal.invariant-loop
invariant-loop l = record {
  count : length l.seats ≡ l.counter;
  idle : AllByRecursion (λ one. one ≡ seat.Idle) l.seats;
}
