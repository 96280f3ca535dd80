-- Seats in which nobody sits.
use Rattle.std.proofs.Common.{◌≡◌, List, [], ◌∷◌, sym, subst}
use Rattle.std.specs.List.{AllByRecursion}
use Rattle.fp_model.specs.declared.definitions.Defs.{Defs}
use Rattle.fp_model.specs.declared.scripts.Script.{Script}
use Rattle.fp_trace.specs.Followed.{IsSeat}
use Rattle.fp_trace.specs.declared.following.Seat.{Seat}
use Rattle.fp_trace.specs.declared.following.Seat.TheVariants as seat

pub all_seats : (defs : Defs) (scripts : List Script) (seats : List Seat)
    → AllByRecursion (λ one. one ≡ seat.Idle) seats → AllByRecursion (IsSeat defs scripts) seats
all_seats defs scripts [] idle = tt
all_seats defs scripts (one ∷ seats) idle =
    (subst (IsSeat defs scripts) (sym idle.0) tt, all_seats defs scripts seats idle.1)
