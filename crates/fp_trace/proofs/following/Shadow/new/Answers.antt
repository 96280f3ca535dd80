-- Before any entry nobody sits.
use Rattle.fp_trace.proofs.Idle.{all_seats}
use Rattle.fp_trace.proofs.following.Shadow.new.Goals as goal

pub returns : goal.returns
returns c = record {
  setup = c.requires;
  store = c.in_ok-start.ensures.of;
  locks = c.in_ok-new.ensures.regions;
  seats = c.in_ok-idle_seats.ensures.count;
  each = all_seats c.args.defs.now c.args.scripts.now.scripts c.in_ok-idle_seats.field-0 c.in_ok-idle_seats.ensures.idle;
}
