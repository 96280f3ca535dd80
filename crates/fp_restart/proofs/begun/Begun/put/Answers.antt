use Rattle.fp_restart.proofs.Intervals.{put_interval}
use Rattle.fp_restart.proofs.begun.Begun.put.Goals as goal

pub returns : goal.returns
returns c = record {
  ok = put_interval c.args.self.now.intervals c.insert.new.self c.args.set c.args.ci c.in_ok-insert.ensures.updates.0;
}
