use Rattle.log_groups.proofs.Sealing.{moved_buffered}
use Rattle.log_groups.proofs.log.Log.compact.Goals as goal

pub invariant_of-self : goal.invariant_of-self
invariant_of-self c = let f = c.self.inside in let m = c.move_down.ensures in
    moved_buffered f.buffer c.move_down.new.buffer f.start f.waiting f.sealed f.gate f.spare c.self.invariant m.text
    m.shorter m.capacity
