use Rattle.std.proofs.Common.{◌≡◌, ◌++◌, List, IfSome, length}
use Rattle.ci_space.specs.Calls.{GoesOn}
use Rattle.ci_space.specs.Interval.{kind_of}
use Rattle.fp_model.specs.declared.database.SeqItem.{SeqItem}
use Rattle.seq_dependents.specs.Down.{IsDown}
use Rattle.seq_dependents.specs.inside.Down.{IsRead}
use Rattle.seq_dependents.specs.Slots.{part_of}
use Rattle.seq_dependents.proofs.descending.read_down.Given as goal

-- what follows from the serial on follows the items
abbrev pub invariant-loop-serial : goal.invariant-loop-serial
invariant-loop-serial g l = record {
  goes_on : GoesOn g.I.Intervals.told g.I.Intervals.size g.I.Intervals.faults g.I.Intervals.keeps l.fn.i l.i;
  number : g.I.Intervals.number l.i ≡ g.I.Intervals.number l.fn.i;
  kind : IfSome l.last (λ last. kind_of last.interval ≡ 4);
  size : IfSome l.last (λ last. length last.interval ≡ l.shape.ci);
  read : g.I.Intervals.told l.fn.i → IfSome l.last
      (λ last. IsRead (part_of l.shape l.capacity l.length) (g.I.Intervals.intervals l.fn.i) last.ci last.interval);
  same : g.I.Intervals.told l.fn.i → g.I.Intervals.intervals l.i ≡ g.I.Intervals.intervals l.fn.i;
  follows : g.I.Intervals.told l.fn.i → (rest : List SeqItem)
      → IsDown (part_of l.shape l.capacity l.length) (g.I.Intervals.intervals l.fn.i) l.serial rest
      → IsDown (part_of l.shape l.capacity l.length) (g.I.Intervals.intervals l.fn.i) l.newest (l.items ++ rest);
}

abbrev pub decreases-loop-serial : goal.decreases-loop-serial
decreases-loop-serial g l = l.serial
