use Rattle.std.proofs.Common.{◌-◌, length}
use Rattle.area_runs.proofs.changes.padded.Given as goal

abbrev pub decreases-loop-text : goal.decreases-loop-text
decreases-loop-text l = l.count - length l.text
