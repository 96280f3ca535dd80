use Rattle.area_redo.proofs.Finding.{left_whole, left_same, left_counts}
use Rattle.area_redo.proofs.restarts.a_crash_leaves_whole_areas.Goals as goal

pub returns : goal.returns
returns g c = record {
  whole = λ layout way owed bytes n images lawful stands redone.
      left_whole layout way owed bytes _ n images lawful stands redone;
  same = λ layout way owed bytes n images lawful stands redone.
      left_same layout way owed bytes _ n images lawful stands redone;
  counts = λ layout way owed bytes n images lawful stands redone.
      left_counts layout way owed bytes _ n images lawful stands redone;
}
