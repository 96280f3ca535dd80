use Rattle.area_redo.proofs.Changes.{range_gives, one_change, no_change}
use Rattle.area_redo.proofs.items_over_bytes.a_range_gives_the_new_interval.Goals as goal

pub returns : goal.returns
returns c = record { range = range_gives; own = one_change; others = no_change }
