use Rattle.area_redo.proofs.Items.{redone_more, redone_twice}
use Rattle.area_redo.proofs.Entries.{behind_is}
use Rattle.area_redo.proofs.items_over_bytes.items_go_on.Goals as goal

pub returns : goal.returns
returns c = record { more = redone_more; twice = redone_twice; entries = behind_is }
