use Rattle.area_redo.proofs.Staged.{begins_since_mark, grow_by_images, imaged_longer}
use Rattle.area_redo.proofs.items_over_bytes.staged_items_make_an_entry.Goals as goal

pub returns : goal.returns
returns c = record { begins = begins_since_mark; grows = grow_by_images; images = imaged_longer }
