use Rattle.area_redo.proofs.Items.{begins_first}
use Rattle.area_redo.proofs.Changes.{begins_push, begins_not}
use Rattle.area_redo.proofs.items_over_bytes.a_range_follows_an_image.Goals as goal

pub returns : goal.returns
returns c = record {
  goes_on = begins_push;
  not_so = begins_not;
  first = λ items more all set ci. begins_first set ci items more (all set ci);
}
