use Rattle.area_redo.proofs.Items.{redone_none, redone_any}
use Rattle.area_redo.proofs.items_over_bytes.an_interval_stays_or_comes_whole.Goals as goal

pub returns : goal.returns
returns c = record {
  stays = redone_none;
  whole = λ set ci items a b comes. redone_any set ci items a b comes.named comes.image;
}
