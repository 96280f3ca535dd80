use Rattle.std.proofs.Common.{◌∙◌}
use Rattle.area_staging.proofs.Flags.{item_flagged, noted_more}
use Rattle.area_staging.proofs.imaging.note_all.Goals as goal

pub note_item-requires : goal.note_item-requires
note_item-requires c =
    item_flagged c.loop-item.imaged.items c.args.items.now c.loop-item.item-index c.item-item.result
    c.loop-item-test.true c.item-item.is c.loop-item.invariant.room

pub loop-item-preserved : goal.loop-item-preserved
loop-item-preserved c =
    let it = c.loop-item.invariant in
    record {
      noted = noted_more c.args.items.now c.loop-item.item-index c.item-item.result c.args.imaged.now.items
          c.loop-item.imaged.items c.note_item.new.imaged.items c.loop-item-test.true c.item-item.is it.noted
          c.note_item.ensures.noted;
      room = c.note_item.ensures.room c.args.items.now it.room;
      count = c.note_item.ensures.count ∙ it.count;
    }
