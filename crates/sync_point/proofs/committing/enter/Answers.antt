use Rattle.sync_point.proofs.Segments.{items_short}
use Rattle.sync_point.proofs.committing.enter.Goals as goal

pub publish-requires-clause-fits : goal.publish-requires-clause-fits
publish-requires-clause-fits c =
    let exact = c.in_ok-entry.ensures.entry in
    let of = c.in_ok-items.ensures in
    let staged = c.requires.staged.2 in
    let notes = rw exact at c.in_ok-entry.ensures.few_notes in
    let items = rw (exact, of) at c.in_ok-entry.ensures.few_items in
    rw (exact, of) (record {
      outcome = tt;
      line = c.requires.line;
      reply = c.requires.reply;
      notes = notes;
      items = items;
      each_item = items_short c.requires.staged.0 c.args.staged.items c.requires.staged.3 staged.fit staged.segments;
    })

pub publish_over-requires-clause-fits : goal.publish_over-requires-clause-fits
publish_over-requires-clause-fits c =
    let exact = c.in_ok-entry-2.ensures.entry in
    let of = c.into_items.ensures in
    let staged = c.requires.staged.2 in
    let notes = rw exact at c.in_ok-entry-2.ensures.few_notes in
    let items = rw (exact, of) at c.in_ok-entry-2.ensures.few_items in
    rw (exact, of) (record {
      outcome = tt;
      line = c.requires.line;
      reply = c.requires.reply;
      notes = notes;
      items = items;
      each_item = items_short c.requires.staged.0 c.args.staged.items c.requires.staged.3 staged.fit staged.segments;
    })
