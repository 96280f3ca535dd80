use Rattle.std.proofs.Common.{◌∙◌, ap, map}
use Rattle.msdb_store.specs.inside.Touches.{put_touch}
use Rattle.msdb_store.proofs.Stagings.{put_entries, touch_of}
use Rattle.msdb_store.proofs.staging.Staging.put.Goals as goal

pub returns : goal.returns
returns c =
    ap (map (touch_of (λ k. k.msdb) (λ k. k.key.items))) c.in_ok-insert.ensures.entries
    ∙ put_entries (λ k. k.msdb) (λ k. k.key.items) c.self.inside.segments.entries c.args.key c.args.bytes
    ∙ ap (put_touch (record { number = c.args.key.msdb; key = c.args.key.key.items; bytes = c.args.bytes }))
    c.self.view_is
