use Rattle.std.proofs.Common.{◌∙◌, List, ap}
use Rattle.msdb_store.specs.Touches.{Touch}
use Rattle.msdb_store.specs.inside.Touches.{bytes_at}
use Rattle.msdb_store.proofs.Stagings.{look_entries}
use Rattle.msdb_store.proofs.staging.Staging.look.Goals as goal

pub returns : goal.returns
returns c =
    c.get.ensures.value
    ∙ look_entries (λ k. k.msdb) (λ k. k.key.items) c.self.inside.segments.entries c.args.key.now
    ∙ ap (λ (ts : List Touch). bytes_at ts c.args.key.now.msdb c.args.key.now.key.items) c.self.view_is
