use Rattle.std.proofs.Common.{◌∙◌, sym}
use Rattle.std.specs.Prelude.{IsTrue}
use Rattle.fp_model.specs.MsdbCalls.{is_put_or_dropped}
use Rattle.fp_model.specs.declared.calls.Resource.TheVariants.{Segment}
use Rattle.msdb_calls.specs.Calls.{key_to_change}
use Rattle.msdb_calls.specs.Progress.{with_progress}
use Rattle.msdb_calls.proofs.database.Database.is_changed.Goals as goal
use Rattle.plain_laws.proofs.Options.{none_passes}

pub returns-then-changes_none : goal.returns-then-changes_none
returns-then-changes_none c own =
    let def = c.args.self.now.def.now in
    let number = c.args.self.now.number in
    let kept = with_progress c.args.work.now own in
    let empty : IsTrue c.changes_none.result = c.if-changes_none.true in
    none_passes (is_put_or_dropped def number kept) (key_to_change def number kept c.args.call.now)
    (λ k. sym (c.requires.changes k) ∙ c.changes_none.ensures empty (Segment number k))
