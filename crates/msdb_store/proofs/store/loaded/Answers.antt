use Rattle.std.proofs.Common.{◌≡◌, ◌∙◌}
use Rattle.std.proofs.lemmas.Result.{IfOk-weaker}
use Rattle.fp_model.specs.CheckpointText.{IsMsdbOf}
use Rattle.fp_model.specs.State.{loaded}
use Rattle.msdb_store.proofs.Sorting.{sorted_good, sorted_is}
use Rattle.msdb_store.proofs.store.loaded.Goals as goal

sorted : (c : goal.After-new) → c.in_ok-sorted_load.field-0.items ≡ (loaded c.args.def.now).segments
sorted c = sorted_is c.args.def.now c.in_ok-sorted_load.field-0.items c.requires c.in_ok-sorted_load.ensures.same
    c.in_ok-sorted_load.ensures.sorted

pub returns-clause-segments : goal.returns-clause-segments
returns-clause-segments c =
    IfOk-weaker c.new.result (λ t. t.segments.items ≡ c.in_ok-sorted_load.field-0.items)
    (λ t. t.segments.items ≡ (loaded c.args.def.now).segments) (λ t same. same ∙ sorted c) c.new.ensures.segments

pub returns-clause-good : goal.returns-clause-good
returns-clause-good c =
    IfOk-weaker c.new.result (λ t. t.segments.items ≡ c.in_ok-sorted_load.field-0.items)
    (λ t. IsMsdbOf c.args.def.now (record { segments = t.segments.items }))
    (λ t same. sorted_good c.args.def.now t.segments.items c.requires (same ∙ sorted c)) c.new.ensures.segments
