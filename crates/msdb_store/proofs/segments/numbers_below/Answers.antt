use Rattle.std.proofs.Common.{◌∙◌, ◌∷◌, ◌++◌, [], ap, sym}
use Rattle.msdb_store.proofs.Slots.{up_push}
use Rattle.msdb_store.proofs.segments.numbers_below.Goals as goal

pub loop-number-preserved : goal.loop-number-preserved
loop-number-preserved c = c.in_ok-push.ensures.items ∙ ap (λ ns. ns ++ c.loop-number.number ∷ [])
    c.loop-number.invariant ∙ sym (up_push c.loop-number.number)
