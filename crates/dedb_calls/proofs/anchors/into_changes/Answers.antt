use Rattle.std.proofs.Common.{◌∙◌, ◌++◌, ◌∷◌, [], sym, ap}
use Rattle.dedb_calls.specs.Anchors.{change_of}
use Rattle.dedb_calls.proofs.AnchorLemmas.{more_behind, none_behind_it}
use Rattle.dedb_calls.proofs.anchors.into_changes.Goals as goal

pub loop-one-preserved : goal.loop-one-preserved
loop-one-preserved c =
    c.loop-one.invariant ∙ sym (none_behind_it c.loop-one.yielded c.in-Some.one c.if-one.false)

pub loop-one-preserved-in-Continue-1 : goal.loop-one-preserved-in-Continue-1
loop-one-preserved-in-Continue-1 c =
    c.in_ok-push.ensures.ok ∙ ap (λ list. list ++ change_of c.in-Some.one ∷ []) c.loop-one.invariant
    ∙ sym (more_behind c.loop-one.yielded c.in-Some.one c.if-one.true)
