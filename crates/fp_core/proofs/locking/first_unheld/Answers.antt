use Rattle.std.proofs.Common.{sym, ◌∙◌, arith}
use Rattle.ci_locks.specs.Table.{standing}
use Rattle.fp_core.proofs.Lacks.{found_at, none_left, passed_over}
use Rattle.fp_core.proofs.locking.first_unheld.Goals as goal

pub returns-then-not-is_held : goal.returns-then-not-is_held
returns-then-not-is_held c =
    sym (c.loop-resource.invariant
    ∙ found_at ((standing c.args.locks.now).holds c.args.region) c.args.named.now c.loop-resource.resource-index
    c.resource-item.result
    c.loop-resource-test.true c.resource-item.is (sym c.is_held.ensures ∙ c.if-not-is_held.true))

pub loop-resource-preserved : goal.loop-resource-preserved
loop-resource-preserved c =
    c.loop-resource.invariant
    ∙ passed_over ((standing c.args.locks.now).holds c.args.region) c.args.named.now c.loop-resource.resource-index
    c.resource-item.result
    c.loop-resource-test.true c.resource-item.is (sym c.is_held.ensures ∙ c.if-not-is_held.false)

pub returns : goal.returns
returns c =
    sym (c.loop-resource.invariant
    ∙ none_left ((standing c.args.locks.now).holds c.args.region) c.args.named.now c.loop-resource.resource-index
    (omega arith))
