use Rattle.std.proofs.Common.{◌∙◌, ◌&&◌, ap, not}
use Rattle.std.specs.List.{list_all}
use Rattle.fp_model.specs.DedbCalls.{is_qualified}
use Rattle.fp_model.specs.Order.{is_sequential}
use Rattle.fp_model.specs.declared.calls.Ssa.{Ssa}
use Rattle.dedb_calls.proofs.arguments.are_get_arguments.Goals as goal

pub returns-then-are_descending : goal.returns-then-are_descending
returns-then-are_descending c dedb =
    c.give_no_sequential_key.ensures
    ∙ ap (λ types. list_all (λ (a : Ssa). not (is_qualified a && is_sequential types a.segment)) c.args.ssas.now)
    c.as_slice.ensures
    ∙ ap (λ b. b && list_all (λ (a : Ssa). not (is_qualified a && is_sequential c.args.def.now.segments a.segment))
    c.args.ssas.now) (c.if-are_descending.ensures dedb)

pub returns-else-are_descending : goal.returns-else-are_descending
returns-else-are_descending c dedb =
    c.if-are_descending.false
    ∙ ap (λ b. b && list_all (λ (a : Ssa). not (is_qualified a && is_sequential c.args.def.now.segments a.segment))
    c.args.ssas.now) (c.if-are_descending.ensures dedb)
