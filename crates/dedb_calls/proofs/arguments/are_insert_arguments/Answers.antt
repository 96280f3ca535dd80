use Rattle.std.proofs.Common.{◌∙◌, ◌&&◌, List, length, ap, map}
use Rattle.fp_model.specs.DedbCalls.{type_of_last}
use Rattle.fp_model.specs.Order.{line_to, line_within}
use Rattle.fp_model.specs.Texts.{same_text}
use Rattle.fp_model.specs.declared.calls.Ssa.{Ssa}
use Rattle.fp_model.specs.declared.definitions.SegDef.{SegDef}
use Rattle.dedb_calls.proofs.arguments.are_insert_arguments.Goals as goal

pub returns-then-only_last_is_unqualified : goal.returns-then-only_last_is_unqualified
returns-then-only_last_is_unqualified c dedb =
    c.name_line.ensures
    ∙ ap (λ (types : List SegDef). same_text (map (λ (a : Ssa). a.segment) c.args.ssas.now)
    (line_within (length types) types c.type_of_last.result)) c.as_slice-segments.ensures
    ∙ ap (λ type. same_text (map (λ (a : Ssa). a.segment) c.args.ssas.now) (line_to c.args.def.now.segments type))
    (c.type_of_last.ensures c.args.def.now dedb)
    ∙ ap (λ b. b && same_text (map (λ (a : Ssa). a.segment) c.args.ssas.now)
    (line_to c.args.def.now.segments (type_of_last c.args.def.now dedb c.args.ssas.now)))
    (c.if-only_last_is_unqualified.ensures c.args.def.now dedb)

pub returns-else-only_last_is_unqualified : goal.returns-else-only_last_is_unqualified
returns-else-only_last_is_unqualified c dedb =
    c.if-only_last_is_unqualified.false
    ∙ ap (λ b. b && same_text (map (λ (a : Ssa). a.segment) c.args.ssas.now)
    (line_to c.args.def.now.segments (type_of_last c.args.def.now dedb c.args.ssas.now)))
    (c.if-only_last_is_unqualified.ensures c.args.def.now dedb)
