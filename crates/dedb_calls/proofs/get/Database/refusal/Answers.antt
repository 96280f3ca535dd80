use Rattle.std.proofs.Common.{◌∙◌, ap, List}
use Rattle.fp_model.specs.DedbCalls.{are_get_arguments}
use Rattle.fp_model.specs.declared.calls.Ssa.{Ssa}
use Rattle.fp_model.specs.Workspace.{DedbPosition}
use Rattle.dedb_calls.specs.inside.Calls.{lacks_parent_at}
use Rattle.dedb_calls.proofs.GetLemmas.{refused_args, refused_nothing, refused_parent}
use Rattle.dedb_calls.proofs.get.Database.refusal.Goals as goal

pub returns-then-not-are_get_arguments-clause-status : goal.returns-then-not-are_get_arguments-clause-status
returns-then-not-are_get_arguments-clause-status c =
    refused_args c.args.self.def.now c.args.self.number c.args.work.now c.args.asked.get c.args.asked.ssas.now
    (c.if-not-are_get_arguments.ensures c.args.self.number
    ∙ ap (λ (ssas : List Ssa). are_get_arguments c.args.self.def.now c.args.self.number ssas) c.as_slice.ensures)

pub returns-then-lacks_parent-clause-status : goal.returns-then-lacks_parent-clause-status
returns-then-lacks_parent-clause-status c =
    refused_parent c.args.self.def.now c.args.self.number c.args.work.now c.args.asked.get c.args.asked.ssas.now
    (c.if-not-are_get_arguments.ensures c.args.self.number
    ∙ ap (λ (ssas : List Ssa). are_get_arguments c.args.self.def.now c.args.self.number ssas) c.as_slice.ensures)
    (c.if-lacks_parent.ensures
    ∙ ap (λ (p : DedbPosition). lacks_parent_at p c.args.asked.get) c.position.ensures)

pub returns-clause-status : goal.returns-clause-status
returns-clause-status c =
    refused_nothing c.args.self.def.now c.args.self.number c.args.work.now c.args.asked.get c.args.asked.ssas.now
    (c.if-not-are_get_arguments.ensures c.args.self.number
    ∙ ap (λ (ssas : List Ssa). are_get_arguments c.args.self.def.now c.args.self.number ssas) c.as_slice.ensures)
    (c.if-lacks_parent.ensures
    ∙ ap (λ (p : DedbPosition). lacks_parent_at p c.args.asked.get) c.position.ensures)
