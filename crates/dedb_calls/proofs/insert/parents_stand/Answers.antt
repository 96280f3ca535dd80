use Rattle.std.proofs.Common.{◌∙◌}
use Rattle.dedb_calls.proofs.InsertLemmas.{parents_lead}
use Rattle.dedb_calls.proofs.insert.parents_stand.Goals as goal

pub returns : goal.returns
returns c order def dedb same direct =
    c.leads_to.ensures order
    ∙ parents_lead c.args.segments.now def dedb c.args.roots.now c.args.steps.now same order direct c.if-steps-lt2.false
