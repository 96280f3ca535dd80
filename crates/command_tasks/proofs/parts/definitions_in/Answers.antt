use Rattle.std.proofs.Common.{◌≡◌, inr, true, false, sym, subst, rules}
use Rattle.std.specs.Prelude.{◌⊎◌, Err}
use Rattle.fp_defs.specs.Exits.{defs_for}
use Rattle.fp_exits.specs.Kinds.{kinds_of}
use Rattle.command_tasks.proofs.Jobs.{fault_is_answer, has_router, is_built, isnt_built}
use Rattle.command_tasks.specs.Answers.{MayStandIn}
use Rattle.command_tasks.specs.Parts.{are_built, definitions_in}
use Rattle.command_tasks.specs.declared.status.Status.{Status}
use Rattle.command_tasks.proofs.parts.definitions_in.Goals as goal

pub returns-in-Err-clause-refused : goal.returns-in-Err-clause-refused
unfolding definitions_in
returns-in-Err-clause-refused g c =
    subst (λ (s : Status). MayStandIn s ⊎ (definitions_in (kinds_of c.args.exits.now) c.args.text.now ≡ Err s))
    (sym c.definitions_status.ensures)
    (fault_is_answer (defs_for (kinds_of c.args.exits.now) c.args.text.now) c.in-Err.fault c.in-Err.ensures.fault)

pub returns-then-not-are_built-clause-refused : goal.returns-then-not-are_built-clause-refused
returns-then-not-are_built-clause-refused g c =
    let e : are_built c.in-Ok.defs ≡ false = grind rules in
    inr (isnt_built (kinds_of c.args.exits.now) c.args.text.now c.in-Ok.defs c.in-Ok.ensures.ok e)

pub returns-clause-ok : goal.returns-clause-ok
returns-clause-ok g c =
    let e : are_built c.in-Ok.defs ≡ true = grind rules in
    is_built (kinds_of c.args.exits.now) c.args.text.now c.in-Ok.defs c.in-Ok.ensures.ok e

pub returns-clause-router : goal.returns-clause-router
returns-clause-router g c = has_router (kinds_of c.args.exits.now) c.args.text.now c.in-Ok.defs c.in-Ok.ensures.ok
