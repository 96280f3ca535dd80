use Rattle.std.proofs.Common.{◌≡◌}
use Rattle.std.proofs.lemmas.Result.{err_from_is_err_and}
use Rattle.fp_exits.specs.Kinds.{kinds_of}
use Rattle.fp_source.specs.declared.part.Part.TheVariants as part
use Rattle.command_tasks.proofs.Jobs.{or_refused, or_scripts}
use Rattle.command_tasks.proofs.parts.read_setup.Goals as goal

pub returns-in_err-defs-clause-refused : goal.returns-in_err-defs-clause-refused
returns-in_err-defs-clause-refused g c command t =
    let left = g.S.Source.left c.args.source.now in
    let p = err_from_is_err_and c.from_residual.result c.from_residual.ensures.1 in
    rw (p.1, p.2) (or_refused (kinds_of c.args.exits.now) left command _ (c.in_err-defs.ensures.refused t))

pub returns-in_err-scripts-clause-refused : goal.returns-in_err-scripts-clause-refused
returns-in_err-scripts-clause-refused g c command t =
    let left = g.S.Source.left c.args.source.now in
    let aside = c.in_ok-defs.ensures.source.others t part.Scripts (λ (e : part.Scripts ≡ part.Definitions). cc) in
    let p = err_from_is_err_and c.from_residual-in_err-scripts.result c.from_residual-in_err-scripts.ensures.1 in
    rw (p.1, p.2) (or_scripts (kinds_of c.args.exits.now) left command c.in_ok-defs.defs _ _
    (c.in_ok-defs.ensures.ok t) aside
    (c.in_err-scripts.ensures.refused (c.in_ok-defs.ensures.source.continued.still_told t)))
