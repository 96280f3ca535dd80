-- Before any entry the core stands for a machine at rest.
use Rattle.std.proofs.Common.{◌≡◌, refl, sym, ap, []}
use Rattle.fp_model.specs.History.{beginning}
use Rattle.fp_model.specs.Rules.{Rules}
use Rattle.fp_model.specs.State.{start}
use Rattle.core_runs.proofs.Reached.{if_ok_both, reached_at_rest}
use Rattle.core_runs.proofs.running.core_of.Goals as goal
use Rattle.plain_laws.proofs.Results.{if_ok_by}

pub returns-clause-reached : goal.returns-clause-reached
returns-clause-reached g c =
    let defs = c.args.defs.now in
    if_ok_both _ _ _ c.new.result
    (λ core stands same. reached_at_rest defs c.args.scripts.now.scripts c.args.started.log.format core.engine same
    stands)
    (c.new.ensures.stands [] (beginning c.args.started.log.format (start defs)) (sym c.requires.msdbs)
    (sym c.requires.sealed) refl refl c.requires.lasts)
    c.new.ensures.rules

pub returns-clause-regions : goal.returns-clause-regions
returns-clause-regions g c = if_ok_by _ _ c.new.result (λ core same. ap (λ (r : Rules). r.regions) same)
    c.new.ensures.rules
