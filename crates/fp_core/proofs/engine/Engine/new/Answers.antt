use Rattle.std.proofs.Common.{◌∙◌, ap, fold, max, sym, refl, ℕ, List, [], replicate}
use Rattle.fp_model.specs.declared.calls.Message.{Message}
use Rattle.fp_core.specs.declared.engine.Region.TheVariants as regions
use Rattle.fp_core.proofs.Rests.{grouped, rests}
use Rattle.fp_core.proofs.engine.Engine.new.Goals as goal

pub new-requires-clause-some : goal.new-requires-clause-some
new-requires-clause-some c =
    let groups = grouped c.args.defs.now _ c.requires.setup.defined c.as_slice.ensures in
    (c.group_count.ensures.bounds groups.0 groups.1).0

pub new-requires-clause-most : goal.new-requires-clause-most
new-requires-clause-most c =
    let groups = grouped c.args.defs.now _ c.requires.setup.defined c.as_slice.ensures in
    (c.group_count.ensures.bounds groups.0 groups.1).1

pub returns-clause-stands : goal.returns-clause-stands
returns-clause-stands c lines h msdbs place past format lasts =
    rests _ lines h c.requires.setup refl
    (c.in_ok-new.ensures.queues ∙ ap (λ (n : ℕ). replicate {A = List Message} n [])
    (c.group_count.ensures.count ∙ ap (fold max 0) c.as_slice.ensures))
    c.in_ok-new.ensures.free
    (c.in_ok-idle_regions.ensures ∙ ap (λ (n : ℕ). replicate n regions.Idle) c.len-regions.ensures)
    c.in_ok-new-2.ensures.none
    (c.in_ok-new-2.ensures.regions ∙ c.len-regions.ensures)
    c.requires.store msdbs place past (format ∙ sym c.format-format.ensures) lasts c.requires.sealed c.new-3.ensures.items refl
