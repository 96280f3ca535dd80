use Rattle.std.proofs.Common.{◌≡◌, replicate}
use Rattle.fp_core.specs.declared.engine.Region.TheVariants as regions
use Rattle.fp_core.proofs.engine.idle_regions.Given as goal

-- so many regions are made, and are idle
abbrev pub invariant-loop : goal.invariant-loop
invariant-loop l = l.regions ≡ replicate l.counter regions.Idle
