use Rattle.std.proofs.Common.{◌≡◌, drop}
use Rattle.std.specs.List.{list_all}
use Rattle.fp_core.specs.inside.Rounding.{is_at_rest}
use Rattle.fp_core.proofs.draining.are_idle.Given as goal

-- those so far are at rest
abbrev pub invariant-loop-region : goal.invariant-loop-region
invariant-loop-region l = list_all is_at_rest l.regions ≡ list_all is_at_rest (drop l.region-index l.regions)
