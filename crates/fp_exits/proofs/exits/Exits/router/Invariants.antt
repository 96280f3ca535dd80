use Rattle.std.proofs.Common.{◌≡◌}
use Rattle.std.specs.List.{AllWithin}
use Rattle.fp_exits.proofs.exits.Exits.router.Given as goal

-- those that were looked at are of other kinds
abbrev pub invariant-loop-one : goal.invariant-loop-one
invariant-loop-one g l = AllWithin (λ y. ¬ (y.kind ≡ l.kind)) l.self.routers.items 0 l.one-index
