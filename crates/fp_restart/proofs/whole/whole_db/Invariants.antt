use Rattle.std.specs.Prelude.{◌≡◌, map, take}
use Rattle.fp_model.specs.State.{formatted}
use Rattle.fp_restart.proofs.whole.whole_db.Given as goal

-- the databases so far are formatted
abbrev pub invariant-loop-def : goal.invariant-loop-def
invariant-loop-def g l = l.dedbs ≡ map formatted (take l.def-index l.def-items)
