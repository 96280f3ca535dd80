-- What bodies and proofs need of Progress, beside what contracts say.
use Rattle.std.specs.Prelude.{ℕ, List, [], slice_set}
use Rattle.std.specs.Option.{option_map_or}
use Rattle.fp_model.specs.declared.database.Root.{Root}
use Rattle.fp_model.specs.Workspace.{DedbPosition}
use Rattle.dedb_calls.specs.Anchors.{held_at}
use Rattle.dedb_calls.specs.declared.anchors.HeldAnchor.{HeldAnchor}
use Rattle.dedb_calls.specs.Progress.{DedbProgress}

abbrev pub roots_in : List HeldAnchor → ℕ → ℕ → List Root
roots_in anchors dedb anchor = option_map_or (λ a. a.roots) (held_at anchors dedb anchor) []

abbrev pub with_position_at : ℕ → DedbPosition → DedbProgress → DedbProgress
with_position_at dedb p work = record work { positions = slice_set work.positions dedb p }
