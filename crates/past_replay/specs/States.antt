-- The states that the segments of every place and the data entry databases of the present one show.
use Rattle.std.specs.Prelude.{◌≡◌, ℕ, ◌+◌, List, [], length, Some, slice_get}
use Rattle.fp_model.specs.declared.database.Db.{Db}
use Rattle.fp_model.specs.declared.database.Dedb.{Dedb}
use Rattle.fp_model.specs.declared.database.Root.{Root}
use Rattle.fp_model.specs.State.{roots_at}
use Rattle.past_segments.specs.Pasts.{databases_at}
use Rattle.past_segments.specs.Times.{Past}

-- the roots of the anchors of data entry databases
abbrev pub roots_in : List Dedb → ℕ → ℕ → List Root
roots_in dedbs dedb anchor = roots_at (record { msdbs = []; dedbs = dedbs }) dedb anchor

-- the main storage databases of a place, with these data entry databases
abbrev pub state_at : ℕ → List Past → List Dedb → Db
state_at place pasts dedbs = record { msdbs = databases_at place pasts; dedbs = dedbs }

-- The state now is that of the place, with these data entry databases. The states up to it, oldest first, are those of
-- the places from 0 to this one, as far as main storage databases go: nothing looks back at the others.
pub record AreStatesOf (pasts : List Past) (dedbs : List Dedb) (place : ℕ) (now : Db) (states : List Db) : Type 0 where
  pub here : now ≡ state_at place pasts dedbs
  pub count : length states ≡ place + 1
  pub each : (p : ℕ) (state : Db) → slice_get states p ≡ Some state → state.msdbs ≡ databases_at p pasts
