-- What bodies and proofs need of Damage, beside what contracts say.
use Rattle.std.specs.Prelude.{◌≡◌, ℕ, List}
use Rattle.fp_model.specs.declared.database.AreaEnds.{AreaEnds}
use Rattle.seq_dependents.specs.Control.{begin_of, end_of}

-- these are the two ends in control
pub record AreEndsOf (area : List (List ℕ)) (ends : AreaEnds) : Type 0 where
  pub begin : ends.begin ≡ begin_of area
  pub end : ends.end ≡ end_of area
