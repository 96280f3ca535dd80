-- What bodies and proofs need of Applying, beside what contracts say.
use Rattle.std.specs.Prelude.{◌≡◌, ⊤, ℕ, ◌+◌, ◌*◌, ◌≤◌, ◌^◌, ◌==◌, ◌&&◌, if◌then◌else◌, List, length, Some}
use Rattle.fp_model.specs.declared.log.Item.{Item}
use Rattle.fp_model.specs.declared.log.Item.TheVariants.{Segment, Image, Range}
use Rattle.ci_pool.specs.Cells.{renewed}
use Rattle.ci_pool.specs.Held.{Held, pending_at}
use Rattle.dedb_area.specs.Applying.{LiesWithin}

-- one interval is pending with these bytes for the entry at a place, and the others are as before
abbrev pub IsPended : ℕ → ℕ → ℕ → List ℕ → Held → Held → Type 0
IsPended place set ci bytes before after =
    (s k : ℕ) → pending_at after s k
    ≡ (if s == set && k == ci then Some (renewed place bytes (pending_at before s k)) else pending_at before s k)

-- an image ends at or before byte 2^62
abbrev pub EndsInTime : Item → Type 0
EndsInTime (Segment msdb key bytes) = ⊤
EndsInTime (Image set ci bytes) = (ci + 1) * length bytes ≤ 2 ^ 62
EndsInTime (Range set ci at bytes) = ⊤

abbrev pub IsAppliable : Held → Item → Type 0
IsAppliable pool (Segment msdb key bytes) = ⊤
IsAppliable pool (Image set ci bytes) = ⊤
IsAppliable pool (Range set ci at bytes) = LiesWithin (pending_at pool set ci) at (length bytes)

-- this item is a range of the interval, which it can't be applied to
abbrev pub IsWithoutImage : Held → Item → ℕ → ℕ → Type 0
IsWithoutImage pool (Segment msdb key bytes) s k = ⊥
IsWithoutImage pool (Image set ci bytes) s k = ⊥
IsWithoutImage pool (Range set ci at bytes) s k =
    (set ≡ s) × (ci ≡ k) × (¬ LiesWithin (pending_at pool set ci) at (length bytes))
