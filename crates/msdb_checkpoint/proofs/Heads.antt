-- The first bytes of a data set.
use Rattle.std.proofs.Common.{◌≡◌, ℕ, List, [], ◌∷◌, ◌++◌, get_or, take, drop, replicate, refl, arith}
use Rattle.std.specs.Prelude.{slice_index}
use Rattle.std.proofs.lemmas.List.{length-drop, length-take, take_all}
use Rattle.fp_site.specs.Disk.{read_range}

-- a byte past the end reads as 0
pub gate_is : (bytes : List ℕ) → get_or (read_range bytes 0 17) 0 0 ≡ slice_index bytes 0
gate_is [] = refl
gate_is (b ∷ bytes) = refl

-- the 16 bytes behind the gate are all that was read behind it
pub behind_gate : (bytes : List ℕ) → take 16 (drop 1 (read_range bytes 0 17)) ≡ drop 1 (read_range bytes 0 17)
behind_gate bytes = take_all 16 (drop 1 (read_range bytes 0 17)) (omega (
  arith,
  length-drop 1 (read_range bytes 0 17),
  length-take 17 (drop 0 bytes ++ replicate 17 0),
))
