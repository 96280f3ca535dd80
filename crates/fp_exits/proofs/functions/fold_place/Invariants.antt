use Rattle.std.proofs.Common.{◌≡◌, ℕ, ◌+◌, ◌*◌, ◌%◌, ◌<◌, drop}
use Rattle.std.specs.Prelude.{fold}
use Rattle.fp_exits.proofs.functions.fold_place.Given as goal

abbrev pub step : ℕ → ℕ → ℕ → ℕ
step n place byte = (place * 31 + byte) % n

-- folding what is left comes to the same
abbrev pub invariant-loop-byte : goal.invariant-loop-byte
invariant-loop-byte l = (l.place < l.n) × (fold (step l.n) l.place (drop l.byte-index l.key) ≡ fold (step l.n) 0 l.key)
