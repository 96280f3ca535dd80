use Rattle.std.proofs.Common.{◌≡◌, ℕ, ◌+◌, ◌*◌, ◌%◌, ◌<◌, ◌==◌, List, drop, filter, not}
use Rattle.std.specs.Prelude.{fold}
use Rattle.fp_exits.proofs.functions.fold_group.Given as goal

-- what the letters of a text come to, begun with a place
abbrev pub folded : ℕ → ℕ → List ℕ → ℕ
folded n place text = fold (λ acc byte. (acc * 31 + byte) % n) place (filter (λ b. not (b == 32)) text)

-- folding what is left comes to the same
abbrev pub invariant-loop-byte : goal.invariant-loop-byte
invariant-loop-byte l = (l.group < l.n) × (folded l.n l.group (drop l.byte-index l.tran.0) ≡ folded l.n 0 l.tran.0)
