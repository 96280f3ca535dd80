use Rattle.std.proofs.Common.{◌≡◌, ℕ, ◌==◌, List, drop, filter, not, slice_index}
use Rattle.fp_exits.proofs.functions.letter.Given as goal

-- the byte at a place of a text without its blanks
abbrev pub letter_in : List ℕ → ℕ → ℕ
letter_in text at = slice_index (filter (λ b. not (b == 32)) text) at

-- the letter that is looked for is among what is left
abbrev pub invariant-loop-byte : goal.invariant-loop-byte
invariant-loop-byte l = letter_in (drop l.byte-index l.tran.0) l.before ≡ letter_in l.tran.0 l.at
