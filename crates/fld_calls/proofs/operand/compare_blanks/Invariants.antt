use Rattle.std.proofs.Common.{◌≡◌, length, drop}
use Rattle.std.specs.Prelude.{replicate}
use Rattle.std.specs.Cmp.Lexicographic.{slice_cmp}
use Rattle.std.specs.Ordering.{nat_cmp}
use Rattle.fld_calls.proofs.operand.compare_blanks.Given as goal

-- the bytes so far are blanks, so the others decide
abbrev pub invariant-loop-byte : goal.invariant-loop-byte
invariant-loop-byte l =
    slice_cmp nat_cmp l.bytes (replicate (length l.bytes) 32)
    ≡ slice_cmp nat_cmp (drop l.byte-index l.bytes) (replicate (length (drop l.byte-index l.bytes)) 32)
