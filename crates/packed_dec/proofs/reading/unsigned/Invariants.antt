use Rattle.std.proofs.Common.{◌≡◌, take}
use Rattle.fp_model.specs.Texts.{value}
use Rattle.packed_dec.proofs.reading.unsigned.Given as goal

abbrev pub invariant-loop-byte : goal.invariant-loop-byte
invariant-loop-byte l = l.n ≡ value 256 (take l.byte-index l.bytes)
