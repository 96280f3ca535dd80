use Rattle.std.proofs.Common.{◌≡◌, ◌++◌, take}
use Rattle.fp_show.specs.FieldText.{hex}
use Rattle.fp_show.proofs.field.put_hex.Given as goal

-- the bytes so far are there
abbrev pub invariant-loop-byte : goal.invariant-loop-byte
invariant-loop-byte l = l.into ≡ l.initial.into ++ hex (take l.byte-index l.bytes)
