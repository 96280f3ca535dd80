use Rattle.std.proofs.Common.{◌≡◌, ◌++◌, take}
use Rattle.fp_show.specs.FieldText.{shown}
use Rattle.fp_show.proofs.field.put_shown.Given as goal

-- the bytes so far are there
abbrev pub invariant-loop-byte : goal.invariant-loop-byte
invariant-loop-byte l = l.into ≡ l.initial.into ++ shown (take l.byte-index l.text)
