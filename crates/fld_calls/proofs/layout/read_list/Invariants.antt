use Rattle.std.proofs.Common.{◌≡◌, ◌+◌, length}
use Rattle.std.specs.List.{AllByRecursion}
use Rattle.fld_calls.specs.Forms.{forms, IsShort}
use Rattle.fld_calls.proofs.ReadLemmas.{StandsAt}
use Rattle.fld_calls.proofs.layout.read_list.Given as goal

-- the arguments so far, and where the rest begins
abbrev pub invariant-loop-front : goal.invariant-loop-front
invariant-loop-front l = record {
  within : l.place + length l.rest ≡ length l.fn.bytes;
  stands : StandsAt l.fn.bytes (forms l.fsas) l.place l.rest;
  short : AllByRecursion IsShort l.fsas;
}

abbrev pub decreases-loop-front : goal.decreases-loop-front
decreases-loop-front l = length l.rest
