use Rattle.std.proofs.Common.{◌≡◌, ◌++◌, length}
use Rattle.std.specs.List.{AllByRecursion}
use Rattle.fp_model.specs.LogText.{IsBytes, HasSpelling, body_text}
use Rattle.log_format.proofs.reading.entries.Given as goal

-- the entries so far have spellings, and stand before what is left
abbrev pub invariant-loop-rest : goal.invariant-loop-rest
invariant-loop-rest l = record {
  bytes : IsBytes l.rest;
  read : AllByRecursion HasSpelling l.found;
  parts : l.bytes ≡ body_text l.found ++ l.rest;
}

abbrev pub decreases-loop-rest : goal.decreases-loop-rest
decreases-loop-rest l = length l.rest
