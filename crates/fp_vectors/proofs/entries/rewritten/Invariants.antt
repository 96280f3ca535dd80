use Rattle.std.proofs.Common.{◌≡◌, take}
use Rattle.fp_model.specs.LogText.{body_text}
use Rattle.fp_vectors.proofs.entries.rewritten.Given as goal

-- the entries so far
abbrev pub invariant-loop-e : goal.invariant-loop-e
invariant-loop-e l = l.again ≡ body_text (take l.e-index l.e-items)
