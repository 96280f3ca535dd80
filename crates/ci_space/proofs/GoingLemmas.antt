-- Calls behind other calls.
use Rattle.std.proofs.Common.{ℕ}
use Rattle.ci_space.proofs.Going.{goes-joined}
use Rattle.ci_space.specs.Calls.{GoesOn}

pub goes_on_joined : {I : Type 0} (told : I → Type 0) (size faults : I → ℕ) (keeps : I → I → Type 0) (a b c : I)
    → GoesOn told size faults keeps a b → GoesOn told size faults keeps b c → GoesOn told size faults keeps a c
goes_on_joined told size faults keeps a b c p q = goes-joined told size faults keeps a b c p q
