use Rattle.std.proofs.Common.{◌≡◌}
use Rattle.call_tests.proofs.audits.deposits_are_legal.Given as goal

abbrev pub invariant-loop-place : goal.invariant-loop-place
invariant-loop-place g l = l.auditor.defs ≡ l.initial.auditor.defs
