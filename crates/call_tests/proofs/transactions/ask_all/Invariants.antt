use Rattle.std.proofs.Common.{◌≡◌, length}
use Rattle.dli_calls.specs.Progress.{IsWorkOf}
use Rattle.call_tests.proofs.transactions.ask_all.Given as goal

abbrev pub invariant-loop-step : goal.invariant-loop-step
invariant-loop-step g l = record {
  work : IsWorkOf l.defs l.work;
  locks : length l.locks ≡ 1;
}
