use Rattle.std.proofs.Common.{sym, subst}
use Rattle.fp_model.specs.FitCalls.{IsFsaList}
use Rattle.call_tests.proofs.Samples.{withdrawn_good}
use Rattle.call_tests.proofs.transactions.withdrawal.Goals as goal
use Rattle.plain_laws.proofs.Results.{if_ok_then}

pub returns : goal.returns
returns c = if_ok_then c.from_slice.result c.from_slice.ensures (λ copy is. subst IsFsaList (sym is) withdrawn_good)
