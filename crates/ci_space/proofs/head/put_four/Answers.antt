use Rattle.std.proofs.Common.{◌∙◌, rules}
use Rattle.ci_space.proofs.Heads.{ends-put, four-numbers}
use Rattle.ci_space.proofs.head.put_four.Goals as goal

pub returns-clause-ends : goal.returns-clause-ends
returns-clause-ends c = ends-put _ _ _ _ _ _ _ _ _ c.put_number.ensures c.put_number-2.ensures c.put_number-3.ensures
    c.put_number-4.ensures ∙ four-numbers c.args.ends (search rules)
