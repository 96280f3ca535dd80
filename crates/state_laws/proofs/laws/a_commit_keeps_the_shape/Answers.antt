use Rattle.state_laws.proofs.Commits.{commit_good}
use Rattle.state_laws.proofs.laws.a_commit_keeps_the_shape.Goals as goal

pub returns : goal.returns
returns c = λ defs db own next are good fits e. commit_good defs db own are good fits next e
