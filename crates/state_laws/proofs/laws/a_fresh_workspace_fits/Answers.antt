use Rattle.state_laws.proofs.Alone.{fresh_fits, fresh_tied}
use Rattle.state_laws.proofs.laws.a_fresh_workspace_fits.Goals as goal

pub returns : goal.returns
returns c = record { fits = fresh_fits; tied = fresh_tied }
