use Rattle.system_laws.proofs.StopLemmas.{lives_hold}
use Rattle.system_laws.proofs.laws.what_was_answered_is_held.Goals as goal

pub returns : goal.returns
returns g c = λ job start first last holds lives.
    lives_hold job start g.T.Site.told g.T.Site.disk g.met.T.Site.lawful first last holds lives
