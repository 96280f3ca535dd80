use Rattle.std.proofs.Common.{refl}
use Rattle.system_laws.proofs.StopLemmas.{made_holds, rest_holds}
use Rattle.system_laws.proofs.laws.a_log_at_rest_holds_its_entries.Goals as goal

pub returns-clause-rests : goal.returns-clause-rests
returns-clause-rests g c = λ job format entries site durable sound.
    rest_holds job format entries (g.T.Site.disk site) durable sound

pub returns-clause-made : goal.returns-clause-made
returns-clause-made g c = λ asked job old new asks defined.
    made_holds job (g.T.Site.disk old).sent (g.T.Site.disk new) defined.only.now.sent
    (defined.made job asks.job_is refl)
