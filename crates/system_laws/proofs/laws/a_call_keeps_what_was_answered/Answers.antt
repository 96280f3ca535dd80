use Rattle.system_laws.proofs.StopLemmas.{call_held, call_holds}
use Rattle.system_laws.proofs.laws.a_call_keeps_what_was_answered.Goals as goal

pub returns-clause-stands : goal.returns-clause-stands
returns-clause-stands g c = λ job start old new t t2 call holds.
    call_holds job start (g.T.Site.disk old) (g.T.Site.disk new) (g.met.T.Site.lawful old t) holds
    (g.met.T.Site.lawful new t2) call

pub returns-clause-moments : goal.returns-clause-moments
returns-clause-moments g c = λ job start old new t tells call holds.
    call_held job start (g.T.Site.disk old) (g.T.Site.disk new) (g.met.T.Site.lawful old t) holds tells call
