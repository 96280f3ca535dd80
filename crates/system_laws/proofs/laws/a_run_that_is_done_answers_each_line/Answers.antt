use Rattle.std.proofs.Common.{refl}
use Rattle.system_laws.proofs.AnsweredLemmas.{answers_each, defs_are, end, run_of}
use Rattle.system_laws.proofs.laws.a_run_that_is_done_answers_each_line.Goals as goal

pub returns : goal.returns
returns g c = λ asked job format given earlier old new asks safe ran.
    let went = ran.goes format earlier safe (λ first. (ran.first first).1 refl) in
    let are = defs_are asked.kinds asked.left job asks.job_is in
    let run = run_of job format given earlier went.point.left went.point.here went.course in
    answers_each job format given earlier (g.T.Site.disk old) (g.T.Site.disk new) went
    (c.every_line_is_answered.ensures job.defs job.scripts went.point.here are run
    (end job format given earlier (g.T.Site.disk old) (g.T.Site.disk new) went).ends.1)
