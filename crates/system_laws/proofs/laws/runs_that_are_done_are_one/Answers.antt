use Rattle.fp_source.specs.declared.part.Part.TheVariants as part
use Rattle.fp_model.specs.Machine.{at_rest}
use Rattle.command_tasks.specs.Parts.{rules_for}
use Rattle.system_laws.proofs.AnsweredLemmas.{defs_are, end}
use Rattle.command_tasks.proofs.Jobs.{none_for}
use Rattle.system_laws.proofs.OneRun.{began, came, came_from, none_from, one_point}
use Rattle.system_laws.proofs.laws.runs_that_are_done_are_one.Goals as goal

pub returns : goal.returns
returns g c = λ asked job format given earlier old old2 new new2 asks safe went went2 none none2.
    let disk = g.T.Site.disk in
    let h = went.course.behind in
    let is = went.course.history in
    let without = none_for asked.kinds (asked.left part.Definitions) job.defs asks.job_is.definitions in
    let begin = (c.the_start_has_its_shape.ensures job.defs (defs_are asked.kinds asked.left job asks.job_is)).msdbs in
    one_point job format given earlier (disk old) (disk old2) (disk new) (disk new2) went went2
    (c.a_way_is_determined.ensures.done job.defs job.scripts given.events (at_rest (rules_for job) given.lines h)
    went.point.here went2.point.here
    (began job format given earlier (disk old) (disk new) went without begin safe.now)
    (came job format given earlier (disk old) (disk new) went)
    (end job format given earlier (disk old) (disk new) went).ends.1
    (none_from job format given earlier (disk old) (disk new) went h is none)
    (came_from job format given earlier (disk old2) (disk new2) went2 h is)
    (end job format given earlier (disk old2) (disk new2) went2).ends.1
    (none_from job format given earlier (disk old2) (disk new2) went2 h is none2))
