use Rattle.std.proofs.Common.{◌++◌}
use Rattle.system_laws.proofs.laws.a_number_counts_once.Goals as goal

pub returns-clause-holds : goal.returns-clause-holds
returns-clause-holds g c = λ job start site holds log settles.
    let it = holds log settles in
    record {
      holds = it;
      once = c.a_number_is_used_once.ensures job.defs job.scripts start.format (start.entries ++ it.later)
          it.sound.last it.sound.history;
    }

pub returns-clause-lives : goal.returns-clause-lives
returns-clause-lives g c = λ job start first last holds lives log settles.
    let it = c.what_was_answered_is_held.ensures job start first last holds lives log settles in
    record {
      holds = it;
      once = c.a_number_is_used_once.ensures job.defs job.scripts start.format (start.entries ++ it.later)
          it.sound.last it.sound.history;
    }
