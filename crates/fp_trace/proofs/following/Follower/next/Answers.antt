-- It is one of the scripts, and its calls fit.
use Rattle.std.proofs.Common.{◌≡◌, true}
use Rattle.fp_model.specs.FitCalls.{are_fit}
use Rattle.fp_trace.proofs.Seats.{has_at}
use Rattle.fp_trace.proofs.following.Follower.next.Goals as goal
use Rattle.plain_laws.proofs.Places.{get_there}

pub returns-clause-followed : goal.returns-clause-followed
returns-clause-followed c = record {
  number = rw c.next.ensures.number c.requires.followed.number;
  fit = c.next.ensures.fit c.args.defs.now c.requires.followed.fit;
  work = c.requires.followed.work;
}

pub returns-clause-fits : goal.returns-clause-fits
returns-clause-fits c =
    let scripts = c.args.scripts.now.scripts in
    let number = c.args.self.now.program.number in
    let found = get_there scripts number c.requires.followed.number in
    c.next.ensures.fit_call found.0 found.1 c.requires.setup.defined.each_msdb
    (has_at (λ script. are_fit c.args.defs.now script.statements ≡ true) scripts number found.0 c.requires.setup.fit
    found.1)
    c.requires.followed.fit
