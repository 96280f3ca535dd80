use Rattle.std.proofs.Common.{◌≡◌, refl, true}
use Rattle.fp_exits.specs.Kinds.{has_kind, kinds_of}
use Rattle.dedb_storm.proofs.Benches.{all_at, answered_on}
use Rattle.dedb_storm.proofs.bench.ask_once.Goals as goal

pub answer-requires-clause-exit : goal.answer-requires-clause-exit
answer-requires-clause-exit g c def at =
    all_at (λ dedb. has_kind (kinds_of c.args.exits.now).spreaders dedb.randomizer ≡ true)
    c.args.defs.now.dedbs c.args.number def c.requires.exits at

pub answer-requires-clause-call : goal.answer-requires-clause-call
answer-requires-clause-call g c def at = c.if-not-fits_at.ensures refl def at

pub returns : goal.returns
returns g c =
    answered_on c.args.defs.now.dedbs c.args.number c.args.work.now c.answer.new.work c.args.locks.now c.requires.going
    c.in_ok-answer.ensures.of c.in_ok-answer.ensures.goes
