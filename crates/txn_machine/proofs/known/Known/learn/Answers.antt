use Rattle.txn_machine.proofs.LessonLemmas.{taught_found, fits_found}
use Rattle.txn_machine.proofs.known.Known.learn.Goals as goal

pub returns-in-Segment-clause-learns : goal.returns-in-Segment-clause-learns
returns-in-Segment-clause-learns c = λ answers. taught_found c.args.lesson c.in-Segment.db c.args.answer _ _
    c.in-Segment.is (cc) (c.show.ensures.shows answers)

pub returns-in-Segment-clause-fit : goal.returns-in-Segment-clause-fit
returns-in-Segment-clause-fit c = λ defs all h. c.show.ensures.fit defs all
    (fits_found defs c.args.lesson c.in-Segment.db c.args.answer c.in-Segment.is (cc) h)
