use Rattle.area_reading.proofs.Readable.{readable}
use Rattle.area_reading.proofs.reading.read_anchor.Goals as goal

pub returns-clause-sound : goal.returns-clause-sound
returns-clause-sound g c = λ told state has ci e.
    readable c.args.place.now (g.I.Intervals.intervals c.args.i.now) c.args.anchor ci state has c.requires.anchor
    (c.read_whole.ensures.damaged told ci e)
