-- Areas that are too full for the sequential inserts of a transaction.
use Rattle.fp_model.specs.Commit.{FillsPart, Settlement}
use Rattle.past_anchors.specs.declared.full.Full.{Full}

-- a full area, as the definitions tell it
abbrev pub full_as : Full → Settlement
full_as full = FillsPart full.set full.begin full.end full.n
