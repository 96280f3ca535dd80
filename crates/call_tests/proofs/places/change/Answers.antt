use Rattle.call_tests.proofs.places.change.Goals as goal

pub returns-in-TakeBack : goal.returns-in-TakeBack
returns-in-TakeBack c = c.take_back.ensures.settled c.args.place c.requires
