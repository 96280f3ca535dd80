use Rattle.call_tests.proofs.queues.call.Goals as goal

pub returns-in-Insert : goal.returns-in-Insert
returns-in-Insert c defs def is long short = c.insert.ensures defs def is long
