use Rattle.std.proofs.Common.{refl, arith, length}
use Rattle.system_laws.proofs.OneWay.{one_run, one_way}
use Rattle.system_laws.proofs.ways.a_way_is_determined.Goals as goal

pub returns-clause-way : goal.returns-clause-way
returns-clause-way c defs scripts events m environments left left2 here here2 of goes goes2 =
    one_way defs scripts goes goes2 refl refl refl of

pub returns-clause-done : goal.returns-clause-done
returns-clause-done c defs scripts events m here here2 of comes drained none comes2 drained2 none2 =
    one_run defs scripts (length m.history.entries) comes.goes comes2.goes refl refl refl refl drained drained2
    comes.calm
    comes2.calm (omega arith) none none2 of
