use Rattle.std.proofs.Common.{◌∙◌, sym}
use Rattle.dedb_calls.proofs.CallLemmas.{comes_at, fits_at, fits_call_at, goes_at, shows_at, stays_work}
use Rattle.dedb_calls.proofs.calls.answer.Goals as goal
use Rattle.std.proofs.lemmas.Option.{same_Some}

pub answer-requires-clause-fits : goal.answer-requires-clause-fits
answer-requires-clause-fits g c =
    fits_at c.database_of-database.result.def.now c.args.number c.database_of-database.result.number c.args.work.now
    c.database_of-database.ensures.number
    (c.requires.work.each c.args.number c.database_of-database.result.def.now c.database_of-database.ensures.there)

pub answer-requires-clause-call : goal.answer-requires-clause-call
answer-requires-clause-call g c =
    fits_call_at c.database_of-database.result.def.now c.args.number c.database_of-database.result.number
    c.args.work.now c.args.call.now c.database_of-database.ensures.number
    (c.requires.call c.database_of-database.result.def.now c.database_of-database.ensures.there)

pub returns-clause-comes : goal.returns-clause-comes
returns-clause-comes g c def at =
    comes_at c.answer.result c.database_of-database.result.def.now def c.database_of-database.result.number
    c.args.number (g.L.AnchorLocks.modes c.args.locks.now c.args.work.now) c.args.call.now c.args.work.now
    c.answer.new.work
    (same_Some c.database_of-database.result.def.now def (sym c.database_of-database.ensures.there ∙ at))
    c.database_of-database.ensures.number c.answer.ensures.comes

pub returns-clause-of : goal.returns-clause-of
returns-clause-of g c =
    stays_work c.args.defs.now.dedbs c.args.number c.database_of-database.result.def.now c.args.work.now
    c.answer.new.work c.database_of-database.ensures.there c.requires.work
    (goes_at c.database_of-database.result.number c.args.number c.args.work.now c.answer.new.work
    c.database_of-database.ensures.number c.answer.ensures.goes)
    (fits_at c.database_of-database.result.def.now c.database_of-database.result.number c.args.number
    c.answer.new.work (sym c.database_of-database.ensures.number) c.answer.ensures.fits)

pub returns-clause-shown : goal.returns-clause-shown
returns-clause-shown g c def at =
    shows_at c.answer.result c.database_of-database.result.def.now def c.database_of-database.result.number
    c.args.number c.args.call.now
    (same_Some c.database_of-database.result.def.now def (sym c.database_of-database.ensures.there ∙ at))
    c.database_of-database.ensures.number c.answer.ensures.shown
