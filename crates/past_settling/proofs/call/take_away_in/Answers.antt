use Rattle.std.proofs.Common.{[]}
use Rattle.fp_model.specs.State.{without_segment}
use Rattle.past_segments.specs.Times.{Past}
use Rattle.past_settling.proofs.QueueLemmas.{its_end, its_past, leaves, now_with, within}
use Rattle.past_settling.proofs.call.take_away_in.Goals as goal
use Rattle.plain_laws.proofs.Results.{on_ok}

-- no past at all, for a list that has one at the place
abbrev nothing : Past
nothing = record { count = 0; slots = [] }

pub bounds-pasts-from : goal.bounds-pasts-from
bounds-pasts-from c =
    within c.args.defs.now.msdbs c.args.pasts.now c.args.place c.args.number c.from.result c.def_of-def.result.now
    nothing c.from.ensures c.def_of-def.ensures c.requires.are c.requires.settled

pub take_away-requires-clause-settled : goal.take_away-requires-clause-settled
take_away-requires-clause-settled c =
    its_end c.args.defs.now.msdbs c.args.pasts.now c.args.place c.args.number c.from.result c.def_of-def.result.now
    c.index-pasts-from.result c.from.ensures c.def_of-def.ensures c.requires.are c.requires.settled

pub take_away-requires-clause-is : goal.take_away-requires-clause-is
take_away-requires-clause-is c =
    its_past c.args.defs.now.msdbs c.args.pasts.now c.args.place c.args.number c.from.result c.def_of-def.result.now
    c.index-pasts-from.result c.from.ensures c.def_of-def.ensures c.requires.are c.requires.settled

pub returns-clause-now : goal.returns-clause-now
returns-clause-now c = on_ok c.take_away.result
    (now_with c.args.defs.now.msdbs c.args.pasts.now c.args.place c.args.number c.from.result c.def_of-def.result.now
    c.index-pasts-from.result c.from.ensures c.def_of-def.ensures c.requires.are c.requires.settled
    c.take_away.new.past (λ def msdb. without_segment def c.args.key.now msdb)) c.take_away.ensures.now

pub returns-clause-leaves : goal.returns-clause-leaves
returns-clause-leaves c =
    leaves c.args.defs.now.msdbs c.args.pasts.now c.args.place c.args.number c.from.result c.def_of-def.result.now
    c.index-pasts-from.result c.from.ensures c.def_of-def.ensures c.requires.are c.requires.settled
    c.take_away.new.past c.args.key.now c.take_away.ensures.leaves
