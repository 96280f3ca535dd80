use Rattle.std.proofs.Common.{[]}
use Rattle.fp_model.specs.WellFormed.{IsMsdbDef}
use Rattle.past_segments.specs.Times.{Past}
use Rattle.past_settling.proofs.QueueLemmas.{call_is, def_good, its_end, its_past, leaves, within}
use Rattle.past_settling.proofs.call.settle_fields_in.Goals as goal

-- no past at all, for a list that has one at the place
abbrev nothing : Past
nothing = record { count = 0; slots = [] }

pub bounds-pasts-from : goal.bounds-pasts-from
bounds-pasts-from c =
    within c.args.defs.now.msdbs c.args.pasts.now c.args.place c.args.number c.from.result c.def_of-def.result.now
    nothing c.from.ensures c.def_of-def.ensures c.requires.are c.requires.settled

pub settle_fields-requires-clause-settled : goal.settle_fields-requires-clause-settled
settle_fields-requires-clause-settled c =
    its_end c.args.defs.now.msdbs c.args.pasts.now c.args.place c.args.number c.from.result c.def_of-def.result.now
    c.index-pasts-from.result c.from.ensures c.def_of-def.ensures c.requires.are c.requires.settled

pub settle_fields-requires-clause-is : goal.settle_fields-requires-clause-is
settle_fields-requires-clause-is c =
    its_past c.args.defs.now.msdbs c.args.pasts.now c.args.place c.args.number c.from.result c.def_of-def.result.now
    c.index-pasts-from.result c.from.ensures c.def_of-def.ensures c.requires.are c.requires.settled

pub settle_fields-requires-clause-good : goal.settle_fields-requires-clause-good
settle_fields-requires-clause-good c =
    def_good IsMsdbDef c.args.defs.now.msdbs c.args.number c.def_of-def.result.now c.requires.good c.def_of-def.ensures

pub returns-clause-call : goal.returns-clause-call
returns-clause-call c =
    call_is c.args.defs.now.msdbs c.args.pasts.now c.args.place c.args.number c.from.result c.def_of-def.result.now
    c.index-pasts-from.result c.from.ensures c.def_of-def.ensures c.requires.are c.requires.settled
    c.settle_fields.new.past c.args.key.now c.args.fsas.now c.settle_fields.result
    (c.settle_fields.ensures.now c.args.defs.now.msdbs)

pub returns-clause-leaves : goal.returns-clause-leaves
returns-clause-leaves c =
    leaves c.args.defs.now.msdbs c.args.pasts.now c.args.place c.args.number c.from.result c.def_of-def.result.now
    c.index-pasts-from.result c.from.ensures c.def_of-def.ensures c.requires.are c.requires.settled
    c.settle_fields.new.past c.args.key.now c.settle_fields.ensures.leaves
