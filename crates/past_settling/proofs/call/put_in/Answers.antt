use Rattle.std.proofs.Common.{ap, sym, subst, slice_index_or, []}
use Rattle.std.specs.Option.{option_map_or}
use Rattle.fp_model.specs.State.{key_of, with_segment}
use Rattle.fp_model.specs.declared.definitions.MsdbDef.{MsdbDef}
use Rattle.past_segments.specs.Times.{Past}
use Rattle.past_settling.specs.inside.Queues.{key_in}
use Rattle.past_settling.specs.inside.Settling.{Leaves}
use Rattle.past_settling.proofs.QueueLemmas.{its_end, its_past, leaves, now_with, within}
use Rattle.past_settling.proofs.call.put_in.Goals as goal
use Rattle.plain_laws.proofs.Results.{on_ok}

-- no past at all, for a list that has one at the place
abbrev nothing : Past
nothing = record { count = 0; slots = [] }

pub bounds-pasts-from : goal.bounds-pasts-from
bounds-pasts-from c =
    within c.args.defs.now.msdbs c.args.pasts.now c.args.place c.args.number c.from.result c.def_of-def.result.now
    nothing c.from.ensures c.def_of-def.ensures c.requires.are c.requires.settled

pub put-requires-clause-settled : goal.put-requires-clause-settled
put-requires-clause-settled c =
    its_end c.args.defs.now.msdbs c.args.pasts.now c.args.place c.args.number c.from.result c.def_of-def.result.now
    c.index-pasts-from.result c.from.ensures c.def_of-def.ensures c.requires.are c.requires.settled

pub put-requires-clause-is : goal.put-requires-clause-is
put-requires-clause-is c =
    its_past c.args.defs.now.msdbs c.args.pasts.now c.args.place c.args.number c.from.result c.def_of-def.result.now
    c.index-pasts-from.result c.from.ensures c.def_of-def.ensures c.requires.are c.requires.settled

pub returns-clause-now : goal.returns-clause-now
returns-clause-now c = on_ok c.put.result
    (now_with c.args.defs.now.msdbs c.args.pasts.now c.args.place c.args.number c.from.result c.def_of-def.result.now
    c.index-pasts-from.result c.from.ensures c.def_of-def.ensures c.requires.are c.requires.settled
    c.put.new.past (λ def msdb. with_segment def c.args.bytes msdb)) c.put.ensures.now

pub returns-clause-leaves : goal.returns-clause-leaves
returns-clause-leaves c =
    leaves c.args.defs.now.msdbs c.args.pasts.now c.args.place c.args.number c.from.result c.def_of-def.result.now
    c.index-pasts-from.result c.from.ensures c.def_of-def.ensures c.requires.are c.requires.settled
    c.put.new.past (key_in c.args.defs.now.msdbs c.args.number c.args.bytes)
    (subst (λ key. Leaves c.def_of-def.result.now c.args.place key
    (slice_index_or c.args.pasts.now c.from.result c.index-pasts-from.result) c.put.new.past)
    (sym (ap (λ o. option_map_or (λ (def : MsdbDef). key_of def.fields c.args.bytes) o []) c.def_of-def.ensures))
    c.put.ensures.leaves)
