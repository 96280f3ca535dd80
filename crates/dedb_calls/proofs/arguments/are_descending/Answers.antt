use Rattle.std.proofs.Common.{◌∙◌, ap}
use Rattle.fp_model.specs.DedbCalls.{are_descending}
use Rattle.dedb_calls.proofs.ArgumentLemmas.{front_of}
use Rattle.dedb_calls.proofs.arguments.are_descending.Goals as goal

pub returns-in-len1-up : goal.returns-in-len1-up
returns-in-len1-up c dedb =
    c.descend_from.ensures dedb
    ∙ ap (are_descending c.args.def.now dedb)
    (front_of c.args.ssas.now c.first-item.result c.in-len1-up.len_at_least c.first-item.is)
