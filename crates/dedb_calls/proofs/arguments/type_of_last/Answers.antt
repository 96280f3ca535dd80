use Rattle.std.proofs.Common.{◌∙◌, ap}
use Rattle.fp_model.specs.DedbCalls.{type_of_last}
use Rattle.dedb_calls.proofs.ArgumentLemmas.{front_of}
use Rattle.dedb_calls.proofs.arguments.type_of_last.Goals as goal

pub returns-in-len1-up : goal.returns-in-len1-up
returns-in-len1-up c def dedb =
    c.type_from.ensures def dedb
    ∙ ap (type_of_last def dedb)
    (front_of c.args.ssas.now c.first-item.result c.in-len1-up.len_at_least c.first-item.is)
