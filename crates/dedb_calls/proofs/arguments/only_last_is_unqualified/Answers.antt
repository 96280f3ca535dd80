use Rattle.std.proofs.Common.{◌∙◌, ap}
use Rattle.fp_model.specs.DedbCalls.{only_last_unqualified}
use Rattle.dedb_calls.proofs.ArgumentLemmas.{front_of}
use Rattle.dedb_calls.proofs.arguments.only_last_is_unqualified.Goals as goal

pub returns-in-len1-up : goal.returns-in-len1-up
returns-in-len1-up c def dedb =
    c.only_last_from.ensures def dedb
    ∙ ap (only_last_unqualified def dedb)
    (front_of c.args.ssas.now c.first-item.result c.in-len1-up.len_at_least c.first-item.is)
