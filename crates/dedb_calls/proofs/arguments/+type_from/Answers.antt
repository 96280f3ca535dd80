use Rattle.std.proofs.Common.{◌∙◌, ◌∷◌, ap}
use Rattle.fp_model.specs.DedbCalls.{type_of_last}
use Rattle.dedb_calls.proofs.ArgumentLemmas.{front_of}
use Rattle.dedb_calls.proofs.arguments.+type_from.Goals as goal

pub returns-in-len1-up : goal.returns-in-len1-up
returns-in-len1-up t c def dedb =
    c.type_from.ensures def dedb
    ∙ ap (λ rest. type_of_last def dedb (c.args.first.now ∷ rest))
    (front_of c.args.rest.now c.next-item.result c.in-len1-up.len_at_least c.next-item.is)
