use Rattle.std.proofs.Common.{◌∙◌, ◌∷◌, ◌&&◌, ◌-◌, drop, take, length, ap}
use Rattle.fp_model.specs.DedbCalls.{only_last_unqualified}
use Rattle.dedb_calls.proofs.ArgumentLemmas.{front_of}
use Rattle.dedb_calls.proofs.arguments.+only_last_from.Goals as goal

pub returns-then-is_some : goal.returns-then-is_some
returns-then-is_some t c def dedb =
    c.only_last_from.ensures def dedb
    ∙ ap (λ b. b && only_last_unqualified def dedb (c.next-item.result ∷ take (length c.args.rest.now - 1)
    (drop 1 c.args.rest.now))) c.if-is_some.ensures
    ∙ ap (λ rest. only_last_unqualified def dedb (c.args.first.now ∷ rest))
    (front_of c.args.rest.now c.next-item.result c.in-len1-up.len_at_least c.next-item.is)
