use Rattle.std.proofs.Common.{◌∙◌, ◌∷◌, ◌&&◌, ◌-◌, drop, take, length, ap}
use Rattle.fp_model.specs.DedbCalls.{are_descending}
use Rattle.fp_model.specs.Order.{is_ancestor}
use Rattle.dedb_calls.proofs.ArgumentLemmas.{front_of}
use Rattle.dedb_calls.proofs.arguments.+descend_from.Goals as goal

pub returns-then-is_ancestor : goal.returns-then-is_ancestor
returns-then-is_ancestor t c dedb =
    c.descend_from.ensures dedb
    ∙ ap (λ b. b && are_descending c.args.def.now dedb (c.next-item.result ∷ take (length c.args.rest.now - 1)
    (drop 1 c.args.rest.now)))
    (c.if-is_ancestor.ensures
    ∙ ap (λ types. is_ancestor types c.args.first.now.segment c.next-item.result.segment) c.as_slice.ensures)
    ∙ ap (λ rest. are_descending c.args.def.now dedb (c.args.first.now ∷ rest))
    (front_of c.args.rest.now c.next-item.result c.in-len1-up.len_at_least c.next-item.is)
