use Rattle.std.proofs.Common.{◌≡◌, ◌<◌, length, sym, ◌∙◌, ap, rules}
use Rattle.std.proofs.lemmas.Result.{on_ok_weaker, on_err_weaker}
use Rattle.fp_site.specs.Disk.{written}
use Rattle.memory_site.specs.Sets.{set_bytes}
use Rattle.memory_site.proofs.DataSets.{set_bytes-set_same, set_bytes-set_other, set_bytes-set_anew, set_bytes_read}
use Rattle.memory_site.proofs.sets.put.Goals as goal

pub returns-clause-this : goal.returns-clause-this
returns-clause-this c =
    let there : c.args.set < length c.reach_set.new.sets.items = search rules in
    let was : c.index_mut.result.now.items ≡ set_bytes c.args.sets.now.items c.args.set =
    sym (set_bytes_read c.reach_set.new.sets.items c.args.set c.index_mut.result.now there c.index_mut.ensures.value) ∙
    c.reach_set.ensures.same c.args.set in
    on_ok_weaker c.overwrite.result
    (λ is. set_bytes-set_same c.reach_set.new.sets.items c.overwrite.new.bytes c.args.set there ∙ is ∙ ap
    (λ l. written l c.args.at c.args.from.now) was)
    c.overwrite.ensures.ok

pub returns-clause-others : goal.returns-clause-others
returns-clause-others c =
    on_ok_weaker c.overwrite.result (λ is k ne. set_bytes-set_other c.reach_set.new.sets.items c.overwrite.new.bytes
    c.args.set k ne ∙ c.reach_set.ensures.same k) c.overwrite.ensures.ok

pub returns-clause-err : goal.returns-clause-err
returns-clause-err c =
    let there : c.args.set < length c.reach_set.new.sets.items = search rules in
    let was = sym (set_bytes_read c.reach_set.new.sets.items c.args.set c.index_mut.result.now there
    c.index_mut.ensures.value) in
    on_err_weaker c.overwrite.result (λ is k. set_bytes-set_anew c.reach_set.new.sets.items c.overwrite.new.bytes
    c.args.set there (is ∙ was) k ∙ c.reach_set.ensures.same k) c.overwrite.ensures.err
