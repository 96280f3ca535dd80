use Rattle.std.proofs.Common.{◌≡◌, sym, ap, subst, true}
use Rattle.fp_model.specs.declared.database.Root.{Root}
use Rattle.fp_model.specs.Order.{root_key}
use Rattle.dli_tree.specs.InOrder.{any_ends}
use Rattle.state_laws.proofs.Roots.{passes}
use Rattle.dedb_storm.proofs.Endings.{in_place, passes_without}
use Rattle.dedb_storm.proofs.ending.drop_old_at.Goals as goal

pub returns-then-is_old : goal.returns-then-is_old
returns-then-is_old c def anchor e =
    let (gone, was) = c.drop_oldest.ensures in
    in_place def anchor c.args.roots.now c.args.at c.item_mut.result.now c.drop_oldest.new.root
    c.item_mut.ensures.value (ap (root_key def.segments) (sym was))
    (λ passed. passes_without def anchor c.drop_oldest.new.root gone
    (subst (λ (r : Root). passes def anchor any_ends r ≡ true) was passed))
    e
