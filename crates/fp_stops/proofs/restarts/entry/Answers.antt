use Rattle.std.proofs.Common.{◌≡◌, ◌∙◌, [], ◌∷◌, ◌++◌, length, refl, sym, ap, subst, arith}
use Rattle.std.specs.Prelude.{IsTrue}
use Rattle.std.specs.List.{AllByRecursion}
use Rattle.fp_model.specs.LogText.{FitsItem}
use Rattle.fp_model.specs.ItemTargets.{is_ascending}
use Rattle.fp_stops.proofs.restarts.entry.Goals as goal

pub returns-clause-rules : goal.returns-clause-rules
returns-clause-rules c =
    let items : c.push.new.self ≡ c.args.item ∷ [] =
    c.in_ok-push.ensures.ok ∙ ap (λ l. l ++ c.args.item ∷ []) c.new-items.ensures in
    record { in_order = subst (λ l. IsTrue (is_ascending l)) (sym items) refl; parts = tt }

pub returns-clause-fits : goal.returns-clause-fits
returns-clause-fits c =
    let items : c.push.new.self ≡ c.args.item ∷ [] =
    c.in_ok-push.ensures.ok ∙ ap (λ l. l ++ c.args.item ∷ []) c.new-items.ensures in
    record {
      outcome = tt;
      line = omega (arith, ap length c.new.ensures);
      reply = omega (arith, ap length c.new-2.ensures);
      notes = omega (arith, ap length c.new-3.ensures);
      items = omega (arith, ap length items);
      each_item = subst (AllByRecursion FitsItem) (sym items) (c.requires, tt);
    }
