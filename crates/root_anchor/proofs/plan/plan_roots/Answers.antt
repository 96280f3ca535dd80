use Rattle.std.proofs.Common.{◌≡◌, ◌∙◌, ◌-◌, ◌++◌, suc, List, [], length, get_or, take, refl, sym, ap, subst, arith}
use Rattle.std.proofs.lemmas.List.{append-nil, take_all}
use Rattle.fp_model.specs.declared.database.Root.{Root}
use Rattle.root_anchor.specs.Keeping.{keys_of_roots}
use Rattle.root_anchor.specs.inside.Keeping.{IsPlanning, kept}
use Rattle.root_anchor.specs.inside.Rebuilding.{types_of, types_of_segment, Shares}
use Rattle.root_anchor.specs.declared.plan.Planned.{Planned}
use Rattle.root_anchor.proofs.Growing.{roots-planned, roots-unplanned}
use Rattle.root_anchor.proofs.KeepLemmas.{planning-none, planning-on, planning-whole, roots-keys}
use Rattle.root_anchor.proofs.Sharing.{shares-all}
use Rattle.root_anchor.proofs.plan.plan_roots.Goals as goal

pub loop-left-init : goal.loop-left-init
loop-left-init c =
    let P : List Planned → Type 0 = λ xs. Shares c.args.standing.now.items xs c.args.standing.now.items in
    let Q : List Planned → Type 0 = λ xs. IsPlanning [] c.args.standing.now.items c.args.standing.now.items
    c.len-to.result [] xs (keys_of_roots c.args.segments.now (take c.len-left.result c.args.roots.now)) in
    let whole : take c.len-left.result c.args.roots.now ≡ c.args.roots.now =
    take_all c.len-left.result c.args.roots.now (omega (arith, c.len-left.ensures)) in
    let long : c.len-to.result ≡ length c.args.standing.now.items = omega (arith, c.len-to.ensures) in
    record {
      within = omega (arith, c.len-left.ensures);
      types = ap types_of c.new-plan.ensures.items ∙ sym
          (roots-unplanned c.args.segments.now c.args.roots.now c.len-left.result c.len-left.ensures);
      shares = subst P (sym c.new-plan.ensures.items) (shares-all c.args.standing.now.items);
      kept = λ m. subst Q (sym c.new-plan.ensures.items) (planning-none [] c.args.standing.now.items _ _ [] _ refl
          long (m ∙ ap (λ (r : List Root). keys_of_roots c.args.segments.now r) (sym whole)));
    }

pub loop-left-preserved : goal.loop-left-preserved
loop-left-preserved c =
    let types = c.args.segments.now in
    let roots = c.args.roots.now in
    let k = c.loop-left.left - 1 in
    let root = c.index-as_slice-left.result in
    let is : root ≡ get_or roots k root = c.index-as_slice-left.is ∙ ap (λ xs. get_or xs k root) c.as_slice.ensures in
    let suc_left : suc k ≡ c.loop-left.left = omega (arith, c.loop-left-test.true) in
    record {
      within = omega (arith, c.loop-left.invariant.within);
      types = c.in_ok-plan_segment.ensures.types ∙ ap
          (λ xs. types_of_segment types 0 root.children ++ xs) c.loop-left.invariant.types ∙ sym
          (roots-planned types roots _ c.loop-left.left root c.loop-left-test.true c.loop-left.invariant.within
          c.as_slice.ensures c.index-as_slice-left.is);
      shares = c.in_ok-plan_segment.ensures.shares _ c.loop-left.invariant.shares;
      kept = λ m. planning-on [] _ _ _ 0 _ _ _ _ _ _ _ _ (omega arith)
          (ap (λ j. keys_of_roots types (take j roots)) (sym suc_left)
          ∙ roots-keys types roots k root (omega (arith, c.loop-left.invariant.within, c.loop-left-test.true)) is)
          (c.loop-left.invariant.kept m) c.in_ok-plan_segment.ensures.kept;
    }

pub returns-clause-kept : goal.returns-clause-kept
returns-clause-kept c = λ m.
    let none : c.loop-left.left ≡ 0 = omega arith in
    (planning-whole [] _ _ _ [] _ _ (ap (λ k. keys_of_roots c.args.segments.now (take k c.args.roots.now)) none)
    (c.loop-left.invariant.kept m)).planned ∙ append-nil (kept c.args.standing.now.items)
