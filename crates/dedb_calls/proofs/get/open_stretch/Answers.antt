use Rattle.std.proofs.Common.{◌≡◌, ◌∙◌, ◌∷◌, ◌-◌, [], None, sym, ap, subst}
use Rattle.fp_model.specs.DedbCalls.{anchors_searched}
use Rattle.fp_model.specs.State.{anchor_count, numbers_up}
use Rattle.fp_model.specs.declared.calls.Get.{Get}
use Rattle.dedb_calls.specs.inside.Searches.{numbers_in}
use Rattle.dedb_calls.proofs.get.open_stretch.Goals as goal

pub returns-in-NextInParent-clause-anchors : goal.returns-in-NextInParent-clause-anchors
returns-in-NextInParent-clause-anchors c dedb =
    subst (λ (g : Get). numbers_in c.alone.result ≡ anchors_searched c.args.def.now dedb c.args.position.now g None)
    (sym c.in-NextInParent.is)
    (c.alone.ensures.anchors ∙ ap (λ n. n ∷ []) (c.parent_anchor.ensures.exact c.args.def.now dedb))

pub returns-in-Next-clause-anchors : goal.returns-in-Next-clause-anchors
returns-in-Next-clause-anchors c dedb =
    subst (λ (g : Get). numbers_up (c.anchor_count-in-Next.result - c.anchor.result) c.anchor.result
    ≡ anchors_searched c.args.def.now dedb c.args.position.now g None) (sym c.in-Next.is)
    (ap (λ n. numbers_up (n - c.anchor.result) c.anchor.result) c.anchor_count-in-Next.ensures
    ∙ ap (λ at. numbers_up (anchor_count c.args.def.now - at) at) (c.anchor.ensures.exact c.args.def.now dedb))
