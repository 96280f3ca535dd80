use Rattle.std.proofs.Common.{◌≡◌, ◌∙◌, [], Some, sym, subst}
use Rattle.fp_model.specs.DedbCalls.{anchor_at, anchors_searched}
use Rattle.fp_model.specs.Exits.{anchor_of}
use Rattle.fp_model.specs.declared.calls.Get.{Get}
use Rattle.dedb_calls.specs.inside.Searches.{numbers_in}
use Rattle.dedb_calls.proofs.GetLemmas.{next_none, next_one}
use Rattle.dedb_calls.proofs.get.named_stretch.Goals as goal

pub returns-then-named-least-clause-anchors : goal.returns-then-named-least-clause-anchors
returns-then-named-least-clause-anchors c def dedb key is =
    subst (λ (g : Get). [] ≡ anchors_searched def dedb c.args.position.now g (Some key)) (sym c.in-Next.is)
    (next_none c.from-named.result (anchor_of def key) c.anchor-least.result (anchor_at def dedb
    c.args.position.now.place)
    (c.from-named.ensures ∙ is) (c.anchor-least.ensures.exact def dedb) c.if-named-least.true)

pub returns-else-named-least-clause-anchors : goal.returns-else-named-least-clause-anchors
returns-else-named-least-clause-anchors c def dedb key is =
    subst (λ (g : Get). numbers_in c.alone-else-named-least.result
    ≡ anchors_searched def dedb c.args.position.now g (Some key)) (sym c.in-Next.is)
    (next_one (numbers_in c.alone-else-named-least.result) c.from-named.result (anchor_of def key) c.anchor-least.result
    (anchor_at def dedb c.args.position.now.place) (c.from-named.ensures ∙ is) (c.anchor-least.ensures.exact def dedb)
    c.if-named-least.false c.alone-else-named-least.ensures.anchors)
