use Rattle.std.proofs.Common.{◌≡◌, ◌<◌, ◌∙◌, ℕ, List, ap, sym, length, arith, subst, true}
use Rattle.fp_model.specs.Order.{root_key}
use Rattle.fp_model.specs.Texts.{same_text}
use Rattle.fp_model.specs.declared.database.Root.{Root}
use Rattle.key_order.proofs.Ascending.{changed_at, changed_none, differs_there, past_none}
use Rattle.past_anchors.proofs.roots.root_place.Goals as goal
use Rattle.past_anchors.proofs.roots.root_place.Goals.{else-at-roots-via-then-at-roots+else-eq, else-at-roots-via-else-at-roots}
use Rattle.plain_laws.proofs.Places.{stands_at}
use Rattle.std.proofs.lemmas.Option.{same_Some}

pub returns-then-eq-clause-place : goal.returns-then-eq-clause-place
returns-then-eq-clause-place c up change x at =
    let key = root_key c.args.segments.now in
    let roots = c.args.roots.now in
    let n = c.roots_below-at.result in
    let y = c.index-roots-at.result in
    let less : n < length roots = omega arith in
    let same : same_text (key y) c.args.key.now ≡ true =
    ap (λ (k : List ℕ). same_text k c.args.key.now) (sym c.root_key.ensures) ∙ sym c.eq.ensures ∙ c.if-eq.true in
    let is : y ≡ x = same_Some y x (sym (stands_at roots n y less c.index-roots-at.is) ∙ at) in
    changed_at key c.args.key.now change roots n x up (c.roots_below-at.ensures.place up) at
    (subst (λ (z : Root). same_text (key z) c.args.key.now ≡ true) is same)

pub returns-else-at-roots-clause-place : goal.returns-else-at-roots-clause-place
returns-else-at-roots-clause-place c up change =
    let key = root_key c.args.segments.now in
    let roots = c.args.roots.now in
    let n = c.roots_below-at.result in
    elim c.else-at-roots.branch [
      | else-at-roots-via-then-at-roots+else-eq w ↦
          let less : n < length roots = omega arith in
          changed_none key c.args.key.now change roots n up (c.roots_below-at.ensures.place up)
          (differs_there key c.args.key.now roots n w.index-roots-at.result
          (stands_at roots n w.index-roots-at.result less w.index-roots-at.is)
          (ap (λ (k : List ℕ). same_text k c.args.key.now) (sym w.root_key.ensures) ∙ sym w.eq.ensures ∙
          w.if-eq.false))
      | else-at-roots-via-else-at-roots w ↦
          changed_none key c.args.key.now change roots n up (c.roots_below-at.ensures.place up)
          (past_none key c.args.key.now roots n (omega arith))
    ]
