use Rattle.std.proofs.Common.{◌≡◌, ◌<◌, ◌∙◌, ap, sym, subst, Some, length, arith}
use Rattle.std.specs.Prelude.{slice_get}
use Rattle.fp_model.specs.Lasts.{last_of}
use Rattle.balancing.specs.Numbered.{as_last, lasts_in}
use Rattle.balancing.specs.inside.Numbered.{IsPlaced}
use Rattle.balancing.specs.declared.lasts.Place.TheVariants.{Stands, Lacks}
use Rattle.key_order.proofs.Ascending.{IsAscending, found_at, found_there}
use Rattle.balancing.proofs.LastLemmas.{by_parts, key, there}
use Rattle.balancing.proofs.lasts.Lasts.of.Goals as goal
use Rattle.model_laws.proofs.Texts.{same_names}
use Rattle.std.proofs.lemmas.Option.{same_Some}

pub returns-in-Stands-clause-some : goal.returns-in-Stands-clause-some
returns-in-Stands-clause-some c =
    let handles = c.self.inside.terminals.items in
    let at = c.in-Stands.at in
    let all = ap lasts_in c.deref.ensures.value in
    let p = subst (λ ls. IsPlaced key c.args.lterm.now.0 ls (Stands at)) all
    (c.in-Stands.ensures.place (subst (IsAscending key) (sym all) c.self.invariant.0)) in
    let lt : at < length handles = omega (arith, c.in-Stands.ensures.within, ap length c.deref.ensures.value) in
    let here : slice_get (lasts_in handles) at ≡ Some (as_last c.index-kept.result.now.value) =
    there handles at c.index-kept.result.now (omega (arith, lt))
    ∙ ap (λ b. Some (as_last b.value)) (sym c.index-kept.ensures) in
    let is : p.1 ≡ as_last c.index-kept.result.now.value = same_Some _ _ (sym p.2 ∙ here) in
    ap (λ s. last_of c.args.lterm.now s.terminals) (sym c.self.view_is)
    ∙ found_there key c.args.lterm.now.0 (lasts_in handles) at p.1 p.0 c.self.invariant.0 p.2 p.3
    ∙ ap Some is
    ∙ by_parts c.index-kept.result.now.value c.args.lterm.now c.deref-in-Stands.result.now.number c.as_slice.result.now
    (ap (λ last. last.lterm) (sym is) ∙ same_names p.1.lterm c.args.lterm.now p.3)
    (ap (λ k. k.number) c.deref-in-Stands.ensures)
    (c.as_slice.ensures ∙ ap (λ k. k.line) c.deref-in-Stands-2.ensures)

pub returns-in-Lacks-clause-none : goal.returns-in-Lacks-clause-none
returns-in-Lacks-clause-none c =
    let all = ap lasts_in c.deref.ensures.value in
    let p = subst (λ ls. IsPlaced key c.args.lterm.now.0 ls (Lacks c.in-Lacks.field-0)) all
    (c.in-Lacks.ensures.place (subst (IsAscending key) (sym all) c.self.invariant.0)) in
    ap (λ s. last_of c.args.lterm.now s.terminals) (sym c.self.view_is)
    ∙ found_at key c.args.lterm.now.0 (lasts_in c.self.inside.terminals.items)
    c.in-Lacks.field-0 c.self.invariant.0 p.0 ∙ p.1
