use Rattle.std.proofs.Common.{◌≡◌, ◌∙◌, List, [], OnOk, reverse, sym, ap, subst}
use Rattle.std.proofs.lemmas.List.{append-nil}
use Rattle.std.proofs.lemmas.Result.{IfOk-from_err, err_from_is_err_and}
use Rattle.ci_overflow.specs.Lists.{IsInOrder}
use Rattle.root_anchor.specs.Chains.{IsChain}
use Rattle.root_anchor.specs.Keeping.{keys_of_roots}
use Rattle.root_anchor.specs.inside.Keeping.{marks_of}
use Rattle.root_anchor.specs.inside.Rebuilding.{ArePlaced, met_after, reserved}
use Rattle.root_anchor.specs.inside.Standing.{places_of}
use Rattle.root_anchor.specs.declared.plan.Planned.{Planned}
use Rattle.root_anchor.specs.declared.standing.Standing.{Standing}
use Rattle.root_anchor.proofs.KeyLemmas.{chain-keys, have-keys, keeps-on-ok, kept-placed, kept-reserved, met-reverse}
use Rattle.root_anchor.proofs.OneChain.{one_chain}
use Rattle.root_anchor.proofs.Rebuilt.{has_chain, lists_fail, ready}
use Rattle.root_anchor.proofs.StoreLemmas.{names_chain, rebuilt_stores}
use Rattle.root_anchor.proofs.storing.store_held.Goals as goal
use Rattle.plain_laws.proofs.Results.{same_fault}

pub returns-in_err-standing-clause-stores : goal.returns-in_err-standing-clause-stores
returns-in_err-standing-clause-stores g c = λ told. IfOk-from_err c.from_residual.result _ c.from_residual.ensures.0

pub returns-in_err-standing-clause-names : goal.returns-in_err-standing-clause-names
returns-in_err-standing-clause-names g c = λ told ci e.
    let f = err_from_is_err_and c.from_residual.result c.from_residual.ensures.1 in
    names_chain (c.in_err-standing.ensures.damaged told ci (same_fault _ _ _ _ f.1 f.2 e))

pub returns-clause-stores : goal.returns-clause-stores
returns-clause-stores g c = λ told.
    let shape = c.args.shape.now in
    let types = c.args.segments.now in
    let old = g.I.Intervals.intervals c.args.i.now in
    let new = g.I.Intervals.intervals c.rebuild.new.i in
    let told1 = c.elements_of.ensures.goes_on.tells told in
    let same = c.elements_of.ensures.same told in
    let standing = c.in_ok-standing.ensures.standing told in
    let is_ready = ready _ _ _ _ c.args.anchor _ _ _ _ _ same c.as_slice.ensures.value standing
    c.in_ok-plan.ensures.shares c.in_ok-plan.ensures.types in
    rebuilt_stores c.rebuild.result shape types old _ new c.args.anchor _ _ _ _ _ same c.as_slice.ensures.value
    c.requires.anchor standing c.in_ok-plan.ensures.shares (c.rebuild.ensures.rebuilt told1 is_ready)
    (λ o. keeps-on-ok c.rebuild.result shape types old new c.args.anchor c.args.roots.now (λ before elements chain keys.
    (let list : List Standing = c.in_ok-standing.standing.items in
    let turn = c.in_ok-standing.ensures.in_turn told in
    let one = one_chain chain turn.is_chain in
    let marks : marks_of list ≡ keys_of_roots types c.args.roots.now =
    chain-keys shape types old c.args.anchor turn.roots list turn.is_chain
    (have-keys types old list standing.typed (c.in_ok-standing.ensures.keys told))
    ∙ ap (keys_of_roots types) (sym one.0) ∙ keys in
    let plan = c.in_ok-plan.ensures.kept marks in
    let A : List Planned → Type 0 = ArePlaced in
    let made = c.rebuild.ensures.kept told1 (subst (λ a. IsInOrder shape a) (sym same) o) is_ready
    (subst A (sym plan) (kept-placed list)) in
    let there : met_after (reserved c.in_ok-plan.plan.items) [] ≡ elements =
    ap (λ p. met_after (reserved p) []) plan ∙ ap (λ xs. met_after xs []) (kept-reserved list)
    ∙ met-reverse (places_of list) [] ∙ append-nil (reverse (places_of list)) ∙ sym one.1 in
    subst (λ es. OnOk c.rebuild.result (IsChain shape types new c.args.anchor c.args.roots.now es)) there made)))

pub returns-clause-names : goal.returns-clause-names
returns-clause-names g c = λ told ci e.
    let told1 = c.elements_of.ensures.goes_on.tells told in
    let same = c.elements_of.ensures.same told in
    let standing = c.in_ok-standing.ensures.standing told in
    let shares = c.in_ok-plan.ensures.shares in
    let is_ready = ready _ _ _ _ c.args.anchor _ _ _ _ _ same c.as_slice.ensures.value standing shares
    c.in_ok-plan.ensures.types in
    record {
      sound = λ o h. c.rebuild.ensures.sound told1 (subst (λ a. IsInOrder c.args.shape.now a) (sym same) o) is_ready ci
          e;
      damaged = λ none. absurd (none (has_chain standing));
      lists = λ h. lists_fail _ _ _ _ c.args.anchor ci _ _ _ _ same c.as_slice.ensures.value standing shares
          (c.rebuild.ensures.lists told1 is_ready ci e);
    }
