use Rattle.std.proofs.Common.{◌≡◌, ◌∙◌, true, [], refl, sym, subst}
use Rattle.std.proofs.lemmas.Result.{err_from_is_err_and, IfOk-weaker}
use Rattle.ci_overflow.specs.Faults.{IsAtFault}
use Rattle.ci_overflow.specs.Lists.{IsInOrder}
use Rattle.root_changes.specs.Gaining.{RootsGain}
use Rattle.root_anchor.specs.Formed.{HasChain, HasRoots}
use Rattle.root_anchor.specs.inside.Gaps.{Grows}
use Rattle.root_anchor.specs.inside.Standing.{AreStanding}
use Rattle.root_anchor.proofs.BaseLemmas.{standing_walked}
use Rattle.root_anchor.proofs.FillLemmas.{any_ok}
use Rattle.root_anchor.proofs.OneChain.{one_chain}
use Rattle.root_anchor.proofs.StoreLemmas.{names_chain, names_fault}
use Rattle.root_anchor.proofs.filling.set_more.Goals as goal

pub returns-in_err-roots-clause-names : goal.returns-in_err-roots-clause-names
returns-in_err-roots-clause-names g c = λ told ci e.
    let p = err_from_is_err_and c.from_residual.result c.from_residual.ensures.1 in
    names_chain (c.walk_anchor.ensures.damaged told ci (cc (p.1, p.2, c.in_err-roots.was)))

pub returns-clause-grows : goal.returns-clause-grows
returns-clause-grows g c = λ told o.
    let shape = c.args.home.now.shape.now in
    let types = c.args.home.now.segments.now in
    let anchor = c.args.home.now.anchor in
    let same = c.walk_anchor.ensures.look.same told in
    let w = c.in_ok-roots.ensures.walked told in
    let has = subst (λ r. HasRoots shape types (g.I.Intervals.intervals c.walk_anchor.new.i) anchor r)
    (sym c.as_slice.ensures)
    (subst (λ x. HasRoots shape types x anchor c.in_ok-roots.field-0.roots) (sym same)
    (record { elements = _; is_chain = w.is_chain })) in
    let all = c.in_ok-roots.field-0.met.items in
    let standing = standing_walked shape types _ anchor c.in_ok-roots.field-0 all refl w in
    IfOk-weaker _ _ (λ more. more ≡ true → Grows shape types (g.I.Intervals.intervals c.args.i.now)
    (g.I.Intervals.intervals c.add_missing.new.i) anchor c.args.after.now) (λ more f yes.
    subst (λ x. Grows shape types x (g.I.Intervals.intervals c.add_missing.new.i) anchor c.args.after.now) same
    (subst (λ r. Grows shape types (g.I.Intervals.intervals c.walk_anchor.new.i)
    (g.I.Intervals.intervals c.add_missing.new.i) anchor r) c.as_slice-2.ensures (f yes)))
    (c.add_missing.ensures.grows (c.walk_anchor.ensures.look.goes_on.tells told)
    (subst (λ x. IsInOrder shape x) (sym same) o) all
    (subst (λ x. AreStanding shape types x anchor all) (sym same) standing) has)

pub returns-clause-more : goal.returns-clause-more
returns-clause-more g c = λ told has gain.
    let w = c.in_ok-roots.ensures.walked told in
    c.add_missing.ensures.some (subst (λ r. RootsGain c.as_slice.result.now r) (sym c.as_slice-2.ensures)
    (subst (λ r. RootsGain r c.args.after.now) ((one_chain has.is_chain w.is_chain).0 ∙ sym c.as_slice.ensures) gain))

pub returns-clause-names : goal.returns-clause-names
returns-clause-names g c = λ told ci e.
    let shape = c.args.home.now.shape.now in
    let types = c.args.home.now.segments.now in
    let anchor = c.args.home.now.anchor in
    let same = c.walk_anchor.ensures.look.same told in
    let w = c.in_ok-roots.ensures.walked told in
    let has = subst (λ r. HasRoots shape types (g.I.Intervals.intervals c.walk_anchor.new.i) anchor r)
    (sym c.as_slice.ensures)
    (subst (λ x. HasRoots shape types x anchor c.in_ok-roots.field-0.roots) (sym same)
    (record { elements = _; is_chain = w.is_chain })) in
    names_fault (record { roots = c.in_ok-roots.field-0.roots; elements = _; is_chain = w.is_chain })
    (subst (λ x. IsAtFault shape x ci) same
    (c.add_missing.ensures.lists (c.walk_anchor.ensures.look.goes_on.tells told) has ci e))

pub returns-clause-stood : goal.returns-clause-stood
returns-clause-stood g c = λ told.
    let w = c.in_ok-roots.ensures.walked told in
    any_ok c.add_missing.result (λ more. more ≡ true → HasChain c.args.home.now.shape.now c.args.home.now.segments.now
    (g.I.Intervals.intervals c.args.i.now) c.args.home.now.anchor)
    (λ more yes. record { roots = c.in_ok-roots.field-0.roots; elements = _; is_chain = w.is_chain })

pub returns-clause-gains : goal.returns-clause-gains
returns-clause-gains g c = any_ok c.add_missing.result (λ more. more ≡ true → RootsGain c.args.before.now
    c.args.after.now)
    (λ more yes. c.gains.ensures.0 c.if-not-gains.false)
