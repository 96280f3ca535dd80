use Rattle.std.proofs.Common.{◌≡◌, ◌∙◌, ℕ, List, refl, sym, ap, subst, rules}
use Rattle.std.specs.Ordering.{nat_cmp}
use Rattle.std.specs.BTreeMap.{get}
use Rattle.std.proofs.lemmas.Result.{IfOk-from_err, err_from_is_err_and}
use Rattle.ci_space.specs.Calls.{GoesOn}
use Rattle.ci_space.proofs.GoingLemmas.{goes_on_joined}
use Rattle.held_intervals.specs.Holding.{overlaid, AreRead, keeps_itself}
use Rattle.held_intervals.proofs.Holds.{held_number}
use Rattle.root_anchor.specs.inside.Storing.{Names, Stores}
use Rattle.root_anchor.proofs.HeldLemmas.{starts}
use Rattle.root_anchor.proofs.StoreLemmas.{names_chain, settled}
use Rattle.root_anchor.proofs.storing.store_and_put.Goals as goal

pub returns-in_err-size-clause-stores : goal.returns-in_err-size-clause-stores
returns-in_err-size-clause-stores g c = λ told. IfOk-from_err c.from_residual.result _ c.from_residual.ensures.0

pub returns-in_err-size-clause-names : goal.returns-in_err-size-clause-names
returns-in_err-size-clause-names g c = λ told ci e.
    let p = err_from_is_err_and c.from_residual.result c.from_residual.ensures.1 in
    names_chain (c.begin.ensures.damaged told c.args.segments.now ci (cc (p.1, p.2, c.in_err-size.was)))

pub settle-result-requires : goal.settle-result-requires
settle-result-requires g c =
    let q = c.new-held.result in
    let kept = c.store_held-stored.ensures.goes_on.known q
    (refl, keeps_itself _ _ _ _ _ _ q.under.now q.size (get nat_cmp q.changed)) in
    let size : q.size ≡ g.I.Intervals.size q.under.now = c.new-held.ensures.size ∙ c.in_ok-size.ensures.size
    ∙ sym c.begin.ensures.look.goes_on.same_size ∙ ap g.I.Intervals.size (sym c.new-held.ensures.under) in
    held_number kept.1 size c.new-held.ensures.none_changed

pub returns-clause-stores : goal.returns-clause-stores
returns-clause-stores g c = λ told.
    let q = c.new-held.result in
    let n = c.store_held-stored.new.i in
    let b = starts c.begin.ensures.look c.new-held.ensures.under (c.new-held.ensures.size ∙ c.in_ok-size.ensures.size)
    (subst (λ m. AreRead (get nat_cmp m) (g.I.Intervals.intervals c.args.i.now)) (sym c.new-held.ensures.read)
    (c.in_ok-size.ensures.read told)) c.new-held.ensures.none_changed g.met.I.Intervals.numbered told in
    let kept = c.store_held-stored.ensures.goes_on.known q
    (refl, keeps_itself _ _ _ _ _ _ q.under.now q.size (get nat_cmp q.changed)) in
    let next : List (List ℕ) = overlaid (g.I.Intervals.number n.under.now) (get nat_cmp n.changed)
    (g.I.Intervals.intervals n.under.now) in
    let name = kept.0 ∙ c.new-held.ensures.same_area in
    let x = settled c.settle-result.result c.store_held-stored.result _ _ next _
    (λ old new. Stores c.args.shape.now c.args.segments.now old new c.args.anchor c.args.roots.now) b.over
    c.settle-result.ensures.done (c.settle-result.ensures.put (kept.1.area.tells b.told_held.0))
    (c.store_held-stored.ensures.stores b.told_held) in
    search rules

pub returns-clause-names : goal.returns-clause-names
returns-clause-names g c = λ told ci e.
    let b = starts c.begin.ensures.look c.new-held.ensures.under (c.new-held.ensures.size ∙ c.in_ok-size.ensures.size)
    (subst (λ m. AreRead (get nat_cmp m) (g.I.Intervals.intervals c.args.i.now)) (sym c.new-held.ensures.read)
    (c.in_ok-size.ensures.read told)) c.new-held.ensures.none_changed g.met.I.Intervals.numbered told in
    subst (λ a. Names c.args.shape.now c.args.segments.now a c.args.anchor ci) b.over
    (c.store_held-stored.ensures.names b.told_held ci (c.settle-result.ensures.damaged ci e))

pub returns-clause-goes_on : goal.returns-clause-goes_on
returns-clause-goes_on g c =
    let q = c.new-held.result in
    let n = c.store_held-stored.new.i in
    let kept = c.store_held-stored.ensures.goes_on.known q
    (refl, keeps_itself _ _ _ _ _ _ q.under.now q.size (get nat_cmp q.changed)) in
    let name = kept.0 ∙ c.new-held.ensures.same_area in
    let first = subst (λ x. GoesOn g.I.Intervals.told g.I.Intervals.size g.I.Intervals.faults g.I.Intervals.keeps
    c.args.i.now x) (sym c.new-held.ensures.under) c.begin.ensures.look.goes_on in
    let x = goes_on_joined _ _ _ _ _ _ _ (goes_on_joined _ _ _ _ _ _ _ first kept.1.area)
    c.settle-result.ensures.goes_on in
    search rules
