use Rattle.std.proofs.Common.{◌≡◌, ◌∙◌, ◌<◌, true, length, refl, sym, ap, subst, IfOk}
use Rattle.std.proofs.lemmas.Option.{slice_get_within}
use Rattle.std.proofs.lemmas.Result.{err_from_is_err_and}
use Rattle.ci_overflow.specs.Faults.{IsAtFault}
use Rattle.ci_overflow.specs.Lists.{IsInOrder, IsInPlace}
use Rattle.ci_overflow.specs.Places.{base_of}
use Rattle.fp_model.specs.declared.database.Root.{Root}
use Rattle.fp_model.specs.Order.{child_types}
use Rattle.root_anchor.specs.Chains.{root_of}
use Rattle.root_anchor.specs.Formed.{HasRoots}
use Rattle.root_anchor.specs.inside.Gaps.{AddsInFront, Grows}
use Rattle.root_anchor.specs.inside.Standing.{AreStanding}
use Rattle.root_anchor.specs.Stored.{is_storable}
use Rattle.root_changes.proofs.GainingLemmas.{first_more, more_item}
use Rattle.root_anchor.proofs.FillLemmas.{front_few, front_one, front_stay, front_rebuilds}
use Rattle.root_anchor.proofs.GapPlaces.{root_new_read}
use Rattle.root_anchor.proofs.TypeLemmas.{root_at, roots-root, rows-count}
use Rattle.root_anchor.proofs.filling.add_missing.Goals as goal

-- ---- a root in front of all others

pub bounds-others-0 : goal.bounds-others-0
bounds-others-0 g c =
    let new = c.gain_of_roots-gain.ensures.tells.new 0 (c.is_in_front.ensures.0 c.if-is_in_front.true) in
    let b : 0 < length c.args.others.now = slice_get_within c.args.others.now 0 new.item
    (more_item c.args.roots.now c.args.others.now 0 new.item new.more) in
    b

pub add_in_front-requires-clause-root : goal.add_in_front-requires-clause-root
add_in_front-requires-clause-root g c =
    let new = c.gain_of_roots-gain.ensures.tells.new 0 (c.is_in_front.ensures.0 c.if-is_in_front.true) in
    let b : 0 < length c.args.others.now = slice_get_within c.args.others.now 0 new.item
    (more_item c.args.roots.now c.args.others.now 0 new.item new.more) in
    ap (is_storable c.args.home.now.segments.now) c.index-others-0.is
    ∙ root_at c.args.home.now.segments.now c.args.others.now 0 c.index-others-0.result c.requires.form b

pub returns-in_err-first-clause-lists : goal.returns-in_err-first-clause-lists
returns-in_err-first-clause-lists g c = λ told has ci e.
    let p = err_from_is_err_and c.from_residual.result c.from_residual.ensures.1 in
    absurd ((c.root_anchor_point.ensures.no_base told ci (cc (p.1, p.2, c.in_err-first.was))).1 has.is_chain.base)

pub returns-in_err-add_in_front-clause-lists : goal.returns-in_err-add_in_front-clause-lists
returns-in_err-add_in_front-clause-lists g c = λ told has ci e.
    let shape = c.args.home.now.shape.now in
    let same = c.root_anchor_point.ensures.look.same told in
    let base = subst (λ x. IsInPlace shape x (base_of shape c.args.home.now.anchor)) (sym same) has.is_chain.base in
    let p = err_from_is_err_and c.from_residual-in_err-add_in_front.result
    c.from_residual-in_err-add_in_front.ensures.1 in
    subst (λ x. IsAtFault shape x ci) same
    (c.in_err-add_in_front.ensures.lists (c.root_anchor_point.ensures.look.goes_on.tells told) base ci
    (cc (p.1, p.2, c.in_err-add_in_front.was)))

pub returns-then-is_in_front-clause-grows : goal.returns-then-is_in_front-clause-grows
returns-then-is_in_front-clause-grows g c = λ told o all a has yes.
    let shape = c.args.home.now.shape.now in
    let types = c.args.home.now.segments.now in
    let anchor = c.args.home.now.anchor in
    let same = c.root_anchor_point.ensures.look.same told in
    let base = subst (λ x. IsInPlace shape x (base_of shape anchor)) (sym same) (c.in_ok-first.ensures.in_place told) in
    let first = c.in_ok-first.first in
    let z : Root = c.index-others-0.result in
    let new = root_new_read c.args.roots.now c.args.others.now 0 z
    (c.gain_of_roots-gain.ensures.tells.new 0 (c.is_in_front.ensures.0 c.if-is_in_front.true)) c.index-others-0.is in
    let adds = subst (λ x. AddsInFront shape types x (g.I.Intervals.intervals c.add_in_front.new.i) anchor first z) same
    (c.in_ok-add_in_front.ensures.filled (c.root_anchor_point.ensures.look.goes_on.tells told) base) in
    record {
      refills = record {
        all = all;
        standing = a;
        rebuilds = front_rebuilds shape types _ _ anchor all first c.args.roots.now c.args.others.now z
            (c.in_ok-first.ensures.root told) a has
            (first_more c.args.roots.now c.args.others.now 0 z new.more refl) new.bare
            (rows-count types (child_types types 0) z.children
            (roots-root types c.args.others.now 0 z c.requires.form new.within c.index-others-0.is).rows) adds;
      };
      few = front_few shape types _ _ anchor first z adds;
      stay = front_stay shape types _ _ anchor first z adds;
      one = front_one shape types _ _ anchor first z o adds;
    }

-- ---- any other segment

pub returns-clause-grows : goal.returns-clause-grows
returns-clause-grows g c = λ told o all a has.
    let shape = c.args.home.now.shape.now in
    let types = c.args.home.now.segments.now in
    let anchor = c.args.home.now.anchor in
    let same = c.root_anchor_point.ensures.look.same told in
    subst (λ x. IfOk c.add_behind.result (λ added. added ≡ true
    → Grows shape types x (g.I.Intervals.intervals c.add_behind.new.i) anchor c.args.others.now)) same
    (c.add_behind.ensures.grows (c.root_anchor_point.ensures.look.goes_on.tells told)
    (subst (λ x. IsInOrder shape x) (sym same) o)
    (c.in_ok-first.ensures.root told ∙ ap (λ x. root_of shape x anchor) (sym same)) all
    (subst (λ x. AreStanding shape types x anchor all) (sym same) a)
    (subst (λ x. HasRoots shape types x anchor c.args.roots.now) (sym same) has))

pub returns-clause-some : goal.returns-clause-some
returns-clause-some g c = λ gain. c.add_behind.ensures.some (λ e. c.gain_of_roots-gain.ensures.tells.none e gain)
    (λ e. let yes = c.is_in_front.ensures.1 e in let no = c.if-is_in_front.false in absurd (cc))

pub returns-clause-lists : goal.returns-clause-lists
returns-clause-lists g c = λ told has ci e.
    let shape = c.args.home.now.shape.now in
    let types = c.args.home.now.segments.now in
    let anchor = c.args.home.now.anchor in
    let same = c.root_anchor_point.ensures.look.same told in
    subst (λ x. IsAtFault shape x ci) same
    (c.add_behind.ensures.lists (c.root_anchor_point.ensures.look.goes_on.tells told)
    (c.in_ok-first.ensures.root told ∙ ap (λ x. root_of shape x anchor) (sym same))
    (subst (λ x. HasRoots shape types x anchor c.args.roots.now) (sym same) has) ci e)
