use Rattle.std.proofs.Common.{◌≡◌, ◌∙◌, refl, sym, ap, subst, rules}
use Rattle.std.specs.Ordering.{nat_cmp}
use Rattle.std.specs.BTreeMap.{get}
use Rattle.std.proofs.lemmas.Result.{err_from_is_err_and}
use Rattle.ci_space.specs.Calls.{GoesOn}
use Rattle.ci_space.proofs.GoingLemmas.{goes_on_joined}
use Rattle.held_intervals.specs.Holding.{AreRead, keeps_itself}
use Rattle.held_intervals.proofs.Holds.{held_same}
use Rattle.root_anchor.specs.Damage.{ChainFails}
use Rattle.root_anchor.specs.Formed.{HasRoots}
use Rattle.root_anchor.proofs.Exits.{given_of}
use Rattle.root_anchor.proofs.BaseLemmas.{walked_roots}
use Rattle.root_anchor.proofs.HeldLemmas.{starts}
use Rattle.root_anchor.proofs.Sound.{chain_sound}
use Rattle.root_anchor.proofs.loading.load.Goals as goal

pub returns-in_err-size-clause-sound : goal.returns-in_err-size-clause-sound
returns-in_err-size-clause-sound g c = λ told has ci e.
    let p = err_from_is_err_and c.from_residual.result c.from_residual.ensures.1 in
    chain_sound has ci (c.begin.ensures.damaged told c.args.segments.now ci (cc (p.1, p.2, c.in_err-size.was)))

pub returns-clause-roots : goal.returns-clause-roots
returns-clause-roots g c = λ told.
    let b = starts c.begin.ensures.look c.new-held.ensures.under (c.new-held.ensures.size ∙ c.in_ok-size.ensures.size)
    (subst (λ m. AreRead (get nat_cmp m) (g.I.Intervals.intervals c.args.i.now)) (sym c.new-held.ensures.read)
    (c.in_ok-size.ensures.read told)) c.new-held.ensures.none_changed g.met.I.Intervals.numbered told in
    given_of c.roots_of.result c.walk_anchor-walked.result (λ w. w.roots)
    (HasRoots c.args.shape.now c.args.segments.now (g.I.Intervals.intervals c.args.i.now) c.args.anchor)
    c.roots_of.ensures.same c.roots_of.ensures.walked
    (walked_roots _ _ _ _ c.args.anchor c.walk_anchor-walked.result b.over
    (c.walk_anchor-walked.ensures.walked b.told_held))

pub returns-clause-damaged : goal.returns-clause-damaged
returns-clause-damaged g c = λ told ci e.
    let b = starts c.begin.ensures.look c.new-held.ensures.under (c.new-held.ensures.size ∙ c.in_ok-size.ensures.size)
    (subst (λ m. AreRead (get nat_cmp m) (g.I.Intervals.intervals c.args.i.now)) (sym c.new-held.ensures.read)
    (c.in_ok-size.ensures.read told)) c.new-held.ensures.none_changed g.met.I.Intervals.numbered told in
    subst (λ a. ChainFails c.args.shape.now c.args.segments.now a c.args.anchor ci) b.over
    (c.walk_anchor-walked.ensures.damaged b.told_held ci (c.roots_of.ensures.err _ e))

pub returns-clause-sound : goal.returns-clause-sound
returns-clause-sound g c = λ told has ci e. chain_sound has ci (returns-clause-damaged g c told ci e)

pub returns-clause-same : goal.returns-clause-same
returns-clause-same g c = λ told.
    let q = c.new-held.result in
    let n = c.walk_anchor-walked.new.i in
    let kept = c.walk_anchor-walked.ensures.look.goes_on.known q
    (refl, keeps_itself _ _ _ _ _ _ q.under.now q.size (get nat_cmp q.changed)) in
    let name = kept.0 ∙ c.new-held.ensures.same_area in
    let told1 = subst (λ x. g.I.Intervals.told x) (sym c.new-held.ensures.under)
    (c.begin.ensures.look.goes_on.tells told) in
    let same = held_same {first = q.under.now} {now = n.under.now} kept.1 c.walk_anchor-walked.ensures.look.same_number
    g.met.I.Intervals.numbered told1 in
    let x : g.I.Intervals.intervals n.under.now ≡ g.I.Intervals.intervals c.args.i.now =
    same ∙ ap g.I.Intervals.intervals c.new-held.ensures.under ∙ c.begin.ensures.look.same told in
    search rules

pub returns-clause-goes_on : goal.returns-clause-goes_on
returns-clause-goes_on g c =
    let q = c.new-held.result in
    let n = c.walk_anchor-walked.new.i in
    let kept = c.walk_anchor-walked.ensures.look.goes_on.known q
    (refl, keeps_itself _ _ _ _ _ _ q.under.now q.size (get nat_cmp q.changed)) in
    let name = kept.0 ∙ c.new-held.ensures.same_area in
    let first = subst (λ x. GoesOn g.I.Intervals.told g.I.Intervals.size g.I.Intervals.faults g.I.Intervals.keeps
    c.args.i.now x) (sym c.new-held.ensures.under) c.begin.ensures.look.goes_on in
    let x = goes_on_joined _ _ _ _ _ _ _ first kept.1.area in
    search rules
