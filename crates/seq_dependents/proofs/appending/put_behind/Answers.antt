use Rattle.std.proofs.Common.{◌≡◌, ◌∙◌, ℕ, List, OnOk, refl, sym, ap, subst, rules}
use Rattle.std.specs.Prelude.{None}
use Rattle.std.specs.Ordering.{nat_cmp}
use Rattle.std.specs.BTreeMap.{get}
use Rattle.ci_space.specs.Calls.{GoesOn}
use Rattle.ci_overflow.specs.Lists.{bytes_at}
use Rattle.held_intervals.specs.Holding.{overlaid, keeps_itself}
use Rattle.held_intervals.proofs.Holds.{begun_told, none_read, none_changed, held_number, on_settled}
use Rattle.seq_dependents.specs.Control.{begin_of, end_of}
use Rattle.seq_dependents.specs.Faults.{IsAtFault}
use Rattle.seq_dependents.specs.Puts.{Appends}
use Rattle.seq_dependents.proofs.appending.put_behind.Goals as goal
use Rattle.ci_space.proofs.GoingLemmas.{goes_on_joined}

pub settle-result-requires : goal.settle-result-requires
settle-result-requires g c =
    let q = c.new-held.result in
    let s = q.under.now in
    let n = c.put_held-put.new.i in
    let kept = c.put_held-put.ensures.goes_on.known q
    (refl, keeps_itself _ _ _ _ _ _ s q.size (get nat_cmp q.changed)) in
    let none = c.new-held.ensures.none_changed in
    let size : q.size ≡ g.I.Intervals.size s = c.new-held.ensures.size ∙ c.size-size.ensures.size
    ∙ c.requires.size ∙ ap g.I.Intervals.size (sym c.new-held.ensures.under) in
    held_number kept.1 size none

pub returns-clause-appended : goal.returns-clause-appended
returns-clause-appended g c = λ told e eb ee.
    let q = c.new-held.result in
    let s = q.under.now in
    let n = c.put_held-put.new.i in
    let kept = c.put_held-put.ensures.goes_on.known q
    (refl, keeps_itself _ _ _ _ _ _ s q.size (get nat_cmp q.changed)) in
    let none = c.new-held.ensures.none_changed in
    let size : q.size ≡ g.I.Intervals.size s = c.new-held.ensures.size ∙ c.size-size.ensures.size
    ∙ c.requires.size ∙ ap g.I.Intervals.size (sym c.new-held.ensures.under) in
    let told1 = subst (λ x. g.I.Intervals.told x) (sym c.new-held.ensures.under) told in
    let area : g.I.Intervals.intervals s ≡ g.I.Intervals.intervals c.args.i.now =
    ap g.I.Intervals.intervals c.new-held.ensures.under in
    let empty : (ci : ℕ) → get nat_cmp q.read ci ≡ None = λ ci. ap (λ m. get nat_cmp m ci) c.new-held.ensures.read
    ∙ c.no_intervals.ensures ci in
    let read = none_read (get nat_cmp q.read) (g.I.Intervals.intervals s) empty in
    let begun = begun_told _ _ _ q.size (get nat_cmp q.read) (get nat_cmp q.changed) size read none in
    let over : overlaid (g.I.Intervals.number s) (get nat_cmp q.changed) (g.I.Intervals.intervals s)
    ≡ g.I.Intervals.intervals c.args.i.now = none_changed (get nat_cmp q.changed) (g.I.Intervals.intervals s) _
    (g.met.I.Intervals.numbered s told1) none ∙ area in
    let next : List (List ℕ) = overlaid (g.I.Intervals.number n.under.now) (get nat_cmp n.changed)
    (g.I.Intervals.intervals n.under.now) in
    let done = c.settle-result.ensures.put (kept.1.area.tells told1) in
    let name = kept.0 ∙ c.new-held.ensures.same_area in
    let made = c.put_held-put.ensures.appended (told1, begun) (e ∙ ap (λ a. bytes_at a 0) (sym over)) (eb ∙ ap begin_of
    (sym over))
    (ee ∙ ap end_of (sym over)) in
    let from_old = subst (λ a. OnOk c.put_held-put.result (Appends c.args.part.now a next c.args.previous
    c.args.items.now))
    over made in
    let x = on_settled c.settle-result.result c.put_held-put.result _ _
    (λ a. Appends c.args.part.now (g.I.Intervals.intervals c.args.i.now) a c.args.previous c.args.items.now)
    c.settle-result.ensures.done done from_old in
    search rules

pub returns-clause-damaged : goal.returns-clause-damaged
returns-clause-damaged g c = λ told n e.
    let q = c.new-held.result in
    let s = q.under.now in
    let m = c.put_held-put.new.i in
    let kept = c.put_held-put.ensures.goes_on.known q
    (refl, keeps_itself _ _ _ _ _ _ s q.size (get nat_cmp q.changed)) in
    let none = c.new-held.ensures.none_changed in
    let size : q.size ≡ g.I.Intervals.size s = c.new-held.ensures.size ∙ c.size-size.ensures.size
    ∙ c.requires.size ∙ ap g.I.Intervals.size (sym c.new-held.ensures.under) in
    let told1 = subst (λ x. g.I.Intervals.told x) (sym c.new-held.ensures.under) told in
    let area : g.I.Intervals.intervals s ≡ g.I.Intervals.intervals c.args.i.now =
    ap g.I.Intervals.intervals c.new-held.ensures.under in
    let empty : (ci : ℕ) → get nat_cmp q.read ci ≡ None = λ ci. ap (λ m. get nat_cmp m ci) c.new-held.ensures.read
    ∙ c.no_intervals.ensures ci in
    let read = none_read (get nat_cmp q.read) (g.I.Intervals.intervals s) empty in
    let begun = begun_told _ _ _ q.size (get nat_cmp q.read) (get nat_cmp q.changed) size read none in
    let over : overlaid (g.I.Intervals.number s) (get nat_cmp q.changed) (g.I.Intervals.intervals s)
    ≡ g.I.Intervals.intervals c.args.i.now = none_changed (get nat_cmp q.changed) (g.I.Intervals.intervals s) _
    (g.met.I.Intervals.numbered s told1) none ∙ area in
    subst (λ a. IsAtFault c.args.part.now a n) over (c.put_held-put.ensures.damaged (told1, begun) n
    (c.settle-result.ensures.damaged n e))

pub returns-clause-goes_on : goal.returns-clause-goes_on
returns-clause-goes_on g c =
    let q = c.new-held.result in
    let s = q.under.now in
    let n = c.put_held-put.new.i in
    let kept = c.put_held-put.ensures.goes_on.known q
    (refl, keeps_itself _ _ _ _ _ _ s q.size (get nat_cmp q.changed)) in
    let none = c.new-held.ensures.none_changed in
    let size : q.size ≡ g.I.Intervals.size s = c.new-held.ensures.size ∙ c.size-size.ensures.size
    ∙ c.requires.size ∙ ap g.I.Intervals.size (sym c.new-held.ensures.under) in
    let name = kept.0 ∙ c.new-held.ensures.same_area in
    let first = subst (λ x. GoesOn g.I.Intervals.told g.I.Intervals.size g.I.Intervals.faults g.I.Intervals.keeps x
    n.under.now)
    c.new-held.ensures.under kept.1.area in
    let x = goes_on_joined _ _ _ _ _ _ _ first c.settle-result.ensures.goes_on in
    search rules
