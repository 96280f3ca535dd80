use Rattle.std.proofs.Common.{◌∙◌, sym, subst}
use Rattle.root_anchor.specs.Newest.{SetsNewest}
use Rattle.root_anchor.specs.Roots.{HasFewer}
use Rattle.area_states.proofs.Loops.{by_cases}
use Rattle.area_states.proofs.appending.set_serial.Goals as goal
use Rattle.std.proofs.lemmas.Option.{same_Some}

pub returns-clause-set : goal.returns-clause-set
returns-clause-set g c = λ told n e none.
    let place = c.args.place.now in
    let same = same_Some c.in-Some.number n (sym c.in-Some.is ∙ e) in
    subst (λ k. SetsNewest place.shape place.segments (g.I.Intervals.intervals c.args.i.now)
    (g.I.Intervals.intervals c.set_newest.new.i) c.args.anchor k c.args.serial) same
    (by_cases _ (c.in_ok-set_newest.ensures.set told) (c.in_ok-set_newest.ensures.none told)
    (λ few. none (subst (λ k. HasFewer place.shape place.segments (g.I.Intervals.intervals c.args.i.now) c.args.anchor k)
    same few)))
