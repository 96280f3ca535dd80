use Rattle.std.proofs.Common.{◌≡◌, ◌*◌, ◌+◌, ◌<◌, ◌^◌, ◌∙◌, ap, not, sym, subst}
use Rattle.std.specs.Prelude.{Some, slice_index}
use Rattle.std.proofs.lemmas.Result.{err_from_is_err_and}
use Rattle.ci_space.specs.Head.{ends_of}
use Rattle.ci_space.specs.Interval.{IsInterval, kind_of}
use Rattle.ci_overflow.specs.Places.{first_independent}
use Rattle.area_states.specs.Places.{counted_by}
use Rattle.dedb_area.proofs.AnchorLemmas.{some_counted, still_shown}
use Rattle.area_staging.proofs.Looks.{looks_then}
use Rattle.dedb_area.specs.Control.{AreEnds}
use Rattle.dedb_area.proofs.StagedPurge.{by_none, by_some, control_is, may_be, not_past}
use Rattle.dedb_area.proofs.purging.control_purged.Goals as goal
use Rattle.plain_laws.proofs.Results.{same_fault}

pub returns-then-is_none-clause-damaged : goal.returns-then-is_none-clause-damaged
returns-then-is_none-clause-damaged g c = λ told bytes shown s at e may.
    let place = c.args.place.now in
    let same = c.in_ok-old.ensures.newest told shown.told.clean shown.told.sizes
    ∙ shown.newest 0 (some_counted place (bytes 0)) in
    by_none c.ends_in.result (AreEnds place.capacity c.in_ok-old.old → ⊥) (c.is_none.ensures ∙ ap not c.if-is_none.true)
    c.ends_in.ensures.none (subst (AreEnds place.capacity) (sym same) may.are_ends)

pub returns-in-None-clause-damaged : goal.returns-in-None-clause-damaged
returns-in-None-clause-damaged g c = λ told bytes shown s at e may.
    let place = c.args.place.now in
    let same = c.in_ok-old.ensures.newest told shown.told.clean shown.told.sizes
    ∙ shown.newest 0 (some_counted place (bytes 0)) in
    not_past (counted_by (Some place) (bytes 0) * place.shape.ci)
    (subst (λ b. 2 ^ 62 < (first_independent place.shape + slice_index (ends_of b) 2) * place.shape.ci) same
    c.in-None.ensures.none) may.counts.ends

pub returns-in_err-new-clause-damaged : goal.returns-in_err-new-clause-damaged
returns-in_err-new-clause-damaged g c = λ told bytes shown s at e may.
    let place = c.args.place.now in
    let looks = c.control.ensures.looks in
    let shown1 = still_shown g.T.Site.told g.T.Site.disk g.T.Site.faults g.T.Site.holds g.T.Site.keeps place c.args.set
    bytes c.args.site.now c.control.new.site c.args.pool.now c.control.new.pool looks told shown in
    let same = c.in_ok-old.ensures.newest told shown.told.clean shown.told.sizes
    ∙ shown.newest 0 (some_counted place (bytes 0)) in
    let count = c.in-Some.ensures.some ∙ ap (counted_by (Some place)) same in
    let p = err_from_is_err_and c.from_residual-in_err-new.result c.from_residual-in_err-new.ensures.1 in
    c.in_err-new.ensures.damaged (looks.continued.still_told told) bytes shown1 count s at
    (same_fault _ _ _ _ p.1 p.2 e)
    (control_is place bytes may)

pub returns-in_err-new-clause-first : goal.returns-in_err-new-clause-first
returns-in_err-new-clause-first g c = λ s at e.
    let p = err_from_is_err_and c.from_residual-in_err-new.result c.from_residual-in_err-new.ensures.1 in
    c.in_err-new.ensures.first s at (same_fault _ _ _ _ p.1 p.2 e)

pub returns-in_err-new-clause-looks : goal.returns-in_err-new-clause-looks
returns-in_err-new-clause-looks g c =
    looks_then g.T.Site.told g.T.Site.disk g.T.Site.faults g.T.Site.holds g.T.Site.keeps c.args.set
    c.args.place.now.shape.ci (λ s t. g.met.T.Site.lawful s t) c.args.site.now c.control.new.site
    c.purged.new.site c.args.pool.now c.control.new.pool c.purged.new.pool c.control.ensures.looks
    c.purged.ensures.looks

pub returns-clause-purged : goal.returns-clause-purged
returns-clause-purged g c = λ told bytes shown.
    let place = c.args.place.now in
    let looks = c.control.ensures.looks in
    let shown1 = still_shown g.T.Site.told g.T.Site.disk g.T.Site.faults g.T.Site.holds g.T.Site.keeps place c.args.set
    bytes c.args.site.now c.control.new.site c.args.pool.now c.control.new.pool looks told shown in
    let same = c.in_ok-old.ensures.newest told shown.told.clean shown.told.sizes
    ∙ shown.newest 0 (some_counted place (bytes 0)) in
    let count = c.in-Some.ensures.some ∙ ap (counted_by (Some place)) same in
    c.in_ok-new.ensures.purged (looks.continued.still_told told) bytes shown1 count

pub returns-clause-looks : goal.returns-clause-looks
returns-clause-looks g c =
    looks_then g.T.Site.told g.T.Site.disk g.T.Site.faults g.T.Site.holds g.T.Site.keeps c.args.set
    c.args.place.now.shape.ci (λ s t. g.met.T.Site.lawful s t) c.args.site.now c.control.new.site
    c.purged.new.site c.args.pool.now c.control.new.pool c.purged.new.pool c.control.ensures.looks
    c.purged.ensures.looks

pub returns-in_err-new-clause-never_full : goal.returns-in_err-new-clause-never_full
returns-in_err-new-clause-never_full g c = λ s begin end n e.
    let p = err_from_is_err_and c.from_residual-in_err-new.result c.from_residual-in_err-new.ensures.1 in
    c.in_err-new.ensures.never_full s begin end n (same_fault _ _ _ _ p.1 p.2 e)

pub returns-clause-sound : goal.returns-clause-sound
returns-clause-sound g c = λ told bytes shown.
    let place = c.args.place.now in
    let same = c.in_ok-old.ensures.newest told shown.told.clean shown.told.sizes
    ∙ shown.newest 0 (some_counted place (bytes 0)) in
    may_be place (bytes 0) c.in-Some.count (subst IsInterval same c.in_ok-old.ensures.interval)
    (subst (λ b. kind_of b ≡ 1) same c.in_ok-old.ensures.kind)
    (c.in-Some.ensures.some ∙ ap (counted_by (Some place)) same) c.in-Some.ensures.ends
    (subst (AreEnds place.capacity) same
    (by_some c.ends_in.result (AreEnds place.capacity c.in_ok-old.old)
    (c.is_none.ensures ∙ ap not c.if-is_none.false) c.ends_in.ensures.some))
