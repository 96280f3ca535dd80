use Rattle.std.proofs.Common.{refl, sym, subst}
use Rattle.std.proofs.lemmas.Result.{err_from_is_err_and}
use Rattle.area_states.specs.States.{HasAnchor}
use Rattle.ci_pool.specs.Held.{held_at}
use Rattle.dedb_area.specs.Anchors.{intervals_of, uncounted, unreadable}
use Rattle.area_staging.specs.Staging.{AllAtHand}
use Rattle.dedb_area.proofs.AnchorLemmas.{begin_first, by_given, some_counted, still_shown}
use Rattle.area_staging.proofs.AtHand.{hand_then, still_at_hand}
use Rattle.area_staging.proofs.Looks.{looks_then}
use Rattle.area_staging.proofs.Staged.{reads_nothing, reads_then}
use Rattle.dedb_area.proofs.anchors.roots_at.Goals as goal
use Rattle.plain_laws.proofs.Results.{same_fault}
use Rattle.plain_laws.proofs.Options.{some_value}

pub returns-in_err-count-clause-damaged : goal.returns-in_err-count-clause-damaged
returns-in_err-count-clause-damaged g c = λ told bytes shown s at e.
    let p = err_from_is_err_and c.from_residual.result c.from_residual.ensures.1 in
    let is = same_fault _ _ _ _ p.1 p.2 e in (
      0,
      begin_first c.args.place.now at (c.in_err-count.ensures.first s at is).1,
      uncounted refl (c.in_err-count.ensures.damaged told bytes shown s at is),
    )

pub returns-in_err-count-clause-here : goal.returns-in_err-count-clause-here
returns-in_err-count-clause-here g c = λ s at e.
    let p = err_from_is_err_and c.from_residual.result c.from_residual.ensures.1 in
    (c.in_err-count.ensures.first s at (same_fault _ _ _ _ p.1 p.2 e)).0

pub returns-in_err-count-clause-unread : goal.returns-in_err-count-clause-unread
returns-in_err-count-clause-unread g c = λ told bytes shown all.
    let w = some_value (held_at c.args.pool.now c.args.set 0) (all 0 (some_counted c.args.place.now (bytes 0))) in
    reads_nothing g.T.Site.tells_reads g.T.Site.bytes_read c.args.site.now c.counted.new.site
    (c.counted.ensures.unread w.0 w.1)

pub returns-in_err-count-clause-hand : goal.returns-in_err-count-clause-hand
returns-in_err-count-clause-hand g c = λ told bytes shown all.
    let w = some_value (held_at c.args.pool.now c.args.set 0) (all 0 (some_counted c.args.place.now (bytes 0))) in
    c.counted.ensures.hand w.0 w.1

pub returns-clause-roots : goal.returns-clause-roots
returns-clause-roots g c = λ told bytes shown.
    let place = c.args.place.now in
    let looks = c.counted.ensures.looks in
    let shown1 = still_shown g.T.Site.told g.T.Site.disk g.T.Site.faults g.T.Site.holds g.T.Site.keeps place c.args.set
    bytes c.args.site.now c.counted.new.site c.args.pool.now c.counted.new.pool looks told shown in
    by_given c.given.result c.read_through-read.result (HasAnchor place (intervals_of place bytes) c.args.anchor)
    c.given.ensures.same
    (c.read_through-read.ensures.roots (looks.continued.still_told told) bytes shown1
    (c.in_ok-count.ensures.count told bytes shown))

pub returns-clause-damaged : goal.returns-clause-damaged
returns-clause-damaged g c = λ told bytes shown s at e.
    let place = c.args.place.now in
    let looks = c.counted.ensures.looks in
    let shown1 = still_shown g.T.Site.told g.T.Site.disk g.T.Site.faults g.T.Site.holds g.T.Site.keeps place c.args.set
    bytes c.args.site.now c.counted.new.site c.args.pool.now c.counted.new.pool looks told shown in
    let found = c.given.ensures.damaged s at e in (
      found.0,
      found.3,
      unreadable (c.read_through-read.ensures.damaged (looks.continued.still_told told) bytes shown1
          (c.in_ok-count.ensures.count told bytes shown) found.0 found.1),
    )

pub returns-clause-here : goal.returns-clause-here
returns-clause-here g c = λ s at e. (c.given.ensures.damaged s at e).2

pub returns-clause-unread : goal.returns-clause-unread
returns-clause-unread g c = λ told bytes shown all.
    let place = c.args.place.now in
    let looks = c.counted.ensures.looks in
    let w = some_value (held_at c.args.pool.now c.args.set 0) (all 0 (some_counted place (bytes 0))) in
    let all1 = still_at_hand c.args.set c.in_ok-count.count c.args.pool.now c.counted.new.pool
    (subst (λ n. AllAtHand c.args.pool.now c.args.set n) (sym (c.in_ok-count.ensures.count told bytes shown)) all)
    (c.counted.ensures.hand w.0 w.1) in
    reads_then g.T.Site.tells_reads g.T.Site.bytes_read c.args.site.now c.counted.new.site c.read_through-read.new.site
    (reads_nothing g.T.Site.tells_reads g.T.Site.bytes_read c.args.site.now c.counted.new.site
    (c.counted.ensures.unread w.0 w.1))
    (c.read_through-read.ensures.unread all1)

pub returns-clause-hand : goal.returns-clause-hand
returns-clause-hand g c = λ told bytes shown all.
    let w = some_value (held_at c.args.pool.now c.args.set 0) (all 0 (some_counted c.args.place.now (bytes 0))) in
    let all1 = still_at_hand c.args.set c.in_ok-count.count c.args.pool.now c.counted.new.pool
    (subst (λ n. AllAtHand c.args.pool.now c.args.set n) (sym (c.in_ok-count.ensures.count told bytes shown)) all)
    (c.counted.ensures.hand w.0 w.1) in
    hand_then c.args.pool.now c.counted.new.pool c.read_through-read.new.pool (c.counted.ensures.hand w.0 w.1)
    (c.read_through-read.ensures.hand all1)

pub returns-clause-looks : goal.returns-clause-looks
returns-clause-looks g c =
    looks_then g.T.Site.told g.T.Site.disk g.T.Site.faults g.T.Site.holds g.T.Site.keeps c.args.set
    c.args.place.now.shape.ci (λ s t. g.met.T.Site.lawful s t) c.args.site.now c.counted.new.site
    c.read_through-read.new.site c.args.pool.now c.counted.new.pool c.read_through-read.new.pool
    c.counted.ensures.looks c.read_through-read.ensures.looks
