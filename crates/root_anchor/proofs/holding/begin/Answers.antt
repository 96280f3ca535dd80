use Rattle.std.proofs.Common.{◌≡◌, ◌<◌, ◌∙◌, Some, slice_get, length, sym, ap, arith}
use Rattle.std.proofs.lemmas.Result.{err_from_is_err_and}
use Rattle.held_intervals.proofs.Holds.{slice-get_or}
use Rattle.root_anchor.proofs.BaseLemmas.{missing_base}
use Rattle.root_anchor.proofs.holding.begin.Goals as goal

pub returns-in_err-interval-clause-damaged : goal.returns-in_err-interval-clause-damaged
returns-in_err-interval-clause-damaged g c = λ t types ci e.
    let p = err_from_is_err_and c.from_residual.result c.from_residual.ensures.1 in
    missing_base c.args.shape.now types _ c.args.anchor c.base_of-base.result ci c.base_of-base.ensures
    (c.interval_at.ensures.missing t ci (cc (p.1, p.2, c.in_err-interval.was)))

pub returns-clause-read : goal.returns-clause-read
returns-clause-read g c = λ t.
    let area = g.I.Intervals.intervals c.args.i.now in
    let below : c.base_of-base.result < length area =
    omega (arith, c.in_ok-interval.ensures.below, g.met.I.Intervals.numbered c.args.i.now t) in
    let here : slice_get area c.base_of-base.result ≡ Some c.in_ok-interval.interval =
    slice-get_or area c.base_of-base.result below ∙ ap Some (sym (c.in_ok-interval.ensures.bytes t)) in
    c.in_ok-read.ensures area here
