use Rattle.std.proofs.Common.{◌≡◌, ◌∙◌, inl, sym, refl, arith}
use Rattle.std.proofs.lemmas.Result.{err_from_is_err_and}
use Rattle.ci_overflow.specs.Lists.{bytes_at}
use Rattle.ci_space.specs.Interval.{kind_of}
use Rattle.seq_dependents.proofs.Appends.{appends}
use Rattle.seq_dependents.proofs.appending.put_held.Goals as goal
use Rattle.plain_laws.proofs.Results.{on_ok_map, same_fault}

pub returns-in_err-fill-clause-damaged : goal.returns-in_err-fill-clause-damaged
returns-in_err-fill-clause-damaged g c = λ t n e.
    let p = err_from_is_err_and c.from_residual.result c.from_residual.ensures.1 in
    c.in_err-fill.ensures.damaged t n (same_fault _ _ _ _ p.1 p.2 e)

pub returns-clause-appended : goal.returns-clause-appended
returns-clause-appended g c = λ t e eb ee.
    let filled = c.in_ok-fill.ensures.filled t in
    let first : c.args.control.interval ≡ bytes_at (g.I.Intervals.intervals c.fill.new.i) 0 =
    e ∙ sym (filled.elsewhere 0 (inl (omega arith))) in
    let kind : kind_of (bytes_at (g.I.Intervals.intervals c.args.i.now) 0) ≡ 1 = rw (← e) c.requires.kind in
    on_ok_map _ _ _ (λ put. appends c.args.part.now _ _ _ c.args.control.ends.begin c.args.control.ends.end _
    c.args.previous c.args.items.now c.requires.holds kind eb ee c.requires.few refl filled put)
    (c.put_ends.ensures.put (c.fill.ensures.goes_on.tells t) first)
