use Rattle.std.proofs.Common.{◌≡◌, ap, sym, ◌∙◌}
use Rattle.std.proofs.lemmas.Result.{err_from_is_err_and}
use Rattle.root_anchor.proofs.BaseLemmas.{missing_base, wrong_base, right_base, missing_none, wrong_none}
use Rattle.root_anchor.proofs.anchor.root_anchor_point.Goals as goal

pub returns-in_err-interval-clause-damaged : goal.returns-in_err-interval-clause-damaged
returns-in_err-interval-clause-damaged g c = λ t types ci e.
    let p = err_from_is_err_and c.from_residual.result c.from_residual.ensures.1 in
    missing_base c.args.shape.now types _ c.args.anchor c.args.base ci c.requires.base
    (c.interval_at.ensures.missing t ci (cc (p.1, p.2, c.in_err-interval.was)))

pub returns-then-head-ne-BASE-clause-damaged : goal.returns-then-head-ne-BASE-clause-damaged
returns-then-head-ne-BASE-clause-damaged g c = λ t types ci e.
    let same : c.args.base ≡ ci = cc in
    wrong_base c.args.shape.now types _ c.args.anchor c.args.base ci c.in_ok-interval.interval c.requires.anchor
    c.requires.base same (c.in_ok-interval.ensures.bytes t)
    (λ k. c.if-head-ne-BASE.true (ap (λ h. h.kind) c.head-head.ensures.head ∙ k))

pub returns-clause-in_place : goal.returns-clause-in_place
returns-clause-in_place g c = λ t.
    right_base c.args.shape.now _ c.args.anchor c.args.base c.in_ok-interval.interval c.requires.anchor c.requires.base
    (c.in_ok-interval.ensures.bytes t) c.in_ok-interval.ensures.interval
    (ap (λ h. h.kind) (sym c.head-head.ensures.head) ∙ c.if-head-ne-BASE.false)

pub returns-in_err-interval-clause-no_base : goal.returns-in_err-interval-clause-no_base
returns-in_err-interval-clause-no_base g c = λ t ci e.
    let p = err_from_is_err_and c.from_residual.result c.from_residual.ensures.1 in
    missing_none c.args.shape.now _ c.args.anchor c.args.base ci c.requires.base
    (c.interval_at.ensures.missing t ci (cc (p.1, p.2, c.in_err-interval.was)))

pub returns-then-head-ne-BASE-clause-no_base : goal.returns-then-head-ne-BASE-clause-no_base
returns-then-head-ne-BASE-clause-no_base g c = λ t ci e.
    let same : c.args.base ≡ ci = cc in
    wrong_none c.args.shape.now _ c.args.anchor c.args.base ci c.in_ok-interval.interval c.requires.anchor
    c.requires.base same (c.in_ok-interval.ensures.bytes t)
    (λ k. c.if-head-ne-BASE.true (ap (λ h. h.kind) c.head-head.ensures.head ∙ k))
