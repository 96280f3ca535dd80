use Rattle.std.proofs.Common.{◌≡◌}
use Rattle.std.proofs.lemmas.Result.{err_from_is_err_and}
use Rattle.anchor_elements.proofs.ReadLemmas.{refused, wrong_missing, wrong_element, wrong_segment}
use Rattle.anchor_elements.proofs.element.read_element.Goals as goal

pub returns-in_err-interval-clause-wrong : goal.returns-in_err-interval-clause-wrong
returns-in_err-interval-clause-wrong g c = λ t ci e met.
    let p = err_from_is_err_and c.from_residual.result c.from_residual.ensures.1 in
    wrong_missing _ _ _ _ _ _ _ (c.interval_at.ensures.missing t ci (cc (p.1, p.2, c.in_err-interval.was)))

pub returns-then-not-is_of_type-clause-wrong : goal.returns-then-not-is_of_type-clause-wrong
returns-then-not-is_of_type-clause-wrong g c = λ t ci e met.
    let same : c.args.from ≡ ci = cc in
    wrong_element c.args.segments.now _ met c.args.from ci c.args.segment c.args.at _ same
    (c.in_ok-interval.ensures.bytes t) c.in_ok-interval.ensures.interval
    (refused c.is_of_type.ensures.is c.if-not-is_of_type.true)

pub returns-clause-wrong : goal.returns-clause-wrong
returns-clause-wrong g c = λ t ci e met.
    let none = rw c.in-None.is at c.in_ok-said.ensures.none in
    let same : c.args.at.0 ≡ ci = cc in
    wrong_segment c.args.segments.now _ met c.args.from ci c.args.segment c.args.at _ same
    (c.in_ok-interval.ensures.bytes t) (c.is_of_type.ensures.is.0 c.if-not-is_of_type.false) none
