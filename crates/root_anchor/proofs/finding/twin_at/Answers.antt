use Rattle.std.proofs.Common.{[], arith}
use Rattle.std.proofs.lemmas.Result.{err_from_is_err_and}
use Rattle.anchor_elements.specs.Reading.{segment_of}
use Rattle.root_anchor.proofs.FindingLemmas.{twin_right, finds_on, leads_on, found_twin}
use Rattle.root_anchor.proofs.WalkSteps.{looks_joined}
use Rattle.root_anchor.proofs.finding.twin_at.Goals as goal

pub returns-in_err-said-clause-sound : goal.returns-in_err-said-clause-sound
returns-in_err-said-clause-sound g c = λ t place s twin ci e.
    let p = err_from_is_err_and c.from_residual.result c.from_residual.ensures.1 in
    let inv = c.loop-left.invariant in
    twin_right c.args.segments.now _ _ c.args.segment c.loop-left.left c.loop-left.from ci c.loop-left.at place s
    (inv.look.same t) (inv.leads t place s twin)
    (c.read_element.ensures.wrong (inv.look.goes_on.tells t) ci (cc (p.1, p.2, c.in_err-said.was)) [])

pub loop-left-preserved : goal.loop-left-preserved
loop-left-preserved g c =
    let inv = c.loop-left.invariant in
    record {
      look = looks_joined _ _ _ _ _ _ _ _ _ inv.look (record {
        same = c.read_element.ensures.same;
        same_number = c.read_element.ensures.number;
        goes_on = c.read_element.ensures.goes_on;
      });
      finds = λ t place u twin. inv.finds t place u (finds_on c.args.segments.now _ _ c.args.segment c.loop-left.left _
          c.loop-left.at (segment_of c.in_ok-said.said) place u (inv.look.same t)
          (omega (arith, c.loop-left-test.true)) (c.in_ok-said.ensures.says (inv.look.goes_on.tells t)) twin);
      leads = λ t place u twin. leads_on c.args.segments.now _ _ c.args.segment c.loop-left.left _
          c.loop-left.at (segment_of c.in_ok-said.said) place u (inv.look.same t)
          (omega (arith, c.loop-left-test.true)) (c.in_ok-said.ensures.says (inv.look.goes_on.tells t))
          (inv.leads t place u twin);
    }

pub returns-in_err-said-2-clause-sound : goal.returns-in_err-said-2-clause-sound
returns-in_err-said-2-clause-sound g c = λ t place s twin ci e.
    let p = err_from_is_err_and c.from_residual-in_err-said-2.result c.from_residual-in_err-said-2.ensures.1 in
    let inv = c.loop-left.invariant in
    twin_right c.args.segments.now _ _ c.args.segment c.loop-left.left c.loop-left.from ci c.loop-left.at place s
    (inv.look.same t) (inv.leads t place s twin)
    (c.read_element-2.ensures.wrong (inv.look.goes_on.tells t) ci (cc (p.1, p.2, c.in_err-said-2.was)) [])

pub returns-clause-twin : goal.returns-clause-twin
returns-clause-twin g c = λ t.
    let inv = c.loop-left.invariant in
    inv.finds t c.loop-left.at (segment_of c.in_ok-said-2.said)
    (found_twin c.args.segments.now _ _ c.args.segment c.loop-left.left c.loop-left.at (segment_of c.in_ok-said-2.said)
    (inv.look.same t) (omega (arith, c.loop-left-test.false))
    (c.in_ok-said-2.ensures.says (inv.look.goes_on.tells t)))
