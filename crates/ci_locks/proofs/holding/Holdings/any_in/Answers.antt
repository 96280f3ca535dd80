use Rattle.std.proofs.Common.{rules, ◌∙◌, sym}
use Rattle.ci_locks.proofs.Ranges.{first_is, none_is, left_of, right_of}
use Rattle.ci_locks.proofs.holding.Holdings.any_in.Goals as goal

pub returns-clause-some : goal.returns-clause-some
returns-clause-some c = λ yes.
    let r = right_of c.next.result _ _ (sym c.is_some.ensures ∙ yes) c.next.ensures.steps in
    first_is c.args.self.now.anchors c.args.dedb c.args.first c.args.last _ _ c.range.result _ _ c.new.ensures.start
    c.new.ensures.end (c.range.ensures.in_range (search rules)) r.1

pub returns-clause-none : goal.returns-clause-none
returns-clause-none c = λ no.
    none_is c.args.self.now.anchors c.args.dedb c.args.first c.args.last _ _ c.range.result c.new.ensures.start
    c.new.ensures.end (c.range.ensures.in_range (search rules))
    (left_of c.next.result _ _ (sym c.is_some.ensures ∙ no) c.next.ensures.steps).0
