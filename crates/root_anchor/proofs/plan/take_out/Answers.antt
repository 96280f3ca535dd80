use Rattle.std.proofs.Common.{◌≡◌, ◌<◌, ◌∙◌, length, get_or, sym, ap, arith, rules}
use Rattle.std.proofs.lemmas.List.{get_or_read}
use Rattle.root_anchor.specs.declared.standing.Standing.{Standing}
use Rattle.root_anchor.proofs.Sharing.{takes-out}
use Rattle.root_anchor.proofs.plan.take_out.Goals as goal

pub returns-clause-taken : goal.returns-clause-taken
returns-clause-taken c =
    let old = c.args.standing.now.items in
    let k = c.in_ok-place.place in
    let taken = c.remove-taken.result in
    let here : k < length old = omega (arith, c.len.ensures, c.if-place-len.false) in
    let stands : c.index.result.now ≡ get_or old k taken =
    get_or_read old k c.index.result.now here c.index.ensures taken in
    let type : c.index.result.now.segment ≡ c.args.segment =
    first_of (search rules, omega (arith, c.if-index-segment.false)) in
    takes-out old c.remove-taken.new.self.items k c.args.segment taken here
    (ap (λ (s : Standing). s.segment) (sym stands) ∙ type) c.remove-taken.ensures.value
    c.remove-taken.ensures.by_index.2
