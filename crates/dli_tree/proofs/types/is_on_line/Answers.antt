use Rattle.std.proofs.Common.{◌≡◌, ℕ, suc, ◌+◌, ◌-◌, ◌==◌, false, length, ap, sym, ◌∙◌, arith}
use Rattle.std.specs.List.{list_any}
use Rattle.fp_model.specs.Order.{line_within}
use Rattle.dli_tree.proofs.Positions.{line_end, line_here, line_top, line_up}
use Rattle.dli_tree.proofs.types.is_on_line.Goals as goal
use Rattle.plain_laws.proofs.Numbers.{other_number, same_number}

pub loop-preserved : goal.loop-preserved
loop-preserved c =
    let types = c.args.segments.now in
    let m = length types - (c.loop.counter + 1) in
    let left : length types - c.loop.counter ≡ suc m = omega arith in
    c.loop.invariant ∙ ap (λ (n : ℕ). list_any (λ t. t == c.args.segment) (line_within n types c.loop.at)) left
    ∙ line_up (λ t. t == c.args.segment) types m c.loop.at c.in-Some.parent
    (other_number c.loop.at c.args.segment c.if-at-segment.false) (sym c.parent_of.ensures ∙ c.in-Some.is)

pub returns-then-at-segment : goal.returns-then-at-segment
returns-then-at-segment c =
    let types = c.args.segments.now in
    sym (c.loop.invariant ∙ line_here (λ t. t == c.args.segment) types (length types - c.loop.counter) c.loop.at
    (same_number c.loop.at c.args.segment c.if-at-segment.true))

pub returns-in-None : goal.returns-in-None
returns-in-None c =
    let types = c.args.segments.now in
    let m = length types - (c.loop.counter + 1) in
    let left : length types - c.loop.counter ≡ suc m = omega arith in
    sym (c.loop.invariant ∙ ap (λ (n : ℕ). list_any (λ t. t == c.args.segment) (line_within n types c.loop.at)) left
    ∙ line_top (λ t. t == c.args.segment) types m c.loop.at (other_number c.loop.at c.args.segment c.if-at-segment.false)
    (sym c.parent_of.ensures ∙ c.in-None.is))

pub returns : goal.returns
returns c =
    let types = c.args.segments.now in
    let left : length types - c.loop.counter ≡ 0 = omega arith in
    sym (c.loop.invariant ∙ ap (λ (n : ℕ). list_any (λ t. t == c.args.segment) (line_within n types c.loop.at)) left
    ∙ line_end (λ t. t == c.args.segment) types c.loop.at)
