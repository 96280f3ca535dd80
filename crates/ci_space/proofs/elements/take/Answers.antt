use Rattle.std.proofs.Common.{◌≤◌, length, sym, ◌∙◌}
use Rattle.ci_space.proofs.Walks.{IsWhole, walk-low}
use Rattle.ci_space.proofs.Tilings.{walked-full, found-whole, found-fits, takes}
use Rattle.ci_space.proofs.Standing.{takes-room, takes-fresh, takes-others}
use Rattle.ci_space.proofs.elements.take.Goals as goal

pub returns-in_err-at-clause-full : goal.returns-in_err-at-clause-full
returns-in_err-at-clause-full c = rw c.from_residual.ensures
    (walked-full _ _ _ c.needed_size-size.ensures c.requires
    (sym c.holds_elements.ensures ∙ c.if-not-holds_elements.false) c.in_err-at.ensures.none)

pub split-requires-clause-room : goal.split-requires-clause-room
split-requires-clause-room c =
    let w : IsWhole c.args.bytes.now c.in_ok-at.at (length c.args.bytes.now) =
    found-whole _ _ _ c.in_ok-at.ensures.found in
    w.within

pub returns-clause-some : goal.returns-clause-some
returns-clause-some c =
    let low : 32 ≤ c.in_ok-at.at = walk-low _ _ _ c.in_ok-at.ensures.found.past in
    takes _ _ _ _ _ c.needed_size-size.ensures c.requires (sym c.holds_elements.ensures ∙ c.if-not-holds_elements.false)
    c.in_ok-at.ensures.found c.split.auto.bytes
    (c.split.ensures.head low) c.split.ensures.splits

pub returns-clause-head : goal.returns-clause-head
returns-clause-head c = c.split.ensures.head (walk-low _ _ _ c.in_ok-at.ensures.found.past)

pub returns-clause-bound : goal.returns-clause-bound
returns-clause-bound c = found-fits _ _ _ c.requires c.in_ok-at.ensures.found

pub returns-clause-room : goal.returns-clause-room
returns-clause-room c =
    let low : 32 ≤ c.in_ok-at.at = walk-low _ _ _ c.in_ok-at.ensures.found.past in
    takes-room _ _ _ _ (takes _ _ _ _ _ c.needed_size-size.ensures c.requires
    (sym c.holds_elements.ensures ∙ c.if-not-holds_elements.false) c.in_ok-at.ensures.found c.split.auto.bytes
    (c.split.ensures.head low) c.split.ensures.splits)

pub returns-clause-fresh : goal.returns-clause-fresh
returns-clause-fresh c =
    let low : 32 ≤ c.in_ok-at.at = walk-low _ _ _ c.in_ok-at.ensures.found.past in
    takes-fresh _ _ _ _ (takes _ _ _ _ _ c.needed_size-size.ensures c.requires
    (sym c.holds_elements.ensures ∙ c.if-not-holds_elements.false) c.in_ok-at.ensures.found c.split.auto.bytes
    (c.split.ensures.head low) c.split.ensures.splits)

pub returns-clause-others : goal.returns-clause-others
returns-clause-others c =
    let low : 32 ≤ c.in_ok-at.at = walk-low _ _ _ c.in_ok-at.ensures.found.past in
    takes-others _ _ _ _ (takes _ _ _ _ _ c.needed_size-size.ensures c.requires
    (sym c.holds_elements.ensures ∙ c.if-not-holds_elements.false) c.in_ok-at.ensures.found c.split.auto.bytes
    (c.split.ensures.head low) c.split.ensures.splits)
