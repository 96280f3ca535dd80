use Rattle.std.proofs.Common.{◌∙◌, ap, sym}
use Rattle.std.specs.Prelude.{is_some}
use Rattle.dedb_calls.proofs.AnchorLemmas.{found_there, none_there, not_both, not_held, put_changes, put_order, put_others, put_there}
use Rattle.dedb_calls.proofs.anchors.hold.Goals as goal

pub returns-then-is_there-clause-there : goal.returns-then-is_there-clause-there
returns-then-is_there-clause-there c up none =
    let f = found_there c.args.held.now c.as_slice-items.result.now c.as_slice-items.ensures c.args.dedb c.args.anchor
    c.place_of-at.result c.place_of-at.ensures.place c.is_there.result c.is_there.ensures.there c.is_there.ensures.none
    c.if-is_there.true up in
    absurd (not_held c.args.held.now c.args.dedb c.args.anchor f.0 f.3 none)

pub returns-clause-order : goal.returns-clause-order
returns-clause-order c up =
    put_order c.args.held.now c.as_slice-items.result.now c.as_slice-items.ensures c.args.dedb c.args.anchor
    c.place_of-at.result c.place_of-at.ensures.place c.is_there.result c.is_there.ensures.there c.is_there.ensures.none
    c.if-is_there.false c.place_of-at.ensures.within c.args.roots c.insert.new.self c.in_ok-insert.ensures.ok up

pub returns-clause-there : goal.returns-clause-there
returns-clause-there c up none =
    put_there c.args.held.now c.as_slice-items.result.now c.as_slice-items.ensures c.args.dedb c.args.anchor
    c.place_of-at.result c.place_of-at.ensures.place c.is_there.result c.is_there.ensures.there c.is_there.ensures.none
    c.if-is_there.false c.place_of-at.ensures.within c.args.roots c.insert.new.self c.in_ok-insert.ensures.ok up

pub returns-clause-others : goal.returns-clause-others
returns-clause-others c up =
    put_others c.args.held.now c.as_slice-items.result.now c.as_slice-items.ensures c.args.dedb c.args.anchor
    c.place_of-at.result c.place_of-at.ensures.place c.is_there.result c.is_there.ensures.there c.is_there.ensures.none
    c.if-is_there.false c.place_of-at.ensures.within c.args.roots c.insert.new.self c.in_ok-insert.ensures.ok

pub returns-clause-again : goal.returns-clause-again
returns-clause-again c up there =
    let lacking = none_there c.args.held.now c.as_slice-items.result.now c.as_slice-items.ensures c.args.dedb
    c.args.anchor
    c.place_of-at.result c.place_of-at.ensures.place c.is_there.result c.is_there.ensures.there c.is_there.ensures.none
    c.if-is_there.false up in
    absurd (not_both (sym there ∙ ap is_some lacking))

pub returns-clause-changes : goal.returns-clause-changes
returns-clause-changes c =
    put_changes c.args.held.now c.as_slice-items.result.now c.as_slice-items.ensures c.args.dedb c.args.anchor
    c.place_of-at.result c.place_of-at.ensures.place c.is_there.result c.is_there.ensures.there c.is_there.ensures.none
    c.if-is_there.false c.place_of-at.ensures.within c.args.roots c.insert.new.self c.in_ok-insert.ensures.ok

pub returns-then-is_there-clause-has : goal.returns-then-is_there-clause-has
returns-then-is_there-clause-has c up =
    let f = found_there c.args.held.now c.as_slice-items.result.now c.as_slice-items.ensures c.args.dedb c.args.anchor
    c.place_of-at.result c.place_of-at.ensures.place c.is_there.result c.is_there.ensures.there c.is_there.ensures.none
    c.if-is_there.true up in
    ap is_some f.3

pub returns-clause-has : goal.returns-clause-has
returns-clause-has c up =
    ap is_some (put_there c.args.held.now c.as_slice-items.result.now c.as_slice-items.ensures c.args.dedb
    c.args.anchor c.place_of-at.result c.place_of-at.ensures.place c.is_there.result c.is_there.ensures.there
    c.is_there.ensures.none c.if-is_there.false c.place_of-at.ensures.within c.args.roots c.insert.new.self
    c.in_ok-insert.ensures.ok up)

pub returns-in_err-insert-clause-at_once : goal.returns-in_err-insert-clause-at_once
returns-in_err-insert-clause-at_once c up there =
    let lacking = none_there c.args.held.now c.as_slice-items.result.now c.as_slice-items.ensures c.args.dedb
    c.args.anchor
    c.place_of-at.result c.place_of-at.ensures.place c.is_there.result c.is_there.ensures.there c.is_there.ensures.none
    c.if-is_there.false up in
    absurd (not_both (sym there ∙ ap is_some lacking))
