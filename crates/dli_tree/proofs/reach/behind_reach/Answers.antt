use Rattle.std.proofs.Common.{◌≡◌, List, ap, sym, ◌∙◌, subst, true, drop, arith, ℕ}
use Rattle.std.specs.Prelude.{option_map}
use Rattle.std.specs.Option.{option_copied}
use Rattle.fp_model.specs.State.{is_below}
use Rattle.dli_tree.specs.Paths.{step_of, steps_of}
use Rattle.dli_tree.proofs.Reaching.{behind_key, behind_type, opened}
use Rattle.dli_tree.proofs.reach.behind_reach.Goals as goal
use Rattle.plain_laws.proofs.Numbers.{lt_false, other_number, same_number}

pub returns-then-first-segment : goal.returns-then-first-segment
returns-then-first-segment c aim e key less =
    let xs = c.args.behind.now in
    let first = c.first-item.result in
    behind_key aim (step_of first) (steps_of (drop 1 xs)) c.args.segment
    (opened aim.behind xs first e (omega (arith, c.in-len1-up.len_at_least)) c.first-item.is)
    (same_number first.segment c.args.segment c.if-first-segment.true) key
    (subst (λ (k : List ℕ). is_below key k ≡ true) c.as_slice.ensures less)

pub returns-else-first-segment-2 : goal.returns-else-first-segment-2
returns-else-first-segment-2 c aim e key =
    let xs = c.args.behind.now in
    let first = c.first-item.result in
    behind_type aim (step_of first) (steps_of (drop 1 xs)) c.args.segment
    (opened aim.behind xs first e (omega (arith, c.in-len1-up.len_at_least)) c.first-item.is)
    (other_number first.segment c.args.segment c.if-first-segment.false)
    (lt_false first.segment c.args.segment c.if-first-segment-2.false) key
