use Rattle.std.proofs.Common.{◌≡◌, List, ap, sym, ◌∙◌, subst, false, drop, arith, ℕ}
use Rattle.std.specs.Prelude.{option_map}
use Rattle.std.specs.Option.{option_copied}
use Rattle.fp_model.specs.Texts.{same_text}
use Rattle.dli_tree.specs.Paths.{step_of, steps_of}
use Rattle.dli_tree.proofs.Reaching.{opened, within_key, within_type}
use Rattle.dli_tree.proofs.reach.within_reach.Goals as goal
use Rattle.plain_laws.proofs.Numbers.{other_number}

pub returns-then-first-segment : goal.returns-then-first-segment
returns-then-first-segment c aim e key differs =
    let xs = c.args.within.now in
    let first = c.first-item.result in
    within_key aim (step_of first) (steps_of (drop 1 xs)) c.args.segment
    (opened aim.within xs first e (omega (arith, c.in-len1-up.len_at_least)) c.first-item.is)
    key (subst (λ (k : List ℕ). same_text key k ≡ false) c.as_slice.ensures differs)

pub returns-else-first-segment : goal.returns-else-first-segment
returns-else-first-segment c aim e key =
    let xs = c.args.within.now in
    let first = c.first-item.result in
    within_type aim (step_of first) (steps_of (drop 1 xs)) c.args.segment
    (opened aim.within xs first e (omega (arith, c.in-len1-up.len_at_least)) c.first-item.is)
    (other_number first.segment c.args.segment c.if-first-segment.false) key
