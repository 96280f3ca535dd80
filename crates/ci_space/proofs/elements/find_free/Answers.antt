use Rattle.std.proofs.Common.{◌≡◌, ◌≤◌, length, arith, true, false}
use Rattle.ci_space.proofs.Walks.{IsWhole, first-whole, walk-begins, walk-on, walk-finds, walk-within}
use Rattle.ci_space.proofs.elements.find_free.Goals as goal

pub loop-at-init : goal.loop-at-init
loop-at-init c = walk-begins _ _ _ c.requires.tiled

pub holds-requires : goal.holds-requires
holds-requires c =
    let w : IsWhole c.args.bytes.now c.loop-at.at (length c.args.bytes.now) =
    first-whole c.loop-at.invariant.after _ _ _ c.loop-at-test.true c.loop-at.invariant.left in
    omega arith

pub returns-then-holds-clause-found : goal.returns-then-holds-clause-found
returns-then-holds-clause-found c =
    let h = c.holds.ensures.0 c.if-holds.true in
    walk-finds _ _ _ c.loop-at-test.true c.loop-at.invariant h.0 h.1

pub length_at-at-requires : goal.length_at-at-requires
length_at-at-requires c =
    let w : IsWhole c.args.bytes.now c.loop-at.at (length c.args.bytes.now) =
    first-whole c.loop-at.invariant.after _ _ _ c.loop-at-test.true c.loop-at.invariant.left in
    omega arith

pub loop-at-smaller : goal.loop-at-smaller
loop-at-smaller c =
    let w : IsWhole c.args.bytes.now c.loop-at.at (length c.args.bytes.now) =
    first-whole c.loop-at.invariant.after _ _ _ c.loop-at-test.true c.loop-at.invariant.left in
    omega arith

pub loop-at-preserved : goal.loop-at-preserved
loop-at-preserved c =
    rw c.length_at-at.ensures.length
    (walk-on _ _ _ c.requires.some c.loop-at-test.true c.loop-at.invariant
    (λ t h. let e : c.holds.result ≡ true = c.holds.ensures.1 (t, h) in
    let f : c.holds.result ≡ false = c.if-holds.false in cc))

pub returns-clause-none : goal.returns-clause-none
returns-clause-none c =
    let l : c.loop-at.at ≤ length c.args.bytes.now = walk-within _ _ _ c.loop-at.invariant in
    let e : c.loop-at.at ≡ length c.args.bytes.now = omega arith in
    rw (← e) c.loop-at.invariant
