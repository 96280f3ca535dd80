use Rattle.std.proofs.Common.{◌≡◌, ◌≢◌, ◌+◌, ◌≤◌, slice_index, arith, true, false}
use Rattle.ci_space.proofs.Walks.{IsWhole, to-begins, to-whole, to-used, to-free, to-within, to-ends}
use Rattle.ci_space.proofs.elements.start_of_free.Goals as goal

pub loop-place-init : goal.loop-place-init
loop-place-init c = to-begins _ _ c.requires.tiled.0 c.requires.tiled.1

pub length_at-requires : goal.length_at-requires
length_at-requires c =
    let w : IsWhole c.args.bytes.now c.loop-place.place c.args.at =
    to-whole _ _ _ _ c.loop-place-test.true c.loop-place.invariant in
    omega arith

pub is_used-requires : goal.is_used-requires
is_used-requires c =
    let w : IsWhole c.args.bytes.now c.loop-place.place c.args.at =
    to-whole _ _ _ _ c.loop-place-test.true c.loop-place.invariant in
    omega arith

pub loop-place-smaller-then-is_used : goal.loop-place-smaller-then-is_used
loop-place-smaller-then-is_used c =
    let w : IsWhole c.args.bytes.now c.loop-place.place c.args.at =
    to-whole _ _ _ _ c.loop-place-test.true c.loop-place.invariant in
    omega arith

pub loop-place-preserved-then-is_used : goal.loop-place-preserved-then-is_used
loop-place-preserved-then-is_used c =
    rw c.length_at.ensures.length (to-used _ _ _ _ c.loop-place-test.true c.loop-place.invariant
    (c.is_used.ensures.0 c.if-is_used.true))

pub loop-place-smaller : goal.loop-place-smaller
loop-place-smaller c =
    let w : IsWhole c.args.bytes.now c.loop-place.place c.args.at =
    to-whole _ _ _ _ c.loop-place-test.true c.loop-place.invariant in
    omega arith

pub loop-place-preserved : goal.loop-place-preserved
loop-place-preserved c =
    let t : slice_index c.args.bytes.now (c.loop-place.place + 2) ≢ 1 = λ u. let e : c.is_used.result ≡ true =
    c.is_used.ensures.1 u in let f : c.is_used.result ≡ false = c.if-is_used.false in cc in
    rw c.length_at.ensures.length (to-free _ _ _ _ c.loop-place-test.true c.loop-place.invariant t)

pub returns : goal.returns
returns c =
    let l : c.loop-place.place ≤ c.args.at = to-within _ _ _ _ c.loop-place.invariant in
    let e : c.loop-place.place ≡ c.args.at = omega arith in
    let w = rw e at c.loop-place.invariant in λ before chain. to-ends _ _ _ _ w chain
