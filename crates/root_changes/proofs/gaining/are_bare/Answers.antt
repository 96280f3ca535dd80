use Rattle.std.proofs.Common.{arith}
use Rattle.root_changes.proofs.GainingLemmas.{bare_on, bare_read, empty_list}
use Rattle.root_changes.proofs.gaining.are_bare.Goals as goal

pub returns-then-not-is_empty : goal.returns-then-not-is_empty
returns-then-not-is_empty c = (
  (λ e. absurd (let h = e in cc)),
  (λ bare. absurd (let h = c.is_empty.ensures.1 (bare_read c.args.rows.now c.loop-place.place c.index-rows-place.result
      bare (omega (arith, c.loop-place-test.true)) c.index-rows-place.is) in
      let f = c.if-not-is_empty.true in cc)),
)

pub loop-place-preserved : goal.loop-place-preserved
loop-place-preserved c = record {
  within = omega (arith, c.loop-place-test.true);
  bare = bare_on c.args.rows.now c.loop-place.place c.index-rows-place.result c.loop-place.invariant.bare
      (omega (arith, c.loop-place-test.true)) c.index-rows-place.is
      (empty_list c.index-rows-place.result (λ n. (let f = c.if-not-is_empty.false in let h = c.is_empty.ensures.0 in n (h (cc)))));
}
