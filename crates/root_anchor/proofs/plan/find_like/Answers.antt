use Rattle.std.proofs.Common.{◌∙◌, ap, Some, arith}
use Rattle.root_anchor.proofs.KeepLemmas.{further_on, here_only, same-tied}
use Rattle.root_anchor.proofs.plan.find_like.Goals as goal

pub returns-in-Less-clause-last : goal.returns-in-Less-clause-last
returns-in-Less-clause-last c = λ k it f l.
    let inv = c.loop-left.invariant.last k it f l in
    let h = here_only _ _ c.args.key.now k c.loop-left.left c.index-standing-left.result it inv.0
    c.loop-left.invariant.within c.index-standing-left.is c.if-element-segment.true in
    let e = same-tied _ c.args.key.now c.cmp.result c.cmp.ensures (c.as_slice.ensures ∙ h.1) in
    let d = c.in-Less.is in
    absurd (cc)

pub returns-in-Equal-clause-last : goal.returns-in-Equal-clause-last
returns-in-Equal-clause-last c = λ k it f l.
    let inv = c.loop-left.invariant.last k it f l in
    let h = here_only _ _ c.args.key.now k c.loop-left.left c.index-standing-left.result it inv.0
    c.loop-left.invariant.within c.index-standing-left.is c.if-element-segment.true in
    (ap Some h.0, inv.1)

pub loop-left-preserved-in-Greater : goal.loop-left-preserved-in-Greater
loop-left-preserved-in-Greater c = record {
  within = omega (arith, c.loop-left.invariant.within);
  last = λ k it f l.
      let inv = c.loop-left.invariant.last k it f l in
      let h = here_only _ _ c.args.key.now k c.loop-left.left c.index-standing-left.result it inv.0
      c.loop-left.invariant.within c.index-standing-left.is c.if-element-segment.true in
      let e = same-tied _ c.args.key.now c.cmp.result c.cmp.ensures (c.as_slice.ensures ∙ h.1) in
      let d = c.in-Greater.is in
      absurd (cc);
}

pub loop-left-preserved : goal.loop-left-preserved
loop-left-preserved c = record {
  within = omega (arith, c.loop-left.invariant.within);
  last = λ k it f l.
      let inv = c.loop-left.invariant.last k it f l in (
        further_on _ _ c.args.key.now k c.loop-left.left c.index-standing-left.result it inv.0
            c.index-standing-left.is (λ s. omega (arith, c.if-element-segment.false, s)),
        inv.1,
      );
}
