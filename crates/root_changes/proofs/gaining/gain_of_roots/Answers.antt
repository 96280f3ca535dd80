use Rattle.std.proofs.Common.{inl, inr, ◌+◌, ◌∙◌, ap, sym, arith}
use Rattle.root_changes.specs.Differing.{HaveSameOwn}
use Rattle.root_changes.specs.Gaining.{RootsGain}
use Rattle.root_changes.specs.Telling.{root_rows}
use Rattle.root_changes.proofs.GainingLemmas.{as_rest, new_told, lengths_told, rest_told, within_told, roots_gain_so}
use Rattle.root_changes.proofs.gaining.gain_of_roots.Goals as goal

pub returns-then-roots-others : goal.returns-then-roots-others
returns-then-roots-others c =
    let xs = c.args.roots.now in
    let ys = c.args.others.now in
    record {
      tells = new_told HaveSameOwn root_rows RootsGain xs ys (roots_gain_so xs ys) c.common_roots-place.result
          c.common_roots-rest.result c.index-others-place.result _ _ _ c.common_roots-place.ensures
          (as_rest xs ys c.common_roots-place.result (c.common_roots-place.result + 1) c.common_roots-rest.result c.common_roots-rest.ensures) (omega (arith, c.if-roots-others.true)) c.index-others-place.is (c.as_slice.ensures ∙ ap root_rows (sym c.index-others-place.is))
          (λ e. omega (arith, e, c.common_roots-place.ensures.within))
          (λ e. omega (arith, e)) c.gain_new.ensures;
    }

pub returns-then-roots-others-2 : goal.returns-then-roots-others-2
returns-then-roots-others-2 c =
    let xs = c.args.roots.now in
    let ys = c.args.others.now in
    record {
      tells = lengths_told HaveSameOwn root_rows RootsGain xs ys (roots_gain_so xs ys) c.common_roots-place.result
          c.common_roots-place.ensures (λ e. absurd (omega (arith, e, c.if-roots-others.false)))
          (inl (λ e. absurd (omega (arith, e, c.if-roots-others-2.true))));
    }

pub returns-then-place-roots : goal.returns-then-place-roots
returns-then-place-roots c =
    let xs = c.args.roots.now in
    let ys = c.args.others.now in
    record {
      tells = lengths_told HaveSameOwn root_rows RootsGain xs ys (roots_gain_so xs ys) c.common_roots-place.result
          c.common_roots-place.ensures (λ e. absurd (omega (arith, e, c.if-roots-others.false)))
          (inr (omega (arith, c.if-roots-others-2.false), omega (arith, c.if-place-roots.true)));
    }

pub returns-then-place-rest : goal.returns-then-place-rest
returns-then-place-rest c =
    let xs = c.args.roots.now in
    let ys = c.args.others.now in
    record {
      tells = rest_told HaveSameOwn root_rows RootsGain xs ys (roots_gain_so xs ys) c.common_roots-place.result
          c.common_roots-rest-2.result c.common_roots-place.ensures (as_rest xs ys (c.common_roots-place.result + 1) (c.common_roots-place.result + 1) c.common_roots-rest-2.result c.common_roots-rest-2.ensures)
          (λ e. absurd (omega (arith, e, c.if-roots-others.false)))
          (λ e. absurd (omega (arith, e, c.if-place-rest.true)));
    }

pub returns : goal.returns
returns c =
    let xs = c.args.roots.now in
    let ys = c.args.others.now in
    record {
      tells = within_told HaveSameOwn root_rows RootsGain xs ys (roots_gain_so xs ys) c.common_roots-place.result
          c.common_roots-rest-2.result c.index-roots-place.result c.index-others-place-2.result _ _ _ _
          c.common_roots-place.ensures (as_rest xs ys (c.common_roots-place.result + 1) (c.common_roots-place.result + 1) c.common_roots-rest-2.result c.common_roots-rest-2.ensures) (omega (arith, c.if-roots-others-2.false))
          (λ e. absurd (omega (arith, e, c.if-place-roots.false))) (omega (arith, c.if-place-rest.false))
          c.index-roots-place.is c.index-others-place-2.is c.as_slice-2.ensures
          c.as_slice-3.ensures
          c.same_own.ensures.0 c.same_own.ensures.1 c.gain_within.ensures;
    }
