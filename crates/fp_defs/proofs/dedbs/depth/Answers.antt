use Rattle.std.proofs.Common.{ℕ, ◌+◌, ◌∙◌, drop, length, max, sym, ap, arith}
use Rattle.fp_model.specs.Order.{line_to}
use Rattle.fp_defs.specs.Dedbs.{depth_from}
use Rattle.fp_defs.proofs.PlaceLemmas.{max_three, depth_more}
use Rattle.fp_defs.proofs.dedbs.depth.Goals as goal

pub loop-place-preserved : goal.loop-place-preserved
loop-place-preserved c =
    let types = c.args.types.now in
    let place = c.loop-place.place in
    let most = c.loop-place.most in
    let rest : ℕ = depth_from types (place + 1) (drop (place + 1) types) in (
      ap (λ (m : ℕ). max m rest) (c.greater-most.ensures ∙ ap (max most) c.line_length.ensures.exact)
          ∙ max_three most (length (line_to types place)) rest
          ∙ ap (max most) (sym (depth_more types place c.loop-place-test.true))
          ∙ c.loop-place.invariant.0,
      grind (arith, c.greater-most.ensures, c.line_length.ensures.small),
    )
