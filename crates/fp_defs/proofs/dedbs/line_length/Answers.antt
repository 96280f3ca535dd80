use Rattle.std.proofs.Common.{◌≡◌, ℕ, ◌+◌, ◌-◌, ◌∙◌, length, sym, ap, arith}
use Rattle.fp_model.specs.Order.{line_within}
use Rattle.fp_defs.proofs.PlaceLemmas.{line_longer}
use Rattle.fp_defs.proofs.dedbs.line_length.Goals as goal

pub loop-preserved : goal.loop-preserved
loop-preserved c =
    let types = c.args.types.now in
    let n = length types in
    let i = c.loop.counter in
    let same : n - i - 1 ≡ n - (i + 1) = omega arith in
    let longer : length (line_within (n - i) types c.loop.at) ≡ length (line_within (n - i - 1) types c.in-Some.parent)
    + 1 =
    line_longer (n - i) types c.loop.at c.in-Some.parent (omega arith) (sym c.in-Some.ensures)
    in
    let there : length (line_within (n - (i + 1)) types c.from-at.result) + 1 ≡ length
    (line_within (n - i) types c.loop.at) =
    ap (λ (p : ℕ). length (line_within (n - (i + 1)) types p) + 1) c.from-at.ensures
    ∙ ap (λ (k : ℕ). length (line_within k types c.in-Some.parent) + 1) (sym same)
    ∙ sym longer
    in
    (omega arith, omega arith)
