use Rattle.std.proofs.Common.{◌≡◌, ℕ, ◌-◌, ◌++◌, List, length, sym, ap, ◌∙◌, arith}
use Rattle.std.specs.Prelude.{replicate}
use Rattle.std.specs.Ordering.{nat_cmp}
use Rattle.std.specs.Cmp.Lexicographic.{slice_cmp}
use Rattle.packed_dec.proofs.Digits.{halved}
use Rattle.fp_model.specs.Texts.{padded}
use Rattle.fld_calls.proofs.Comparing.{slice_cmp_joined}
use Rattle.fld_calls.proofs.operand.compare_padded.Goals as goal

pub returns : goal.returns
returns c =
    let held = c.args.held.now in
    let text = c.args.text.now in
    let front = c.split_at.result.0.now in
    let back = c.split_at.result.1.now in
    let whole : held ≡ front ++ back = halved (length text) held front back c.split_at.ensures.front
    c.split_at.ensures.back in
    let few : length back ≡ length held - length text = omega (arith, c.split_at.ensures.back_len) in
    let many : length front ≡ length text = omega (arith, c.split_at.ensures.front_len, c.requires) in
    let parts : c.then.result ≡ slice_cmp nat_cmp (front ++ back) (text ++ replicate (length back) 32) =
    cc (
      c.then.ensures,
      c.cmp.ensures,
      c.compare_blanks.ensures,
      slice_cmp_joined front back text (replicate (length back) 32) many,
    ) in
    parts ∙ ap (λ (n : ℕ). slice_cmp nat_cmp (front ++ back) (text ++ replicate n 32)) few ∙ ap
    (λ (xs : List ℕ). slice_cmp nat_cmp xs (padded (length held) text)) (sym whole)
