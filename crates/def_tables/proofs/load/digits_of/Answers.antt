use Rattle.std.proofs.Common.{ℕ, ◌+◌, ◌-◌, ◌*◌, ◌^◌, ◌∙◌, ◌&&◌, min, map, take, drop, get_or, sym, ap, arith}
use Rattle.std.specs.Str.{all_ascii_digits}
use Rattle.std.proofs.lemmas.List.{at_drop_more}
use Rattle.fp_model.specs.Texts.{value}
use Rattle.def_tables.proofs.NumberLemmas.{value_more, cut_more}
use Rattle.def_tables.proofs.load.digits_of.Goals as goal

pub loop-byte-preserved : goal.loop-byte-preserved
loop-byte-preserved c =
    let text = c.args.text.now in
    let i = c.loop-byte.byte-index in
    let before : ℕ = value 10 (map (λ c. c - 48) (take i text)) in (
      c.min-n.ensures
          ∙ ap (λ (m : ℕ). min (m * 10 + c.from.result) (10 ^ 31)) c.loop-byte.invariant.0
          ∙ ap (λ (d : ℕ). min (min before (10 ^ 31) * 10 + d) (10 ^ 31)) c.from.ensures
          ∙ cut_more (10 ^ 31) before (get_or text i 0 - 48)
          ∙ ap (λ (v : ℕ). min v (10 ^ 31)) (sym (value_more text i c.loop-byte-test.true)),
      ap (λ b. b && all_ascii_digits (drop (i + 1) text)) c.if-not-is_ascii_digit.ensures.value
          ∙ sym (at_drop_more all_ascii_digits text i 0 c.loop-byte-test.true)
          ∙ c.loop-byte.invariant.1,
      grind (arith, c.min-n.ensures),
    )
