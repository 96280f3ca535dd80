use Rattle.std.proofs.Common.{◌≡◌, ◌∙◌, ap, sym, length, rules}
use Rattle.std.specs.Prelude.{slice_get}
use Rattle.call_tests.proofs.accounts.insert.Goals as goal

pub returns : goal.returns
returns c defs def is long =
    let eight : length c.args.segment ≡ 8 = search rules in
    (def, ap (λ ds. slice_get ds 0) is, ap length c.in_ok-from_slice.ensures ∙ eight ∙ sym long)
