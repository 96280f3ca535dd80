use Rattle.std.proofs.Common.{◌≡◌, ◌<◌, ℕ, List, [], ◌∷◌, ◌++◌, ◌∙◌, length, refl, ap, arith}
use Rattle.std.proofs.lemmas.Result.{on_ok_weaker}
use Rattle.fp_show.specs.FieldText.{hex}
use Rattle.fp_show.specs.GroupText.{or_dash}
use Rattle.fp_show.proofs.outcome.put_found.Goals as goal

-- of some bytes there are some digits
some_hex : (bytes : List ℕ) → 0 < length bytes → hex bytes ≡ or_dash (hex bytes)
some_hex [] some = absurd (omega (arith, some))
some_hex (b ∷ bs) some = refl

pub returns-else-is_empty : goal.returns-else-is_empty
returns-else-is_empty c =
    let found = c.args.found.now in
    let some : 0 < length found = grind arith in
    on_ok_weaker c.put_hex.result
    (λ is. is ∙ ap (λ (text : List ℕ). c.args.into.now ++ text) (some_hex found some))
    c.put_hex.ensures
