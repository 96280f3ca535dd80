use Rattle.std.proofs.Common.{◌≡◌, ◌++◌, ◌∷◌, take}
use Rattle.std.specs.Prelude.{flat_map}
use Rattle.std.specs.Fmt.{decimal}
use Rattle.fp_show.proofs.outcome.put_numbers_behind.Given as goal

-- the numbers so far are there
abbrev pub invariant-loop-number : goal.invariant-loop-number
invariant-loop-number l = l.into ≡ l.initial.into ++ flat_map (λ n. 44 ∷ decimal n) (take l.number-index l.numbers)
