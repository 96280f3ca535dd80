-- What bodies and proofs need of Element, beside what contracts say.
use Rattle.std.specs.Prelude.{◌≡◌, ℕ, ◌+◌, List, [], ◌∷◌, ◌⊎◌}
use Rattle.ci_space.specs.Element.{Element, size}

-- this element stands at `at` among those that stand one behind the other from `from` on
abbrev pub StandsAmong : List Element → ℕ → ℕ → Element → Type 0
StandsAmong [] from at e = ⊥
StandsAmong (d ∷ es) from at e = ((at ≡ from) × (d ≡ e)) ⊎ StandsAmong es (from + size d) at e
