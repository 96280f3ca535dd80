-- Which roots or twins a search may leave out.
use Rattle.std.specs.Prelude.{◌≡◌, ℕ, List, length, true, false, None}
use Rattle.std.specs.List.{AllWithin}
use Rattle.fp_model.specs.Order.{direct}
use Rattle.fp_model.specs.State.{is_below}
use Rattle.fp_model.specs.Texts.{same_text}
use Rattle.dli_tree.specs.inside.Aims.{Search, entered}
use Rattle.dli_tree.specs.declared.reach.Reach.{Reach}
use Rattle.dli_tree.specs.declared.reach.Reach.TheVariants.{All, From, Nothing, One}
use Rattle.dli_tree.specs.declared.reach.Stretch.{Stretch}

-- nothing that is looked for stands at or below a segment of this type and key
abbrev pub IsLeft : Search → ℕ → List ℕ → Type 0
IsLeft aim type key = entered aim (direct type key) ≡ None

-- nothing that is looked for stands at or below other keys
abbrev pub Bounds : Search → ℕ → Reach → Type 0
Bounds aim type Nothing = (key : List ℕ) → IsLeft aim type key
Bounds aim type (One k) = (key : List ℕ) → same_text key k.now ≡ false → IsLeft aim type key
Bounds aim type (From k) = (key : List ℕ) → is_below key k.now ≡ true → IsLeft aim type key
Bounds aim type All = Unit {0}

-- nothing that is looked for stands at or below those outside the stretch
abbrev pub Leaves : {X : Type 0} → Search → ℕ → (X → List ℕ) → List X → Stretch → Type 0
Leaves aim type key xs stretch =
    AllWithin (λ x. IsLeft aim type (key x)) xs 0 stretch.from
    × AllWithin (λ x. IsLeft aim type (key x)) xs stretch.to (length xs)
