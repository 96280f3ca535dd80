-- Where a key stands among elements whose keys ascend.
use Rattle.std.specs.Prelude.{◌≡◌, ℕ, List, length, true, false, if◌then◌else◌, Option, Some, None}
use Rattle.std.specs.List.{AllWithin}
use Rattle.fp_model.specs.State.{is_below}
use Rattle.fp_model.specs.Texts.{same_text}

module _ {X : Type 0} (key : X → List ℕ) (k : List ℕ) where
  -- those in front of the place are below the key, and those from it on aren't
  abbrev pub IsPlace : List X → ℕ → Type 0
  IsPlace xs n = AllWithin (λ x. is_below (key x) k ≡ true) xs 0 n
      × AllWithin (λ x. is_below (key x) k ≡ false) xs n (length xs)

  -- the element, if it has the key
  abbrev pub if_same : Option X → Option X
  if_same None = None
  if_same (Some x) = if same_text (key x) k then Some x else None
