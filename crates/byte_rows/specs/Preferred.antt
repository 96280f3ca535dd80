-- The preferred form of a field that stands.
use Rattle.std.specs.Prelude.{ℕ, ◌+◌, ◌*◌, ◌/◌, List, [], ◌∷◌, ℤ}
use Rattle.fp_model.specs.Numbers.{sign_of}
use Rattle.fp_model.specs.declared.definitions.FieldKind.{FieldKind}
use Rattle.fp_model.specs.declared.definitions.FieldKind.TheVariants.{C, X, H, F, P}

-- packed bytes with another sign
abbrev pub signed_as : ℕ → List ℕ → List ℕ
signed_as sign [] = []
signed_as sign (b ∷ []) = (b / 16 * 16 + sign) ∷ []
signed_as sign (b ∷ c ∷ bs) = b ∷ signed_as sign (c ∷ bs)

-- the preferred bytes of the number that bytes are: of a packed one the sign alone may change
abbrev pub preferred : FieldKind → ℤ → List ℕ → List ℕ
preferred P n bytes = signed_as (sign_of n) bytes
preferred C n bytes = bytes
preferred X n bytes = bytes
preferred H n bytes = bytes
preferred F n bytes = bytes
