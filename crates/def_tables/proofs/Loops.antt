-- Loops over the items of an array: what they have so far, and what the rest gives.
use Rattle.std.proofs.Common.{◌≡◌, List, ◌++◌, Option, Some, None, refl, ap, append_assoc}

-- these elements, and then those of the rest
abbrev pub onto : {A : Type 0} → List A → Option (List A) → Option (List A)
onto xs None = None
onto xs (Some ys) = Some (xs ++ ys)

onto-append : {A : Type 0} (xs ys : List A) (rest : Option (List A)) → onto (xs ++ ys) rest ≡ onto xs (onto ys rest)
onto-append xs ys None = refl
onto-append xs ys (Some zs) = ap Some (append_assoc xs ys zs)
