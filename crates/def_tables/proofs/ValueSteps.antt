-- What each step of reading a value gave, where the whole has one.
use Rattle.std.proofs.Common.{◌≡◌, List, [], ◌∷◌, Option, Some, subst}
use Rattle.std.specs.List.{AllByRecursion}
use Rattle.toml.specs.Data.{Data, Items, no_items, item}
use Rattle.def_tables.specs.Values.{each}
use Rattle.fp_model.specs.Values.{◌>>=◌}
use Rattle.model_laws.proofs.Texts.{some_step}

-- each element has what every value of its kind has
pub each_has : {A : Type 0} (what : Data → Option A) (P : A → Type 0) → ((d : Data) (x : A) → what d ≡ Some x → P x)
    → (items : Items) (xs : List A) → each what items ≡ Some xs → AllByRecursion P xs
each_has what P has no_items [] e = tt
each_has what P has no_items (x ∷ xs) e = absurd (cc)
each_has what P has (item d ds) xs e =
    let first = some_step (what d) (λ y. each what ds >>= (λ ys. Some (y ∷ ys))) xs e in
    let second = some_step (each what ds) (λ ys. Some (first.0 ∷ ys)) xs first.2 in
    let e2 : Some (first.0 ∷ second.0) ≡ Some xs = second.2 in
    let same : first.0 ∷ second.0 ≡ xs = cc in
    subst (AllByRecursion P) same (has d first.0 first.1, each_has what P has ds second.0 second.1)
