-- Loops over the items of an array: how many items there are.
use Rattle.std.proofs.Common.{◌≡◌, length, map, List, [], ◌∷◌, refl, ap, ◌∙◌}
use Rattle.std.proofs.lemmas.List.{length-map}
use Rattle.toml.specs.Data.{Data}
use Rattle.toml.specs.View.{view, items_of, items_view}
use Rattle.toml.specs.declared.value.Value.{Value}
use Rattle.fp_defs.specs.Whole.{items_in}

items_in-items_of : (ds : List Data) → items_in (items_of ds) ≡ ds
items_in-items_of [] = refl
items_in-items_of (d ∷ ds) = ap (λ rest. d ∷ rest) (items_in-items_of ds)

-- as many as the array has
pub items_in_length : (values : List Value) → length (items_in (items_view values)) ≡ length values
items_in_length values = ap length (items_in-items_of (map view values)) ∙ length-map values view
