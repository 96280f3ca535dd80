-- What bodies and proofs need of Changes, beside what contracts say.
use Rattle.std.specs.Prelude.{◌≡◌, ℕ, ◌<◌, ◌≤◌, List, [], ◌∷◌, true, false, Some, slice_get}
use Rattle.fp_model.specs.declared.database.Node.{Node, out-Node, roll-Node}
use Rattle.fp_model.specs.declared.definitions.SegDef.{SegDef}
use Rattle.fp_model.specs.Order.{Edit, Step, below_edited, node_key, nodes_edited}
use Rattle.fp_model.specs.State.{change_key}
use Rattle.fp_model.specs.Texts.{same_text}
use Rattle.key_order.specs.Places.{IsPlace}
use Rattle.dli_tree.specs.declared.place.Place.{Place}
use Rattle.dli_tree.specs.declared.place.Place.TheVariants.{Lacks, Stands}

-- a place is one of so many elements, or behind them
abbrev pub IsWithin : ℕ → Place → Type 0
IsWithin n (Stands at) = at < n
IsWithin n (Lacks at) = at ≤ n

-- the element of the key stands there, or there is none and it would stand there
abbrev pub IsPlaced : {X : Type 0} → (X → List ℕ) → List ℕ → List X → Place → Type 0
IsPlaced {X} key k xs (Stands n) = IsPlace key k xs n × (x : X) × (slice_get xs n ≡ Some x)
    × (same_text (key x) k ≡ true)
IsPlaced {X} key k xs (Lacks n) = IsPlace key k xs n × ((x : X) → slice_get xs n ≡ Some x → same_text (key x) k ≡ false)

-- the twins of a step, edited at the end of the rest of a path
abbrev pub twins_edited : List SegDef → Edit → Step → List Step → List Node → List Node
twins_edited types edit s [] twins = nodes_edited types s edit twins
twins_edited types edit s (t ∷ ts) twins =
    change_key (node_key types s.segment) s.key
    (λ n. roll-Node (record (out-Node n) {
      children =
          below_edited types edit s.segment (t ∷ ts) (out-Node n).children;
    })) twins
