-- What bodies and proofs need of Numbered, beside what contracts say.
use Rattle.std.specs.Prelude.{◌≡◌, ℕ, ◌<◌, ◌≤◌, List, true, Some, None, slice_get}
use Rattle.fp_model.specs.Texts.{same_text}
use Rattle.key_order.specs.Places.{IsPlace, if_same}
use Rattle.balancing.specs.declared.lasts.Place.{Place}
use Rattle.balancing.specs.declared.lasts.Place.TheVariants.{Stands, Lacks}

-- such a place is one of so many elements, or behind them
abbrev pub IsWithin : ℕ → Place → Type 0
IsWithin n (Stands at) = at < n
IsWithin n (Lacks at) = at ≤ n

module _ {X : Type 0} (key : X → List ℕ) (k : List ℕ) where
  -- the element of the key stands there, or there is none and it would stand there
  abbrev pub IsPlaced : List X → Place → Type 0
  IsPlaced xs (Stands n) = IsPlace key k xs n × (x : X) × (slice_get xs n ≡ Some x) × (same_text (key x) k ≡ true)
  IsPlaced xs (Lacks n) = IsPlace key k xs n × (if_same key k (slice_get xs n) ≡ None)
