-- What a comparison tells of lists of which one has one segment more.
use Rattle.std.specs.Prelude.{◌≡◌, ℕ, List}
use Rattle.fp_model.specs.declared.database.Node.{Node, out-Node}
use Rattle.fp_model.specs.declared.database.Root.{Root}
use Rattle.root_changes.specs.declared.gaining.Gain.{Gain}
use Rattle.root_changes.specs.declared.gaining.Gain.TheVariants.{New, Within, Not}
use Rattle.root_changes.specs.Differing.{DifferAt, HaveSameOwn}
use Rattle.root_changes.specs.Gaining.{OneMore, AreBare, RowGains, RootsGain}

-- the second list has one item more, at this place, with nothing below it
pub record HasNew {A : Type 0} (rows_of : A → List (List Node)) (xs ys : List A) (k : ℕ) : Type 0 where
  pub item : A
  pub more : OneMore xs ys k item
  pub bare : AreBare (rows_of item)

-- of these rows those of one number differ, and the second has one segment more
pub record GainIn (rows others : List (List Node)) (j : ℕ) : Type 0 where
  pub lower : List Node
  pub more : List Node
  pub at : DifferAt rows others j lower more
  pub gains : RowGains lower more

-- the lists differ in the item at one place, not in its own, and of what is below it in one row
pub record GainWithin {A : Type 0} (Own : A → A → Type 0) (rows_of : A → List (List Node)) (xs ys : List A) (k j : ℕ)
    : Type 0 where
  pub x : A
  pub y : A
  pub at : DifferAt xs ys k x y
  pub own : Own x y
  pub below : GainIn (rows_of x) (rows_of y) j

pub record TellsGain {A : Type 0} (Own : A → A → Type 0) (rows_of : A → List (List Node))
    (Gains : List A → List A → Type 0) (xs ys : List A) (gain : Gain) : Type 0 where
  pub new : (k : ℕ) → gain ≡ New k → HasNew rows_of xs ys k
  pub within : (k j : ℕ) → gain ≡ Within k j → GainWithin Own rows_of xs ys k j
  pub none : gain ≡ Not → ¬ Gains xs ys

abbrev pub IsOwnNode : Node → Node → Type 0
IsOwnNode x y = (out-Node x).bytes ≡ (out-Node y).bytes

abbrev pub node_rows : Node → List (List Node)
node_rows x = (out-Node x).children

abbrev pub root_rows : Root → List (List Node)
root_rows x = x.children

abbrev pub TellsRowGain : List Node → List Node → Gain → Type 0
TellsRowGain = TellsGain IsOwnNode node_rows RowGains

abbrev pub TellsRootGain : List Root → List Root → Gain → Type 0
TellsRootGain = TellsGain HaveSameOwn root_rows RootsGain
