-- Lists of roots of which one has one segment more than the other.
use Rattle.std.specs.Prelude.{◌≡◌, ℕ, List, [], ◌∷◌, ◌++◌, length, ⊤}
use Rattle.fp_model.specs.declared.database.Node.{Node, out-Node}
use Rattle.fp_model.specs.declared.database.Root.{Root}
use Rattle.root_changes.specs.Differing.{DifferAt, HaveSameOwn}

-- the second list has this item more than the first, at this place
pub record OneMore {A : Type 0} (xs ys : List A) (k : ℕ) (y : A) : Type 0 where
  pub front : List A
  pub back : List A
  pub fewer : xs ≡ front ++ back
  pub more : ys ≡ front ++ y ∷ back
  pub place : length front ≡ k

-- each of these rows is empty
abbrev pub AreBare : List (List Node) → Type 0
AreBare [] = ⊤
AreBare (row ∷ rows) = (row ≡ []) × AreBare rows

-- the second row has one segment more than the first: of its own, with nothing below it, or below one of its segments
pub data RowGains : List Node → List Node → Type 0 where
  new_segment : {row other : List Node} {k : ℕ} {n : Node} → OneMore row other k n → AreBare (out-Node n).children
      → RowGains row other
  lower_segment : {row other lower more : List Node} {k j : ℕ} {x y : Node} → DifferAt row other k x y
      → (out-Node x).bytes ≡ (out-Node y).bytes
      → DifferAt (out-Node x).children (out-Node y).children j lower more → RowGains lower more → RowGains row other

-- the second list of roots has one segment more than the first: a root with nothing below it, or one below a root
pub data RootsGain : List Root → List Root → Type 0 where
  new_root : {before after : List Root} {k : ℕ} {root : Root} → OneMore before after k root → AreBare root.children
      → RootsGain before after
  below_root : {before after : List Root} {lower more : List Node} {k j : ℕ} {x y : Root} → DifferAt before after k x y
      → HaveSameOwn x y → DifferAt x.children y.children j lower more → RowGains lower more → RootsGain before after
