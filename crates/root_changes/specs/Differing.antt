-- Lists of roots that differ in one segment.
use Rattle.std.specs.Prelude.{◌≡◌, ◌≢◌, ℕ, List, slice_get, Some}
use Rattle.fp_model.specs.declared.database.Node.{Node, out-Node}
use Rattle.fp_model.specs.declared.database.Root.{Root}

-- two lists that differ at one place: there the first has x, and the second y
pub record DifferAt {A : Type 0} (xs ys : List A) (k : ℕ) (x y : A) : Type 0 where
  pub first : slice_get xs k ≡ Some x
  pub second : slice_get ys k ≡ Some y
  pub elsewhere : (j : ℕ) → j ≢ k → slice_get xs j ≡ slice_get ys j

-- two segments, each with all below it, that differ in the bytes of one: in their own, or in those of one below
pub data NodesDiffer : Node → Node → Type 0 where
  own : {x y : Node} → (out-Node x).bytes ≢ (out-Node y).bytes → (out-Node x).children ≡ (out-Node y).children
      → NodesDiffer x y
  lower : {x y : Node} {j k : ℕ} {row other : List Node} {n m : Node} → (out-Node x).bytes ≡ (out-Node y).bytes
      → DifferAt (out-Node x).children (out-Node y).children j row other → DifferAt row other k n m → NodesDiffer n m
      → NodesDiffer x y

-- a root's own: its bytes and its newest serial
abbrev pub HaveSameOwn : Root → Root → Type 0
HaveSameOwn x y = (x.bytes ≡ y.bytes) × (x.seqs ≡ y.seqs)

-- two roots that differ in their own, or in the bytes of one segment below
pub data RootDiffers : Root → Root → Type 0 where
  own_root : {x y : Root} → ¬ HaveSameOwn x y → x.children ≡ y.children → RootDiffers x y
  lower_root : {x y : Root} {j k : ℕ} {row other : List Node} {n m : Node} → HaveSameOwn x y
      → DifferAt x.children y.children j row other → DifferAt row other k n m → NodesDiffer n m → RootDiffers x y

-- two lists that differ at one place, by two things that differ so
pub record DifferIn {A : Type 0} (Differ : A → A → Type 0) (xs ys : List A) (k : ℕ) : Type 0 where
  pub x : A
  pub y : A
  pub at : DifferAt xs ys k x y
  pub differ : Differ x y

-- rows that differ in the bytes of one segment
pub record RowDiffers (row other : List Node) : Type 0 where
  pub number : ℕ
  pub differ : DifferIn NodesDiffer row other number

-- lists of roots that differ in one segment: in its bytes, or in a root's newest serial
pub record RootsDiffer (before after : List Root) : Type 0 where
  pub number : ℕ
  pub differ : DifferIn RootDiffers before after number
