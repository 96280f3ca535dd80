-- What a stored exit may be asked: which keys, which names, and how many places.
use Rattle.std.specs.Prelude.{ℕ, ◌≡◌, ◌<◌, ◌≤◌, List, length, slice_index}
use Rattle.fp_model.specs.declared.name.Name.{Name}

-- each is a byte
abbrev pub AreBytes : List ℕ → Type 0
AreBytes bytes = (i : ℕ) → slice_index bytes i < 256

-- a key of 1 to 64 bytes, and 1 to 65,536 places
pub record IsSpreadable (key : List ℕ) (n : ℕ) : Type 0 where
  pub bytes : AreBytes key
  pub some : 1 ≤ length key
  pub short : length key ≤ 64
  pub positive : 1 ≤ n
  pub bounded : n ≤ 65536

-- any 8 bytes as a name, and 1 to 16 groups
pub record IsRoutable (tran : Name) (n : ℕ) : Type 0 where
  pub bytes : AreBytes tran.0
  pub eight : length tran.0 ≡ 8
  pub positive : 1 ≤ n
  pub bounded : n ≤ 16
