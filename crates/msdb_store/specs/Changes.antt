-- What contracts see of staged changes.
use Rattle.std.specs.Prelude.{ℕ, List}
use Rattle.fp_model.specs.declared.log.Item.{Item}

-- an item for each segment that changes, and how many segments the databases get that they lack
pub record Changes : Type 0 where
  pub items : List Item
  pub inserts : ℕ
