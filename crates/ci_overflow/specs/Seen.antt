-- What walks over overflow lists saw.
use Rattle.std.specs.Prelude.{◌≡◌, ℕ, [], Some}
use Rattle.std.specs.BTreeMap.{BTreeMap}
use Rattle.ci_overflow.specs.declared.seen.SeenLinks.{SeenLinks}

-- no link was seen, and those that come are kept
pub record HasSeenNone (seen : SeenLinks) : Type 0 where
  pub map : BTreeMap ℕ ℕ
  pub kept : seen.before ≡ Some map
  pub none : map.entries ≡ []
  pub nowhere : seen.reached ≡ 0
