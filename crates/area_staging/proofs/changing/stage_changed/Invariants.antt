use Rattle.std.proofs.Common.{◌≡◌, ℕ, List, true, length}
use Rattle.std.specs.Prelude.{Some}
use Rattle.std.specs.List.{AllByRecursion}
use Rattle.std.specs.Ordering.{nat_cmp}
use Rattle.std.specs.BTreeMap.{btree_map_len, get}
use Rattle.fp_model.specs.ItemTargets.{is_ascending}
use Rattle.area_staging.specs.Changing.{IsFitFor, IsLeastOf, MakeChanges, Shows, Stages, StagesItems}
use Rattle.area_staging.specs.inside.Changing.{AllBefore}
use Rattle.area_staging.specs.Flags.{AreFlagged}
use Rattle.area_staging.specs.Items.{HasFlag, is_imaged}
use Rattle.ci_pool.specs.Held.{SameAtHand}
use Rattle.area_staging.specs.Staging.{AllAtHand}
use Rattle.area_staging.proofs.Steps.{done_of}
use Rattle.area_staging.proofs.changing.stage_changed.Given as goal

-- the intervals that were taken already are staged
abbrev pub invariant-loop-ci : goal.invariant-loop-ci
invariant-loop-ci g l = record {
  stages : Stages g.T.Site.told g.T.Site.disk g.T.Site.faults g.T.Site.holds g.T.Site.keeps l.area.set l.area.size
      l.initial.site l.site l.initial.pool l.pool;
  same : (k : ℕ) (bytes : List ℕ) → get nat_cmp l.left k ≡ Some bytes → get nat_cmp l.initial.left k ≡ Some bytes;
  fit : AllByRecursion (IsFitFor l.area.set l.area.size) l.items;
  in_order : is_ascending l.items ≡ true;
  before : (k : ℕ) (bytes : List ℕ) → get nat_cmp l.left k ≡ Some bytes → AllBefore l.area.set k l.items;
  flagged : AreFlagged l.imaged.items l.items;
  flags : (s k : ℕ) → is_imaged l.imaged.items s k ≡ is_imaged l.initial.imaged.items s k;
  kept : (s k : ℕ) → HasFlag l.initial.imaged.items s k → HasFlag l.imaged.items s k;
  count : length l.imaged.items ≡ length l.initial.imaged.items;
  unread : AllAtHand l.initial.pool l.area.set l.area.count → l.site ≡ l.initial.site;
  hand : AllAtHand l.initial.pool l.area.set l.area.count → SameAtHand l.initial.pool l.pool;
  made : g.T.Site.told l.initial.site → (bytes : ℕ → List ℕ)
      → Shows l.area (g.T.Site.disk l.initial.site).contents l.initial.pool bytes
      → MakeChanges l.area.set l.area.count (is_imaged l.initial.imaged.items l.area.set) bytes
      (done_of (get nat_cmp l.initial.left) (get nat_cmp l.left)) l.items;
  least : g.T.Site.told l.initial.site → (bytes : ℕ → List ℕ)
      → Shows l.area (g.T.Site.disk l.initial.site).contents l.initial.pool bytes
      → AllByRecursion (IsLeastOf l.area.count (is_imaged l.initial.imaged.items l.area.set) bytes) l.items;
  staged : g.T.Site.told l.initial.site → (bytes : ℕ → List ℕ)
      → Shows l.area (g.T.Site.disk l.initial.site).contents l.initial.pool bytes
      → StagesItems l.area.set l.items bytes l.initial.pool l.pool;
}

abbrev pub decreases-loop-ci : goal.decreases-loop-ci
decreases-loop-ci g l = btree_map_len l.left
