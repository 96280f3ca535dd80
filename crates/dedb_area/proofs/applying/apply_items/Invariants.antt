use Rattle.std.proofs.Common.{◌≡◌, ◌-◌, ◌<◌, ◌^◌, ℕ, List, take, drop, length}
use Rattle.std.specs.Prelude.{slice_get, Some}
use Rattle.std.specs.List.{AllByRecursion}
use Rattle.fp_model.specs.declared.log.Item.TheVariants.{Range}
use Rattle.ci_pool.specs.Held.{pending_at, IsClean}
use Rattle.area_states.specs.declared.place.Place.{Place}
use Rattle.dedb_area.specs.Applying.{with_items_at, IsApplied, IsFitImage, LiesWithin}
use Rattle.dedb_area.specs.inside.Applying.{EndsInTime}
use Rattle.dedb_area.specs.Standing.{IsFitPool, IsUnstaged}
use Rattle.dedb_area.proofs.applying.apply_items.Given as goal

abbrev pub invariant-loop-item : goal.invariant-loop-item
invariant-loop-item l = record {
  applied : IsUnstaged l.initial.pool → IsApplied l.place (take l.item-index l.items) l.initial.pool l.pool;
  appliable : IsUnstaged l.initial.pool → (n set ci at : ℕ) (bytes : List ℕ) → n < l.item-index
      → slice_get l.items n ≡ Some (Range set ci at bytes)
      → LiesWithin (with_items_at l.place set ci (take n l.items) (pending_at l.initial.pool set ci)) at (length bytes);
  unstaged : IsUnstaged l.initial.pool → IsUnstaged l.pool;
  fit : (places : List Place) → AllByRecursion (IsFitImage places) l.items → l.place < 2 ^ 64 - 1
      → IsFitPool places l.initial.pool → IsFitPool places l.pool;
  clean : (contents : ℕ → List ℕ) → IsClean contents l.initial.pool → IsClean contents l.pool;
  left : AllByRecursion EndsInTime (drop l.item-index l.items);
}
