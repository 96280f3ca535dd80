-- The intervals that the items so far have named, and what they say of the next items.
use Rattle.std.specs.Prelude.{◌≡◌, ℕ, List, ◌++◌, Bool, true, false, ◌==◌, ◌&&◌, ◌||◌}
use Rattle.std.specs.List.{list_any}
use Rattle.std.specs.BTreeSet.{contains}
use Rattle.std.specs.Ordering.{nat_cmp, ordering_then}
use Rattle.std.specs.declared.cmp.Ordering.{Ordering}
use Rattle.fp_model.specs.declared.definitions.Defs.{Defs}
use Rattle.fp_model.specs.declared.log.Item.{Item}
use Rattle.fp_model.specs.declared.log.Item.TheVariants.{Segment, Image, Range}
use Rattle.fp_model.specs.ItemTargets.{names_interval}
use Rattle.fp_model.specs.Items.{AreFit}
use Rattle.fp_restart.specs.declared.begun.Begun.{Begun}

-- by data set, and then by number
abbrev pub interval_cmp : ℕ × ℕ → ℕ × ℕ → Ordering
interval_cmp a b = ordering_then (nat_cmp a.0 b.0) (nat_cmp a.1 b.1)

-- whether an interval is among them
abbrev pub has_begun : Begun → ℕ → ℕ → Bool
has_begun begun set ci = contains interval_cmp begun.intervals (set, ci)

-- they are those that these items name
abbrev pub IsBegunBy : Begun → List Item → Type 0
IsBegunBy begun items = (set ci : ℕ) → has_begun begun set ci ≡ list_any (names_interval set ci) items

-- whether items may be applied behind earlier ones; where they may, the intervals are those that all of these name
abbrev pub IsJudged : Defs → Begun → List Item → List Item → Bool → Type 0
IsJudged defs begun earlier items true = AreFit defs (earlier ++ items) × IsBegunBy begun (earlier ++ items)
IsJudged defs begun earlier items false = ¬ AreFit defs (earlier ++ items)

-- that holds behind any items that may be applied and name the intervals
abbrev pub Judges : Defs → Begun → Begun → List Item → Bool → Type 0
Judges defs old new items fit =
    (earlier : List Item) → IsBegunBy old earlier → AreFit defs earlier → IsJudged defs new earlier items fit

-- An item begins its interval, or finds it begun: a segment has none, an image adds its own, a range adds none.
abbrev pub Begins : Begun → Begun → Item → Bool → Type 0
Begins old new (Segment msdb key bytes) fit = (fit ≡ true) × (new ≡ old)
Begins old new (Image set ci bytes) fit =
    (fit ≡ true)
    × ((other n : ℕ) → has_begun new other n ≡ ((other == set && n == ci) || has_begun old other n))
Begins old new (Range set ci at bytes) fit = (fit ≡ has_begun old set ci) × (new ≡ old)
