-- Every pending interval is written, one after another.
use Rattle.std.proofs.Common.{◌≡◌, ℕ, ◌+◌, ◌-◌, ◌^◌, ◌<◌, List, [], length, refl, ◌∙◌, ap, subst, arith, length-append}
use Rattle.std.specs.Prelude.{Some, None, Option}
use Rattle.fp_site.specs.Disk.{Disk}
use Rattle.fp_site.proofs.Runs.{joined}
use Rattle.fp_model.specs.Items.{items_of}
use Rattle.area_redo.specs.Redo.{AreaBytes, AreRedone, RedoesThrough}
use Rattle.area_redo.specs.Standing.{Way, all_of, sealed_of, since_mark}
use Rattle.area_redo.proofs.Dues.{names_within}
use Rattle.ci_pool.specs.declared.cell.Waiting.{Waiting}
use Rattle.ci_pool.specs.Held.{Held, pending_at, NoneSealed}
use Rattle.area_states.specs.declared.place.Place.{Place}
use Rattle.area_states.specs.Places.{layout_of}
use Rattle.dedb_area.specs.Standing.{Holding, IsFitPool, due_of, AreasStand}
use Rattle.dedb_area.specs.Keeping.{KeepsAreas, NonePending}

module _ (way : Way) (bytes : AreaBytes) where
  -- one run after another
  pub areas_then : (a b c : Disk) (x y z : Holding) → KeepsAreas way bytes a b x y → KeepsAreas way bytes b c y z
      → KeepsAreas way bytes a c x z
  areas_then a b c x y z first second = record {
    places = second.places ∙ first.places;
    stands = λ s. second.stands (first.stands s);
    moments = λ s. joined (λ d. AreRedone (layout_of x.places) (items_of way.tail) bytes d.images) a b c
        (first.moments s)
        (subst (λ ps. RedoesThrough (layout_of ps) (items_of way.tail) bytes b c) first.places
        (second.moments (first.stands s)));
    opening = λ s may. second.opening (first.stands s) (first.opening s may);
    opening_moments = λ s may. joined (λ d. AreRedone (layout_of x.places) (items_of (since_mark way)) bytes d.images) a b
        c (first.opening_moments s may)
        (subst (λ ps. RedoesThrough (layout_of ps) (items_of (since_mark way)) bytes b c) first.places
        (second.opening_moments (first.stands s) (first.opening s may)));
  }

  -- what is known of areas that stand alone
  pub areas_when : (a b : Disk) (x y : Holding) → y.places ≡ x.places
      → (AreasStand way bytes a x → KeepsAreas way bytes a b x y) → KeepsAreas way bytes a b x y
  areas_when a b x y places keeps = record {
    places = places;
    stands = λ s. (keeps s).stands s;
    moments = λ s. (keeps s).moments s;
    opening = λ s may. (keeps s).opening s may;
    opening_moments = λ s may. (keeps s).opening_moments s may;
  }

  -- with every entry sealed, so is the newest one of each pending interval
  pub sealed_waits : (disk : Disk) (areas : Holding) (set ci : ℕ) (w : Waiting) → way.unsealed ≡ []
      → AreasStand way bytes disk areas → pending_at areas.pool set ci ≡ Some w → w.newest < sealed_of way
  sealed_waits disk areas set ci w none stands is =
      let due = stands.pool.stands.owes.each set ci (record { oldest = w.oldest; newest = w.newest }) (ap due_of is) in
      let within = names_within set ci (all_of way) (w.newest - way.count) due.newest in
      let long : length (all_of way) ≡ length way.tail + length way.unsealed = length-append way.tail way.unsealed in
      let empty : length way.unsealed ≡ 0 = ap length none in
      let ordered = due.ordered in
      let from = due.from in
      omega (arith, within, long, empty, ordered, from)

-- where none has a newest entry below the greatest number, none is pending
pub none_pending : (places : List Place) (pool : Held) → IsFitPool places pool → NoneSealed pool (2 ^ 64 - 1)
    → NonePending pool
none_pending places pool fit none set ci = at (pending_at pool set ci) refl
  where
    at : (o : Option Waiting) → pending_at pool set ci ≡ o → o ≡ None
    at None is = refl
    at (Some w) is =
        let most = none set ci w is in
        let less = fit.below set ci w is in
        absurd (omega (arith, most, less))
