-- What a pool and a site give of an interval are its newest bytes.
use Rattle.std.proofs.Common.{◌≡◌, inl, inr, ℕ, ◌+◌, ◌<◌, true, false, List, length, refl, sym, ◌∙◌, ap, subst, arith}
use Rattle.std.specs.Prelude.{Option, Some, None, slice_index}
use Rattle.std.proofs.lemmas.Bool.{cases_Bool, cases_lt}
use Rattle.fp_site.specs.Disk.{Disk}
use Rattle.fp_model.specs.Items.{items_of}
use Rattle.area_redo.specs.Redo.{AreaBytes, Layout, count_in, names}
use Rattle.area_redo.specs.Standing.{Way, behind, is_below, sealed_of, IsOwedBy}
use Rattle.area_redo.proofs.Entries.{named_at, behind_none, grown_named}
use Rattle.area_redo.proofs.Dues.{names_behind}
use Rattle.ci_pool.specs.declared.cell.Waiting.{Waiting}
use Rattle.ci_pool.specs.Held.{Held, pending_at, bytes_of, bytes_or, interval_in, newest_in}
use Rattle.ci_space.specs.Head.{ends_of}
use Rattle.fp_model.specs.declared.database.AreaEnds.{AreaEnds}
use Rattle.area_states.specs.declared.place.Place.{Place}
use Rattle.dedb_area.specs.Control.{ends_in}
use Rattle.area_states.specs.Places.{place_at, size_of, counted_by, layout_of}
use Rattle.dedb_area.specs.Standing.{due_of, PoolStands}

module _ (layout : Layout) (way : Way) (bytes : AreaBytes) (disk : Disk) (pool : Held)
    (stands : PoolStands layout way bytes disk pool) where
  -- what doesn't wait no unsealed entry names
  not_named : (set ci : ℕ) → pending_at pool set ci ≡ None → names set ci (items_of way.unsealed) ≡ false
  not_named set ci is = elim (cases_Bool (names set ci (items_of way.unsealed))) [
    | inr unnamed ↦ unnamed
    | inl named ↦
        let found = named_at set ci way.unsealed named in
        let owed = stands.stands.owes.waits set ci (length way.tail + found.0) (omega arith)
        (names_behind set ci way.tail way.unsealed found.0 ∙ found.2) in
        absurd (subst (λ o. IsOwedBy (way.count + (length way.tail + found.0)) (due_of o)) is owed)
  ]

  pub reads_newest : (set ci : ℕ) → ci < count_in layout (behind way.unsealed bytes) set
      → newest_in pool disk.contents set ci (layout.size set) ≡ behind way.unsealed bytes set ci
  reads_newest set ci below = at (pending_at pool set ci) refl
    where
      at : (o : Option Waiting) → pending_at pool set ci ≡ o
          → newest_in pool disk.contents set ci (layout.size set) ≡ behind way.unsealed bytes set ci
      at (Some w) is =
          ap (λ o. bytes_or (bytes_of o) (interval_in disk.contents set ci (layout.size set))) is
          ∙ stands.newest set ci w is
      at None is =
          let none = not_named set ci is in
          let lt : ci < count_in layout bytes set = elim (cases_lt ci (count_in layout bytes set)) [
            | inl lt ↦ lt
            | inr ge ↦
                let named = grown_named layout set ci way.unsealed bytes stands.stands.grows ge below in
                let both : true ≡ false = sym named ∙ none in
                cc
          ] in
          ap (λ o. bytes_or (bytes_of o) (interval_in disk.contents set ci (layout.size set))) is
          ∙ (stands.stands.stand set).same ci lt (ap (λ o. is_below (sealed_of way) (due_of o)) is)
          ∙ sym (behind_none set ci way.unsealed bytes none)

-- control of an area
pub control_newest : (places : List Place) (way : Way) (bytes : AreaBytes) (disk : Disk) (pool : Held) (set : ℕ)
    (place : Place) → PoolStands (layout_of places) way bytes disk pool → place_at places set ≡ Some place
    → newest_in pool disk.contents set 0 place.shape.ci ≡ behind way.unsealed bytes set 0
control_newest places way bytes disk pool set place stands is =
    let counts : count_in (layout_of places) (behind way.unsealed bytes) set
    ≡ counted_by (Some place) (behind way.unsealed bytes set 0) =
    ap (λ o. counted_by o (behind way.unsealed bytes set 0)) is in
    subst (λ n. newest_in pool disk.contents set 0 n ≡ behind way.unsealed bytes set 0) (ap size_of is)
    (reads_newest (layout_of places) way bytes disk pool stands set 0 (omega arith))

-- the two numbers are the ends
pub ends_are : (ends : AreaEnds) (control : List ℕ) → ends.begin ≡ slice_index (ends_of control) 0
    → ends.end ≡ slice_index (ends_of control) 1 → ends ≡ ends_in control
ends_are ends control begin end =
    ap (λ n. record { begin = n; end = ends.end }) begin
    ∙ ap (λ n. record { begin = slice_index (ends_of control) 0; end = n }) end
