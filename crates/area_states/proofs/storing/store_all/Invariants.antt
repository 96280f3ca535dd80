use Rattle.std.proofs.Common.{◌≡◌, ◌≤◌, ◌∷◌, [], drop}
use Rattle.std.specs.List.{AllByRecursion}
use Rattle.ci_space.specs.Calls.{GoesOn}
use Rattle.fp_model.specs.declared.calls.AnchorChange.{AnchorChange}
use Rattle.area_states.specs.Changes.{AllKeepLists, AreOrdered, ChangesOne, IsStorable, KeepsLists, OneChanges, with_changes}
use Rattle.area_states.specs.States.{AreaState, HasState}
use Rattle.area_states.proofs.storing.store_all.Given as goal

-- the area stands for a state from which the changes that are left lead to the last one
abbrev pub invariant-loop-change : goal.invariant-loop-change
invariant-loop-change g l = record {
  goes_on : GoesOn g.I.Intervals.told g.I.Intervals.size g.I.Intervals.faults g.I.Intervals.keeps l.initial.i l.i;
  number : g.I.Intervals.number l.initial.i ≤ g.I.Intervals.number l.i;
  storable : AllByRecursion (IsStorable l.place) (drop l.change-index l.changes);
  stands : g.I.Intervals.told l.initial.i → (state : AreaState)
      → HasState l.place (g.I.Intervals.intervals l.initial.i) state → AllKeepLists l.place state l.changes
      → (mid : AreaState) × HasState l.place (g.I.Intervals.intervals l.i) mid
      × AllKeepLists l.place mid (drop l.change-index l.changes)
      × (with_changes l.place l.changes state ≡ with_changes l.place (drop l.change-index l.changes) mid);
  none_yet : g.I.Intervals.told l.initial.i → l.change-index ≡ 0
      → g.I.Intervals.intervals l.i ≡ g.I.Intervals.intervals l.initial.i;
  alone : g.I.Intervals.told l.initial.i → (state : AreaState)
      → HasState l.place (g.I.Intervals.intervals l.initial.i) state → (c : AnchorChange) → l.changes ≡ c ∷ []
      → KeepsLists l.place state c → AreOrdered l.place state → ChangesOne l.place state c
      → OneChanges (g.I.Intervals.intervals l.initial.i) (g.I.Intervals.intervals l.i);
}
