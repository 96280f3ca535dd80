use Rattle.std.proofs.Common.{◌≡◌, drop}
use Rattle.std.specs.List.{AllByRecursion}
use Rattle.ci_space.specs.Calls.{GoesOn}
use Rattle.area_states.specs.Changes.{AreOrdered, HasRoom, IsInsertable, count_of, with_inserts}
use Rattle.area_states.specs.States.{AreaState, HasState}
use Rattle.area_states.proofs.appending.number_all.Given as goal

-- the area stands for a state from which the inserts that are left lead to the last one, and there is room for them
-- where there was for all
abbrev pub invariant-loop-insert : goal.invariant-loop-insert
invariant-loop-insert g l = record {
  goes_on : GoesOn g.I.Intervals.told g.I.Intervals.size g.I.Intervals.faults g.I.Intervals.keeps l.initial.i l.i;
  number : g.I.Intervals.number l.i ≡ g.I.Intervals.number l.initial.i;
  insertable : AllByRecursion (IsInsertable l.place) (drop l.insert-index l.inserts);
  stands : g.I.Intervals.told l.initial.i → (state : AreaState)
      → HasState l.place (g.I.Intervals.intervals l.initial.i) state → AreOrdered l.place state
      → (mid : AreaState) × HasState l.place (g.I.Intervals.intervals l.i) mid × AreOrdered l.place mid
      × (with_inserts l.place l.inserts state ≡ with_inserts l.place (drop l.insert-index l.inserts) mid)
      × (HasRoom l.place state (count_of l.place l.inserts)
      → HasRoom l.place mid (count_of l.place (drop l.insert-index l.inserts)));
}
