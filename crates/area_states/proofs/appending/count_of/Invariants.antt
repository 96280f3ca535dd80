use Rattle.std.proofs.Common.{◌≡◌, ◌≤◌, ◌+◌, drop}
use Rattle.area_states.specs.Changes.{count_of}
use Rattle.area_states.proofs.appending.count_of.Given as goal

-- those counted and those that are left are all, and no more are counted than were looked at
abbrev pub invariant-loop-insert : goal.invariant-loop-insert
invariant-loop-insert l = record {
  counted : l.count + count_of l.place (drop l.insert-index l.inserts) ≡ count_of l.place l.inserts;
  few : l.count ≤ l.insert-index;
}
