use Rattle.std.proofs.Common.{◌≡◌, ◌++◌, ◌+◌, drop}
use Rattle.fp_show.specs.GroupText.{entries_text}
use Rattle.fp_show.proofs.group.show_group.Given as goal

-- the entries from this one on are left
abbrev pub invariant-loop-at : goal.invariant-loop-at
invariant-loop-at l =
    l.text ++ entries_text (l.first + l.at) (drop l.at l.entries) ≡ l.initial.text ++ entries_text l.first l.entries
