use Rattle.std.proofs.Common.{◌≡◌, take}
use Rattle.dedb_storm.proofs.bank.copy_roots.Given as goal

-- the roots copied so far are those before
abbrev pub invariant-loop-root : goal.invariant-loop-root
invariant-loop-root l = l.copies ≡ take l.root-index l.root-items
