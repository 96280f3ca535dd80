use Rattle.std.proofs.Common.{◌≡◌, ◌++◌, take}
use Rattle.std.specs.Prelude.{flat_map}
use Rattle.fp_show.specs.inside.Walk.{root_text}
use Rattle.fp_show.proofs.dedb.put_roots.Given as goal

-- the roots so far are there
abbrev pub invariant-loop-root : goal.invariant-loop-root
invariant-loop-root l = l.into ≡ l.initial.into ++ flat_map (root_text l.types) (take l.root-index l.roots)
