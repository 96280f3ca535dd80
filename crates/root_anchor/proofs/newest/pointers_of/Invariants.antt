use Rattle.std.proofs.Common.{◌≡◌, ◌++◌, drop}
use Rattle.anchor_elements.specs.Reading.{pointers_of}
use Rattle.root_anchor.proofs.newest.pointers_of.Given as goal

-- the pointers so far, and those to come
abbrev pub invariant-loop-first : goal.invariant-loop-first
invariant-loop-first l = l.pointers.items ++ pointers_of (drop l.first-index l.firsts) ≡ pointers_of l.firsts
