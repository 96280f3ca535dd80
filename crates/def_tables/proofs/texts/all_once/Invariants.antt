use Rattle.std.proofs.Common.{◌≡◌, List, ℕ, [], drop, take, map, Bor}
use Rattle.std.specs.BTreeSet as sorted
use Rattle.std.specs.Ordering.{nat_cmp}
use Rattle.std.specs.Cmp.Lexicographic.{slice_cmp}
use Rattle.def_tables.specs.Keys.{occurs, repeated}
use Rattle.def_tables.proofs.texts.all_once.Given as goal

-- the set has the texts so far, of which none occurred before
abbrev pub invariant-loop-text : goal.invariant-loop-text
invariant-loop-text l =
    ((q : Bor (List ℕ)) → sorted.contains_by (λ x. slice_cmp nat_cmp q.now x.now) l.seen ≡ occurs
    (map (λ t. t.now) (take l.text-index l.texts)) q.now)
    × (repeated (map (λ t. t.now) (take l.text-index l.texts)) (map (λ t. t.now) (drop l.text-index l.texts)) ≡ repeated
    [] (map (λ t. t.now) l.texts))
