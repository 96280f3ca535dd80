use Rattle.std.proofs.Common.{◌≡◌, drop, map}
use Rattle.fp_exits.specs.Kinds.{kinds_of}
use Rattle.fp_defs.specs.Exits.{first_lacking}
use Rattle.fp_defs.proofs.exits.first_lacking.Given as goal

-- what is left lacks the same first kind
abbrev pub invariant-loop-dedb : goal.invariant-loop-dedb
invariant-loop-dedb g l =
    first_lacking (kinds_of l.exits).spreaders (map (λ d. d.randomizer) (drop l.dedb-index l.dedbs))
    ≡ first_lacking (kinds_of l.exits).spreaders (map (λ d. d.randomizer) l.dedbs)
