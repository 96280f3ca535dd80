use Rattle.std.proofs.Common.{◌≡◌, ◌∷◌, ◌++◌, length, drop}
use Rattle.checkpoint_format.proofs.Lending.{texts}
use Rattle.checkpoint_format.proofs.writing.put_msdbs.Given as goal

-- the databases from this one on are to come
abbrev pub invariant-loop-number : goal.invariant-loop-number
invariant-loop-number l = l.into ++ texts (drop l.number l.fn.defs) (drop l.number l.fn.msdbs.msdbs)
    ≡ l.fn.into ++ (length l.fn.msdbs.msdbs ∷ texts l.fn.defs l.fn.msdbs.msdbs)
