-- How much a script may still do: more than its steps from where it is.
use Rattle.std.specs.Prelude.{ℕ, ◌+◌, ◌*◌, max, List, [], ◌∷◌, map, sum, drop}
use Rattle.fp_model.specs.declared.scripts.Statement.{Statement}
use Rattle.fp_model.specs.declared.scripts.Statement.TheOpen.{Statement-F, Set, If, Repeat, Break, Reply, Roll, Get, Fld, Isrt, Repl, Dlet}
use Rattle.fp_model.specs.declared.scripts.Statement.TheFolds.{fold-Statement}
use Rattle.txn_machine.specs.declared.place.Place.{Place}
use Rattle.txn_machine.specs.declared.place.Frame.{Frame}
use Rattle.txn_machine.specs.declared.place.Frame.TheVariants as frame
use Rattle.txn_machine.specs.Places.{inner, block_at}

-- one statement, with the work of those in it; the end of a block is a step too
abbrev pub work_step : Statement-F ℕ → ℕ
work_step (Set variable first rest) = 1
work_step (If left comparison right taken otherwise) = 2 + max (sum taken) (sum otherwise)
work_step (Repeat n body) = 2 + n * (1 + sum body)
work_step Break = 1
work_step (Reply operands) = 1
work_step (Roll code) = 1
work_step (Get get hold db ssas) = 1
work_step (Fld db key fsas) = 1
work_step (Isrt db ssas fields) = 1
work_step (Repl db fields) = 1
work_step (Dlet db) = 1

abbrev pub statement_work : Statement → ℕ
statement_work = fold-Statement ℕ work_step

-- that of a block from a place on
abbrev pub work_from : ℕ → List Statement → ℕ
work_from place block = sum (map statement_work (drop place block))

-- that of what follows behind the block of a frame
abbrev pub work_beyond : Frame → List Statement → ℕ
work_beyond (frame.Choice behind holds) block = 1 + work_from behind block
work_beyond (frame.Loop behind left) block = 1 + left * (1 + work_from 0 (inner (frame.Loop behind left) block)) +
    work_from behind block

abbrev pub work_around : List Frame → List Statement → ℕ
work_around [] block = 0
work_around (f ∷ fs) block = work_beyond f block + work_around fs (inner f block)

-- and of all of it
abbrev pub work : List Statement → Place → ℕ
work statements place = work_around place.frames statements + work_from place.at (block_at place.frames statements)
