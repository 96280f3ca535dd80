-- Where a program is in its script: the blocks that it is in, the outermost first, and a place in the innermost.
use Rattle.std.specs.Prelude.{ℕ, ◌-◌, List, [], ◌∷◌, map, drop, Bool, true, false, Option, Some, None, slice_get, if◌then◌else◌}
use Rattle.fp_model.specs.declared.definitions.Defs.{Defs}
use Rattle.fp_model.specs.declared.calls.Message.{Message}
use Rattle.fp_model.specs.declared.calls.Answer.{Answer}
use Rattle.fp_model.specs.declared.scripts.Statement.{Statement, out-Statement}
use Rattle.fp_model.specs.declared.scripts.Statement.TheOpen.{Statement-F, Set, If, Repeat, Break, Reply, Roll, Get, Fld, Isrt, Repl, Dlet}
use Rattle.fp_model.specs.Operands.{Env}
use Rattle.fp_model.specs.Asking.{Way, Goes, Ask, goes_on, in_order, loops_on, times, run, ended}
use Rattle.txn_machine.specs.declared.place.Place.{Place}
use Rattle.txn_machine.specs.declared.place.Frame.{Frame}
use Rattle.txn_machine.specs.declared.place.Frame.TheVariants as frame

-- ---- blocks

-- a block of an IF
abbrev pub choice_in : Bool → Statement-F Statement → List Statement
choice_in true (If left comparison right taken otherwise) = taken
choice_in false (If left comparison right taken otherwise) = otherwise
choice_in holds s = []

-- the block of a REPEAT
abbrev pub loop_in : Statement-F Statement → List Statement
loop_in (Repeat n body) = body
loop_in s = []

-- what is made of the statement at a place; none makes no block
abbrev pub block_in : (Statement-F Statement → List Statement) → Option Statement → List Statement
block_in f None = []
block_in f (Some s) = f (out-Statement s)

-- the block of a frame, in the block around it
abbrev pub inner : Frame → List Statement → List Statement
inner (frame.Choice behind holds) block = block_in (choice_in holds) (slice_get block (behind - 1))
inner (frame.Loop behind left) block = block_in loop_in (slice_get block (behind - 1))

-- the block of the last frame
abbrev pub block_at : List Frame → List Statement → List Statement
block_at [] block = block
block_at (f ∷ fs) block = block_at fs (inner f block)

module _ (defs : Defs) (message : Message) where
  -- the statements of a block from a place on
  abbrev pub from_place : ℕ → List Statement → Env → Way
  from_place place block = in_order (map (run defs message) (drop place block))

  -- what follows behind the block of a frame: the rest of the block around it, and before that the loop again
  abbrev pub beyond : Frame → List Statement → Way → Way
  beyond (frame.Choice behind holds) block way = goes_on way (from_place behind block)
  beyond (frame.Loop behind left) block way =
      goes_on (loops_on way (times left (from_place 0 (inner (frame.Loop behind left) block))))
      (from_place behind block)

  -- what follows behind the blocks of all frames
  abbrev pub around : List Frame → List Statement → Way → Way
  around [] block way = way
  around (f ∷ fs) block way = beyond f block (around fs (inner f block) way)

  -- where a script leads from a place on, and what it comes to
  abbrev pub way_from : List Statement → Place → Env → Way
  way_from statements place env = around place.frames statements
      (from_place place.at (block_at place.frames statements) env)

  abbrev pub end_from : List Statement → Place → Env → Ask
  end_from statements place env = ended (way_from statements place env)
