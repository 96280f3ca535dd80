-- What a statement does, as the code says it.
use Rattle.std.specs.Prelude.{◌≡◌, ⊤, ℕ, zero, suc, List, [], ◌∷◌, map, Bool, Some, Result, Ok, Err}
use Rattle.std.specs.List.{AllByRecursion}
use Rattle.fp_model.specs.Fsas.{Fsa, IsFsa}
use Rattle.fp_model.specs.declared.scripts.Statement.TheOpen.{Statement-F, Set, If, Repeat, Break, Reply, Roll, Get, Fld, Isrt, Repl, Dlet}
use Rattle.txn_values.specs.declared.stop.Stop.{Stop}
use Rattle.txn_values.specs.declared.stop.Stop.TheVariants as stop
use Rattle.fp_model.specs.declared.calls.Message.{Message}
use Rattle.fp_model.specs.declared.calls.Answer.{Answer}
use Rattle.fp_model.specs.declared.definitions.Defs.{Defs}
use Rattle.fp_model.specs.declared.scripts.Statement.{Statement, out-Statement}
use Rattle.fp_model.specs.Operands.{Env, fsas_given, with_setting}
use Rattle.fp_model.specs.Asking.{Way, Goes, Leaves, Ends, Replies, Rolls, in_order, loops_on, times, called, run}
use Rattle.txn_machine.specs.declared.doing.Deed.{Deed}
use Rattle.txn_machine.specs.declared.doing.Deed.TheVariants as deed
use Rattle.txn_machine.specs.declared.known.Known.{Known}
use Rattle.txn_machine.specs.Knowing.{env_of}
use Rattle.txn_machine.specs.Places.{choice_in, loop_in}

module _ (defs : Defs) (message : Message) where
  -- the statements of a block
  abbrev pub block_of : List Statement → Env → Way
  block_of block = in_order (map (run defs message) block)

  -- where it leads
  abbrev pub way_of : Statement → Deed → Env → Way
  way_of s (deed.Set name text) env = Goes (with_setting name.0 text env)
  way_of s deed.Pass env = Goes env
  way_of s (deed.Choose holds) env = block_of (choice_in holds (out-Statement s)) env
  way_of s (deed.Repeat left) env = loops_on (block_of (loop_in (out-Statement s)) env)
      (times left (block_of (loop_in (out-Statement s))))
  way_of s deed.Leave env = Leaves env
  way_of s (deed.Reply text) env = Ends (Replies text)
  way_of s (deed.Roll code) env = Ends (Rolls code)
  way_of s (deed.Ask asked) env = called asked env

-- A statement does this, whatever is answered further.
abbrev pub Does : Defs → Message → Known → Statement → Deed → Type 0
Does defs message known s did = (more : List Answer) → run defs message s (env_of known more) ≡ way_of defs message s
    did (env_of known more)

-- what REPEAT does: its block runs once, and the other times more; an empty block is passed, whatever the times
abbrev pub deed_of_loop : ℕ → List Statement → Deed
deed_of_loop times [] = deed.Pass
deed_of_loop zero (s ∷ body) = deed.Pass
deed_of_loop (suc n) (s ∷ body) = deed.Repeat n

-- what a try says of it; code 99 where there is no value, and nothing after want of memory
abbrev pub Tries : Defs → Message → Known → Statement → Result Deed Stop → Type 0
Tries defs message known s (Ok did) = Does defs message known s did
Tries defs message known s (Err stop.NoValue) = Does defs message known s (deed.Roll 99)
Tries defs message known s (Err stop.Memory) = ⊤

-- a call is asked
abbrev pub IsCall : Deed → Type 0
IsCall (deed.Ask asked) = ⊤
IsCall (deed.Set name text) = ⊥
IsCall deed.Pass = ⊥
IsCall (deed.Choose holds) = ⊥
IsCall (deed.Repeat left) = ⊥
IsCall deed.Leave = ⊥
IsCall (deed.Reply text) = ⊥
IsCall (deed.Roll code) = ⊥

-- a call is that of a statement without blocks, and the search arguments of a field call have a spelling
abbrev pub Spells : Defs → Message → Known → Statement-F Statement → Type 0
Spells defs message known (Fld db key fsas) = (list : List Fsa)
    → fsas_given defs message (env_of known []) fsas ≡ Some list → AllByRecursion IsFsa list
Spells defs message known (Set variable first rest) = ⊤
Spells defs message known (If left comparison right taken otherwise) = ⊥
Spells defs message known (Repeat n body) = ⊥
Spells defs message known Break = ⊤
Spells defs message known (Reply operands) = ⊤
Spells defs message known (Roll code) = ⊤
Spells defs message known (Get get hold db ssas) = ⊤
Spells defs message known (Isrt db ssas fields) = ⊤
Spells defs message known (Repl db fields) = ⊤
Spells defs message known (Dlet db) = ⊤
