-- What a script asks: a function of the message and of the answers that its calls were given.
use Rattle.std.specs.Prelude.{ℕ, zero, suc, ◌+◌, ◌*◌, min, max, List, [], ◌∷◌, map, sum, if◌then◌else◌, Option, Some, None, find}
use Rattle.fp_model.specs.declared.name.Name.{Name}
use Rattle.fp_model.specs.declared.definitions.Defs.{Defs}
use Rattle.fp_model.specs.declared.calls.Message.{Message}
use Rattle.fp_model.specs.declared.calls.Answer.{Answer}
use Rattle.fp_model.specs.declared.calls.Call.{Call}
use Rattle.fp_model.specs.declared.calls.Call.TheVariants as call
use Rattle.fp_model.specs.declared.scripts.Statement.{Statement}
use Rattle.fp_model.specs.declared.scripts.Statement.TheOpen.{Statement-F, Set, If, Repeat, Break, Reply, Roll, Get, Fld, Isrt, Repl, Dlet}
use Rattle.fp_model.specs.declared.scripts.Statement.TheFolds.{fold-Statement}
use Rattle.fp_model.specs.declared.scripts.Script.{Script}
use Rattle.fp_model.specs.Texts.{same_text}
use Rattle.fp_model.specs.Operands.{at_top, with_setting, learned, Env, set_text, chosen, reply_text, get_call, fld_call, isrt_call, repl_call}

-- ---- what a statement does

-- what a script comes to: a call without an answer, a reply, or a rollback code
pub data Ask : Type 0 where
  Asks : Call → Ask
  Replies : List ℕ → Ask
  Rolls : ℕ → Ask

-- where a part of a script leads: behind it, behind the innermost loop, or to the end
pub data Way : Type 0 where
  Goes : Env → Way
  Leaves : Env → Way
  Ends : Ask → Way

-- what is made of a value, and the rollback code 99 where there is none
abbrev pub or_rolls : {A : Type 0} → Option A → (A → Way) → Way
or_rolls None f = Ends (Rolls 99)
or_rolls (Some x) f = f x

-- what follows, where a part leads behind itself
abbrev pub goes_on : Way → (Env → Way) → Way
goes_on (Goes env) f = f env
goes_on (Leaves env) f = Leaves env
goes_on (Ends end) f = Ends end

-- one after another
abbrev pub in_order : List (Env → Way) → Env → Way
in_order [] env = Goes env
in_order (s ∷ ss) env = goes_on (s env) (in_order ss)

-- a loop, where its body led: behind itself, and so many times more
abbrev pub loops_on : Way → (Env → Way) → Way
loops_on (Goes env) again = again env
loops_on (Leaves env) again = Goes env
loops_on (Ends end) again = Ends end

-- so many times
abbrev pub times : ℕ → (Env → Way) → Env → Way
times zero body env = Goes env
times (suc n) body env = loops_on (body env) (times n body)

-- a call: asked where no answer is left, else given the next one
abbrev pub called : Call → Env → Way
called asked env = elim env.answers [
  | [] ↦ Ends (Asks asked)
  | answer ∷ answers ↦ Goes (learned asked answer (record env { status = answer.status; answers = answers }))
]

module _ (defs : Defs) (message : Message) where
  -- one statement, with runs in place of the statements in it
  abbrev pub run_step : Statement-F (Env → Way) → Env → Way
  run_step (Set variable first rest) env =
      or_rolls (set_text defs message env first rest) (λ text. Goes (with_setting variable.0 text env))
  run_step (If left comparison right taken otherwise) env =
      or_rolls (chosen defs message env left comparison right)
      (λ holds. (if holds then in_order taken else in_order otherwise) env)
  run_step (Repeat n body) env = times n (in_order body) env
  run_step Break env = Leaves env
  run_step (Reply operands) env = or_rolls (reply_text defs message env operands) (λ text. Ends (Replies text))
  run_step (Roll code) env = Ends (Rolls code)
  run_step (Get get hold db ssas) env =
      or_rolls (get_call defs message env (call.Get get hold db) db ssas) (λ asked. called asked env)
  run_step (Fld db key fsas) env = or_rolls (fld_call defs message env db key fsas) (λ asked. called asked env)
  run_step (Isrt db ssas fields) env = or_rolls (isrt_call defs message env db ssas fields) (λ asked. called asked env)
  run_step (Repl db fields) env = or_rolls (repl_call defs message env db fields) (λ asked. called asked env)
  run_step (Dlet db) env = called (call.Dlet db) env

  -- a statement's run
  abbrev pub run : Statement → Env → Way
  run = fold-Statement (Env → Way) run_step

-- a script that ends without a REPLY replies the empty text
abbrev pub ended : Way → Ask
ended (Goes env) = Replies []
ended (Leaves env) = Replies []
ended (Ends end) = end

-- the first call of a script that has no answer yet, or its reply, or its rollback code
unfoldable pub ask : Defs → List Statement → Message → List Answer → Ask
ask defs statements message answers = ended (in_order (map (run defs message) statements) (at_top answers))

-- ---- cost

-- one statement, with costs in place of the statements in it
abbrev pub cost_step : Statement-F ℕ → ℕ
cost_step (Set variable first rest) = 1
cost_step (If left comparison right taken otherwise) = 1 + max (sum taken) (sum otherwise)
cost_step (Repeat n body) = 1 + n * sum body
cost_step Break = 1
cost_step (Reply operands) = 1
cost_step (Roll code) = 1
cost_step (Get get hold db ssas) = 1
cost_step (Fld db key fsas) = 1
cost_step (Isrt db ssas fields) = 1
cost_step (Repl db fields) = 1
cost_step (Dlet db) = 1

-- a statement's cost: 1, with the dearer block of a choice, or n times that of a loop
abbrev pub statement_cost : Statement → ℕ
statement_cost = fold-Statement ℕ cost_step

-- what a script takes at most: its TRAN line and its statements
abbrev pub full_cost : List Statement → ℕ
full_cost statements = 1 + sum (map statement_cost statements)

-- a script's cost; more than 1,000,000,000 is kept as that number
abbrev pub cost : List Statement → ℕ
cost statements = min 1000000000 (full_cost statements)

-- ---- scripts by name

-- the script of a name
abbrev pub script_of : List Script → Name → Option Script
script_of scripts name = find (λ script. same_text script.name.0 name.0) scripts
