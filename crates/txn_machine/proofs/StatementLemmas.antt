-- What a choice, a loop and a field call do.
use Rattle.std.proofs.Common.{◌≡◌, ◌≢◌, ◌∙◌, refl, sym, ap, subst, ℕ, zero, suc, List, [], ◌∷◌, map, Bool, true, false, if◌then◌else◌, Option, Some, None, Result, Ok, Err}
use Rattle.fp_model.specs.declared.calls.Message.{Message}
use Rattle.fp_model.specs.declared.calls.Call.{Call}
use Rattle.fp_model.specs.declared.definitions.Defs.{Defs}
use Rattle.fp_model.specs.declared.scripts.Operand.{Operand}
use Rattle.fp_model.specs.declared.scripts.Comparison.{Comparison}
use Rattle.fp_model.specs.declared.scripts.FsaText.{FsaText}
use Rattle.fp_model.specs.declared.scripts.Statement.{Statement, out-Statement, map-Statement}
use Rattle.fp_model.specs.declared.scripts.Statement.TheVariants.{If, Repeat, Fld, rolls-If, rolls-Repeat, rolls-Fld}
use Rattle.fp_model.specs.declared.scripts.Statement.{out-roll-Statement}
use Rattle.fp_model.specs.declared.scripts.Statement.TheOpen as open_statement
use Rattle.fp_model.specs.Operands.{Env, chosen, fld_call}
use Rattle.fp_model.specs.Asking.{Way, Goes, Ends, Rolls, or_rolls, in_order, loops_on, times, called, run, run_step}
use Rattle.fp_model.specs.declared.scripts.Statement.TheFolds.{fold_out-Statement}
use Rattle.txn_machine.specs.declared.doing.Deed.{Deed}
use Rattle.txn_machine.specs.declared.doing.Deed.TheVariants as deed
use Rattle.txn_machine.specs.declared.known.Known.{Known}
use Rattle.txn_values.specs.declared.stop.Stop.{Stop}
use Rattle.txn_values.specs.declared.stop.Stop.TheVariants as stop
use Rattle.txn_machine.specs.inside.Doing.{Tries, Does, block_of, deed_of_loop, way_of}
use Rattle.txn_machine.specs.Knowing.{env_of}
use Rattle.txn_machine.specs.Places.{choice_in, loop_in}

pub is_choice : (s : Statement) (left : Operand) (comparison : Comparison) (right : Operand)
    (taken otherwise : List Statement) → s ≡ If left comparison right taken otherwise
    → out-Statement s ≡ open_statement.If left comparison right taken otherwise
is_choice s left comparison right taken otherwise is =
    ap out-Statement (is ∙ sym (rolls-If left comparison right taken otherwise)) ∙ out-roll-Statement
    (open_statement.If left comparison right taken otherwise)

pub is_fld : (s : Statement) (db : ℕ) (key : Operand) (fsas : List FsaText) → s ≡ Fld db key fsas
    → out-Statement s ≡ open_statement.Fld db key fsas
is_fld s db key fsas is = ap out-Statement (is ∙ sym (rolls-Fld db key fsas)) ∙ out-roll-Statement
    (open_statement.Fld db key fsas)

pub is_loop : (s : Statement) (n : ℕ) (body : List Statement) → s ≡ Repeat n body
    → out-Statement s ≡ open_statement.Repeat n body
is_loop s n body is = ap out-Statement (is ∙ sym (rolls-Repeat n body)) ∙ out-roll-Statement
    (open_statement.Repeat n body)

-- so many turns of nothing are nothing
turns_of_nothing : (n : ℕ) (env : Env) → times n (in_order []) env ≡ Goes env
turns_of_nothing zero env = refl
turns_of_nothing (suc n) env = turns_of_nothing n env

module _ (defs : Defs) (message : Message) where
  -- a statement's run, as one step over the runs of the statements in it
  pub run_out : (s : Statement) (d : open_statement.Statement-F Statement) (env : Env) → out-Statement s ≡ d
      → run defs message s env ≡ run_step defs message (map-Statement Statement (Env → Way) (run defs message) d) env
  run_out s d env is =
      ap (λ (part : Env → Way). part env) (fold_out-Statement (Env → Way) (run_step defs message) s)
      ∙ ap (λ (x : open_statement.Statement-F Statement). run_step defs message
      (map-Statement Statement (Env → Way) (run defs message) x) env) is

  either_block : (holds : Bool) (left : Operand) (comparison : Comparison) (right : Operand)
      (taken otherwise : List Statement) (env : Env)
      → (if holds then in_order (map (run defs message) taken) else in_order (map (run defs message) otherwise)) env
      ≡ block_of defs message (choice_in holds (open_statement.If left comparison right taken otherwise)) env
  either_block true left comparison right taken otherwise env = refl
  either_block false left comparison right taken otherwise env = refl

  -- a choice
  pub choice_runs : (s : Statement) (left : Operand) (comparison : Comparison) (right : Operand)
      (taken otherwise : List Statement) (holds : Bool) (env : Env)
      → out-Statement s ≡ open_statement.If left comparison right taken otherwise
      → chosen defs message env left comparison right ≡ Some holds
      → run defs message s env ≡ block_of defs message (choice_in holds (out-Statement s)) env
  choice_runs s left comparison right taken otherwise holds env is found =
      run_out s (open_statement.If left comparison right taken otherwise) env is
      ∙ ap (λ (o : Option Bool). or_rolls o (λ b. (if b then in_order (map (run defs message) taken) else in_order
      (map (run defs message) otherwise)) env)) found
      ∙ either_block holds left comparison right taken otherwise env
      ∙ ap (λ (d : open_statement.Statement-F Statement). block_of defs message (choice_in holds d) env) (sym is)

  choice_none : (s : Statement) (left : Operand) (comparison : Comparison) (right : Operand)
      (taken otherwise : List Statement) (env : Env)
      → out-Statement s ≡ open_statement.If left comparison right taken otherwise
      → chosen defs message env left comparison right ≡ None → run defs message s env ≡ Ends (Rolls 99)
  choice_none s left comparison right taken otherwise env is none =
      run_out s (open_statement.If left comparison right taken otherwise) env is
      ∙ ap (λ (o : Option Bool). or_rolls o (λ b. (if b then in_order (map (run defs message) taken) else in_order
      (map (run defs message) otherwise)) env)) none

  -- a loop
  loop_way : (s : Statement) (n : ℕ) (body : List Statement) (env : Env)
      → out-Statement s ≡ open_statement.Repeat n body
      → times n (in_order (map (run defs message) body)) env ≡ way_of defs message s (deed_of_loop n body) env
  loop_way s n [] env is = turns_of_nothing n env
  loop_way s zero (b ∷ body) env is = refl
  loop_way s (suc n) (b ∷ body) env is = ap (λ (d : open_statement.Statement-F Statement). loops_on
      (block_of defs message (loop_in d) env) (times n (block_of defs message (loop_in d)))) (sym is)

  pub loop_runs : (s : Statement) (n : ℕ) (body : List Statement) (did : Deed) (env : Env)
      → out-Statement s ≡ open_statement.Repeat n body → did ≡ deed_of_loop n body
      → run defs message s env ≡ way_of defs message s did env
  loop_runs s n body did env is to =
      run_out s (open_statement.Repeat n body) env is ∙ loop_way s n body env is ∙ ap
      (λ (x : Deed). way_of defs message s x env) (sym to)

  -- a field call
  pub fld_runs : (s : Statement) (db : ℕ) (key : Operand) (fsas : List FsaText) (asked : Call) (env : Env)
      → out-Statement s ≡ open_statement.Fld db key fsas → fld_call defs message env db key fsas ≡ Some asked
      → run defs message s env ≡ called asked env
  fld_runs s db key fsas asked env is found =
      run_out s (open_statement.Fld db key fsas) env is ∙ ap (λ (o : Option Call). or_rolls o (λ a. called a env)) found

  fld_none : (s : Statement) (db : ℕ) (key : Operand) (fsas : List FsaText) (env : Env)
      → out-Statement s ≡ open_statement.Fld db key fsas → fld_call defs message env db key fsas ≡ None
      → run defs message s env ≡ Ends (Rolls 99)
  fld_none s db key fsas env is none =
      run_out s (open_statement.Fld db key fsas) env is ∙ ap (λ (o : Option Call). or_rolls o (λ a. called a env)) none

no_value_is_other : stop.NoValue ≢ stop.Memory
no_value_is_other same = absurd cc

pub choice_stops : (defs : Defs) (message : Message) (known : Known) (s : Statement) (left : Operand)
    (comparison : Comparison)
    (right : Operand) (taken otherwise : List Statement) (e : Stop) (r : Result Deed Stop)
    → out-Statement s ≡ open_statement.If left comparison right taken otherwise
    → (e ≢ stop.Memory → chosen defs message (env_of known []) left comparison right ≡ None) → r ≡ Err e
    → Tries defs message known s r
choice_stops defs message known s left comparison right taken otherwise stop.NoValue r is h to =
    subst (λ (x : Result Deed Stop). Tries defs message known s x) (sym to)
    (λ more. choice_none defs message s left comparison right taken otherwise (env_of known more) is (h no_value_is_other))
choice_stops defs message known s left comparison right taken otherwise stop.Memory r is h to =
    subst (λ (x : Result Deed Stop). Tries defs message known s x) (sym to) tt

pub fld_stops : (defs : Defs) (message : Message) (known : Known) (s : Statement) (db : ℕ) (key : Operand)
    (fsas : List FsaText) (e : Stop)
    (r : Result Deed Stop)
    → out-Statement s ≡ open_statement.Fld db key fsas
    → (e ≢ stop.Memory → fld_call defs message (env_of known []) db key fsas ≡ None) → r ≡ Err e
    → Tries defs message known s r
fld_stops defs message known s db key fsas stop.NoValue r is h to =
    subst (λ (x : Result Deed Stop). Tries defs message known s x) (sym to)
    (λ more. fld_none defs message s db key fsas (env_of known more) is (h no_value_is_other))
fld_stops defs message known s db key fsas stop.Memory r is h to =
    subst (λ (x : Result Deed Stop). Tries defs message known s x) (sym to) tt
