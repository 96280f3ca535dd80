-- The statements: a row for each, as the parts that stand one after another on its line.
use Rattle.std.specs.Prelude.{ℕ, List, [], ◌∷◌, Bool, true, false, not, codes, Option, Some, None, Ok}
use Rattle.fp_model.specs.declared.calls.Get.{Get}
use Rattle.fp_model.specs.declared.calls.Get.TheVariants.{Unique, Next, NextInParent}
use Rattle.fp_model.specs.declared.definitions.Defs.{Defs}
use Rattle.fp_model.specs.declared.scripts.Operand.{Operand}
use Rattle.fp_model.specs.declared.scripts.Operation.{Operation}
use Rattle.fp_model.specs.declared.scripts.Statement.{Statement, roll-Statement}
use Rattle.fp_model.specs.declared.scripts.Statement.TheOpen as statement
use Rattle.fp_model.specs.declared.scripts.Statement.TheOpen.{Statement-F}
use Rattle.txn_tokens.specs.declared.token.Token.{Token}
use Rattle.txn_tokens.specs.declared.token.Token.TheVariants.{Word}
use Rattle.txn_lang.specs.declared.line.Keyword.{Keyword}
use Rattle.txn_lang.specs.declared.line.Keyword.TheVariants as keyword
use Rattle.txn_lang.specs.declared.line.Line.{Line}
use Rattle.txn_lang.specs.declared.line.Line.TheVariants as line
use Rattle.txn_tokens.specs.Readings.{Reading, ended}
use Rattle.fp_model.specs.Readings.{◌>>=◌}
use Rattle.txn_tokens.specs.Tokens.{run, behind}
use Rattle.txn_tokens.specs.Parts.{entry_at, word_at, variable_at, operand_at, operation_at, comparison_at, count_at, key_at, operands_in, ssas_in, fsas_in, fields_in}
use Rattle.txn_tokens.specs.Lookups.{db_of, get_ssas, isrt_ssas, isrt_fields}

-- ---- the word that a statement begins with

-- of scripts and blocks, the gets, and the others
unfoldable pub keywords : List (List ℕ × Keyword)
keywords =
    (codes "TRAN", keyword.Tran) ∷ (codes "IF", keyword.If) ∷ (codes "ELSE", keyword.Else)
    ∷ (codes "REPEAT", keyword.Repeat) ∷ (codes "BREAK", keyword.Break) ∷ (codes "END", keyword.End)
    ∷ (codes "GU", keyword.Get Unique false) ∷ (codes "GN", keyword.Get Next false)
    ∷ (codes "GNP", keyword.Get NextInParent false) ∷ (codes "GHU", keyword.Get Unique true)
    ∷ (codes "GHN", keyword.Get Next true) ∷ (codes "GHNP", keyword.Get NextInParent true)
    ∷ (codes "SET", keyword.Set) ∷ (codes "REPLY", keyword.Reply) ∷ (codes "ROLB", keyword.Rolb)
    ∷ (codes "FLD", keyword.Fld) ∷ (codes "ISRT", keyword.Isrt) ∷ (codes "REPL", keyword.Repl)
    ∷ (codes "DLET", keyword.Dlet) ∷ []

unfoldable pub keyword_at : List Token → Reading (Keyword × List Token)
keyword_at tokens = entry_at keywords tokens

-- ---- a row for each, behind its first word

-- a line that is this statement alone
abbrev pub whole : Statement-F Statement → Line
whole statement = line.Whole (roll-Statement statement)

-- what a part makes, where nothing stands behind it
abbrev pub alone : {A B : Type 0} → (A → B) → A × List Token → Reading B
alone make part = ended (make part.0) part.1

-- behind `SET variable operand`: nothing, or `op operand`
unfoldable pub set_rest : List Token → Reading (Option (Operation × Operand))
set_rest [] = Ok None
set_rest (t ∷ ts) = do
  operation ← operation_at (t ∷ ts)
  second ← operand_at operation.1
  ended (Some (operation.0, second.0)) second.1

-- `SET variable operand`, or `SET variable operand op operand`
unfoldable pub set_line : List Token → Reading Line
set_line tokens = do
  variable ← variable_at tokens
  first ← operand_at variable.1
  rest ← set_rest first.1
  Ok (whole (statement.Set variable.0 first.0 rest))

-- `IF operand cmp operand`
unfoldable pub if_line : List Token → Reading Line
if_line tokens = do
  left ← operand_at tokens
  comparison ← comparison_at left.1
  right ← operand_at comparison.1
  ended (line.If left.0 comparison.0 right.0) right.1

-- `GU database ssa ssa ..`, and the other gets
unfoldable pub get_line : Defs → Get → Bool → List Token → Reading Line
get_line defs get hold tokens = do
  database ← word_at tokens
  written ← ssas_in database.1
  db ← db_of defs database.0
  ssas ← get_ssas defs db written
  Ok (whole (statement.Get get hold db ssas))

-- `FLD database KEY(operand) field op operand field op operand ..`
unfoldable pub fld_line : Defs → List Token → Reading Line
fld_line defs tokens = do
  database ← word_at tokens
  key ← key_at database.1
  fsas ← fsas_in key.1
  db ← db_of defs database.0
  Ok (whole (statement.Fld db key.0 fsas))

-- the fields of ISRT begin at the first word that a `=` stands directly behind
abbrev pub is_before_fields : Token → Bool
is_before_fields (Word name assigned) = not assigned
is_before_fields _ = true

-- `ISRT database ssa ssa .. field=operand field=operand ..`
unfoldable pub isrt_line : Defs → List Token → Reading Line
isrt_line defs tokens = do
  database ← word_at tokens
  written ← ssas_in (run is_before_fields database.1)
  given ← fields_in (behind is_before_fields database.1)
  db ← db_of defs database.0
  ssas ← isrt_ssas defs db written
  fields ← isrt_fields defs db ssas given
  Ok (whole (statement.Isrt db ssas fields))

-- `REPL database field=operand ..`
unfoldable pub repl_line : Defs → List Token → Reading Line
repl_line defs tokens = do
  database ← word_at tokens
  fields ← fields_in database.1
  db ← db_of defs database.0
  Ok (whole (statement.Repl db fields))

-- `DLET database`
unfoldable pub dlet_line : Defs → List Token → Reading Line
dlet_line defs tokens = do
  database ← word_at tokens
  name ← ended database.0 database.1
  db ← db_of defs name
  Ok (whole (statement.Dlet db))

-- what a line says behind its first word: `TRAN word`, `REPEAT n`, `REPLY operand operand ..`, `ROLB n` and the others
unfoldable pub line_behind : Defs → Keyword → List Token → Reading Line
line_behind defs keyword.Tran tokens = word_at tokens >>= alone line.Tran
line_behind defs keyword.Set tokens = set_line tokens
line_behind defs keyword.If tokens = if_line tokens
line_behind defs keyword.Else tokens = ended line.Else tokens
line_behind defs keyword.End tokens = ended line.End tokens
line_behind defs keyword.Repeat tokens = count_at 1 10000 tokens >>= alone line.Repeat
line_behind defs keyword.Break tokens = ended (whole statement.Break) tokens
line_behind defs keyword.Reply tokens = operands_in tokens >>= λ operands. Ok (whole (statement.Reply operands))
line_behind defs keyword.Rolb tokens = count_at 0 98 tokens >>= alone (λ code. whole (statement.Roll code))
line_behind defs (keyword.Get get hold) tokens = get_line defs get hold tokens
line_behind defs keyword.Fld tokens = fld_line defs tokens
line_behind defs keyword.Isrt tokens = isrt_line defs tokens
line_behind defs keyword.Repl tokens = repl_line defs tokens
line_behind defs keyword.Dlet tokens = dlet_line defs tokens
