-- Where a line can stand, and how lines make scripts.
use Rattle.std.specs.Prelude.{ℕ, List, [], ◌∷◌, ◌++◌, length, Bool, true, false, nat_lt, if◌then◌else◌, Option, Some, None, option_map}
use Rattle.std.specs.List.{list_any}
use Rattle.fp_model.specs.declared.name.Name.{Name}
use Rattle.fp_model.specs.declared.scripts.Operand.{Operand}
use Rattle.fp_model.specs.declared.scripts.Comparison.{Comparison}
use Rattle.fp_model.specs.declared.scripts.Statement.{Statement, roll-Statement}
use Rattle.fp_model.specs.declared.scripts.Statement.TheOpen as statement
use Rattle.fp_model.specs.declared.scripts.Script.{Script}
use Rattle.txn_lang.specs.declared.line.Keyword.{Keyword}
use Rattle.txn_lang.specs.declared.line.Keyword.TheVariants as keyword
use Rattle.txn_lang.specs.declared.line.Line.{Line}
use Rattle.txn_lang.specs.declared.line.Line.TheVariants as line

-- ---- what is open at a line

-- a block that has no END yet: of an IF, of an ELSE, or of a REPEAT
pub data Kind : Type 0 where
  Choice : Kind
  Otherwise : Kind
  Loop : Kind

-- an open block, with the number of the line that opened it: of an ELSE's block that is the line of its IF
pub record Open : Type 0 where
  pub kind : Kind
  pub line : ℕ

-- whether a TRAN line came, the blocks that are open, the innermost first, and the first line of a block
-- that an earlier script left open
pub record Context : Type 0 where
  pub has_begun : Bool
  pub open_blocks : List Open
  pub left_open : Option ℕ

-- at the top of a text
abbrev pub at_top : Context
at_top = record { has_begun = false; open_blocks = []; left_open = None }

-- the line of the outermost open block
abbrev pub outermost : List Open → Option ℕ
outermost [] = None
outermost (block ∷ []) = Some block.line
outermost (block ∷ next ∷ more) = outermost (next ∷ more)

-- the first line of a block that has no END, if the text ended here
abbrev pub unclosed : Context → Option ℕ
unclosed context = elim context.left_open [ None ↦ outermost context.open_blocks | Some number ↦ Some number ]

-- ---- where a line can stand, by its first word

abbrev pub is_loop : Open → Bool
is_loop block = elim block.kind [ Loop ↦ true | _ ↦ false ]

-- a new block, where fewer than 64 are open
abbrev pub opened : Kind → ℕ → List Open → Option (List Open)
opened kind number blocks =
    if nat_lt (length blocks) 64 then Some (record { kind = kind; line = number } ∷ blocks) else None

-- ELSE, where the innermost open block is that of an IF
abbrev pub else_in : List Open → Option (List Open)
else_in [] = None
else_in (block ∷ more) = elim block.kind [
  | Choice ↦ Some (record { kind = Otherwise; line = block.line } ∷ more)
  | _ ↦ None
]

-- END, where a block is open
abbrev pub end_in : List Open → Option (List Open)
end_in [] = None
end_in (block ∷ more) = Some more

-- TRAN ends the script before it, with what was open there
abbrev pub begun : Context → Context
begun context = record { has_begun = true; open_blocks = []; left_open = unclosed context }

-- the blocks that are open behind a line of a script that begins with this word; None where it can't stand there, as
-- BREAK where no loop is open
abbrev pub opens : ℕ → Keyword → List Open → Option (List Open)
opens number keyword.If blocks = opened Choice number blocks
opens number keyword.Else blocks = else_in blocks
opens number keyword.End blocks = end_in blocks
opens number keyword.Repeat blocks = opened Loop number blocks
opens number keyword.Break blocks = if list_any is_loop blocks then Some blocks else None
opens number _ blocks = Some blocks

-- what is open behind a line that begins with this word; nothing but TRAN can stand before the first TRAN
unfoldable pub stands : ℕ → Keyword → Context → Option Context
stands number keyword.Tran context = Some (begun context)
stands number keyword context =
    if context.has_begun
    then option_map (λ blocks. record context { open_blocks = blocks }) (opens number keyword context.open_blocks)
    else None

-- ---- how lines make statements and scripts

-- `IF` with its blocks, and `REPEAT` with its block
abbrev pub choice : Operand → Comparison → Operand → List Statement → List Statement → Statement
choice left comparison right taken otherwise = roll-Statement (statement.If left comparison right taken otherwise)

abbrev pub loop : ℕ → List Statement → Statement
loop times body = roll-Statement (statement.Repeat times body)

-- these lines are these statements
pub data AreStatements : List Line → List Statement → Type 0 where
  -- no line is no statement
  none : AreStatements [] []
  -- a statement on a line of its own, and more
  one : (s : Statement) {lines : List Line} {more : List Statement} → AreStatements lines more
      → AreStatements (line.Whole s ∷ lines) (s ∷ more)
  -- IF .. END, and more
  if_end : (left : Operand) (comparison : Comparison) (right : Operand) {a lines : List Line}
      {taken more : List Statement} → AreStatements a taken → AreStatements lines more
      → AreStatements (line.If left comparison right ∷ a ++ line.End ∷ lines)
      (choice left comparison right taken [] ∷ more)
  -- IF .. ELSE .. END, and more
  if_else_end : (left : Operand) (comparison : Comparison) (right : Operand) {a b lines : List Line}
      {taken otherwise more : List Statement}
      → AreStatements a taken → AreStatements b otherwise → AreStatements lines more
      → AreStatements (line.If left comparison right ∷ a ++ line.Else ∷ b ++ line.End ∷ lines)
      (choice left comparison right taken otherwise ∷ more)
  -- REPEAT n .. END, and more
  repeat_end : (times : ℕ) {a lines : List Line} {body more : List Statement} → AreStatements a body
      → AreStatements lines more → AreStatements (line.Repeat times ∷ a ++ line.End ∷ lines) (loop times body ∷ more)

-- these lines are these scripts
pub data AreScripts : List Line → List Script → Type 0 where
  no_script : AreScripts [] []
  -- a TRAN line, and statements up to the next one or to the end
  script : (name : Name) {a lines : List Line} {statements : List Statement} {more : List Script}
      → AreStatements a statements → AreScripts lines more
      → AreScripts (line.Tran name ∷ a ++ lines) (record { name = name; statements = statements } ∷ more)
