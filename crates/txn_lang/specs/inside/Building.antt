-- Of the code, not of the language: what the reader of lines holds between two lines, what that says of the lines
-- before, and what each of its steps does.
use Rattle.std.specs.Prelude.{◌≡◌, ⊤, ℕ, ◌≤◌, List, [], ◌∷◌, ◌++◌, length, map, reverse, sum, min, Bool, true, false, Option, Some, None, IsSome, is_some, nat_lt, if◌then◌else◌, Ok, Err}
use Rattle.fp_model.specs.declared.name.Name.{Name}
use Rattle.fp_model.specs.declared.scripts.Statement.{Statement}
use Rattle.fp_model.specs.declared.scripts.Script.{Script}
use Rattle.fp_model.specs.Asking.{statement_cost, cost}
use Rattle.txn_lang.specs.declared.line.Line.{Line}
use Rattle.txn_lang.specs.declared.line.Line.TheVariants as line
use Rattle.txn_lang.specs.declared.standing.Block.{Block}
use Rattle.txn_lang.specs.declared.standing.Opening.{Opening}
use Rattle.txn_lang.specs.declared.standing.Opening.TheVariants as opening
use Rattle.txn_lang.specs.declared.standing.Frame.{Frame}
use Rattle.txn_lang.specs.declared.standing.Builder.{Builder}
use Rattle.fp_model.specs.declared.definitions.Defs.{Defs}
use Rattle.txn_tokens.specs.declared.fault.LineFault.TheVariants.{Syntax, UnknownName}
use Rattle.txn_lang.specs.declared.line.Keyword.{Keyword}
use Rattle.txn_tokens.specs.Readings.{Reading}
use Rattle.fp_model.specs.Readings.{◌>>=◌}
use Rattle.txn_tokens.specs.Tokens.{tokens_of}
use Rattle.txn_tokens.specs.Lookups.{are_known}
use Rattle.txn_lang.specs.Statements.{keyword_at, line_behind}
use Rattle.txn_lang.specs.declared.fault.ScriptFault.{ScriptFault}
use Rattle.txn_lang.specs.declared.fault.ScriptFault.TheVariants as fault
use Rattle.txn_lang.specs.Grammar.{line_in, text_in}
use Rattle.txn_lang.specs.Blocks.{stands, unclosed, Kind, Choice, Otherwise, Loop, Open, Context, begun, choice, loop, else_in, end_in, AreStatements, AreScripts}

-- ---- costs

-- a cost, kept up to the greatest
abbrev pub capped : ℕ → ℕ
capped n = min 1000000000 n

-- the cost of a block is that of its statements
abbrev pub IsBlock : Block → Type 0
IsBlock block = block.cost ≡ capped (sum (map statement_cost block.statements))

-- ---- where the reader stands

abbrev pub kind_of : Opening → Kind
kind_of (opening.Choice left comparison right) = Choice
kind_of (opening.Otherwise left comparison right taken) = Otherwise
kind_of (opening.Loop times) = Loop

abbrev pub open_of : Frame → Open
open_of frame = record { kind = kind_of frame.opening; line = frame.line }

abbrev pub context_of : Builder → Context
context_of b = record {
  has_begun = is_some b.begun;
  open_blocks = map open_of (reverse b.frames);
  left_open =
      b.left_open;
}

-- what is open behind a line that can stand there
abbrev pub or_same : Context → Option (List Open) → Context
or_same context None = context
or_same context (Some blocks) = record context { open_blocks = blocks }

abbrev pub with_block : Kind → ℕ → Context → Context
with_block kind number context = record context {
  open_blocks =
      record { kind = kind; line = number } ∷ context.open_blocks;
}

abbrev pub context_behind : ℕ → Line → Context → Context
context_behind number (line.Tran name) context = begun context
context_behind number (line.If left comparison right) context = with_block Choice number context
context_behind number line.Else context = or_same context (else_in context.open_blocks)
context_behind number (line.Repeat times) context = with_block Loop number context
context_behind number line.End context = or_same context (end_in context.open_blocks)
context_behind number (line.Whole s) context = context

-- a count of REPEAT
abbrev pub IsCount : ℕ → Type 0
IsCount times = (1 ≤ times) × (times ≤ 10000)

-- what a line that can stand there has
abbrev pub Follows : Line → Context → Type 0
Follows (line.Tran name) context = ⊤
Follows (line.If left comparison right) context = context.has_begun ≡ true
Follows line.Else context = (context.has_begun ≡ true) × IsSome (else_in context.open_blocks)
Follows (line.Repeat times) context = (context.has_begun ≡ true) × IsCount times
Follows line.End context = (context.has_begun ≡ true) × IsSome (end_in context.open_blocks)
Follows (line.Whole s) context = (context.has_begun ≡ true) × (statement_cost s ≡ 1)

-- ---- what the lines before are

-- these lines open a block and are its statements so far
abbrev pub IsOpened : Opening → List Statement → List Line → Type 0
IsOpened (opening.Choice left comparison right) statements lines =
    (a : List Line) × (lines ≡ line.If left comparison right ∷ a) × AreStatements a statements
IsOpened (opening.Otherwise left comparison right taken) statements lines =
    (a b : List Line) × (lines ≡ line.If left comparison right ∷ a ++ line.Else ∷ b) × AreStatements a taken.statements
    × AreStatements b statements
IsOpened (opening.Loop times) statements lines =
    (a : List Line) × (lines ≡ line.Repeat times ∷ a) × AreStatements a statements

-- the lines of a script behind its TRAN, the innermost frame first
abbrev pub Covers : List Frame → List Statement → List Line → Type 0
Covers [] statements lines = AreStatements lines statements
Covers (frame ∷ frames) statements lines =
    (a b : List Line) × (lines ≡ a ++ b) × Covers frames frame.outer.statements a × IsOpened frame.opening statements b

-- all lines so far
abbrev pub HasShape : Option Name → List Script → List Frame → List Statement → List Line → Type 0
HasShape None scripts frames statements said = (said ≡ []) × (scripts ≡ [])
HasShape (Some name) scripts frames statements said =
    (a b : List Line) × (said ≡ a ++ line.Tran name ∷ b) × AreScripts a scripts × Covers frames statements b

-- ---- what is kept

abbrev pub IsOpening : Opening → Type 0
IsOpening (opening.Choice left comparison right) = ⊤
IsOpening (opening.Otherwise left comparison right taken) = IsBlock taken
IsOpening (opening.Loop times) = IsCount times

abbrev pub AreFrames : List Frame → Type 0
AreFrames [] = ⊤
AreFrames (frame ∷ frames) = IsOpening frame.opening × IsBlock frame.outer × AreFrames frames

-- the statement that a block makes at its END
abbrev pub statement_by : Opening → List Statement → Statement
statement_by (opening.Choice left comparison right) statements = choice left comparison right statements []
statement_by (opening.Otherwise left comparison right taken) statements =
    choice left comparison right taken.statements statements
statement_by (opening.Loop times) statements = loop times statements

-- whatever the lines are, costs are right; and where no script was left open, the scripts are the lines
pub record IsBuilt (b : Builder) (said : List Line) : Type 0 where
  pub costs : b.costs ≡ map (λ s. cost s.statements) b.scripts
  pub block : IsBlock b.block
  pub frames : AreFrames (reverse b.frames)
  pub shape : b.left_open ≡ None → HasShape b.begun b.scripts (reverse b.frames) b.block.statements said

-- ---- faults of scripts

-- what is wrong with a transaction, where an earlier one has its name or not
abbrev pub fault_of_script : Bool → Script → Option ScriptFault
fault_of_script seen s =
    if seen then Some (fault.Twice s.name)
    else if nat_lt 10000 (cost s.statements) then Some (fault.TooDear s.name (cost s.statements))
    else None

-- ---- steps of the reader

-- the line that opened a block
abbrev pub opening_line : Opening → Line
opening_line (opening.Choice left comparison right) = line.If left comparison right
opening_line (opening.Otherwise left comparison right taken) = line.Else
opening_line (opening.Loop times) = line.Repeat times

-- IF or REPEAT
abbrev pub IsFirst : Opening → Type 0
IsFirst (opening.Choice left comparison right) = ⊤
IsFirst (opening.Otherwise left comparison right taken) = ⊥
IsFirst (opening.Loop times) = ⊤

-- a block of an IF before its ELSE
abbrev pub is_choice : Kind → Bool
is_choice Choice = true
is_choice Otherwise = false
is_choice Loop = false

-- an IF behind its ELSE
abbrev pub turned : Opening → Block → Opening
turned (opening.Choice left comparison right) taken = opening.Otherwise left comparison right taken
turned (opening.Otherwise left comparison right first) taken = opening.Otherwise left comparison right first
turned (opening.Loop times) taken = opening.Loop times

-- the script that was being read
abbrev pub finished : Option Name → List Statement → List Script
finished None statements = []
finished (Some name) statements = record { name = name; statements = statements } ∷ []

-- a step that reads a line
abbrev pub Adds : Builder → Line → Builder → Type 0
Adds old said new = (before : List Line) → IsBuilt old before → IsBuilt new (before ++ said ∷ [])

-- whether a line that begins with this word can stand here
abbrev pub can_stand : Keyword → Context → Reading (Unit {0})
can_stand keyword context = if is_some (stands 0 keyword context) then Ok tt else Err Syntax

-- what a line with a statement says, with the word that it begins with
unfoldable pub said_in : Defs → Context → List ℕ → Reading (Keyword × Line)
said_in defs context bytes = do
  tokens ← tokens_of bytes
  keyword ← keyword_at tokens
  here ← can_stand keyword.0 context
  said ← line_behind defs keyword.0 keyword.1
  if are_known defs tokens then Ok (keyword.0, said) else Err UnknownName

-- a line was read, and leads from one builder to another
pub record ReadsLine (defs : Defs) (number : ℕ) (bytes : List ℕ) (old new : Builder) : Type 0 where
  pub said : List Line
  pub few : length said ≤ 1
  pub reads : line_in defs number (context_of old) bytes ≡ Ok (record { said = said; context = context_of new })
  pub adds : (before : List Line) → IsBuilt old before → IsBuilt new (before ++ said)

-- all lines were read
pub record ReadsText (defs : Defs) (text : List ℕ) (b : Builder) : Type 0 where
  pub said : List Line
  pub few : length said ≤ 1000000
  pub reads : text_in defs text ≡ Ok (record { said = said; context = context_of b })
  pub built : IsBuilt b said

-- a text ended with a block open
abbrev pub IsLeftOpen : Builder → ScriptFault → Type 0
IsLeftOpen b e = (number : ℕ) × (unclosed (context_of b) ≡ Some number) × (e ≡ fault.Syntax number)

-- a text ended with all blocks closed: these are its scripts, and what each costs
pub record Finishes (b : Builder) (scripts : List Script) (costs : List ℕ) : Type 0 where
  pub closed : unclosed (context_of b) ≡ None
  pub shape : (said : List Line) → IsBuilt b said → AreScripts said scripts
  pub costed : (said : List Line) → IsBuilt b said → costs ≡ map (λ s. cost s.statements) scripts
