-- The grammar: which texts are scripts, and the first fault of those that aren't.
use Rattle.std.specs.Prelude.{◌≡◌, ℕ, ◌+◌, ◌<◌, ◌≤◌, List, [], ◌∷◌, ◌++◌, length, Bool, true, not, ◌==◌, nat_lt, is_some, if◌then◌else◌, Option, Some, None, ok_or, Result, Ok, Err}
use Rattle.std.specs.List.{list_all}
use Rattle.std.specs.Option.{option_or}
use Rattle.fp_model.specs.declared.definitions.Defs.{Defs}
use Rattle.fp_model.specs.declared.scripts.Script.{Script}
use Rattle.fp_model.specs.Messages.{lines_of}
use Rattle.fp_model.specs.Asking.{cost, script_of}
use Rattle.txn_lang.specs.declared.fault.ScriptFault.{ScriptFault}
use Rattle.txn_lang.specs.declared.fault.ScriptFault.TheVariants as fault
use Rattle.txn_tokens.specs.declared.fault.LineFault.{LineFault}
use Rattle.txn_tokens.specs.declared.fault.LineFault.TheVariants.{Syntax, UnknownName, Memory}
use Rattle.txn_lang.specs.declared.line.Line.{Line}
use Rattle.txn_tokens.specs.Readings.{Reading}
use Rattle.fp_model.specs.Readings.{◌>>=◌}
use Rattle.txn_tokens.specs.Tokens.{unblanked, tokens_of}
use Rattle.txn_tokens.specs.Lookups.{are_known}
use Rattle.txn_lang.specs.Statements.{keyword_at, line_behind}
use Rattle.txn_lang.specs.Blocks.{Context, at_top, stands, unclosed, AreScripts}

-- ---- one line

-- a byte of ASCII
abbrev pub is_ascii : ℕ → Bool
is_ascii b = nat_lt b 128

-- what stands behind the blanks in front: nothing, or a `*`
abbrev pub is_skipped_text : List ℕ → Bool
is_skipped_text [] = true
is_skipped_text (b ∷ bs) = b == 42

-- nothing but blanks, or a `*` behind blanks
abbrev pub is_skipped : List ℕ → Bool
is_skipped bytes = is_skipped_text (unblanked bytes)

-- a line that was read, and what is open behind it
pub record Read : Type 0 where
  pub said : List Line
  pub context : Context

-- what a line with a statement says where it stands: a statement that isn't one, or can't stand there, is Syntax,
-- also where it names something that isn't defined
unfoldable pub statement_in : Defs → ℕ → Context → List ℕ → Reading Read
statement_in defs number context bytes = do
  tokens ← tokens_of bytes
  keyword ← keyword_at tokens
  next ← ok_or (stands number keyword.0 context) Syntax
  said ← line_behind defs keyword.0 keyword.1
  if are_known defs tokens then Ok (record { said = said ∷ []; context = next }) else Err UnknownName

-- what any line says: nothing, where it is skipped. A byte that is no ASCII is Syntax in each
unfoldable pub line_in : Defs → ℕ → Context → List ℕ → Reading Read
line_in defs number context bytes =
    if not (list_all is_ascii bytes) then Err Syntax
    else if is_skipped bytes then Ok (record { said = []; context = context })
    else statement_in defs number context bytes

-- ---- all lines, up to the first with a fault

-- a fault of the line with this number
abbrev pub at_line : ℕ → LineFault → ScriptFault
at_line number Syntax = fault.Syntax number
at_line number UnknownName = fault.UnknownName number
at_line number Memory = fault.Memory

abbrev pub numbered : ℕ → Reading Read → Result Read ScriptFault
numbered number (Ok read) = Ok read
numbered number (Err e) = Err (at_line number e)

-- the lines from this number on
unfoldable pub lines_in : Defs → ℕ → Context → List (List ℕ) → Result Read ScriptFault
lines_in defs number context [] = Ok (record { said = []; context = context })
lines_in defs number context (bytes ∷ more) = do
  first ← numbered number (line_in defs number context bytes)
  others ← lines_in defs (number + 1) first.context more
  Ok (record others { said = first.said ++ others.said })

-- the lines of a text
abbrev pub text_in : Defs → List ℕ → Result Read ScriptFault
text_in defs text = lines_in defs 1 at_top (lines_of text)

-- ---- the text

-- the text is these scripts, as far as its lines go
pub record IsWritten (defs : Defs) (text : List ℕ) (scripts : List Script) : Type 0 where
  pub short : length text ≤ 1000000
  pub read : Read
  pub lines : text_in defs text ≡ Ok read
  pub closed : unclosed read.context ≡ None
  pub shape : AreScripts read.said scripts

-- what is wrong with a transaction: a name that an earlier one has, or a cost above 10,000
abbrev pub script_fault : List Script → Script → Option ScriptFault
script_fault earlier s =
    if is_some (script_of earlier s.name) then Some (fault.Twice s.name)
    else if nat_lt 10000 (cost s.statements) then Some (fault.TooDear s.name (cost s.statements))
    else None

-- the first such fault of the transactions in turn
unfoldable pub scripts_fault : List Script → List Script → Option ScriptFault
scripts_fault earlier [] = None
scripts_fault earlier (s ∷ more) = option_or (script_fault earlier s) (scripts_fault (earlier ++ s ∷ []) more)

-- a text in the grammar, and the scripts that it is
pub record AreScriptsOf (defs : Defs) (text : List ℕ) (scripts : List Script) : Type 0 where
  pub written : IsWritten defs text scripts
  pub fair : scripts_fault [] scripts ≡ None

-- the first fault of a text that isn't in the grammar
pub data HasFault (defs : Defs) (text : List ℕ) : ScriptFault → Type 0 where
  is_long : 1000000 < length text → HasFault defs text fault.TooLong
  in_line : {f : ScriptFault} → length text ≤ 1000000 → text_in defs text ≡ Err f → HasFault defs text f
  is_open : {read : Read} {number : ℕ} → length text ≤ 1000000 → text_in defs text ≡ Ok read
      → unclosed read.context ≡ Some number
      → HasFault defs text (fault.Syntax number)
  in_script : {scripts : List Script} {f : ScriptFault} → IsWritten defs text scripts
      → scripts_fault [] scripts ≡ Some f → HasFault defs text f
