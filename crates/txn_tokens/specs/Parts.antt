-- The parts of a statement: each is the first tokens of a list, and leaves what stands behind them.
use Rattle.std.specs.Prelude.{ℕ, List, [], ◌∷◌, length, Bool, false, ◌&&◌, ◌||◌, ◌==◌, nat_le, if◌then◌else◌, codes, slice_index, Option, Some, None, option_map, find, ok_or, Ok, Err, pos}
use Rattle.std.specs.List.{list_any}
use Rattle.fp_model.specs.declared.name.Name.{Name}
use Rattle.fp_model.specs.declared.scripts.Operand.{Operand}
use Rattle.fp_model.specs.declared.scripts.Operand.TheVariants as operand
use Rattle.fp_model.specs.declared.scripts.Operation.{Operation}
use Rattle.fp_model.specs.declared.scripts.Operation.TheVariants.{Add, Subtract, Multiply, Join}
use Rattle.fp_model.specs.declared.scripts.Comparison.{Comparison}
use Rattle.fp_model.specs.declared.scripts.Comparison.TheVariants.{Equal, NotEqual, Less, LessOrEqual, Greater, GreaterOrEqual}
use Rattle.fp_model.specs.declared.scripts.FsaText.{FsaText}
use Rattle.fp_model.specs.declared.scripts.FieldText.{FieldText}
use Rattle.fp_model.specs.Texts.{same_text, padded, decimal_text}
use Rattle.txn_tokens.specs.declared.fault.LineFault.TheVariants.{Syntax}
use Rattle.txn_tokens.specs.declared.token.Token.{Token}
use Rattle.txn_tokens.specs.declared.token.Token.TheVariants.{Word, Number, Text, Hash, Field, Sign}
use Rattle.txn_tokens.specs.declared.written.WrittenSsa.{WrittenSsa}
use Rattle.txn_tokens.specs.Readings.{Reading, all_by}
use Rattle.fp_model.specs.Readings.{◌>>=◌}

-- whether a name has these letters
abbrev pub is_word : List ℕ → Name → Bool
is_word letters name = same_text name.0 (padded 8 letters)

-- the entry of a name in a table
abbrev pub entry_of : {A : Type 0} → List (List ℕ × A) → Name → Option A
entry_of table name = option_map (λ entry. entry.1) (find (λ entry. is_word entry.0 name) table)

-- any word
unfoldable pub word_at : List Token → Reading (Name × List Token)
word_at (Word name assigned ∷ ts) = Ok (name, ts)
word_at _ = Err Syntax

-- what stands behind this sign
unfoldable pub sign_at : ℕ → List Token → Reading (List Token)
sign_at byte (Sign b ∷ ts) = if b == byte then Ok ts else Err Syntax
sign_at byte _ = Err Syntax

-- a word of a table, and what it stands for there
abbrev pub entry_at : {A : Type 0} → List (List ℕ × A) → List Token → Reading (A × List Token)
entry_at table tokens = do
  word ← word_at tokens
  entry ← ok_or (entry_of table word.0) Syntax
  Ok (entry, word.1)

-- ---- operands

-- a variable is a word that isn't STATUS, FSAS, IO or KEY
abbrev pub is_reserved : Name → Bool
is_reserved name = list_any (λ word. is_word word name) (codes "STATUS" ∷ codes "FSAS" ∷ codes "IO" ∷ codes "KEY" ∷ [])

unfoldable pub variable_at : List Token → Reading (Name × List Token)
variable_at tokens = do
  word ← word_at tokens
  if is_reserved word.0 then Err Syntax else Ok word

abbrev pub word_operand : Name → Reading Operand
word_operand name =
    if is_word (codes "STATUS") name then Ok operand.Status
    else if is_word (codes "FSAS") name then Ok operand.Fsas
    else if is_reserved name then Err Syntax
    else Ok (operand.Variable name)

-- a number, a text, `#d`, `IO.word`, STATUS, FSAS or a variable; a number stands for its canonical text
abbrev pub operand_of : Token → Reading Operand
operand_of (Word name assigned) = word_operand name
operand_of (Number n) = Ok (operand.Text (decimal_text n))
operand_of (Text text) = Ok (operand.Text text)
operand_of (Hash digit) = Ok (operand.Word digit)
operand_of (Field name) = Ok (operand.Field name)
operand_of (Sign byte) = Err Syntax

unfoldable pub operand_at : List Token → Reading (Operand × List Token)
operand_at [] = Err Syntax
operand_at (t ∷ ts) = operand_of t >>= λ operand. Ok (operand, ts)

-- ---- operations, comparisons, counts

-- one of `+ - * &`
abbrev pub operation_by : ℕ → Option Operation
operation_by byte =
    if byte == 43 then Some Add
    else if byte == 45 then Some Subtract
    else if byte == 42 then Some Multiply
    else if byte == 38 then Some Join
    else None

unfoldable pub operation_at : List Token → Reading (Operation × List Token)
operation_at (Sign byte ∷ ts) = ok_or (operation_by byte) Syntax >>= λ operation. Ok (operation, ts)
operation_at _ = Err Syntax

-- one of EQ, NE, LT, LE, GT, GE
abbrev pub comparisons : List (List ℕ × Comparison)
comparisons =
    (codes "EQ", Equal) ∷ (codes "NE", NotEqual) ∷ (codes "LT", Less) ∷ (codes "LE", LessOrEqual)
    ∷ (codes "GT", Greater) ∷ (codes "GE", GreaterOrEqual) ∷ []

unfoldable pub comparison_at : List Token → Reading (Comparison × List Token)
comparison_at tokens = entry_at comparisons tokens

-- a count: a number from a least one to a greatest
unfoldable pub count_at : ℕ → ℕ → List Token → Reading (ℕ × List Token)
count_at least greatest (Number (pos n) ∷ ts) = if nat_le least n && nat_le n greatest then Ok (n, ts) else Err Syntax
count_at least greatest _ = Err Syntax

-- ---- what a call names

-- `(operand)`
unfoldable pub bracket_at : List Token → Reading (Operand × List Token)
bracket_at tokens = do
  key ← sign_at 40 tokens >>= operand_at
  rest ← sign_at 41 key.1
  Ok (key.0, rest)

-- `KEY(operand)`
unfoldable pub key_at : List Token → Reading (Operand × List Token)
key_at tokens = do
  word ← word_at tokens
  if is_word (codes "KEY") word.0 then bracket_at word.1 else Err Syntax

-- whether a `(` comes
abbrev pub begins_bracket : List Token → Bool
begins_bracket (Sign b ∷ ts) = b == 40
begins_bracket _ = false

-- the key behind a word, where a `(` begins one
unfoldable pub key_behind : List Token → Reading (Option Operand × List Token)
key_behind tokens =
    if begins_bracket tokens then (bracket_at tokens >>= λ key. Ok (Some key.0, key.1)) else Ok (None, tokens)

-- an ssa as it is written: `word` or `word(operand)`
unfoldable pub ssa_at : List Token → Reading (WrittenSsa × List Token)
ssa_at tokens = do
  word ← word_at tokens
  key ← key_behind word.1
  Ok (record { name = word.0; key = key.0 }, key.1)

-- what an FSA does: one letter, or `+`, `-` or `=`
unfoldable pub fsa_op_at : List Token → Reading (ℕ × List Token)
fsa_op_at (Word name assigned ∷ ts) = if slice_index name.0 1 == 32 then Ok (slice_index name.0 0, ts) else Err Syntax
fsa_op_at (Sign byte ∷ ts) = if byte == 43 || byte == 45 || byte == 61 then Ok (byte, ts) else Err Syntax
fsa_op_at _ = Err Syntax

-- `field op operand`
unfoldable pub fsa_at : List Token → Reading (FsaText × List Token)
fsa_at tokens = do
  field ← word_at tokens
  op ← fsa_op_at field.1
  operand ← operand_at op.1
  Ok (record { field = field.0; op = op.0; operand = operand.0 }, operand.1)

-- `field=operand`
unfoldable pub field_at : List Token → Reading (FieldText × List Token)
field_at tokens = do
  field ← word_at tokens
  value ← sign_at 61 field.1 >>= operand_at
  Ok (record { field = field.0; value = value.0 }, value.1)

-- at least one
abbrev pub at_least_one : {A : Type 0} → List A → Reading (List A)
at_least_one [] = Err Syntax
at_least_one (x ∷ xs) = Ok (x ∷ xs)

unfoldable pub operands_in : List Token → Reading (List Operand)
operands_in tokens = all_by operand_at tokens >>= at_least_one

-- 1 to 255 of them
abbrev pub one_to_255 : {A : Type 0} → List A → Reading (List A)
one_to_255 xs = if nat_le 1 (length xs) && nat_le (length xs) 255 then Ok xs else Err Syntax

unfoldable pub fsas_in : List Token → Reading (List FsaText)
fsas_in tokens = all_by fsa_at tokens >>= one_to_255

unfoldable pub fields_in : List Token → Reading (List FieldText)
fields_in tokens = all_by field_at tokens >>= one_to_255

abbrev pub ssas_in : List Token → Reading (List WrittenSsa)
ssas_in tokens = all_by ssa_at tokens
