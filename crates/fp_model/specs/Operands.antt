-- What a script knows as it runs, and what its operands and statements make of it.
use Rattle.std.specs.Prelude.{ℕ, List, [], ◌∷◌, ◌++◌, length, map, Bool, ◌&&◌, ◌==◌, nat_le, if◌then◌else◌, Option, Some, None, option_map, find, slice_get}
use Rattle.std.specs.List.{list_all}
use Rattle.std.specs.Option.{option_map_or}
use Rattle.fp_model.specs.declared.definitions.FieldDef.{FieldDef}
use Rattle.fp_model.specs.declared.definitions.Defs.{Defs}
use Rattle.fp_model.specs.declared.calls.Message.{Message}
use Rattle.fp_model.specs.declared.calls.Answer.{Answer}
use Rattle.fp_model.specs.declared.calls.Ssa.{Ssa}
use Rattle.fp_model.specs.declared.calls.Call.{Call}
use Rattle.fp_model.specs.declared.calls.Call.TheVariants as call
use Rattle.fp_model.specs.declared.scripts.Operand.{Operand}
use Rattle.fp_model.specs.declared.scripts.Operand.TheVariants.{Text, Word, Field, Status, Fsas, Variable}
use Rattle.fp_model.specs.declared.scripts.Operation.{Operation}
use Rattle.fp_model.specs.declared.scripts.Comparison.{Comparison}
use Rattle.fp_model.specs.declared.scripts.SsaText.{SsaText}
use Rattle.fp_model.specs.declared.scripts.FsaText.{FsaText}
use Rattle.fp_model.specs.declared.scripts.FieldText.{FieldText}
use Rattle.fp_model.specs.Texts.{same_text, is_printable, trimmed}
use Rattle.fp_model.specs.Fsas.{Fsa, list_text, field_bytes, with_field, field_of}
use Rattle.fp_model.specs.Values.{◌>>=◌, word_of, short_enough, operated, compares, layout_of, fitted_key, value_bytes, value_text, empty_segment}

-- ---- what a script knows

-- a variable that was set
pub record Setting : Type 0 where
  pub variable : List ℕ
  pub text : List ℕ

-- a segment that a get showed: its database, its type and its bytes
pub record ShownSegment : Type 0 where
  pub db : ℕ
  pub type_number : ℕ
  pub bytes : List ℕ

-- the variables, the last call's status, the last field call's letters, the segments shown, and the answers
-- not given yet; what is newer stands in front, but the answers come in the order of the calls
pub record Env : Type 0 where
  pub settings : List Setting
  pub status : List ℕ
  pub letters : List ℕ
  pub shown : List ShownSegment
  pub answers : List Answer

-- at the beginning
abbrev pub at_top : List Answer → Env
at_top answers = record { settings = []; status = []; letters = []; shown = []; answers = answers }

-- with a variable set
abbrev pub with_setting : List ℕ → List ℕ → Env → Env
with_setting variable text env = record env { settings = record { variable = variable; text = text } ∷ env.settings }

-- a variable's text; one that was not set is empty
abbrev pub setting_of : List ℕ → Env → List ℕ
setting_of variable env = option_map_or (λ s. s.text) (find (λ s. same_text s.variable variable) env.settings) []

-- a field call's letter as FSAS shows it
abbrev pub shown_letter : ℕ → ℕ
shown_letter letter = if letter == 32 then 45 else letter

-- the segment that the last successful get on a database showed
abbrev pub shown_on : ℕ → Env → Option ShownSegment
shown_on db env = find (λ s. s.db == db) env.shown

-- what an answer adds, beside its status: a get that finds shows a segment, and a field call gives letters
abbrev pub learned : Call → Answer → Env → Env
learned (call.Get get hold db ssas) answer env =
    if same_text (trimmed answer.status) []
    then record env { shown = record { db = db; type_number = answer.segment; bytes = answer.bytes } ∷ env.shown }
    else env
learned (call.Fld db key fsas) answer env = record env { letters = answer.letters }
learned (call.Isrt db ssas bytes) answer env = env
learned (call.Repl db bytes) answer env = env
learned (call.Dlet db) answer env = env

-- ---- operands

-- an SSA of a segment type with a key
abbrev pub qualified : ℕ → List ℕ → Ssa
qualified type_number key = record { segment = type_number; key = Some key }

module _ (defs : Defs) (message : Message) where
  -- `IO.f`: a field of the segment that the last successful get showed
  abbrev pub shown_field : List ℕ → Env → Option (List ℕ)
  shown_field name env = do
    shown ← slice_get env.shown 0
    layout ← layout_of defs shown.db shown.type_number
    field ← field_of layout.fields name
    value_text field (field_bytes field shown.bytes)

  -- the text that an operand names
  abbrev pub text_named : Env → Operand → Option (List ℕ)
  text_named env (Text text) = Some text
  text_named env (Word n) = Some (word_of message.text n)
  text_named env (Field name) = shown_field name.0 env
  text_named env Status = Some (trimmed env.status)
  text_named env Fsas = Some (map shown_letter env.letters)
  text_named env (Variable name) = Some (setting_of name.0 env)

  -- the text of an operand; None ends the script with code 99
  abbrev pub text_of : Env → Operand → Option (List ℕ)
  text_of env operand = text_named env operand >>= short_enough

  -- the text that SET gives
  abbrev pub set_text : Env → Operand → Option (Operation × Operand) → Option (List ℕ)
  set_text env first None = text_of env first
  set_text env first (Some rest) = do
    a ← text_of env first
    b ← text_of env rest.1
    operated rest.0 a b

  -- whether IF takes its first block
  abbrev pub chosen : Env → Operand → Comparison → Operand → Option Bool
  chosen env left comparison right = do
    a ← text_of env left
    b ← text_of env right
    compares comparison a b

  -- operands joined
  abbrev pub joined_texts : Env → List Operand → Option (List ℕ)
  joined_texts env [] = Some []
  joined_texts env (o ∷ os) = do
    text ← text_of env o
    texts ← joined_texts env os
    Some (text ++ texts)

  -- a reply: at most 1,000 printable bytes
  abbrev pub reply_text : Env → List Operand → Option (List ℕ)
  reply_text env operands = do
    text ← joined_texts env operands
    if nat_le (length text) 1000 && list_all is_printable text then Some text else None

  -- the key that an operand gives in a segment type
  abbrev pub key_text : Env → ℕ → ℕ → Operand → Option (List ℕ)
  key_text env db type_number operand = do
    text ← text_of env operand
    layout ← layout_of defs db type_number
    fitted_key layout text

  -- an SSA with its key worked out
  abbrev pub ssa_of : Env → ℕ → SsaText → Option Ssa
  ssa_of env db ssa = elim ssa.key [
    | None ↦ Some (record { segment = ssa.segment; key = None })
    | Some operand ↦ option_map (qualified ssa.segment) (key_text env db ssa.segment operand)
  ]

  abbrev pub ssas_of : Env → ℕ → List SsaText → Option (List Ssa)
  ssas_of env db [] = Some []
  ssas_of env db (s ∷ ss) = do
    ssa ← ssa_of env db s
    ssas ← ssas_of env db ss
    Some (ssa ∷ ssas)

  -- FSAs with their operands worked out
  abbrev pub fsas_given : Env → List FsaText → Option (List Fsa)
  fsas_given env [] = Some []
  fsas_given env (f ∷ fs) = do
    operand ← text_of env f.operand
    fsas ← fsas_given env fs
    Some (record { field = f.field.0; status = 32; op = f.op; operand = operand } ∷ fsas)

  -- a segment with values put into its fields
  abbrev pub filled : Env → List FieldDef → List FieldText → List ℕ → Option (List ℕ)
  filled env fields [] segment = Some segment
  filled env fields (f ∷ fs) segment = do
    field ← field_of fields f.field.0
    text ← text_of env f.value
    bytes ← value_bytes field text
    filled env fields fs (with_field field bytes segment)

  -- the type that ISRT inserts: that of the last SSA
  abbrev pub new_type : List SsaText → ℕ
  new_type [] = 0
  new_type (s ∷ []) = s.segment
  new_type (s ∷ t ∷ ss) = new_type (t ∷ ss)

  abbrev pub get_call : Env → (List Ssa → Call) → ℕ → List SsaText → Option Call
  get_call env get db ssas = option_map get (ssas_of env db ssas)

  -- FLD: the key is that of the database's root
  abbrev pub fld_call : Env → ℕ → Operand → List FsaText → Option Call
  fld_call env db key fsas = do
    key_bytes ← key_text env db 0 key
    list ← fsas_given env fsas
    Some (call.Fld db key_bytes (list_text list))

  -- ISRT: blanks and zeros, with the values put in
  abbrev pub isrt_call : Env → ℕ → List SsaText → List FieldText → Option Call
  isrt_call env db ssas fields = do
    found ← ssas_of env db ssas
    layout ← layout_of defs db (new_type ssas)
    segment ← empty_segment layout.fields
    bytes ← filled env layout.fields fields segment
    Some (call.Isrt db found bytes)

  -- REPL: what the last successful get on its database showed, with the values put in
  abbrev pub repl_call : Env → ℕ → List FieldText → Option Call
  repl_call env db fields = do
    shown ← shown_on db env
    layout ← layout_of defs db shown.type_number
    bytes ← filled env layout.fields fields shown.bytes
    Some (call.Repl db bytes)
