-- The sample: its definitions and scripts, as texts and as values, and entries of the rows.
use Rattle.std.specs.Prelude.{ℕ, List, [], ◌∷◌, ◌++◌, map, flat_map, true, false, codes, Some, None}
use Rattle.fp_rows.specs.Hex.{hex, named, with_newline}
use Rattle.fp_model.specs.declared.definitions.Kind.TheVariants.{Fold}
use Rattle.fp_model.specs.declared.definitions.FieldKind.TheVariants.{C, F, P}
use Rattle.fp_model.specs.declared.definitions.MsdbDef.{MsdbDef}
use Rattle.fp_model.specs.declared.definitions.SegDef.{SegDef}
use Rattle.fp_model.specs.declared.definitions.DedbDef.{DedbDef}
use Rattle.fp_model.specs.declared.definitions.Defs.{Defs}
use Rattle.fp_model.specs.declared.calls.Get.TheVariants.{Unique, Next, NextInParent}
use Rattle.fp_model.specs.declared.calls.Message.{Message}
use Rattle.fp_model.specs.declared.calls.Answer.{Answer}
use Rattle.fp_model.specs.declared.calls.Ssa.{Ssa}
use Rattle.fp_model.specs.declared.calls.Deferred.{Deferred}
use Rattle.fp_model.specs.declared.calls.Deferred.TheVariants as deferred
use Rattle.fp_model.specs.declared.scripts.Operand.{Operand}
use Rattle.fp_model.specs.declared.scripts.Operand.TheVariants.{Text, Word, Field, Status, Variable}
use Rattle.fp_model.specs.declared.scripts.Operation.TheVariants.{Join}
use Rattle.fp_model.specs.declared.scripts.Comparison.TheVariants.{NotEqual}
use Rattle.fp_model.specs.declared.scripts.SsaText.{SsaText}
use Rattle.fp_model.specs.declared.scripts.FsaText.{FsaText}
use Rattle.fp_model.specs.declared.scripts.FieldText.{FieldText}
use Rattle.fp_model.specs.declared.scripts.Statement.{Statement, roll-Statement}
use Rattle.fp_model.specs.declared.scripts.Statement.TheOpen.{Set, If, Repeat, Break, Reply, Roll, Get, Fld, Isrt, Repl}
use Rattle.fp_model.specs.declared.scripts.Script.{Script}
use Rattle.fp_model.specs.Texts.{padded, trimmed}
use Rattle.fp_model.specs.Fsas.{Fsa, list_text}
use Rattle.fp_model.specs.Asking.{Ask, ask}
use Rattle.fp_model.specs.declared.database.Msdb.{Msdb}
use Rattle.fp_model.specs.declared.log.Entry.{Entry}
use Rattle.fp_model.specs.declared.log.Item.TheVariants.{Segment}
use Rattle.fp_model.specs.declared.log.Outcome.TheVariants.{Done, Roll, Unknown}

-- accounts: a key of 4 characters, and a balance in 4 packed bytes
abbrev pub accts : MsdbDef
accts = record {
  name = named (codes "ACCTS");
  dynamic = false;
  fields =
      record { name = named (codes "ACCT"); kind = C; at = 0; length = 4 }
      ∷ record { name = named (codes "BAL"); kind = P; at = 4; length = 4 }
      ∷ [];
  length = 8;
  load = hex (codes "41303031 0000100c") ∷ hex (codes "41303032 0000050c") ∷ [];
}

-- tellers: a key of 4 characters, and the cash in a full word
abbrev pub tellers : MsdbDef
tellers = record {
  name = named (codes "TELLERS");
  dynamic = true;
  fields =
      record { name = named (codes "TNO"); kind = C; at = 0; length = 4 }
      ∷ record { name = named (codes "CASH"); kind = F; at = 4; length = 4 }
      ∷ [];
  length = 8;
  load = hex (codes "54303031 00000000") ∷ [];
}

-- the accounts after a deposit of 10 to the first
abbrev pub accts_now : Msdb
accts_now = record { segments = hex (codes "41303031 0000110c") ∷ hex (codes "41303032 0000050c") ∷ [] }

-- the tellers, as they were loaded
abbrev pub tellers_now : Msdb
tellers_now = record { segments = tellers.load }

-- the entry of that deposit: one look at the state before any entry, and the new segment
abbrev pub deposit : Entry
deposit = record {
  from = 0;
  outcome = Done;
  line = codes "T1 DEPOSIT A001 10";
  reply = codes "NEW";
  notes = 0 ∷ [];
  items = Segment 0 (codes "A001") (hex (codes "41303031 0000110c")) ∷ [];
}

-- the entry of a deposit to an account that isn't there
abbrev pub refusal : Entry
refusal = record {
  from = 0;
  outcome = Roll 1;
  line = codes "T1 DEPOSIT A009 10";
  reply = [];
  notes = 0 ∷ [];
  items = [];
}

-- the first entry, of a line that is no message or names no script
abbrev pub unknown : List ℕ → Entry
unknown line = record { from = 0; outcome = Unknown; line = line; reply = []; notes = []; items = [] }

-- ---- definitions

-- the text of the definitions
abbrev pub defs_text : List ℕ
defs_text = flat_map with_newline (
    codes "regions = [1, 1]"
    ∷ codes "router = \"FOLD\""
    ∷ codes "[[msdb]]"
    ∷ codes "name = \"ACCTS\""
    ∷ codes "fields = [[\"ACCT\", \"C\", 4], [\"BAL\", \"P\", 4]]"
    ∷ codes "load = [[\"A001\", \"100\"], [\"A002\", \"50\"]]"
    ∷ codes "[[msdb]]"
    ∷ codes "name = \"TELLERS\""
    ∷ codes "dynamic = true"
    ∷ codes "fields = [[\"TNO\", \"C\", 4], [\"CASH\", \"F\", 4]]"
    ∷ codes "load = [[\"T001\", \"0\"]]"
    ∷ codes "[[dedb]]"
    ∷ codes "name = \"CUST\""
    ∷ codes "randomizer = \"FOLD\""
    ∷ codes "ci = 512"
    ∷ codes "[[dedb.segment]]"
    ∷ codes "name = \"CUSTOMER\""
    ∷ codes "fields = [[\"CNO\", \"C\", 4], [\"NAME\", \"C\", 12]]"
    ∷ codes "[[dedb.segment]]"
    ∷ codes "name = \"AUDIT\""
    ∷ codes "parent = \"CUSTOMER\""
    ∷ codes "sequential = true"
    ∷ codes "fields = [[\"WHAT\", \"C\", 8]]"
    ∷ codes "[[dedb.segment]]"
    ∷ codes "name = \"LOAN\""
    ∷ codes "parent = \"CUSTOMER\""
    ∷ codes "fields = [[\"LNO\", \"C\", 2], [\"DUE\", \"P\", 4]]"
    ∷ codes "[[dedb.area]]"
    ∷ codes "name = \"AREA1\""
    ∷ codes "uows = 2"
    ∷ codes "base = 2"
    ∷ codes "overflow = 1"
    ∷ codes "capacity = 4"
    ∷ codes "[[dedb.area]]"
    ∷ codes "name = \"AREA2\""
    ∷ codes "uows = 2"
    ∷ codes "base = 2"
    ∷ codes "overflow = 1"
    ∷ codes "capacity = 4"
    ∷ [])

-- customers: a root, its audits in order of entry, and its loans
abbrev pub customer : SegDef
customer = record {
  name = named (codes "CUSTOMER");
  parent = None;
  sequential = false;
  fields =
      record { name = named (codes "CNO"); kind = C; at = 0; length = 4 }
      ∷ record { name = named (codes "NAME"); kind = C; at = 4; length = 12 }
      ∷ [];
  length = 16;
}

abbrev pub audit : SegDef
audit = record {
  name = named (codes "AUDIT");
  parent = Some 0;
  sequential = true;
  fields = record { name = named (codes "WHAT"); kind = C; at = 0; length = 8 } ∷ [];
  length = 8;
}

abbrev pub loan : SegDef
loan = record {
  name = named (codes "LOAN");
  parent = Some 0;
  sequential = false;
  fields =
      record { name = named (codes "LNO"); kind = C; at = 0; length = 2 }
      ∷ record { name = named (codes "DUE"); kind = P; at = 2; length = 4 }
      ∷ [];
  length = 6;
}

-- four anchors in each of two areas
abbrev pub cust : DedbDef
cust = record {
  name = named (codes "CUST");
  randomizer = Fold;
  ci = 512;
  segments = customer ∷ audit ∷ loan ∷ [];
  areas =
      record { name = named (codes "AREA1"); uows = 2; base = 2; overflow = 1; capacity = 4; copies = 1 }
      ∷ record { name = named (codes "AREA2"); uows = 2; base = 2; overflow = 1; capacity = 4; copies = 1 }
      ∷ [];
}

-- all of them; the databases are ACCTS 0, TELLERS 1 and CUST 2
abbrev pub sample_defs : Defs
sample_defs = record {
  regions = 1 ∷ 1 ∷ [];
  router = Fold;
  log_group = 100;
  pool = 1000;
  tries = 0;
  msdbs = accts ∷ tellers ∷ [];
  dedbs = cust ∷ [];
  text = defs_text;
}

-- ---- scripts

-- the text of the scripts
abbrev pub scripts_text : List ℕ
scripts_text = flat_map with_newline (
    codes "TRAN DEPOSIT"
    ∷ codes "FLD ACCTS KEY(#1) BAL + #2"
    ∷ codes "IF STATUS NE ''"
    ∷ codes "ROLB 1"
    ∷ codes "END"
    ∷ codes "REPLY 'NEW'"
    ∷ codes "TRAN WDRAW"
    ∷ codes "FLD ACCTS KEY(#1) BAL H #2 BAL - #2"
    ∷ codes "IF STATUS NE ''"
    ∷ codes "ROLB 7"
    ∷ codes "END"
    ∷ codes "REPLY 'PAID ' #2"
    ∷ codes "TRAN ASK"
    ∷ codes "GU ACCTS KEY(#1)"
    ∷ codes "IF STATUS NE ''"
    ∷ codes "REPLY 'NONE'"
    ∷ codes "END"
    ∷ codes "REPLY IO.BAL"
    ∷ codes "TRAN SETBAL"
    ∷ codes "GHU ACCTS KEY(#1)"
    ∷ codes "REPL ACCTS BAL=#2"
    ∷ codes "REPLY 'SET'"
    ∷ codes "TRAN NEWCUST"
    ∷ codes "ISRT CUST CUSTOMER CNO=#1 NAME=#2"
    ∷ codes "IF STATUS NE ''"
    ∷ codes "ROLB 2"
    ∷ codes "END"
    ∷ codes "REPLY 'ADDED'"
    ∷ codes "TRAN NOTE"
    ∷ codes "ISRT CUST CUSTOMER(#1) AUDIT WHAT=#2"
    ∷ codes "IF STATUS NE ''"
    ∷ codes "ROLB 3"
    ∷ codes "END"
    ∷ codes "REPLY 'NOTED'"
    ∷ codes "TRAN LEND"
    ∷ codes "ISRT CUST CUSTOMER(#1) LOAN LNO=#2 DUE=#3"
    ∷ codes "REPLY 'LENT' STATUS"
    ∷ codes "TRAN SHOWC"
    ∷ codes "GU CUST CUSTOMER(#1)"
    ∷ codes "IF STATUS NE ''"
    ∷ codes "ROLB 4"
    ∷ codes "END"
    ∷ codes "SET OUT IO.NAME"
    ∷ codes "REPEAT 10"
    ∷ codes "GNP CUST AUDIT"
    ∷ codes "IF STATUS NE ''"
    ∷ codes "BREAK"
    ∷ codes "END"
    ∷ codes "SET OUT OUT & ' '"
    ∷ codes "SET OUT OUT & IO.WHAT"
    ∷ codes "END"
    ∷ codes "REPLY OUT"
    ∷ codes "TRAN TWO"
    ∷ codes "GHU CUST CUSTOMER(#1)"
    ∷ codes "GHU CUST CUSTOMER(#2)"
    ∷ codes "REPLY 'BOTH'"
    ∷ codes "TRAN LISTC"
    ∷ codes "SET OUT ''"
    ∷ codes "REPEAT 30"
    ∷ codes "GN CUST CUSTOMER"
    ∷ codes "IF STATUS NE ''"
    ∷ codes "BREAK"
    ∷ codes "END"
    ∷ codes "IF OUT NE ''"
    ∷ codes "SET OUT OUT & ' '"
    ∷ codes "END"
    ∷ codes "SET OUT OUT & IO.CNO"
    ∷ codes "END"
    ∷ codes "REPLY OUT"
    ∷ codes "TRAN HIRE"
    ∷ codes "ISRT TELLERS TNO=#1 CASH=0"
    ∷ codes "SET A STATUS"
    ∷ codes "ISRT TELLERS TNO=#1 CASH=0"
    ∷ codes "REPLY A '/ ' STATUS"
    ∷ [])

-- a script of this name
abbrev pub tran : List ℕ → List Statement → Script
tran letters statements = record { name = named letters; statements = statements }

-- `SET variable operand`, and with a `&` and another behind it
abbrev pub set : List ℕ → Operand → Statement
set letters operand = roll-Statement (Set (named letters) operand None)

abbrev pub set_joined : List ℕ → Operand → Operand → Statement
set_joined letters a b = roll-Statement (Set (named letters) a (Some (Join, b)))

-- `IF operand NE ''` .. `END`
abbrev pub if_text : Operand → List Statement → Statement
if_text operand statements = roll-Statement (If operand NotEqual (Text []) statements [])

-- `IF STATUS NE ''`, one statement, `END`
abbrev pub if_bad : Statement → Statement
if_bad statement = if_text Status (statement ∷ [])

abbrev pub rolb : ℕ → Statement
rolb code = roll-Statement (Roll code)

abbrev pub reply : List Operand → Statement
reply operands = roll-Statement (Reply operands)

-- an SSA with a key, and one without
abbrev pub keyed : ℕ → Operand → SsaText
keyed segment key = record { segment = segment; key = Some key }

abbrev pub plain : ℕ → SsaText
plain segment = record { segment = segment; key = None }

-- a field and its value
abbrev pub put : List ℕ → Operand → FieldText
put letters text = record { field = named letters; value = text }

-- an FSA on BAL
abbrev pub on_bal : ℕ → Operand → FsaText
on_bal op operand = record { field = named (codes "BAL"); op = op; operand = operand }

abbrev pub deposit_script : Script
deposit_script = tran (codes "DEPOSIT") (
    roll-Statement (Fld 0 (Word 1) (on_bal 43 (Word 2) ∷ []))
    ∷ if_bad (rolb 1)
    ∷ reply (Text (codes "NEW") ∷ [])
    ∷ [])

abbrev pub wdraw_script : Script
wdraw_script = tran (codes "WDRAW") (
    roll-Statement (Fld 0 (Word 1) (on_bal 72 (Word 2) ∷ on_bal 45 (Word 2) ∷ []))
    ∷ if_bad (rolb 7)
    ∷ reply (Text (codes "PAID ") ∷ Word 2 ∷ [])
    ∷ [])

abbrev pub ask_script : Script
ask_script = tran (codes "ASK") (
    roll-Statement (Get Unique false 0 (keyed 0 (Word 1) ∷ []))
    ∷ if_bad (reply (Text (codes "NONE") ∷ []))
    ∷ reply (Field (named (codes "BAL")) ∷ [])
    ∷ [])

abbrev pub setbal_script : Script
setbal_script = tran (codes "SETBAL") (
    roll-Statement (Get Unique true 0 (keyed 0 (Word 1) ∷ []))
    ∷ roll-Statement (Repl 0 (put (codes "BAL") (Word 2) ∷ []))
    ∷ reply (Text (codes "SET") ∷ [])
    ∷ [])

abbrev pub newcust_script : Script
newcust_script = tran (codes "NEWCUST") (
    roll-Statement (Isrt 2 (plain 0 ∷ []) (put (codes "CNO") (Word 1) ∷ put (codes "NAME") (Word 2) ∷ []))
    ∷ if_bad (rolb 2)
    ∷ reply (Text (codes "ADDED") ∷ [])
    ∷ [])

abbrev pub note_script : Script
note_script = tran (codes "NOTE") (
    roll-Statement (Isrt 2 (keyed 0 (Word 1) ∷ plain 1 ∷ []) (put (codes "WHAT") (Word 2) ∷ []))
    ∷ if_bad (rolb 3)
    ∷ reply (Text (codes "NOTED") ∷ [])
    ∷ [])

abbrev pub lend_script : Script
lend_script = tran (codes "LEND") (
    roll-Statement (Isrt 2 (keyed 0 (Word 1) ∷ plain 2 ∷ [])
    (put (codes "LNO") (Word 2) ∷ put (codes "DUE") (Word 3) ∷ []))
    ∷ reply (Text (codes "LENT") ∷ Status ∷ [])
    ∷ [])

-- a variable that the sample's scripts use
abbrev pub out : Operand
out = Variable (named (codes "OUT"))

abbrev pub showc_script : Script
showc_script = tran (codes "SHOWC") (
    roll-Statement (Get Unique false 2 (keyed 0 (Word 1) ∷ []))
    ∷ if_bad (rolb 4)
    ∷ set (codes "OUT") (Field (named (codes "NAME")))
    ∷ roll-Statement (Repeat 10 (
    roll-Statement (Get NextInParent false 2 (plain 1 ∷ []))
    ∷ if_bad (roll-Statement Break)
    ∷ set_joined (codes "OUT") out (Text (codes " "))
    ∷ set_joined (codes "OUT") out (Field (named (codes "WHAT")))
    ∷ []))
    ∷ reply (out ∷ [])
    ∷ [])

abbrev pub two_script : Script
two_script = tran (codes "TWO") (
    roll-Statement (Get Unique true 2 (keyed 0 (Word 1) ∷ []))
    ∷ roll-Statement (Get Unique true 2 (keyed 0 (Word 2) ∷ []))
    ∷ reply (Text (codes "BOTH") ∷ [])
    ∷ [])

abbrev pub listc_script : Script
listc_script = tran (codes "LISTC") (
    set (codes "OUT") (Text [])
    ∷ roll-Statement (Repeat 30 (
    roll-Statement (Get Next false 2 (plain 0 ∷ []))
    ∷ if_bad (roll-Statement Break)
    ∷ if_text out (set_joined (codes "OUT") out (Text (codes " ")) ∷ [])
    ∷ set_joined (codes "OUT") out (Field (named (codes "CNO")))
    ∷ []))
    ∷ reply (out ∷ [])
    ∷ [])

-- an insert of a teller without cash
abbrev pub hired : Statement
hired = roll-Statement (Isrt 1 [] (put (codes "TNO") (Word 1) ∷ put (codes "CASH") (Text (codes "0")) ∷ []))

abbrev pub hire_script : Script
hire_script = tran (codes "HIRE") (
    hired
    ∷ set (codes "A") Status
    ∷ hired
    ∷ reply (Variable (named (codes "A")) ∷ Text (codes "/ ") ∷ Status ∷ [])
    ∷ [])

-- a field call as DEPOSIT makes it, and then a reply
abbrev pub fld_then_reply : List Operand → List Statement
fld_then_reply operands = roll-Statement (Fld 0 (Word 1) (on_bal 43 (Word 2) ∷ [])) ∷ reply operands ∷ []

-- a get on the accounts, one on the tellers, and then a statement
abbrev pub two_gets : Statement → List Statement
two_gets last =
    roll-Statement (Get Unique true 0 (keyed 0 (Word 1) ∷ []))
    ∷ roll-Statement (Get Unique true 1 (keyed 0 (Word 2) ∷ []))
    ∷ last
    ∷ []

-- all scripts of the sample, in the order of the text
abbrev pub sample_scripts : List Script
sample_scripts =
    deposit_script ∷ wdraw_script ∷ ask_script ∷ setbal_script ∷ newcust_script ∷ note_script ∷ lend_script
    ∷ showc_script ∷ two_script ∷ listc_script ∷ hire_script ∷ []

-- ---- what the rows are given

-- a text behind a blank; an empty one without it
abbrev pub behind_blank : List ℕ → List ℕ
behind_blank [] = []
behind_blank (b ∷ bs) = 32 ∷ b ∷ bs

-- a message of the terminal T1 that asks for a script with a text
abbrev pub message_for : Script → List ℕ → Message
message_for script text = record {
  lterm = named (codes "T1");
  tran = script.name;
  text = text;
  line = codes "T1 " ++ trimmed script.name.0 ++ behind_blank text;
  number = None;
}

-- what a script asks for a text, behind these answers
abbrev pub asked : Script → List ℕ → List Answer → Ask
asked script text answers = ask sample_defs script.statements (message_for script text) answers

-- the same of statements that are no script of the sample
abbrev pub asked_by : List Statement → List ℕ → List Answer → Ask
asked_by statements text answers = asked (tran (codes "X") statements) text answers

-- an SSA without a key
abbrev pub unqualified : ℕ → Ssa
unqualified segment = record { segment = segment; key = None }

-- a database with these segments
abbrev pub held : List (List ℕ) → Msdb
held texts = record { segments = map hex texts }

-- an answer with this status alone
abbrev pub answered : List ℕ → Answer
answered status = record { status = status; segment = 0; bytes = []; letters = [] }

-- the answer of a get that shows a segment of a type
abbrev pub showing : ℕ → List ℕ → Answer
showing segment bytes = record { status = codes "  "; segment = segment; bytes = bytes; letters = [] }

-- a field call's answer: its status and its letters
abbrev pub lettered : List ℕ → List ℕ → Answer
lettered status letters = record { status = status; segment = 0; bytes = []; letters = letters }

-- an FSA before it is answered: field, operation, operand
abbrev pub given : List ℕ → ℕ → List ℕ → Fsa
given field op operand = record { field = padded 8 field; status = 32; op = op; operand = operand }

-- a withdrawal of this many
abbrev pub withdrawal : List ℕ → List Fsa
withdrawal n = given (codes "BAL") 72 n ∷ given (codes "BAL") 45 n ∷ []

-- a deposit of this many
abbrev pub deposited : List ℕ → List Fsa
deposited n = given (codes "BAL") 43 n ∷ []

-- a field call on an account that waits for the sync point
abbrev pub queued : List ℕ → List Fsa → Deferred
queued key fsas = deferred.Fld 0 key (list_text fsas)

-- a database with a field of 31 digits behind its key
abbrev pub wide : MsdbDef
wide = record {
  name = named (codes "WIDE");
  dynamic = false;
  fields =
      record { name = named (codes "ACCT"); kind = C; at = 0; length = 4 }
      ∷ record { name = named (codes "SUM"); kind = P; at = 4; length = 16 }
      ∷ [];
  length = 20;
  load = [];
}
