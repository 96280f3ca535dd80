-- Customers with audits and loans, the calls on them, and what one transaction's calls are answered.
use Rattle.std.specs.Prelude.{ℕ, List, [], ◌∷◌, ◌++◌, codes, true, false, Some}
use Rattle.fp_model.specs.declared.database.Db.{Db}
use Rattle.fp_model.specs.declared.database.Node.{Node, roll-Node}
use Rattle.fp_model.specs.declared.database.Root.{Root}
use Rattle.fp_model.specs.declared.database.SeqItem.{SeqItem}
use Rattle.fp_model.specs.declared.calls.Answer.{Answer}
use Rattle.fp_model.specs.declared.calls.Call.{Call}
use Rattle.fp_model.specs.declared.calls.Call.TheVariants as call
use Rattle.fp_model.specs.declared.calls.Get.TheVariants.{Unique, Next, NextInParent}
use Rattle.fp_model.specs.declared.calls.Ssa.{Ssa}
use Rattle.fp_model.specs.Calls.{reply_to}
use Rattle.fp_model.specs.Fsas.{list_text}
use Rattle.fp_model.specs.Workspace.{Workspace, fresh}
use Rattle.fp_rows.specs.Hex.{hex}
use Rattle.fp_rows.specs.Sample.{sample_defs, unqualified, given}
use Rattle.fp_rows.specs.States.{a_customer, at_start}

-- ---- the database

-- a loan: its number, and what is due in 4 packed bytes
abbrev pub loan_bytes : List ℕ → List ℕ → List ℕ
loan_bytes number due = number ++ hex due

abbrev pub a_loan : List ℕ → Node
a_loan bytes = roll-Node (record { bytes = bytes; children = [] })

abbrev pub loan_one : List ℕ
loan_one = loan_bytes (codes "L1") (codes "0000010c")

abbrev pub loan_two : List ℕ
loan_two = loan_bytes (codes "L2") (codes "0000025c")

-- two audits, the newest first
abbrev pub two_audits : List SeqItem
two_audits =
    record { serial = 2; bytes = codes "N2      " } ∷ record { serial = 1; bytes = codes "N1      " } ∷ []

-- the customers, by their bytes: BOB at anchor 0, ANN and CY at anchor 6, DEE at anchor 7
abbrev pub bob : List ℕ
bob = codes "C003BOB         "

abbrev pub ann : List ℕ
ann = codes "C001ANN         "

abbrev pub cy : List ℕ
cy = codes "C009CY          "

abbrev pub dee : List ℕ
dee = codes "C002DEE         "

-- ANN under another name
abbrev pub eve : List ℕ
eve = codes "C001EVE         "

-- a customer that isn't there; its anchor is 5
abbrev pub fay : List ℕ
fay = codes "C008FAY         "

-- BOB, these customers at anchors 6 and 7, and this end of the second area
abbrev pub and_bob : List Root → List Root → ℕ → Db
and_bob sixth seventh end = record at_start {
  dedbs = record {
    anchors = (a_customer bob [] ∷ []) ∷ [] ∷ [] ∷ [] ∷ [] ∷ [] ∷ sixth ∷ seventh ∷ [];
    areas = record { begin = 1; end = 1 } ∷ record { begin = 1; end = end } ∷ [];
  } ∷ [];
}

-- DEE, with two loans and no audits
abbrev pub dee_with_loans : Root
dee_with_loans =
    record { bytes = dee; children = (a_loan loan_one ∷ a_loan loan_two ∷ []) ∷ []; seqs = [] }

-- all four: ANN has two audits, and DEE two loans
abbrev pub with_four : Db
with_four = and_bob (a_customer ann two_audits ∷ a_customer cy [] ∷ []) (dee_with_loans ∷ []) 3

-- ---- search arguments and calls

abbrev pub qualified : ℕ → List ℕ → Ssa
qualified segment key = record { segment = segment; key = Some key }

-- of a customer by its key, of any customer, of any audit, of a loan by its number, of any loan
abbrev pub customer : List ℕ → Ssa
customer key = qualified 0 key

abbrev pub any_customer : Ssa
any_customer = unqualified 0

abbrev pub any_audit : Ssa
any_audit = unqualified 1

abbrev pub loan : List ℕ → Ssa
loan number = qualified 2 number

abbrev pub any_loan : Ssa
any_loan = unqualified 2

-- gets on the customers' database, without a hold and with one
abbrev pub gu : List Ssa → Call
gu ssas = call.Get Unique false 2 ssas

abbrev pub gn : List Ssa → Call
gn ssas = call.Get Next false 2 ssas

abbrev pub gnp : List Ssa → Call
gnp ssas = call.Get NextInParent false 2 ssas

abbrev pub ghu : List Ssa → Call
ghu ssas = call.Get Unique true 2 ssas

abbrev pub ghnp : List Ssa → Call
ghnp ssas = call.Get NextInParent true 2 ssas

abbrev pub isrt : List Ssa → List ℕ → Call
isrt ssas bytes = call.Isrt 2 ssas bytes

abbrev pub repl : List ℕ → Call
repl bytes = call.Repl 2 bytes

abbrev pub dlet : Call
dlet = call.Dlet 2

-- a field call on the first customer
abbrev pub fld : Call
fld = call.Fld 2 (codes "C001") (list_text (given (codes "NAME") 69 (codes "ANN") ∷ []))

-- an insert of an audit of a customer
abbrev pub note : List ℕ → List ℕ → Call
note key what = isrt (customer key ∷ any_audit ∷ []) what

-- ---- one transaction's calls

-- the answers to calls, one after another
abbrev pub answers_from : Workspace → List Call → List Answer
answers_from own [] = []
answers_from own (c ∷ cs) =
    (reply_to sample_defs with_four with_four own c).answer
    ∷ answers_from (reply_to sample_defs with_four with_four own c).own cs

-- what the transaction keeps behind them
abbrev pub kept_from : Workspace → List Call → Workspace
kept_from own [] = own
kept_from own (c ∷ cs) = kept_from (reply_to sample_defs with_four with_four own c).own cs

-- the same of a transaction that begins
abbrev pub answers : List Call → List Answer
answers cs = answers_from (fresh sample_defs) cs

abbrev pub kept : List Call → Workspace
kept cs = kept_from (fresh sample_defs) cs
