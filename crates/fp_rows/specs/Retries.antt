-- Rules with a number of tries, a script that holds two accounts, and machines that reprocessing begins with.
use Rattle.std.specs.Prelude.{ℕ, List, [], ◌∷◌, codes, true}
use Rattle.fp_model.specs.declared.calls.Get.TheVariants.{Unique}
use Rattle.fp_model.specs.declared.database.Db.{Db}
use Rattle.fp_model.specs.declared.events.Event.{Event}
use Rattle.fp_model.specs.declared.events.Event.TheVariants.{In, Region, Log}
use Rattle.fp_model.specs.declared.definitions.Defs.{Defs}
use Rattle.fp_model.specs.declared.scripts.Operand.TheVariants.{Text, Word}
use Rattle.fp_model.specs.declared.scripts.Script.{Script}
use Rattle.fp_model.specs.declared.scripts.Statement.{roll-Statement}
use Rattle.fp_model.specs.declared.scripts.Statement.TheOpen.{Get}
use Rattle.fp_model.specs.History.{beginning}
use Rattle.fp_model.specs.Machine.{Machine, at_rest}
use Rattle.fp_model.specs.Product.{rules_of}
use Rattle.fp_model.specs.Rules.{Rules}
use Rattle.fp_rows.specs.Sample.{sample_defs, sample_scripts, tran, keyed, reply}

-- the sample's definitions with so many tries
abbrev pub defs_with : ℕ → Defs
defs_with tries = record sample_defs { tries = tries }

-- a script that gets two accounts with a hold
abbrev pub hold_script : Script
hold_script = tran (codes "HOLD") (
    roll-Statement (Get Unique true 0 (keyed 0 (Word 1) ∷ []))
    ∷ roll-Statement (Get Unique true 0 (keyed 0 (Word 2) ∷ []))
    ∷ reply (Text (codes "BOTH") ∷ [])
    ∷ [])

-- the rules of it alone, and those of the sample with one try more
abbrev pub hold_rules : ℕ → Rules
hold_rules tries = rules_of (defs_with tries) (hold_script ∷ [])

abbrev pub retrying : Rules
retrying = rules_of (defs_with 1) sample_scripts

-- a machine at rest over a state, with lines to take in
abbrev pub at_rest_over : Rules → Db → List (List ℕ) → Machine
at_rest_over rules db lines = at_rest rules lines (beginning 1 db)

-- two terminals that ask for both accounts, each in the other's order
abbrev pub two_account_lines : List (List ℕ)
two_account_lines = codes "T1 HOLD A001 A002" ∷ codes "T2 HOLD A002 A001" ∷ []

abbrev pub two_withdrawal_lines : List (List ℕ)
two_withdrawal_lines = codes "T1 WDRAW A001 60" ∷ codes "T2 WDRAW A001 60" ∷ []

abbrev pub two_customer_lines : List (List ℕ)
two_customer_lines = codes "T1 TWO C001 C003" ∷ codes "T2 TWO C003 C001" ∷ []

-- a round of the drain of two regions
abbrev pub round : List Event
round = In ∷ Region 1 ∷ Region 2 ∷ Log ∷ []
