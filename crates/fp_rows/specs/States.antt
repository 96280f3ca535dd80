-- States and machines that the rows of transactions begin with.
use Rattle.std.specs.Prelude.{◌≡◌, ℕ, List, [], ◌∷◌, ◌++◌, length, map, replicate, codes, false, None}
use Rattle.fp_model.specs.declared.database.Db.{Db}
use Rattle.fp_model.specs.declared.calls.Call.TheVariants as call
use Rattle.fp_model.specs.declared.calls.Get.TheVariants.{Next}
use Rattle.fp_model.specs.declared.database.Root.{Root}
use Rattle.fp_model.specs.declared.database.SeqItem.{SeqItem}
use Rattle.fp_model.specs.declared.log.Item.{Item}
use Rattle.fp_model.specs.declared.log.Item.TheVariants.{Segment}
use Rattle.fp_model.specs.declared.events.Event.{Event}
use Rattle.fp_model.specs.State.{start}
use Rattle.fp_model.specs.Rules.{Rules}
use Rattle.fp_model.specs.History.{beginning}
use Rattle.fp_model.specs.Product.{rules_of}
use Rattle.fp_model.specs.Machine.{Machine, at_rest}
use Rattle.fp_model.specs.Turns.{NoFault}
use Rattle.fp_model.specs.Runs.{RunStep, Runs, step_events}
use Rattle.fp_model.specs.Workspace.{Workspace, fresh}
use Rattle.fp_model.specs.Answers.{Replied}
use Rattle.fp_model.specs.Calls.{reply_to}
use Rattle.fp_rows.specs.Hex.{hex}
use Rattle.fp_rows.specs.Sample.{sample_defs, sample_scripts}

abbrev pub sample_rules : Rules
sample_rules = rules_of sample_defs sample_scripts

-- A run of these events by some rules, from one machine to another, where nothing befalls any step.
pub record RunsCalmly (rules : Rules) (m : Machine) (events : List Event) (m2 : Machine) : Type 0 where
  pub steps : List RunStep
  pub takes : step_events steps ≡ events
  pub is_calm : map (λ step. step.environment) steps ≡ replicate (length events) NoFault
  pub runs : Runs rules m steps m2

-- before any transaction: A001 has 100, A002 has 50
abbrev pub at_start : Db
at_start = start sample_defs

-- with this balance of A001, in 4 packed bytes
abbrev pub with_balance : List ℕ → Db
with_balance bytes = record at_start {
  msdbs =
      record { segments = (codes "A001" ++ hex bytes) ∷ hex (codes "41303032 0000050c") ∷ [] }
      ∷ record { segments = hex (codes "54303031 00000000") ∷ [] }
      ∷ [];
}

-- a customer without loans, and with these audits
abbrev pub a_customer : List ℕ → List SeqItem → Root
a_customer bytes audits = record { bytes = bytes; children = [] ∷ []; seqs = audits }

-- with these customers at anchors 0 and 6, and these ends of the second area
abbrev pub with_customers : List Root → List Root → ℕ → ℕ → Db
with_customers zeroth sixth begin end = record at_start {
  dedbs = record {
    anchors = zeroth ∷ [] ∷ [] ∷ [] ∷ [] ∷ [] ∷ sixth ∷ [] ∷ [];
    areas = record { begin = 1; end = 1 } ∷ record { begin = begin; end = end } ∷ [];
  } ∷ [];
}

-- one customer, with four audits
abbrev pub with_audits : Db
with_audits = with_customers [] (a_customer (codes "C001ANN         ") (
    record { serial = 4; bytes = codes "N4      " } ∷ record { serial = 3; bytes = codes "N3      " }
    ∷ record { serial = 2; bytes = codes "N2      " } ∷ record { serial = 1; bytes = codes "N1      " } ∷ []) ∷ []) 1 5

-- a machine at rest at the start, with one line to take in
abbrev pub at_rest_with_a_deposit : Machine
at_rest_with_a_deposit = at_rest sample_rules (codes "T1 DEPOSIT A001 10" ∷ []) (beginning 1 at_start)

-- three customers: C003 at anchor 0, C001 and C009 at anchor 6
abbrev pub with_three : Db
with_three =
    with_customers (a_customer (codes "C003BOB         ") [] ∷ [])
    (a_customer (codes "C001ANN         ") [] ∷ a_customer (codes "C009CY          ") [] ∷ []) 1 1

-- a get of the next customer
abbrev pub next_customer : Workspace → Replied
next_customer own =
    reply_to sample_defs with_three with_three own (call.Get Next false 2 (record { segment = 0; key = None } ∷ []))

abbrev pub first : Replied
first = next_customer (fresh sample_defs)

abbrev pub second : Replied
second = next_customer first.own

abbrev pub third : Replied
third = next_customer second.own

-- A001 with this balance, as an item of an entry
abbrev pub segment_item : List ℕ → Item
segment_item bytes = Segment 0 (codes "A001") (codes "A001" ++ hex bytes)

-- the same message of two terminals
abbrev pub at_rest_with_two_withdrawals : Machine
at_rest_with_two_withdrawals =
    at_rest sample_rules (codes "T1 WDRAW A001 60" ∷ codes "T2 WDRAW A001 60" ∷ []) (beginning 1 at_start)

-- C003 at anchor 0 and C001 at anchor 6
abbrev pub with_two : Db
with_two =
    with_customers (a_customer (codes "C003BOB         ") [] ∷ []) (a_customer (codes "C001ANN         ") [] ∷ []) 1 1

-- two terminals that ask for both customers, each in the other's order
abbrev pub at_rest_with_two_holders : Machine
at_rest_with_two_holders =
    at_rest sample_rules (codes "T1 TWO C001 C003" ∷ codes "T2 TWO C003 C001" ∷ []) (beginning 1 with_two)
