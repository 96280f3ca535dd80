-- What bodies and proofs need of Reading, beside what contracts say.
use Rattle.std.specs.Prelude.{◌≡◌, ℕ, List, [], IsSome, Ok, Option, Some, None, if◌then◌else◌, option_map}
use Rattle.fp_model.specs.declared.calls.Message.{Message}
use Rattle.fp_model.specs.declared.log.Entry.{Entry}
use Rattle.fp_model.specs.declared.log.Outcome.{Outcome}
use Rattle.fp_model.specs.declared.log.Outcome.TheVariants.{Unknown}
use Rattle.fp_model.specs.declared.scripts.Script.{Script}
use Rattle.fp_model.specs.Asking.{script_of}
use Rattle.fp_model.specs.History.{Request, Accepts, Refuses}
use Rattle.fp_model.specs.Lasts.{Last, last_by, uses_number}
use Rattle.fp_model.specs.LogText.{FitsOutcome}
use Rattle.fp_model.specs.Messages.{message_of, terminal_of}
use Rattle.fp_model.specs.Product.{by_script}
use Rattle.serial_order.specs.Laws.{IsRefusal}
use Rattle.fp_core.specs.declared.asking.Demand.{Demand}
use Rattle.fp_core.specs.declared.asking.Demand.TheVariants as demand
use Rattle.fp_core.specs.Numbering.{last_kept, last_told}

-- ---- what a line asks for

-- a message, or nothing and the line is refused
abbrev pub request_for : Demand → Request
request_for (demand.Message message) = Accepts message
request_for (demand.Nothing outcome kept) = Refuses outcome

-- a message asks by its script, where its number doesn't refuse it
abbrev pub request_unless : List Script → Message → Option Outcome → Request
request_unless scripts message None = by_script scripts message
request_unless scripts message (Some outcome) = Refuses outcome

-- the entry of a line that is refused, whatever its place
abbrev pub refused_line : Outcome → List ℕ → Entry
refused_line outcome line =
    record { from = 0; outcome = outcome; line = line; reply = []; notes = []; items = [] }

-- A line may be refused by this outcome, which fits its entry.
pub record IsRefused (outcome : Outcome) : Type 0 where
  pub allowed : IsRefusal outcome
  pub fits : FitsOutcome outcome

-- the line is refused as unknown, and this number is used up, if any
abbrev pub IsUnknown : Option Last → Demand → Type 0
IsUnknown used (demand.Message message) = ⊥
IsUnknown used (demand.Nothing outcome kept) = (outcome ≡ Unknown) × (option_map last_kept kept ≡ used)

-- A message asks for this: itself, where it names a script; or it is refused, and its number is kept where it uses one.
abbrev pub IsDemandOf : List Script → Message → Demand → Type 0
IsDemandOf scripts message (demand.Message same) = (same ≡ message) × IsSome (script_of scripts message.tran)
IsDemandOf scripts message (demand.Nothing outcome kept) =
    IsRefused outcome
    × (option_map last_kept kept ≡ (if uses_number outcome then last_told message outcome [] else None))

-- A line asks for this, read in a format: for the message that it is, or for nothing, and its number is kept where its
-- entry uses one.
abbrev pub IsDemandIn : ℕ → List Script → List ℕ → Demand → Type 0
IsDemandIn format scripts line (demand.Message message) =
    (message_of format line ≡ Ok message)
    × (terminal_of line ≡ Some message.lterm)
    × (message.line ≡ line)
    × IsSome (script_of scripts message.tran)
IsDemandIn format scripts line (demand.Nothing outcome kept) =
    IsRefused outcome × (option_map last_kept kept ≡ last_by format (refused_line outcome line))
