-- Machines that a run led to behind the entries of a sound log.
use Rattle.std.specs.Prelude.{◌≡◌, ℕ, List, ◌++◌, take}
use Rattle.fp_model.specs.declared.definitions.Defs.{Defs}
use Rattle.fp_model.specs.declared.log.Entry.{Entry}
use Rattle.fp_model.specs.declared.scripts.Script.{Script}
use Rattle.fp_model.specs.History.{History}
use Rattle.fp_model.specs.Lasts.{format_at}
use Rattle.fp_model.specs.Machine.{Machine, at_rest}
use Rattle.fp_model.specs.Product.{rules_of}
use Rattle.fp_model.specs.Runs.{RunStep, Runs}
use Rattle.fp_model.specs.SerialHistory.{IsSerial}
use Rattle.fp_model.specs.LogText.{Front}
use Rattle.log_groups.specs.Kept.{IsSound, lines_of_entries}
use Rattle.fp_core.specs.Relation.{AreMade}

-- A run led to the machine, from one at rest behind a serial history of these entries, whose front has this format.
-- Each entry of the run has items that make its next state.
pub record IsBehind (defs : Defs) (scripts : List Script) (format : ℕ) (earlier : List Entry) (m : Machine) : Type 0
  where
    pub start : History
    pub front : start.format ≡ format
    pub is_serial : IsSerial (rules_of defs scripts) start
    pub entries : start.entries ≡ earlier
    pub lines : List (List ℕ)
    pub steps : List RunStep
    pub runs : Runs (rules_of defs scripts) (at_rest (rules_of defs scripts) lines start) steps m
    pub made : AreMade defs m

-- Lines are read in the same format behind both machines, and the log has the same front.
pub record KeepsFormat (m m2 : Machine) : Type 0 where
  pub front : m2.history.format ≡ m.history.format
  pub now : format_at m2.history.format m2.history.entries ≡ format_at m.history.format m.history.entries

-- A log goes on from these entries by more, soundly; and the text is a first part of the reply lines of those.
pub record GoesFurther (defs : Defs) (scripts : List Script) (front : Front) (earlier : List Entry) (text log : List ℕ)
    : Type 0 where
  pub later : List Entry
  pub sound : IsSound defs scripts front log (earlier ++ later)
  pub count : ℕ
  pub told : text ≡ take count (lines_of_entries later)
