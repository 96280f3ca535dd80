-- Runs, each behind what a stop left of the one before.
use Rattle.std.specs.Prelude.{◌≡◌, ⊤, ℕ, ◌≤◌, List, [], ◌∷◌, take}
use Rattle.fp_model.specs.declared.log.Entry.{Entry}
use Rattle.fp_model.specs.History.{History}
use Rattle.fp_model.specs.Rules.{Rules}
use Rattle.fp_model.specs.SerialHistory.{IsSerial}
use Rattle.fp_model.specs.Machine.{Machine, at_rest}
use Rattle.fp_model.specs.Runs.{RunStep, Runs}

-- A run that begins with a first part of the entries before, in which all are that were sealed; and the machine that it
-- led to, wherever it was stopped.
pub record GoesOnBehind (rules : Rules) (format : ℕ) (before : List Entry) (sealed : ℕ) (m : Machine) : Type 0 where
  pub start : History
  pub is_serial : IsSerial rules start
  pub same_format : start.format ≡ format
  pub kept : ℕ
  pub part : start.entries ≡ take kept before
  pub has_sealed : sealed ≤ kept
  pub lines : List (List ℕ)
  pub steps : List RunStep
  pub runs : Runs rules (at_rest rules lines start) steps m

-- such runs one after another, by the machines that they led to
abbrev pub Lives : Rules → ℕ → List Entry → ℕ → List Machine → Type 0
Lives rules format before sealed [] = ⊤
Lives rules format before sealed (m ∷ ms) =
    GoesOnBehind rules format before sealed m × Lives rules format m.history.entries m.sealed ms
