-- Rounds of the drain, one after another.
use Rattle.std.specs.Prelude.{◌≡◌, ◌+◌, ◌<◌, ◌≤◌, List, [], ◌∷◌, length}
use Rattle.fp_model.specs.Rules.{Rules}
use Rattle.fp_model.specs.Machine.{Machine}
use Rattle.std.specs.List.{AllByRecursion}
use Rattle.fp_model.specs.Turns.{NoFault}
use Rattle.fp_model.specs.Runs.{RunStep, step_events, machine_after, Runs, round, IsDrained}
use Rattle.drain_laws.specs.Measure.{Gauge, held_weight, work_inside}

-- nothing befalls the steps
abbrev pub AreFair : List RunStep → Type 0
AreFair steps = AllByRecursion (λ step. step.environment ≡ NoFault) steps

-- One round, from a machine that isn't drained.
pub record GoesRound (rules : Rules) (m : Machine) (steps : List RunStep) (m2 : Machine) : Type 0 where
  pub left : ¬ IsDrained rules m
  pub events : step_events steps ≡ round rules
  pub runs : Runs rules m steps m2

-- rounds, each from where the one before it led
abbrev pub GoesRounds : Rules → Machine → List (List RunStep) → Machine → Type 0
GoesRounds rules m [] m2 = m2 ≡ m
GoesRounds rules m (steps ∷ rounds) m2 =
    GoesRound rules m steps (machine_after m steps) × GoesRounds rules (machine_after m steps) rounds m2

-- What a round brings: a line is read, which adds no more than a line that is held; or less is left to do inside.
pub data RoundMoves (rules : Rules) (gauge : Gauge) (m m2 : Machine) : Type 0 where
  ReadsLine :
      length m.lines ≡ length m2.lines + 1
      → work_inside rules gauge m2 ≤ work_inside rules gauge m + held_weight rules gauge
      → RoundMoves rules gauge m m2
  HasLess :
      m2.lines ≡ m.lines
      → work_inside rules gauge m2 < work_inside rules gauge m
      → RoundMoves rules gauge m m2
