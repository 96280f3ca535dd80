-- A round of the drain, step by step, and how rounds go on.
use Rattle.std.specs.Prelude.{◌≡◌, ℕ, suc, ◌+◌, ◌-◌, ◌<◌, List, map, length, sum_by, Bool, true, false, Some}
use Rattle.std.specs.List.{AllByRecursion, list_all}
use Rattle.drain_laws.specs.Measure.{work_with}
use Rattle.drain_laws.specs.ProductGauge.{gauge_of}
use Rattle.drain_laws.specs.Rounds.{GoesRound, GoesRounds}
use Rattle.fp_model.specs.declared.definitions.Defs.{Defs}
use Rattle.fp_model.specs.declared.events.Event.{Event}
use Rattle.fp_model.specs.declared.events.Event.TheVariants as event
use Rattle.fp_model.specs.Machine.{Idle, Machine, region_at}
use Rattle.fp_model.specs.Rules.{Rules}
use Rattle.fp_model.specs.Runs.{RunStep, Runs, IsDrained, step_events}
use Rattle.fp_model.specs.State.{numbers_up}
use Rattle.fp_site.specs.Disk.{Disk}
use Rattle.message_lines.specs.Lines.{lines_ahead, lines_given}
use Rattle.message_lines.specs.declared.lines.Lines.{Lines}
use Rattle.fp_core.specs.declared.did.Did.{Did}
use Rattle.fp_core.specs.declared.engine.Engine.{Engine}
use Rattle.fp_core.specs.declared.engine.Region.{Region}
use Rattle.fp_core.specs.declared.engine.Region.TheVariants as region
use Rattle.fp_core.specs.Draining.{AreCalm, IsReachedBy}
use Rattle.fp_core.specs.Relation.{StandsFor, rules_in}
use Rattle.fp_core.specs.Standing.{Origin, StandsBeside, Stepped}
use Rattle.fp_core.specs.Turning.{AreExact, RoundsAreExact}

-- ---- nothing is left

abbrev pub is_at_rest : Region → Bool
is_at_rest region.Idle = true
is_at_rest (region.Active active) = false

-- no message is queued, no region is at work, and no entry is unsealed
pub record IsQuiet (engine : Engine) : Type 0 where
  pub no_message : sum_by length engine.queues.queues ≡ 0
  pub no_active : list_all is_at_rest engine.regions ≡ true
  pub no_unsealed : length engine.log.unsealed ≡ 0

-- ---- the steps of a round

-- IN. The round goes on exactly where the machine isn't drained; else it stays as it is.
pub record Began (m : Machine) (old_lines new_lines : Lines) (engine : Engine) (more : Bool) : Type 0 where
  pub did : Did
  pub stepped : Stepped event.In m old_lines new_lines engine did
  pub goes : more ≡ true → ¬ IsDrained (rules_in engine) m
  pub done : more ≡ false → IsDrained (rules_in engine) m × (stepped.turned.after ≡ m)

-- the same beside a source: its lines are those that the machine behind the turn has not read
pub record BeganBy (m : Machine) (old_lines new_lines : Lines) (left : List ℕ) (engine : Engine) (more : Bool)
    : Type 0 where
  pub began : Began m old_lines new_lines engine more
  pub lines_are : began.stepped.turned.after.lines ≡ lines_ahead new_lines left

-- the turns of the first regions, so many
abbrev pub turns_of : ℕ → List Event
turns_of count = map event.Region (numbers_up count 1)

-- Turns of these events, each exact, lead from the machine to one that the engine stands for. No line is read in them,
-- and nothing is sealed or sent.
pub record TookTurns (events : List Event) (m : Machine) (engine : Engine) : Type 0 where
  pub steps : List RunStep
  pub after : Machine
  pub are : step_events steps ≡ events
  pub runs : Runs (rules_in engine) m steps after
  pub calm : AreCalm steps
  pub exact : AreExact engine.defs.now (rules_in engine) m steps
  pub stands : StandsFor engine after
  pub lines : after.lines ≡ m.lines
  pub groups : after.groups ≡ m.groups
  pub sent : after.sent ≡ m.sent

-- One more region found no memory, behind the turns of those before it. It was idle.
pub record StoppedAmong (m : Machine) (engine : Engine) : Type 0 where
  pub count : ℕ
  pub few : count < length engine.defs.now.regions
  pub took : TookTurns (turns_of count) m engine
  pub idle : region_at took.after (suc count) ≡ Some Idle

-- ---- a round

-- A round, by which no device failed and each turn of which is exact, leads to a machine that the engine stands for.
pub record HasRound (defs : Defs) (rules : Rules) (m : Machine) (old_lines new_lines : Lines) (engine : Engine) : Type 0
  where
    pub steps : List RunStep
    pub after : Machine
    pub goes : GoesRound rules m steps after
    pub calm : AreCalm steps
    pub exact : AreExact defs rules m steps
    pub stands : StandsFor engine after
    pub given : lines_given new_lines + length after.lines ≡ lines_given old_lines + length m.lines

-- a round, or the machine is drained
abbrev pub Went : Defs → Rules → Machine → Lines → Lines → Engine → Bool → Type 0
Went defs rules m old_lines new_lines engine true = HasRound defs rules m old_lines new_lines engine
Went defs rules m old_lines new_lines engine false = IsDrained rules m × StandsFor engine m

-- Rounds, each turn of which is exact, lead from the machine to one that engine, site and source stand for. No data set
-- but the log changed.
pub record HasCome (origin : Origin) (defs : Defs) (rules : Rules) (m : Machine) (old new : Disk)
    (old_lines lines : Lines) (left : List ℕ) (engine : Engine) : Type 0 where
  pub rounds : List (List RunStep)
  pub after : Machine
  pub goes : GoesRounds rules m rounds after
  pub calm : AllByRecursion AreCalm rounds
  pub exact : RoundsAreExact defs rules m rounds
  pub beside : StandsBeside origin new lines left engine after
  pub given : lines_given lines + length after.lines ≡ lines_given old_lines + length m.lines
  pub others : (set : ℕ) → ¬ (set ≡ 0) → new.contents set ≡ old.contents set

-- and where no more rounds come, it is drained
pub record WentBeside (origin : Origin) (defs : Defs) (rules : Rules) (m : Machine) (old new : Disk)
    (old_lines lines : Lines) (left : List ℕ) (engine : Engine) (more : Bool) : Type 0 where
  pub come : HasCome origin defs rules m old new old_lines lines left engine
  pub drained : more ≡ false → IsDrained rules come.after

-- ---- how many rounds there may be

-- all that may be left to do, of the lines that a run may still read and of the machine
abbrev pub work_ahead : Engine → Lines → Machine → ℕ
work_ahead engine lines m = work_with (rules_in engine) (gauge_of engine.defs.now) (1000000 - lines_given lines) m

-- the engine stands for a machine that needs fewer rounds than this
pub record NeedsFewer (engine : Engine) (lines : Lines) (rounds : ℕ) : Type 0 where
  pub m : Machine
  pub reached : IsReachedBy engine m
  pub few : work_ahead engine lines m < rounds
