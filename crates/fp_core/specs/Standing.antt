-- The engine beside a site and a source: what the log holds and what was sent, at each moment of a step.
use Rattle.std.specs.Prelude.{◌≡◌, ⊤, ℕ, ◌+◌, ◌-◌, ◌≤◌, List, ◌++◌, length, Option, None, Some}
use Rattle.fp_model.specs.declared.events.Event.{Event}
use Rattle.fp_model.specs.declared.events.Event.TheVariants as event
use Rattle.fp_model.specs.declared.log.Entry.{Entry}
use Rattle.fp_model.specs.History.{place_of}
use Rattle.fp_model.specs.LogText.{Front}
use Rattle.fp_model.specs.Machine.{Idle, Machine, region_at, sealed_times}
use Rattle.fp_model.specs.Messages.{LineFault, LineTooLong, TooManyLines}
use Rattle.fp_model.specs.Rules.{Rules}
use Rattle.fp_site.specs.Disk.{Disk, Snapshot, Settles}
use Rattle.fp_site.specs.Moments.{Through}
use Rattle.message_lines.specs.Lines.{lines_ahead, lines_given}
use Rattle.fp_lists.specs.Faults.{Rose}
use Rattle.message_lines.specs.declared.lines.Lines.{Lines}
use Rattle.log_groups.specs.Images.{IsAtRest, IsLog}
use Rattle.fp_core.specs.declared.did.Did.{Did}
use Rattle.fp_core.specs.declared.engine.Engine.{Engine}
use Rattle.fp_core.specs.declared.stop.Stop.{Stop}
use Rattle.fp_core.specs.declared.stop.Stop.TheVariants as stop
use Rattle.fp_core.specs.Relation.{StandsFor}
use Rattle.fp_core.specs.Turning.{Turned}

-- ---- site and source between steps

-- What stood as the run began: the log's front and its groups, and the bytes sent.
pub record Origin : Type 0 where
  pub front : Front
  pub groups : List (List Entry)
  pub sent : List ℕ

-- The engine and the site stand for the machine: the log is at rest behind the groups of this run, and just its bytes
-- were sent.
pub record StandsAt (origin : Origin) (disk : Disk) (engine : Engine) (m : Machine) : Type 0 where
  pub parts : StandsFor engine m
  pub at_rest : IsAtRest disk origin.front (origin.groups ++ m.groups) engine.log.gate
  pub sent : disk.sent ≡ origin.sent ++ m.sent

-- and so does the source, of which this is left: its lines are those that the machine has not read
pub record StandsBeside (origin : Origin) (disk : Disk) (lines : Lines) (left : List ℕ) (engine : Engine)
    (m : Machine) : Type 0 where
  pub at : StandsAt origin disk engine m
  pub lines_are : m.lines ≡ lines_ahead lines left

-- just this stands on the site, whatever stands in memory: the log is at rest with the groups of the machine, and just
-- its bytes were sent
pub record IsStill (origin : Origin) (disk : Disk) (m : Machine) : Type 0 where
  pub gate : ℕ
  pub at_rest : IsAtRest disk origin.front (origin.groups ++ m.groups) gate
  pub sent : disk.sent ≡ origin.sent ++ m.sent

-- ---- within a step

-- one text goes on from the first, and the last goes on from it
pub record IsBetween (first text last : List ℕ) : Type 0 where
  pub more : List ℕ
  pub rest : List ℕ
  pub from : text ≡ first ++ more
  pub to : last ≡ text ++ rest

-- how many groups a step may seal
abbrev pub seals_of : Event → Machine → ℕ
seals_of event.Log m = 1
seals_of event.Ckpt m = place_of m.history - m.sealed
seals_of _ m = 0

module _ (origin : Origin) (rules : Rules) (m : Machine) (most : ℕ) where
  -- An image of the log has, behind the groups of the machine, at most so many that sealing goes on with; and of the
  -- reply lines a text was sent that has those sent before, and no line of an entry that isn't in the image.
  pub record HasGroups (text image : List ℕ) : Type 0 where
    pub times : ℕ
    pub few : times ≤ most
    pub gate : ℕ
    pub log : IsLog origin.front image (origin.groups ++ (sealed_times times rules m).groups) gate
    pub lines : IsBetween m.sent text (sealed_times times rules m).sent

  -- A crash left such an image, and no more was sent by then. All other data sets are as a crash of the disk might have
  -- left them before.
  pub record IsLeft (old : Disk) (s : Snapshot) : Type 0 where
    pub text : List ℕ
    pub sent : old.tells_sent → s.sent ≡ origin.sent ++ text
    pub groups : HasGroups text (s.images 0)
    pub before : Snapshot
    pub was_left : old.may_leave before
    pub others : (set : ℕ) → ¬ (set ≡ 0) → s.images set ≡ before.images set

  -- The disk is one that a step from this machine may end with: each image that a sync may make of the log is such a
  -- one.
  pub record IsWithin (old new : Disk) : Type 0 where
    pub text : List ℕ
    pub sent : new.sent ≡ origin.sent ++ text
    pub groups : (image : List ℕ) → Settles new 0 image → HasGroups text image
    pub others : (set : ℕ) → ¬ (set ≡ 0) → new.contents set ≡ old.contents set

  -- However a step from this machine ends, a crash at each moment of it leaves this, and the disk is this.
  pub record Leaves (old new : Disk) : Type 0 where
    pub moments : Through old new (IsLeft old)
    pub within : IsWithin old new

-- ---- a step

-- A turn leads from this machine, whose lines are those that may still be read, to one that the engine stands for.
pub record Stepped (event : Event) (m : Machine) (old_lines new_lines : Lines) (engine : Engine) (did : Did)
    : Type 0 where
  pub turned : Turned event m engine did
  pub given : lines_given new_lines + length turned.after.lines ≡ lines_given old_lines + length m.lines

-- or beside both.
pub record SteppedBeside (origin : Origin) (event : Event) (m : Machine) (disk : Disk) (old_lines new_lines : Lines)
    (left : List ℕ) (engine : Engine) (did : Did) : Type 0 where
  pub stepped : Stepped event m old_lines new_lines engine did
  pub beside : StandsBeside origin disk new_lines left engine stepped.turned.after

-- ---- stops

-- the number of a line that isn't taken
abbrev pub number_of : LineFault → ℕ
number_of (LineTooLong number) = number
number_of (TooManyLines number) = number

-- Where a step may stop: only LOG and CKPT for the log, and only an IN that reads a line for the source.
abbrev pub MayStop : Event → Option (List ℕ) → Stop → Type 0
MayStop event.In held stop.LogFault = ⊥
MayStop event.In held stop.ReadFault = held ≡ None
MayStop event.In held (stop.LineFault number) = held ≡ None
MayStop (event.Region region) held stop.LogFault = ⊥
MayStop (event.Region region) held stop.ReadFault = ⊥
MayStop (event.Region region) held (stop.LineFault number) = ⊥
MayStop event.Log held stop.LogFault = ⊤
MayStop event.Log held stop.ReadFault = ⊥
MayStop event.Log held (stop.LineFault number) = ⊥
MayStop event.Ckpt held stop.LogFault = ⊤
MayStop event.Ckpt held stop.ReadFault = ⊥
MayStop event.Ckpt held (stop.LineFault number) = ⊥
MayStop event.Out held given = ⊥
MayStop (event.Purge set n) held given = ⊥
MayStop event held stop.Memory = ⊤

-- A region whose turn stopped is idle: nothing was begun, and the engine stands as it did.
pub record IsUnbegun (engine : Engine) (m : Machine) (region : ℕ) : Type 0 where
  pub idle : region_at m region ≡ Some Idle
  pub stands : StandsFor engine m

-- Why a step stopped, by a count of faults before and behind it. That of the site rose where the log failed, and else
-- it stayed;
abbrev pub IsCausedBySite : ℕ → ℕ → Stop → Type 0
IsCausedBySite before now stop.LogFault = Rose before now
IsCausedBySite before now _ = now ≡ before

-- that of the source rose where a read failed, and else it stayed.
abbrev pub IsCausedBySource : ℕ → ℕ → Stop → Type 0
IsCausedBySource before now stop.ReadFault = Rose before now
IsCausedBySource before now _ = now ≡ before
