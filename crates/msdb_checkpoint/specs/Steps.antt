-- A checkpoint that is written in steps, and what its data set is at every moment of it.
use Rattle.std.specs.Prelude.{◌≡◌, ◌⊎◌, ⊤, ℕ, ◌+◌, ◌-◌, ◌/◌, ◌^◌, ◌<◌, ◌≤◌, max, List, ◌∷◌, ◌++◌, length, drop, take, Option, Some, None}
use Rattle.fp_site.specs.Disk.{Disk, IsDurable, Settles, written}
use Rattle.gated_write.specs.Gates.{IsClosed, IsReady, IsWriting}
use Rattle.msdb_checkpoint.specs.declared.stages.Stage.{Stage}
use Rattle.msdb_checkpoint.specs.declared.stages.Stage.TheVariants.{Begun, Written, Synced}
use Rattle.msdb_checkpoint.specs.declared.stages.UnderWay.{UnderWay}

-- The data set of the newest sure checkpoint, 2 where there is none; its number, 0 where there is none; and the one
-- that is under way, if one is.
pub record Turn : Type 0 where
  pub set : ℕ
  pub number : ℕ
  pub under_way : Option UnderWay

-- the other one of data sets 1 and 2
abbrev pub other_set : ℕ → ℕ
other_set set = 3 - set

-- A data set stands at a stage of a checkpoint with these bytes: it has a byte; or over some contents whose gate was
-- closed, so many of them are written; or all are, and every crash leaves them.
abbrev pub IsAt : List ℕ → ℕ → Disk → Stage → Type 0
IsAt body set disk Begun = 0 < length (disk.contents set)
IsAt body set disk (Written count) =
    (old : List ℕ) × IsClosed 0 old × (count ≤ length body) × IsWriting old 0 (take count body) set disk
IsAt body set disk Synced = (old : List ℕ) × IsClosed 0 old × IsReady old 0 body set disk

-- The next step may be taken at a stage: the first over whatever the data set has, each other where it stands at its stage.
abbrev pub GoesFrom : List ℕ → ℕ → Disk → Stage → Type 0
GoesFrom body set disk Begun = ⊤
GoesFrom body set disk (Written count) = IsAt body set disk (Written count)
GoesFrom body set disk Synced = IsAt body set disk Synced

-- Behind so many bytes of the body a step writes the next 65,536, or those that are left, and nothing else.
abbrev pub WritesPiece : List ℕ → ℕ → ℕ → Disk → Disk → Type 0
WritesPiece body count set old new =
    new.contents set ≡ written (old.contents set) (1 + count) (take 65536 (drop count body))

-- The data set is no longer than it was, or than a gate and the body are.
abbrev pub IsNoLonger : List ℕ → ℕ → Disk → Disk → Type 0
IsNoLonger body set old new = length (new.contents set) ≤ max (length (old.contents set)) (1 + length body)

-- how many pieces so many bytes have
abbrev pub pieces : ℕ → ℕ
pieces count = (count + 65535) / 65536

-- the steps that are left at a stage: closing the gate, the pieces, a sync, opening the gate
abbrev pub steps_left : List ℕ → Stage → ℕ
steps_left body Begun = pieces (length body) + 3
steps_left body (Written count) = pieces (length body - count) + 2
steps_left body Synced = 1

-- a data set with an open checkpoint of these bytes, and every crash leaves it so
pub record IsSure (body : List ℕ) (set : ℕ) (disk : Disk) : Type 0 where
  pub durable : IsDurable disk set
  pub rest : List ℕ
  pub is : disk.contents set ≡ 1 ∷ (body ++ rest)

-- An image of the data set that is written: as a sync might have left it before, or with its gate closed, or with the
-- checkpoint open and whole.
abbrev pub IsOldClosedOrWhole : Disk → ℕ → List ℕ → List ℕ → Type 0
IsOldClosedOrWhole start set body image =
    Settles start set image ⊎ (IsClosed 0 image ⊎ ((rest : List ℕ) × (image ≡ 1 ∷ (body ++ rest))))

-- ---- the two data sets in turn

-- what is under way stands in the data set that hasn't the newest sure one
abbrev pub IsUnderWay : ℕ → Disk → Option UnderWay → Type 0
IsUnderWay set disk None = ⊤
IsUnderWay set disk (Some u) = IsAt u.body set disk u.stage

abbrev pub StandsOn : Turn → Disk → Type 0
StandsOn turn disk = IsUnderWay (other_set turn.set) disk turn.under_way

-- the next step of what is under way may be taken there
abbrev pub MayGo : ℕ → Disk → Option UnderWay → Type 0
MayGo set disk None = ⊤
MayGo set disk (Some u) = GoesFrom u.body set disk u.stage

abbrev pub GoesOn : Turn → Disk → Type 0
GoesOn turn disk = MayGo (other_set turn.set) disk turn.under_way

-- the same checkpoint is under way, at some stage
abbrev pub OnlyStage : UnderWay → Option UnderWay → Type 0
OnlyStage u now = (stage : Stage) × (now ≡ Some (record { number = u.number; body = u.body; stage = stage }))

-- the steps that are left of what is under way
abbrev pub turns_left : Option UnderWay → ℕ
turns_left None = 0
turns_left (Some u) = steps_left u.body u.stage

-- the checkpoint that was under way is the newest sure one now
pub record IsSureNow (old new : Turn) (disk : Disk) : Type 0 where
  pub u : UnderWay
  pub was : old.under_way ≡ Some u
  pub sure : IsSure u.body (other_set old.set) disk
  pub turn : new ≡ record { set = other_set old.set; number = u.number; under_way = None }

-- bytes that fit a data set, behind their gate
abbrev pub FitsUnderWay : Option UnderWay → Type 0
FitsUnderWay None = ⊤
FitsUnderWay (Some u) = length u.body + 1 ≤ 2 ^ 62
