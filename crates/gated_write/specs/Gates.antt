-- A gated write: bytes behind a gate of a data set, which is opened once they are all there. What an image of the data
-- set is at each moment of it, by the contents from before it.
use Rattle.std.specs.Prelude.{◌≡◌, ◌≢◌, ◌⊎◌, ℕ, ◌+◌, ◌<◌, ◌≤◌, List, ◌∷◌, ◌++◌, length, take, drop, slice_index}
use Rattle.fp_site.specs.Disk.{Disk, IsDurable, Settles}

-- the gate's byte is there, and isn't 1
pub record IsClosed (gate : ℕ) (bytes : List ℕ) : Type 0 where
  pub stands : gate < length bytes
  pub byte : slice_index bytes gate ≢ 1

-- a data set with a closed gate, and every crash leaves it so
pub record IsShut (set gate : ℕ) (disk : Disk) : Type 0 where
  pub durable : IsDurable disk set
  pub closed : IsClosed gate (disk.contents set)

-- ---- closing the gate at the head of a data set

-- An image that a sync might have left at the start, or one whose gate is there and isn't open; or the data set had no
-- byte, and the image is a gate alone or nothing.
abbrev pub IsOldOrShut : Disk → ℕ → List ℕ → Type 0
IsOldOrShut start set image =
    Settles start set image ⊎ (IsClosed 0 image ⊎ ((length (start.contents set) ≡ 0) × (length image ≤ 1)))

-- ---- the body

-- Before the gate is written, all bytes up to it are as they were,
pub record IsUnopened (old : List ℕ) (gate : ℕ) (image : List ℕ) : Type 0 where
  pub front : take gate image ≡ take gate old
  pub byte : slice_index image gate ≡ slice_index old gate
  pub stands : gate < length image

-- so that every image which a sync may make of what a crash may leave now is such,
abbrev pub AreUnopened : List ℕ → ℕ → ℕ → Disk → Type 0
AreUnopened old gate set disk = (image : List ℕ) → Settles disk set image → IsUnopened old gate image

-- and the body stands behind the gate as far as it was written.
pub record IsWriting (old : List ℕ) (gate : ℕ) (body : List ℕ) (set : ℕ) (disk : Disk) : Type 0 where
  pub stands : gate < length old
  pub each : AreUnopened old gate set disk
  pub rest : List ℕ
  pub is : disk.contents set ≡ take (gate + 1) old ++ (body ++ rest)

-- Once it is all there and every crash leaves it,
pub record IsReady (old : List ℕ) (gate : ℕ) (body : List ℕ) (set : ℕ) (disk : Disk) : Type 0 where
  pub stands : gate < length old
  pub durable : IsDurable disk set
  pub rest : List ℕ
  pub is : disk.contents set ≡ take (gate + 1) old ++ (body ++ rest)

-- ---- the gate

-- the gate is written: the body stands behind it, whatever the gate is
pub record IsStaged (old : List ℕ) (gate : ℕ) (body : List ℕ) (image : List ℕ) : Type 0 where
  pub front : take gate image ≡ take gate old
  pub first : ℕ
  pub rest : List ℕ
  pub behind : drop gate image ≡ first ∷ (body ++ rest)

-- an image at some moment of a gated write
abbrev pub IsGatedImage : List ℕ → ℕ → List ℕ → List ℕ → Type 0
IsGatedImage old gate body image = IsUnopened old gate image ⊎ IsStaged old gate body image

-- at the end the gate is open, and every crash leaves it so
pub record IsOpened (old : List ℕ) (gate : ℕ) (body : List ℕ) (set : ℕ) (disk : Disk) : Type 0 where
  pub durable : IsDurable disk set
  pub front : take gate (disk.contents set) ≡ take gate old
  pub rest : List ℕ
  pub behind : drop gate (disk.contents set) ≡ 1 ∷ (body ++ rest)

-- ---- what stands in front of a gate, which may be absent

-- all bytes in front of a gate are as they were
abbrev pub IsFrontOf : List ℕ → ℕ → List ℕ → Type 0
IsFrontOf old gate image = take gate image ≡ take gate old

-- so that every image which a sync may make of what a crash may leave now has them
abbrev pub AreFronts : List ℕ → ℕ → ℕ → Disk → Type 0
AreFronts old gate set disk = (image : List ℕ) → Settles disk set image → IsFrontOf old gate image

-- the bytes behind a gated write: up to the gate the old ones, the open gate, the body, and what stood behind that
abbrev pub with_body : List ℕ → ℕ → List ℕ → List ℕ
with_body old gate body = take gate old ++ (1 ∷ (body ++ drop (gate + 1 + length body) old))

-- ---- reading

-- By what is told, and by the numbers: no data set but this one was read.
abbrev pub ReadsOnly : ℕ → (ℕ → Type 0) → (ℕ → Type 0) → (ℕ → ℕ) → (ℕ → ℕ) → Type 0
ReadsOnly this told_before told_now before now = (set : ℕ) → told_now set → told_before set
    × ((set ≡ this → ⊥) → now set ≡ before set)
