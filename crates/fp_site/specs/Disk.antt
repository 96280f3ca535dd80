-- What a site tells: its data sets, the bytes sent, and what a crash leaves. The rules are this project's disk model.
use Rattle.std.specs.Prelude.{◌≡◌, ◌⊎◌, ℕ, ◌+◌, ◌-◌, ◌<◌, ◌≤◌, ◌^◌, max, Bool, false, ◌&&◌, nat_lt, nat_le, List, [], ◌∷◌, ◌++◌, length, get_or, take, drop, replicate}

-- all data sets at one moment, by their numbers, and what was sent by then: what a crash at that moment leaves
pub record Snapshot : Type 0 where
  pub images : ℕ → List ℕ
  pub sent : List ℕ

pub record Disk : Type 1 where
  -- what a read gives of each data set
  pub contents : ℕ → List ℕ
  -- the bytes sent
  pub sent : List ℕ
  -- whether those of a snapshot are told
  pub tells_sent : Type 0
  -- what a crash now may leave
  pub may_leave : Snapshot → Type 0
  -- a number that never falls
  pub moment : ℕ
  -- what a crash at some moment from that one on may have left
  pub left_since : ℕ → Snapshot → Type 0

-- old with these bytes at this offset, and zeros where nothing stood before it. No bytes change nothing
abbrev pub written : List ℕ → ℕ → List ℕ → List ℕ
written old at [] = old
written old at (b ∷ bytes) = take at old ++ (replicate (at - length old) 0 ++
    ((b ∷ bytes) ++ drop (at + length (b ∷ bytes)) old))

-- what a read of so many bytes at this offset gives, zeros past the end
abbrev pub read_range : List ℕ → ℕ → ℕ → List ℕ
read_range xs at count = take count (drop at xs ++ replicate count 0)

-- whether a range of so many bytes at this offset has the byte at place i
abbrev pub covers : ℕ → ℕ → ℕ → Bool
covers at count i = nat_le at i && nat_lt i (at + count)

-- what a crash makes of an image within a write: any bytes in the range and past the end, any length up to the range's
-- end
pub record Torn (at count : ℕ) (old new : List ℕ) : Type 0 where
  pub no_shorter : length old ≤ length new
  pub no_longer : length new ≤ max (length old) (at + count)
  pub others : (i : ℕ) → i < length old → covers at count i ≡ false → get_or new i 0 ≡ get_or old i 0

-- what a failed write makes of the contents: any bytes in the range. A byte past the end counts as 0
pub record Broken (at count : ℕ) (old new : List ℕ) : Type 0 where
  pub no_shorter : length old ≤ length new
  pub no_longer : length new ≤ max (length old) (at + count)
  pub others : (i : ℕ) → covers at count i ≡ false → get_or new i 0 ≡ get_or old i 0

-- every crash now leaves this data set as a read gives it
abbrev pub IsDurable : Disk → ℕ → Type 0
IsDurable disk set = (s : Snapshot) → disk.may_leave s → s.images set ≡ disk.contents set

-- s is a snapshot that a crash of the old disk may leave, but for this data set, which went by this step
pub record Differs (old : Disk) (set : ℕ) (step : List ℕ → List ℕ → Type 0) (s : Snapshot) : Type 0 where
  pub before : Snapshot
  pub left : old.may_leave before
  pub this : step (before.images set) (s.images set)
  pub others : (k : ℕ) → (k ≡ set → ⊥) → s.images k ≡ before.images k
  pub sent : old.tells_sent → s.sent ≡ before.sent

-- where all crashes of the old disk leave this data set alike, so is this image
pub record Settles (old : Disk) (set : ℕ) (image : List ℕ) : Type 0 where
  pub bytes : (i byte : ℕ) → ((c : Snapshot) → old.may_leave c → get_or (c.images set) i 0 ≡ byte)
      → get_or image i 0 ≡ byte
  pub no_shorter : (n : ℕ) → ((c : Snapshot) → old.may_leave c → n ≤ length (c.images set)) → n ≤ length image
  pub no_longer : (n : ℕ) → ((c : Snapshot) → old.may_leave c → length (c.images set) ≤ n) → length image ≤ n

-- what a crash within or after a write of so many bytes may leave
abbrev pub Tears : Disk → ℕ → ℕ → ℕ → Snapshot → Type 0
Tears old set at count = Differs old set (Torn at count)

-- what a crash within or after a sync may leave
abbrev pub Syncs : Disk → ℕ → Snapshot → Type 0
Syncs old set = Differs old set (λ before image. Settles old set image)

-- within or after a send: s has the images of a snapshot that a crash of the old disk may leave, and a prefix of this
-- text is sent
pub record Sends (old : Disk) (text : List ℕ) (s : Snapshot) : Type 0 where
  pub before : Snapshot
  pub left : old.may_leave before
  pub images : s.images ≡ before.images
  pub count : ℕ
  pub sent : old.tells_sent → s.sent ≡ before.sent ++ take count text

-- time goes on: a crash since some earlier moment may have left what it may have left before, or one of these
pub record Elapses (old new : Disk) (these : Snapshot → Type 0) : Type 0 where
  pub later : old.moment ≤ new.moment
  pub keeps : (t : ℕ) (s : Snapshot) → t ≤ old.moment → old.left_since t s → new.left_since t s
  pub nothing_else : (t : ℕ) (s : Snapshot) → t ≤ old.moment → new.left_since t s → old.left_since t s ⊎ these s
  pub tells_sent : old.tells_sent → new.tells_sent

-- nothing changes, now and at every moment of the call
pub record Stays (old new : Disk) : Type 0 where
  pub contents : new.contents ≡ old.contents
  pub sent : new.sent ≡ old.sent
  pub crash : Elapses old new old.may_leave

-- no other data set's contents change, and nothing is sent
pub record Leaves (set : ℕ) (old new : Disk) : Type 0 where
  pub contents : (k : ℕ) → (k ≡ set → ⊥) → new.contents k ≡ old.contents k
  pub sent : new.sent ≡ old.sent

-- what holds of every disk that is told
pub record IsLawful (disk : Disk) : Type 0 where
  -- what a crash now may leave counts as left since this moment
  pub counts_now : (s : Snapshot) → disk.may_leave s → disk.left_since disk.moment s
  -- since this moment there is nothing else
  pub only_now : (s : Snapshot) → disk.left_since disk.moment s → disk.may_leave s
  -- what was left since a moment was left since each earlier one
  pub earlier : (t u : ℕ) (s : Snapshot) → t ≤ u → disk.left_since u s → disk.left_since t s
  -- what a read gives is one of the images that a crash now may leave
  pub stands : (s : Snapshot) × disk.may_leave s × (s.images ≡ disk.contents)
  -- what was sent is sent in each of them
  pub sent_now : disk.tells_sent → (s : Snapshot) → disk.may_leave s → s.sent ≡ disk.sent
  -- no data set is longer than a call can make it
  pub bounded : (set : ℕ) → length (disk.contents set) ≤ 2 ^ 62
