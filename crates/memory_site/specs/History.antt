-- The disk model of a site in memory: the calls that changed it, and what a crash leaves after them.
use Rattle.std.specs.Prelude.{◌≡◌, ◌⊎◌, ℕ, ◌+◌, ◌<◌, ◌≤◌, max, Bool, false, ◌||◌, if◌then◌else◌, ◌==◌, List, [], ◌∷◌, ◌++◌, length, get_or, take}
use Rattle.fp_site.specs.Disk.{Snapshot, Disk, written, covers}

-- one call that changed the site
pub data Event : Type 0 where
  -- a start with these data sets, all on the disk, and with these bytes sent
  Opened : (images : ℕ → List ℕ) (text : List ℕ) → Event
  -- these bytes were written at this offset
  Wrote : (set at : ℕ) (bytes : List ℕ) → Event
  Synced : (set : ℕ) → Event
  Sent : (text : List ℕ) → Event

-- the events, the newest first
abbrev pub History : Type 0
History = List Event

-- what a read of a data set gives
abbrev pub contents_after : History → ℕ → List ℕ
contents_after [] set = []
contents_after (Opened images text ∷ before) set = images set
contents_after (Wrote s at bytes ∷ before) set = if s == set then written (contents_after before set) at bytes else
    contents_after before set
contents_after (Synced s ∷ before) set = contents_after before set
contents_after (Sent text ∷ before) set = contents_after before set

-- what a read gave at the last sync of the data set
abbrev pub synced_after : History → ℕ → List ℕ
synced_after [] set = []
synced_after (Opened images text ∷ before) set = images set
synced_after (Wrote s at bytes ∷ before) set = synced_after before set
synced_after (Synced s ∷ before) set = if s == set then contents_after before set else synced_after before set
synced_after (Sent text ∷ before) set = synced_after before set

-- whether a write since the last sync covers this byte
abbrev pub is_touched : History → ℕ → ℕ → Bool
is_touched [] set i = false
is_touched (Opened images text ∷ before) set i = false
is_touched (Wrote s at bytes ∷ before) set i = if s == set then covers at (length bytes) i || is_touched before set i
    else is_touched before set i
is_touched (Synced s ∷ before) set i = if s == set then false else is_touched before set i
is_touched (Sent text ∷ before) set i = is_touched before set i

-- the end of the longest write since the last sync
abbrev pub longest_end : History → ℕ → ℕ
longest_end [] set = 0
longest_end (Opened images text ∷ before) set = 0
longest_end (Wrote s at bytes ∷ before) set = if s == set then max (at + length bytes) (longest_end before set) else
    longest_end before set
longest_end (Synced s ∷ before) set = if s == set then 0 else longest_end before set
longest_end (Sent text ∷ before) set = longest_end before set

-- the bytes sent
abbrev pub sent_after : History → List ℕ
sent_after [] = []
sent_after (Opened images text ∷ before) = text
sent_after (Wrote s at bytes ∷ before) = sent_after before
sent_after (Synced s ∷ before) = sent_after before
sent_after (Sent text ∷ before) = sent_after before ++ text

-- What a crash now may leave of a data set: any length from that of the last sync to the end of the longest write
-- since, any bytes in the ranges written since and past the length of the last sync. The other bytes stay.
pub record Image (h : History) (set : ℕ) (image : List ℕ) : Type 0 where
  pub no_shorter : length (synced_after h set) ≤ length image
  pub no_longer : length image ≤ max (length (synced_after h set)) (longest_end h set)
  pub kept : (i : ℕ) → i < length (synced_after h set) → is_touched h set i ≡ false
      → get_or image i 0 ≡ get_or (synced_after h set) i 0

-- what a crash now may leave
pub record MayLeave (h : History) (s : Snapshot) : Type 0 where
  pub images : (set : ℕ) → Image h set (s.images set)
  pub sent : s.sent ≡ sent_after h

-- What a crash within the newest call may have left, beside what stood before it or stands after it: of a send, a
-- prefix.
abbrev pub MayLeaveWithin : Event → History → Snapshot → Type 0
MayLeaveWithin (Sent text) before s = (n : ℕ) × (((set : ℕ) → Image before set (s.images set))
    × (s.sent ≡ sent_after before ++ take n text))
MayLeaveWithin e before s = ⊥

-- what a crash at some moment from time t on may have left. The time is the number of events
abbrev pub LeftSince : ℕ → History → Snapshot → Type 0
LeftSince t [] s = MayLeave [] s
LeftSince t (e ∷ before) s = MayLeave (e ∷ before) s
    ⊎ ((t ≤ length before) × (MayLeaveWithin e before s ⊎ LeftSince t before s))

-- what a site with this history tells
abbrev pub disk_of : History → Disk
disk_of h = record {
  contents = contents_after h;
  sent = sent_after h;
  tells_sent = Unit {0};
  may_leave = MayLeave h;
  moment = length h;
  left_since = λ t s. LeftSince t h s;
}
