-- Texts that are sent, whole or a first part of them, and what a crash leaves meanwhile.
use Rattle.std.specs.Prelude.{◌≡◌, ◌⊎◌, ℕ, List, ◌++◌, take}
use Rattle.fp_site.specs.Disk.{Disk, Snapshot, Elapses, Sends, Settles}

-- This text was sent, and nothing else changed: a crash at any moment leaves a first part of it sent.
pub record HasSent (old new : Disk) (text : List ℕ) : Type 0 where
  pub sent : new.sent ≡ old.sent ++ text
  pub contents : new.contents ≡ old.contents
  pub crash : Elapses old new (Sends old text)

-- A first part of this text was sent, and nothing else changed.
pub record HasSentPart (old new : Disk) (text : List ℕ) : Type 0 where
  pub count : ℕ
  pub sent : new.sent ≡ old.sent ++ take count text
  pub contents : new.contents ≡ old.contents
  pub crash : Elapses old new (Sends old text)

-- A crash leaves what it might have left before, but the log as a sync might have left it, and a first part of the text
-- sent.
pub record SyncsAndSends (old : Disk) (text : List ℕ) (s : Snapshot) : Type 0 where
  pub before : Snapshot
  pub left : old.may_leave before
  pub log : (s.images 0 ≡ before.images 0) ⊎ Settles old 0 (s.images 0)
  pub others : (set : ℕ) → (set ≡ 0 → ⊥) → s.images set ≡ before.images set
  pub count : ℕ
  pub sent : old.tells_sent → s.sent ≡ before.sent ++ take count text
