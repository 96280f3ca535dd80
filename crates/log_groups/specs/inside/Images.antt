-- What bodies and proofs need of Images, beside what contracts say.
use Rattle.std.specs.Prelude.{◌≡◌, ℕ, ◌+◌, List, [], ◌∷◌, ◌++◌, length, take, drop}
use Rattle.fp_site.specs.Disk.{Disk, Snapshot, IsDurable}
use Rattle.fp_model.specs.declared.log.Entry.{Entry}
use Rattle.fp_model.specs.Spellings.{be64}
use Rattle.fp_model.specs.LogText.{Front, front_text, body_text, groups_text}
use Rattle.fp_model.specs.Groups.{IsGroup}
use Rattle.gated_write.specs.Gates.{IsGatedImage}

-- the bytes in front of a log's closed gate
abbrev pub before_gate : Front → List (List Entry) → List ℕ
before_gate front groups = front_text 1 front ++ groups_text groups

-- a group as it is written behind its gate: the length of the body, the body, and the next gate, closed
pub record SpellsGroup (bytes : List ℕ) (entries : List Entry) : Type 0 where
  pub group : IsGroup entries
  pub text : bytes ≡ be64 (length (body_text entries)) ++ (body_text entries ++ 0 ∷ [])

-- the log that a crash leaves within a gated write
abbrev pub IsGated : List ℕ → ℕ → List ℕ → Snapshot → Type 0
IsGated old gate bytes s = IsGatedImage old gate bytes (s.images 0)

-- after a gated write the gate is open, and every crash leaves it so
pub record IsOpened (old : List ℕ) (gate : ℕ) (bytes : List ℕ) (new : Disk) : Type 0 where
  pub durable : IsDurable new 0
  pub front : take gate (new.contents 0) ≡ take gate old
  pub rest : List ℕ
  pub behind : drop gate (new.contents 0) ≡ 1 ∷ (bytes ++ rest)
  -- behind the bytes is what stood there before
  pub stood : rest ≡ drop (gate + 1 + length bytes) old
