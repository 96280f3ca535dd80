-- What contracts see of a log that is open, and how its buffer keeps that.
use Rattle.std.specs.Prelude.{◌≡◌, ℕ, ◌+◌, ◌*◌, ◌^◌, ◌≤◌, List, [], ◌∷◌, ◌++◌, length, drop, Option, Some, None, Vec, vec_len, vec_capacity}
use Rattle.std.specs.List.{AllByRecursion}
use Rattle.std.specs.declared.alloc.Global.{Global}
use Rattle.fp_model.specs.declared.log.Entry.{Entry}
use Rattle.fp_model.specs.LogText.{HasSpelling, body_text}
use Rattle.log_format.specs.Reading.{many_at}
use Rattle.log_format.specs.EntryReading.{entry_at}

-- an open log: the format of its front, that of its site, how many entries are sealed, its closed gate, the entries
-- that aren't sealed, the oldest first, and how many bytes of entries its buffer has room for
pub record LogState : Type 0 where
  pub front_format : ℕ
  pub format : ℕ
  pub sealed : ℕ
  pub gate : ℕ
  pub unsealed : List Entry
  pub spare : ℕ

-- the values that were read, none where they couldn't be
abbrev pub values_of : Option (List Entry × List ℕ) → List Entry
values_of None = []
values_of (Some read) = read.0

-- so many entries, as bytes spell them
unfoldable pub entries_in : ℕ → List ℕ → List Entry
entries_in count bytes = values_of (many_at entry_at count bytes)

-- The buffer: room for a length, the entries, and a closed gate.
pub record IsBuffered (buffer : Vec ℕ Global) (start waiting sealed gate spare : ℕ) (entries : List Entry) : Type 0
  where
    pub each : AllByRecursion HasSpelling entries
    pub count : length entries ≡ waiting
    pub text : drop start buffer.items ≡ body_text entries ++ 0 ∷ []
    pub header : 8 ≤ start
    pub room : vec_len buffer + spare ≤ vec_capacity buffer
    -- what is sealed from here on ends before the last place of a data set
    pub limit : gate + 2 * (length (body_text entries) + spare) ≤ 2 ^ 62
    pub fewer : sealed ≤ gate
