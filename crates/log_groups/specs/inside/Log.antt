-- What bodies and proofs need of Log, beside what contracts say.
use Rattle.std.specs.Prelude.{◌≡◌, ℕ, ◌+◌, ◌-◌, ◌*◌, ◌<◌, ◌≤◌, List, [], ◌∷◌, ◌++◌, length, drop, take}
use Rattle.std.specs.List.{AllByRecursion}
use Rattle.fp_model.specs.declared.log.Entry.{Entry}
use Rattle.fp_model.specs.Spellings.{be64}
use Rattle.fp_model.specs.LogText.{HasSpelling, body_text, group_text}
use Rattle.log_groups.specs.inside.Images.{SpellsGroup}

-- a part of the buffer as a group is written: its length, the part, and a closed gate
abbrev pub part_text : List ℕ → ℕ → ℕ → List ℕ
part_text buffer start end = be64 (end - start) ++ (take (end - start) (drop start buffer) ++ 0 ∷ [])

-- from a place on a buffer has so many entries or more, and a closed gate
pub record HasEntries (buffer : List ℕ) (start count : ℕ) : Type 0 where
  pub entries : List Entry
  pub each : AllByRecursion HasSpelling entries
  pub count_is : count ≤ length entries
  pub text : drop start buffer ≡ body_text entries ++ 0 ∷ []

-- A buffer has these entries from a place on, and a closed gate: then the part that ends here has the oldest of them,
-- so many or all where there are fewer.
pub record IsOldest (buffer : List ℕ) (entries : List Entry) (start most count end : ℕ) : Type 0 where
  pub order : start ≤ end
  pub inside : end < length buffer
  pub some : 1 ≤ count
  pub many : 12 * count ≤ end - start
  -- it is written as a group, of so many bytes with its gate,
  pub spelled : SpellsGroup (part_text buffer start end) (take most entries)
  pub size : 9 + (end - start) ≡ length (group_text (take most entries))
  -- and behind it stand the others, and the closed gate
  pub all : length (body_text entries) ≡ (end - start) + length (body_text (drop count entries))
  pub rest : drop end buffer ≡ body_text (drop count entries) ++ 0 ∷ []
