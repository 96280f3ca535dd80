-- What reading a group comes to, and which data sets a call read.
use Rattle.std.specs.Prelude.{◌≡◌, ℕ, ◌+◌, List, ◌++◌, length, drop}
use Rattle.fp_model.specs.declared.log.Entry.{Entry}
use Rattle.fp_model.specs.LogText.{group_text}
use Rattle.fp_model.specs.Groups.{IsGroup}

-- bytes have this group at a place, and the next gate behind it
pub record HasGroup (bytes : List ℕ) (at : ℕ) (entries : List Entry) (next : ℕ) : Type 0 where
  pub group : IsGroup entries
  pub text : drop at bytes ≡ group_text entries ++ drop next bytes
  pub next_is : next ≡ at + length (group_text entries)

-- By what is told, and by the numbers: no data set but the log was read.
abbrev pub ReadsOnlyLog : (ℕ → Type 0) → (ℕ → Type 0) → (ℕ → ℕ) → (ℕ → ℕ) → Type 0
ReadsOnlyLog told_before told_now before now = (set : ℕ) → told_now set → told_before set
    × ((set ≡ 0 → ⊥) → now set ≡ before set)
