-- What decides what a line asks for: the format, and the last numbers of terminals, as a map keeps them.
use Rattle.std.specs.Prelude.{◌≡◌, ℕ, List}
use Rattle.std.specs.Option.{option_map}
use Rattle.std.specs.BTreeMap.{is_at}
use Rattle.std.specs.Map.{lookup}
use Rattle.fp_model.specs.declared.name.Name.{Name}
use Rattle.fp_model.specs.History.{History}
use Rattle.fp_model.specs.Lasts.{Last, format_at, last_of, lasts_of}
use Rattle.txn_lang.specs.Numbers.{name_cmp}
use Rattle.fp_audit.specs.declared.kept.Kept.{Kept}

-- a last number, as it is kept beside the name of its terminal
abbrev pub kept_of : Last → Kept
kept_of last = record { number = last.number; line = last.line }

-- the map has these numbers, of each terminal its own
abbrev pub AreKept : List (Name × Kept) → List Last → Type 0
AreKept entries lasts = (name : Name) → lookup (is_at (name_cmp name)) entries ≡ option_map kept_of (last_of name lasts)

-- The format and the numbers are those behind the history.
pub record KnowsLines (format : ℕ) (entries : List (Name × Kept)) (h : History) : Type 0 where
  pub format_is : format ≡ format_at h.format h.entries
  pub lasts_are : AreKept entries (lasts_of h.format h.entries)
