-- The bytes of the log: entries, groups and the front.
use Rattle.std.specs.Prelude.{◌≡◌, ⊤, ℕ, ◌+◌, ◌<◌, ◌≤◌, ◌^◌, List, [], ◌∷◌, ◌++◌, length, IsTrue, Contains, codes}
use Rattle.std.specs.List.{flat_map, AllByRecursion}
use Rattle.fp_model.specs.ItemTargets.{is_ascending}
use Rattle.fp_model.specs.Spellings.{be16, be32, be64, short_text, long_text, part_text}
use Rattle.fp_model.specs.declared.log.Item.{Item}
use Rattle.fp_model.specs.declared.log.Item.TheVariants.{Segment, Image, Range}
use Rattle.fp_model.specs.declared.log.Outcome.{Outcome}
use Rattle.fp_model.specs.declared.log.Outcome.TheVariants.{Done, Verify, Roll, SeqFull, Deadlock, Device, Memory, Unknown, Purge, Old, Repeat, Format}
use Rattle.fp_model.specs.declared.log.Entry.{Entry}

-- the code of an outcome, and its detail
abbrev pub outcome_text : Outcome → List ℕ
outcome_text Done = 0 ∷ []
outcome_text (Verify call fsa found) = 1 ∷ be32 call ++ be16 fsa ++ long_text found
outcome_text (Roll code) = 2 ∷ be16 code
outcome_text (SeqFull set begin end n) = 3 ∷ be16 set ++ be64 begin ++ be64 end ++ be64 n
outcome_text (Deadlock cycle) = 4 ∷ short_text cycle
outcome_text Device = 5 ∷ []
outcome_text Memory = 6 ∷ []
outcome_text Unknown = 7 ∷ []
outcome_text (Purge set n) = 8 ∷ be16 set ++ be64 n
outcome_text (Old last) = 9 ∷ be64 last
outcome_text (Repeat line) = 10 ∷ long_text line
outcome_text Format = 11 ∷ []

-- an item, behind a byte that says which
abbrev pub item_text : Item → List ℕ
item_text (Segment msdb key bytes) = 1 ∷ msdb ∷ short_text key ++ long_text bytes
item_text (Image set ci bytes) = 2 ∷ be16 set ++ be64 ci ++ long_text bytes
item_text (Range set ci at bytes) = 3 ∷ be16 set ++ be64 ci ++ be16 at ++ long_text bytes

-- the notes, behind their number
abbrev pub notes_text : List ℕ → List ℕ
notes_text notes = be32 (length notes) ++ flat_map be64 notes

-- the items, behind their number
abbrev pub items_text : List Item → List ℕ
items_text items = be32 (length items) ++ flat_map item_text items

-- an entry without its length
abbrev pub rest_text : Entry → List ℕ
rest_text e =
    be64 e.from ++ outcome_text e.outcome ++ long_text e.line ++ long_text e.reply
    ++ notes_text e.notes ++ items_text e.items

-- an entry, behind the length of the rest
abbrev pub entry_text : Entry → List ℕ
entry_text e = be64 (length (rest_text e)) ++ rest_text e

-- the body of a group: its entries, one after another
abbrev pub body_text : List Entry → List ℕ
body_text entries = flat_map entry_text entries

-- a group: its open gate, the length of its body, and its body
abbrev pub group_text : List Entry → List ℕ
group_text entries = 1 ∷ be64 (length (body_text entries)) ++ body_text entries

-- groups, one after another
abbrev pub groups_text : List (List Entry) → List ℕ
groups_text groups = flat_map group_text groups

-- what a log was made for: its format, and the texts of the definitions and of the scripts
pub record Front : Type 0 where
  pub format : ℕ
  pub defs : List ℕ
  pub scripts : List ℕ

-- the formats that there are
abbrev pub IsFormat : ℕ → Type 0
IsFormat format = Contains (1 ∷ 2 ∷ []) format

-- letters, and the digit of a format
abbrev pub of_format : List ℕ → ℕ → List ℕ
of_format letters format = letters ++ (48 + format) ∷ []

-- a front without its gate
abbrev pub front_rest : Front → List ℕ
front_rest front = of_format (codes "IMSFPLG") front.format ++ part_text front.defs ++ part_text front.scripts

-- a front: its gate, a byte that is 1 where the front is open, and the rest
abbrev pub front_text : ℕ → Front → List ℕ
front_text gate front = gate ∷ front_rest front

-- the format is one that there is, and each length in a front fits its field
pub record FitsFront (front : Front) : Type 0 where
  pub is_format : IsFormat front.format
  pub defs_fit : length front.defs < 2 ^ 32
  pub scripts_fit : length front.scripts < 2 ^ 32

-- the bytes of a log that was made for this front: they begin with it, open
abbrev pub StartsWithFront : List ℕ → Front → Type 0
StartsWithFront bytes front = (rest : List ℕ) × (bytes ≡ front_text 1 front ++ rest)

-- the place of the first group's gate, right behind the front
abbrev pub first_gate : Front → ℕ
first_gate front = length (front_text 1 front)

-- a log: the open front, its groups, and a closed gate
abbrev pub log_text : Front → List (List Entry) → List ℕ
log_text front groups = front_text 1 front ++ groups_text groups ++ 0 ∷ []

-- a reply stands in Done alone, and items stand in Done and Purge alone
abbrev pub HasItsParts : Outcome → List ℕ → List Item → Type 0
HasItsParts Done reply items = ⊤
HasItsParts (Purge set n) reply items = reply ≡ []
HasItsParts _ reply items = (reply ≡ []) × (items ≡ [])

-- the rules on the order of items and on empty parts: bytes that break them are no entry
pub record KeepsRules (e : Entry) : Type 0 where
  pub in_order : IsTrue (is_ascending e.items)
  pub parts : HasItsParts e.outcome e.reply e.items

-- each length in an outcome fits its field
abbrev pub FitsOutcome : Outcome → Type 0
FitsOutcome (Verify call fsa found) = length found < 2 ^ 16
FitsOutcome (Deadlock cycle) = length cycle < 2 ^ 8
FitsOutcome (Repeat line) = length line < 2 ^ 16
FitsOutcome _ = ⊤

-- each length in an item fits its field, and a range has some bytes
abbrev pub FitsItem : Item → Type 0
FitsItem (Segment msdb key bytes) = (length key < 2 ^ 8) × (length bytes < 2 ^ 16)
FitsItem (Image set ci bytes) = length bytes < 2 ^ 16
FitsItem (Range set ci at bytes) = (1 ≤ length bytes) × (length bytes < 2 ^ 16)

-- each length in an entry fits its field, as who writes one has to see to
pub record FitsEntry (e : Entry) : Type 0 where
  pub outcome : FitsOutcome e.outcome
  pub line : length e.line < 2 ^ 16
  pub reply : length e.reply < 2 ^ 16
  pub notes : length e.notes < 2 ^ 32
  pub items : length e.items < 2 ^ 32
  pub each_item : AllByRecursion FitsItem e.items

-- a list of bytes
abbrev pub IsBytes : List ℕ → Type 0
IsBytes bytes = AllByRecursion (λ b. b < 2 ^ 8) bytes

-- each number in an outcome is one of its type
abbrev pub IsOutcome : Outcome → Type 0
IsOutcome (Verify call fsa found) = (call < 2 ^ 32) × (fsa < 2 ^ 16) × IsBytes found
IsOutcome (Roll code) = code < 2 ^ 16
IsOutcome (SeqFull set begin end n) = (set < 2 ^ 16) × (begin < 2 ^ 64) × (end < 2 ^ 64) × (n < 2 ^ 64)
IsOutcome (Deadlock cycle) = IsBytes cycle
IsOutcome (Purge set n) = (set < 2 ^ 16) × (n < 2 ^ 64)
IsOutcome (Old last) = last < 2 ^ 64
IsOutcome (Repeat line) = IsBytes line
IsOutcome _ = ⊤

-- each number in an item is one of its type
abbrev pub IsItem : Item → Type 0
IsItem (Segment msdb key bytes) = (msdb < 2 ^ 8) × IsBytes key × IsBytes bytes
IsItem (Image set ci bytes) = (set < 2 ^ 16) × (ci < 2 ^ 64) × IsBytes bytes
IsItem (Range set ci at bytes) = (set < 2 ^ 16) × (ci < 2 ^ 64) × (at < 2 ^ 16) × IsBytes bytes

-- each number in an entry is one of its type, as in every value that a program has
pub record IsEntry (e : Entry) : Type 0 where
  pub from : e.from < 2 ^ 64
  pub outcome : IsOutcome e.outcome
  pub line : IsBytes e.line
  pub reply : IsBytes e.reply
  pub notes : AllByRecursion (λ n. n < 2 ^ 64) e.notes
  pub items : AllByRecursion IsItem e.items

-- an entry that has a spelling
pub record HasSpelling (e : Entry) : Type 0 where
  pub is_entry : IsEntry e
  pub fits : FitsEntry e
  pub whole : length (rest_text e) < 2 ^ 64
  pub rules : KeepsRules e
