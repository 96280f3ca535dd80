-- The texts of a log: of the databases that its entries make, and of its groups; and which of them was sent.
use Rattle.std.specs.Prelude.{◌≡◌, ◌≢◌, ◌⊎◌, ℕ, ◌+◌, ◌≤◌, List, [], ◌∷◌, ◌++◌, length, slice_index, take}
use Rattle.fp_model.specs.declared.database.Msdb.{Msdb}
use Rattle.fp_model.specs.declared.definitions.Defs.{Defs}
use Rattle.fp_model.specs.declared.log.Entry.{Entry}
use Rattle.fp_model.specs.Groups.{HoldsGroups, IsDamaged, entries_of}
use Rattle.fp_model.specs.Items.{with_items, items_of}
use Rattle.fp_model.specs.LogText.{Front, first_gate}
use Rattle.log_groups.specs.Images.{BeginsFor, HoldsFor}
use Rattle.fp_model.specs.State.{start}
use Rattle.fp_restart.specs.Replayed.{HoldsFit}
use Rattle.fp_show.specs.DbText.{each_text, msdb_text}
use Rattle.fp_show.specs.GroupText.{group_text}
use Rattle.fp_site.specs.Disk.{Disk}
use Rattle.fp_site.specs.Moments.{Through}
use Rattle.site_texts.specs.Sent.{HasSentPart, SyncsAndSends}

-- the text of main storage databases: all that there is where no data entry database is defined
abbrev pub msdbs_text : Defs → List Msdb → List ℕ
msdbs_text defs msdbs = each_text msdb_text defs.msdbs msdbs

-- the databases that entries make of those that the definitions load
abbrev pub msdbs_behind : Defs → List Entry → List Msdb
msdbs_behind defs entries = with_items defs.msdbs (start defs).msdbs (items_of entries)

-- The text of the databases of a log: it begins with the front, in either format, and holds these groups, whose items
-- may be applied, up to a gate that isn't open.
pub record IsTextOf (defs : Defs) (front : Front) (log text : List ℕ) : Type 0 where
  pub groups : List (List Entry)
  pub gate : ℕ
  pub begins : BeginsFor front log
  pub holds : HoldsFit defs log (first_gate front) gate groups
  pub closed : slice_index log gate ≢ 1
  pub is_text : text ≡ msdbs_text defs (msdbs_behind defs (entries_of groups))

-- the text of groups, from this number on, whose first entry has this place in the log
abbrev pub groups_shown : ℕ → ℕ → List (List Entry) → List ℕ
groups_shown number first [] = []
groups_shown number first (group ∷ groups) =
    group_text number first group ++ groups_shown (number + 1) (first + length group) groups

-- the text of a log's groups
abbrev pub log_shown : List (List Entry) → List ℕ
log_shown groups = groups_shown 0 0 groups

-- The text of the whole log was sent: of all its groups up to a gate that isn't open.
pub record IsLogSent (front : Front) (old new : Disk) : Type 0 where
  pub groups : List (List Entry)
  pub gate : ℕ
  pub holds : HoldsFor front (old.contents 0) groups gate
  pub sent : new.sent ≡ old.sent ++ log_shown groups

-- The text of the groups before a damaged one was sent.
pub record IsSentToDamage (front : Front) (at : ℕ) (old new : Disk) : Type 0 where
  pub groups : List (List Entry)
  pub begins : BeginsFor front (old.contents 0)
  pub holds : HoldsGroups (old.contents 0) (first_gate front) groups at
  pub damaged : IsDamaged (old.contents 0) at
  pub sent : new.sent ≡ old.sent ++ log_shown groups

-- Whatever the answer is, a first part of the text of groups that the log holds was sent, none of a log with another
-- front, and nothing else changed, at no moment.
pub record SendsGroups (front : Front) (old new : Disk) : Type 0 where
  pub groups : List (List Entry)
  pub gate : ℕ
  pub begins : (groups ≡ []) ⊎ BeginsFor front (old.contents 0)
  pub holds : HoldsGroups (old.contents 0) (first_gate front) groups gate
  pub sent : HasSentPart old new (log_shown groups)

-- The text of the databases was sent whole.
pub record IsDbSent (defs : Defs) (front : Front) (old new : Disk) : Type 0 where
  pub text : List ℕ
  pub is : IsTextOf defs front (old.contents 0) text
  pub sent : new.sent ≡ old.sent ++ text

-- Whatever the answer is, a first part of the text of the databases was sent, nothing where the log has none, and no
-- contents changed; a crash at any moment leaves a first part sent, and the log as before or as a sync leaves it.
pub record SendsDb (defs : Defs) (front : Front) (old new : Disk) : Type 0 where
  pub text : List ℕ
  pub is : (text ≡ []) ⊎ IsTextOf defs front (old.contents 0) text
  pub count : ℕ
  pub sent : new.sent ≡ old.sent ++ take count text
  pub contents : (set : ℕ) → new.contents set ≡ old.contents set
  pub crash : Through old new (SyncsAndSends old text)

-- Each byte of the log is read once: up to the byte behind its end, of a log that can be read up to its first gate that
-- isn't open, and of one with another front no more than the front has.
pub record ReadsOnce (front : Front) (log : List ℕ) (before now : ℕ) : Type 0 where
  pub all : now ≤ before + length log + 1
  pub up_to : (groups : List (List Entry)) (gate : ℕ) → HoldsFor front log groups gate → now ≤ before + gate + 1
  pub of_others : ¬ (BeginsFor front log) → now ≤ before + first_gate front
