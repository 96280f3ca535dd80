-- The groups of a log, sent one after another.
use Rattle.std.specs.Prelude.{◌≡◌, ◌≢◌, ◌⊎◌, ℕ, ◌+◌, List, ◌++◌, length, slice_index}
use Rattle.fp_model.specs.declared.log.Entry.{Entry}
use Rattle.fp_model.specs.Groups.{HoldsGroups, IsDamaged, entries_of}
use Rattle.fp_show.specs.GroupText.{group_text}
use Rattle.fp_site.specs.Disk.{Disk, Stays}
use Rattle.log_groups.specs.Reads.{HasGroup}
use Rattle.site_texts.specs.Sent.{HasSent, HasSentPart}
use Rattle.site_texts.specs.Texts.{log_shown}
use Rattle.site_texts.specs.declared.groups.Place.{Place}

-- the group at a place was sent, and the next place is behind it
pub record IsOneSent (place next : Place) (old new : Disk) : Type 0 where
  pub entries : List Entry
  pub group : HasGroup (old.contents 0) place.at entries next.at
  pub groups : next.groups ≡ place.groups + 1
  pub count : next.entries ≡ place.entries + length entries
  pub sent : HasSent old new (group_text place.groups place.entries entries)

-- a first part of the text of the group at a place was sent
pub record IsPartSent (place : Place) (old new : Disk) : Type 0 where
  pub entries : List Entry
  pub next : ℕ
  pub group : HasGroup (old.contents 0) place.at entries next
  pub sent : HasSentPart old new (group_text place.groups place.entries entries)

-- so it was, or nothing changed
abbrev pub SendsOne : Place → Disk → Disk → Type 0
SendsOne place old new = Stays old new ⊎ IsPartSent place old new

-- all groups from the first gate up to a place were sent
pub record AreSent (first : ℕ) (place : Place) (old new : Disk) : Type 0 where
  pub groups : List (List Entry)
  pub holds : HoldsGroups (old.contents 0) first groups place.at
  pub number : place.groups ≡ length groups
  pub count : place.entries ≡ length (entries_of groups)
  pub sent : HasSent old new (log_shown groups)

-- all groups from the first gate up to one that isn't open were sent
pub record AreAllSent (first : ℕ) (old new : Disk) : Type 0 where
  pub groups : List (List Entry)
  pub gate : ℕ
  pub holds : HoldsGroups (old.contents 0) first groups gate
  pub closed : slice_index (old.contents 0) gate ≢ 1
  pub sent : new.sent ≡ old.sent ++ log_shown groups

-- all groups before a damaged one were sent
pub record AreSentToDamage (first at : ℕ) (old new : Disk) : Type 0 where
  pub groups : List (List Entry)
  pub holds : HoldsGroups (old.contents 0) first groups at
  pub damaged : IsDamaged (old.contents 0) at
  pub sent : new.sent ≡ old.sent ++ log_shown groups

-- whatever the answer is, a first part of the text of groups from the first gate on was sent
pub record SendsFrom (first : ℕ) (old new : Disk) : Type 0 where
  pub groups : List (List Entry)
  pub gate : ℕ
  pub holds : HoldsGroups (old.contents 0) first groups gate
  pub sent : HasSentPart old new (log_shown groups)
