-- The groups of a log, read and judged one after another.
use Rattle.std.specs.Prelude.{◌≡◌, ℕ, ◌+◌, ◌<◌, List, length, take, Option, None, Some}
use Rattle.fp_model.specs.declared.log.Entry.{Entry}
use Rattle.fp_model.specs.Groups.{HoldsGroups, IsDamaged, entries_of}
use Rattle.fp_model.specs.History.{History, beginning}
use Rattle.fp_model.specs.Rules.{Rules}
use Rattle.fp_model.specs.SerialHistory.{LeadsOn}
use Rattle.log_groups.specs.Reads.{HasGroup}
use Rattle.site_audit.specs.Legal.{IsFirstIllegal}
use Rattle.site_audit.specs.declared.auditing.Place.{Place}

-- Entries behind a history, of which the first has the place `first` in the log: the one at this place is the first that
-- isn't legal.
pub record IsFirstBehind (rules : Rules) (h : History) (entries : List Entry) (first place : ℕ) : Type 0 where
  pub count : ℕ
  pub here : place ≡ first + count
  pub there : count < length entries
  pub mid : History
  pub before : LeadsOn rules h (take count entries) mid
  pub never : (last : History) → ¬ (LeadsOn rules h (take (count + 1) entries) last)

-- What entries behind a history come to: they lead to one of which `stands` holds, or one of them is the first that
-- isn't legal.
abbrev pub ComesTo : Rules → (History → Type 0) → History → List Entry → ℕ → Option ℕ → Type 0
ComesTo rules stands h entries first None = (next : History) × (LeadsOn rules h entries next × stands next)
ComesTo rules stands h entries first (Some place) = IsFirstBehind rules h entries first place

-- The same behind a history of which `before` holds, where no entry before it was found illegal. Else that one stays the
-- first.
abbrev pub GoesOnTo : Rules → (before stands : History → Type 0) → List Entry → ℕ → Option ℕ → Option ℕ → Type 0
GoesOnTo rules before stands entries first None found =
    (h : History) → before h → ComesTo rules stands h entries first found
GoesOnTo rules before stands entries first (Some place) found = found ≡ Some place

-- What the entries behind a log's front come to.
abbrev pub AreJudged : Rules → ℕ → (History → Type 0) → List Entry → Option ℕ → Type 0
AreJudged rules format stands entries None =
    (h : History) × (LeadsOn rules (beginning format rules.start) entries h × stands h)
AreJudged rules format stands entries (Some place) = IsFirstIllegal rules format entries place

-- the group at a place was read and judged, and the next place is behind it
pub record IsOneRead (rules : Rules) (before stands : History → Type 0) (bytes : List ℕ) (place next : Place) : Type 0
  where
    pub entries : List Entry
    pub group : HasGroup bytes place.at entries next.at
    pub count : next.entries ≡ place.entries + length entries
    pub judged : GoesOnTo rules before stands entries place.entries place.illegal next.illegal

-- all groups from the first gate up to a place were read and judged
pub record AreRead (rules : Rules) (format : ℕ) (stands : History → Type 0) (bytes : List ℕ) (first : ℕ) (place : Place)
    : Type 0 where
  pub groups : List (List Entry)
  pub holds : HoldsGroups bytes first groups place.at
  pub count : place.entries ≡ length (entries_of groups)
  pub judged : AreJudged rules format stands (entries_of groups) place.illegal

-- the bytes hold groups from the first gate up to this one
pub record AreHeld (bytes : List ℕ) (first at : ℕ) : Type 0 where
  pub groups : List (List Entry)
  pub holds : HoldsGroups bytes first groups at

-- behind groups from the first gate on the bytes are damaged at this one
pub record AreBroken (bytes : List ℕ) (first at : ℕ) : Type 0 where
  pub groups : List (List Entry)
  pub holds : HoldsGroups bytes first groups at
  pub damaged : IsDamaged bytes at
