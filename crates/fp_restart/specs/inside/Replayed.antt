-- What bodies and proofs need of Replayed, beside what contracts say.
use Rattle.std.specs.Prelude.{◌≡◌, ℕ, List, ◌++◌, length}
use Rattle.fp_model.specs.declared.database.Msdb.{Msdb}
use Rattle.fp_model.specs.declared.definitions.Defs.{Defs}
use Rattle.fp_model.specs.declared.log.Entry.{Entry}
use Rattle.fp_model.specs.Groups.{entries_of}
use Rattle.fp_model.specs.Items.{AreFit, with_items, items_of}
use Rattle.fp_model.specs.Lasts.{format_at, lasts_behind}
use Rattle.log_groups.specs.Reads.{HasGroup}
use Rattle.fp_restart.specs.declared.begun.Begun.{Begun}
use Rattle.fp_restart.specs.declared.numbers.Numbers.{Numbers}
use Rattle.fp_restart.specs.inside.Begun.{IsBegunBy}
use Rattle.fp_restart.specs.Replayed.{IsReplayed, Progress}

-- behind these entries the format and the numbers are those from before with theirs
pub record HasNumbersOf (entries : List Entry) (old new : Numbers) : Type 0 where
  pub format : new.format ≡ format_at old.format entries
  pub lasts : new.lasts.terminals ≡ lasts_behind old.format entries old.lasts.terminals

-- so they are behind some entries, of this number
pub record HasNumbersOfSome (count : ℕ) (old new : Numbers) : Type 0 where
  pub entries : List Entry
  pub count_is : count ≡ length entries
  pub numbers : HasNumbersOf entries old new

module _ (defs : Defs) (log : List ℕ) where
  -- the group at a place is whole, its items may be applied behind those of earlier entries, the intervals begun are
  -- those of all of these, the numbers are those from before with the group's, and the databases now are those from
  -- before with the group's items
  pub record IsTaken (earlier : List Entry) (at next count : ℕ) (begun : Begun) (old new : Numbers)
      (before now : List Msdb) : Type 0 where
    pub entries : List Entry
    pub group : HasGroup log at entries next
    pub fit : AreFit defs (items_of earlier ++ items_of entries)
    pub intervals : IsBegunBy begun (items_of earlier ++ items_of entries)
    pub count_is : count ≡ length entries
    pub numbers : HasNumbersOf entries old new
    pub msdbs : now ≡ with_items defs.msdbs before (items_of entries)

  -- the log was replayed up to that place, and the intervals begun are those that the items name
  pub record IsFollowed (way : Progress) (begun : Begun) (before now : List Msdb) : Type 0 where
    pub replayed : IsReplayed defs log way before now
    pub intervals : IsBegunBy begun (items_of (entries_of replayed.groups))
