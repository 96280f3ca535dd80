-- Where areas stand for databases, and how an entry leads on to the next.
use Rattle.std.specs.Prelude.{List}
use Rattle.fp_site.specs.Disk.{Disk}
use Rattle.fp_model.specs.declared.database.Db.{Db}
use Rattle.area_redo.specs.Redo.{AreaBytes}
use Rattle.area_redo.specs.Standing.{Way}
use Rattle.area_states.specs.Databases.{ForStates}
use Rattle.dedb_area.specs.Standing.{AreasStand, Holding}

-- Where areas stand in a run, with the databases that they stand for: the first of these states behind the sealed entries,
-- and the next behind each that isn't sealed.
pub record DatabasesStand (way : Way) (bytes : AreaBytes) (states : List Db) (disk : Disk) (areas : Holding)
    : Type 0 where
  pub areas_stand : AreasStand way bytes disk areas
  pub states_stand : ForStates areas.places bytes way.unsealed states
