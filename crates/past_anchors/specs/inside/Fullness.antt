-- What bodies and proofs need of Fullness, beside what contracts say.
use Rattle.std.specs.Prelude.{ℕ, List, length, filter, ◌&&◌, nat_lt, if◌then◌else◌, Option, Some, None}
use Rattle.fp_model.specs.Commit.{FillsPart, Settlement, ends_at, is_too_full, takes}
use Rattle.fp_model.specs.State.{Area}
use Rattle.fp_model.specs.declared.calls.SeqInsert.{SeqInsert}
use Rattle.fp_model.specs.declared.database.AreaEnds.{AreaEnds}
use Rattle.fp_model.specs.declared.database.Db.{Db}

-- an area of this data set, if it takes some of the inserts and is too full for them
abbrev pub full_at : Db → List SeqInsert → ℕ → Area → Option Settlement
full_at db inserts set area =
    let n : ℕ = length (filter (takes area) inserts) in
    let ends : AreaEnds = ends_at db area in
    if nat_lt 0 n && is_too_full area.def.capacity ends n
    then Some (FillsPart set ends.begin ends.end n)
    else None
