-- The files of a folder, and the output.
use Rattle.std.specs.Prelude.{ℕ, List, [], ◌++◌, codes, ◌==◌, if◌then◌else◌}
use Rattle.std.specs.Fmt.{decimal}
use Rattle.fp_source.specs.declared.part.Part.{Part}
use Rattle.fp_source.specs.declared.part.Part.TheVariants.{Definitions, Scripts, Schedule, Messages}
use Rattle.fp_site.specs.Disk.{Disk}

-- the name of a data set's file
abbrev pub data_set_name : ℕ → List ℕ
data_set_name set =
    if set == 0 then codes "log" else
    if set == 1 then codes "ckpt1" else
    if set == 2 then codes "ckpt2" else
    codes "area" ++ decimal set

-- the name of a part's file
abbrev pub part_file_name : Part → List ℕ
part_file_name Definitions = codes "defs.toml"
part_file_name Scripts = codes "scripts.txt"
part_file_name Schedule = codes "schedule.txt"
part_file_name Messages = codes "messages.txt"

-- what a site tells that tells nothing
abbrev pub untold : Disk
untold = record {
  contents = λ set. [];
  sent = [];
  tells_sent = ⊥;
  may_leave = λ s. ⊥;
  moment = 0;
  left_since =
      λ t s. ⊥;
}
