-- What is told of a call that failed.
use Rattle.std.specs.Prelude.{ℕ, List, ◌++◌, ◌≡◌, codes}
use Rattle.fp_files.specs.Files.{data_set_name, part_file_name}
use Rattle.fp_files.specs.declared.cause.Call.{Call}
use Rattle.fp_files.specs.declared.cause.Call.TheVariants as call
use Rattle.fp_files.specs.declared.cause.Place.{Place}
use Rattle.fp_files.specs.declared.cause.Place.TheVariants as place
use Rattle.fp_files.specs.declared.cause.Cause.{Cause}

-- the name of a call of the system
abbrev pub call_name : Call → List ℕ
call_name call.Lock = codes "lock"
call_name call.Open = codes "open"
call_name call.Length = codes "length"
call_name call.Read = codes "read"
call_name call.Write = codes "write"
call_name call.Sync = codes "sync"
call_name call.Rewrite = codes "rewrite"

-- what a call was made on, of the files of a folder
abbrev pub place_name : List ℕ → Place → List ℕ
place_name dir place.Folder = dir
place_name dir (place.DataSet set) = dir ++ (codes "/" ++ data_set_name set)
place_name dir (place.Part part) = dir ++ (codes "/" ++ part_file_name part)
place_name dir place.Output = codes "standard output"

-- The line names the file and the call; what the system said ends it.
pub record IsCauseLine (dir : List ℕ) (cause : Cause) (line : List ℕ) : Type 0 where
  pub reason : List ℕ
  pub is : line ≡ place_name dir cause.place ++ (codes ": " ++ (call_name cause.call ++ (codes ": " ++ reason)))
