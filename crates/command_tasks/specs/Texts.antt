-- What the program says on standard error.
use Rattle.std.specs.Prelude.{ℕ, List, [], ◌++◌, codes}
use Rattle.std.specs.Fmt.{decimal, signed_decimal}
use Rattle.def_tables.specs.declared.fault.DefsFault.{DefsFault}
use Rattle.def_tables.specs.declared.fault.DefsFault.TheVariants as bad
use Rattle.fp_model.specs.Texts.{trimmed}
use Rattle.fp_schedule.specs.declared.fault.ScheduleFault.{ScheduleFault}
use Rattle.fp_schedule.specs.declared.fault.ScheduleFault.TheVariants as unfit
use Rattle.fp_model.specs.declared.definitions.Kind.{Kind}
use Rattle.fp_model.specs.declared.definitions.Kind.TheVariants.{Fold, Range}
use Rattle.fp_source.specs.declared.part.Part.{Part}
use Rattle.fp_source.specs.declared.part.Part.TheVariants as part
use Rattle.command_tasks.specs.declared.status.Status.{Status}
use Rattle.command_tasks.specs.declared.status.Status.TheVariants.{Done, Usage, Definitions, Scripts, Schedule, ReadFault, SiteFault, Foreign, Damaged, Line, NoMemory, NotBuilt, OldFormat, Illegal}
use Rattle.txn_lang.specs.declared.fault.ScriptFault.{ScriptFault}
use Rattle.txn_lang.specs.declared.fault.ScriptFault.TheVariants as wrong

abbrev pub part_name : Part → List ℕ
part_name part.Definitions = codes "definitions"
part_name part.Scripts = codes "scripts"
part_name part.Schedule = codes "schedule"
part_name part.Messages = codes "messages"

abbrev pub kind_name : Kind → List ℕ
kind_name Fold = codes "FOLD"
kind_name Range = codes "RANGE"

-- what is said of a fault of the definitions
abbrev pub definitions_text : DefsFault → List ℕ
definitions_text bad.NotToml = codes "not TOML"
definitions_text (bad.Missing key) = codes "missing " ++ key
definitions_text (bad.Unknown key) = codes "unknown " ++ key
definitions_text (bad.OutOfLimit key value) = key ++ codes " out of limit: " ++ signed_decimal value
definitions_text (bad.Twice text) = codes "twice " ++ text
definitions_text (bad.BadField key) = codes "bad field " ++ key
definitions_text (bad.NoExit kind) = codes "no exit " ++ kind_name kind
definitions_text bad.TooLong = codes "too long"
definitions_text bad.Memory = codes "no memory"

-- what is said of a fault of the scripts
abbrev pub scripts_text : ScriptFault → List ℕ
scripts_text (wrong.Syntax line) = codes "syntax at line " ++ decimal line
scripts_text (wrong.UnknownName line) = codes "unknown name at line " ++ decimal line
scripts_text (wrong.TooDear name cost) = codes "transaction " ++ trimmed name.0 ++ codes " costs " ++ decimal cost
scripts_text (wrong.Twice name) = codes "transaction " ++ trimmed name.0 ++ codes " twice"
scripts_text wrong.TooLong = codes "too long"
scripts_text wrong.Memory = codes "no memory"

-- what is said of a fault of the schedule
abbrev pub schedule_text : ScheduleFault → List ℕ
schedule_text (unfit.BadToken place) = codes "bad token " ++ decimal place
schedule_text unfit.TooMany = codes "too many tokens"
schedule_text unfit.TooLong = codes "too long"
schedule_text unfit.Memory = codes "no memory"

-- what is said of a status, without a newline; nothing of Done
abbrev pub fault_text : Status → List ℕ
fault_text Done = []
fault_text Usage = codes "usage: ims_fp define DIR | run DIR | show DIR | log DIR | migrate DIR | audit DIR"
fault_text (Definitions fault) = codes "definitions: " ++ definitions_text fault
fault_text (Scripts fault) = codes "scripts: " ++ scripts_text fault
fault_text (Schedule fault) = codes "schedule: " ++ schedule_text fault
fault_text ReadFault = codes "read fault"
fault_text SiteFault = codes "site fault"
fault_text Foreign = codes "foreign log"
fault_text (Damaged set at) = codes "damaged: data set " ++ decimal set ++ codes " at " ++ decimal at
fault_text (Line number) = codes "messages: line " ++ decimal number
fault_text NoMemory = codes "no memory"
fault_text (NotBuilt part) = codes "not built: " ++ part_name part
fault_text OldFormat = codes "old format"
fault_text (Illegal entry) = codes "illegal entry " ++ decimal entry

-- its number, with which the program ends
abbrev pub number_of : Status → ℕ
number_of Done = 0
number_of Usage = 1
number_of (Definitions fault) = 2
number_of (Scripts fault) = 3
number_of (Schedule fault) = 4
number_of ReadFault = 5
number_of SiteFault = 6
number_of Foreign = 7
number_of (Damaged set at) = 8
number_of (Line number) = 9
number_of NoMemory = 10
number_of (NotBuilt part) = 11
number_of OldFormat = 12
number_of (Illegal entry) = 13
