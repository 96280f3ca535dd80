-- The lines of the messages that are still to come.
use Rattle.std.specs.Prelude.{◌≡◌, ℕ, ◌+◌, ◌-◌, List, ◌++◌, take, drop, Option, slice_get, filter_map}
use Rattle.std.specs.List.{enumerate_from}
use Rattle.fp_model.specs.Messages.{LineFault, lines_of, raw_lines, fault_of_line}
use Rattle.message_lines.specs.declared.lines.LineFault.{LineFault as Fault}
use Rattle.message_lines.specs.declared.lines.LineFault.TheVariants.{Failed}
use Rattle.message_lines.specs.declared.lines.Lines.{Lines}
use Rattle.fp_lists.specs.Faults.{Rose}

-- the bytes that were read and not given
abbrev pub buffered : Lines → List ℕ
buffered it = take (it.end - it.at) (drop it.at it.block.items)

-- how many lines were given
abbrev pub lines_given : Lines → ℕ
lines_given it = it.given

-- the bytes ahead, where this is left of the source
abbrev pub to_come : Lines → List ℕ → List ℕ
to_come it left = buffered it ++ left

-- the lines ahead
abbrev pub lines_ahead : Lines → List ℕ → List (List ℕ)
lines_ahead it left = lines_of (to_come it left)

-- why the first line that isn't taken isn't, of lines that are numbered from this number on
abbrev pub fault_from : ℕ → List (List ℕ) → Option LineFault
fault_from number lines = slice_get (filter_map (λ line. fault_of_line line.0 line.1) (enumerate_from number lines)) 0

-- the fault ahead
abbrev pub fault_ahead : Lines → List ℕ → Option LineFault
fault_ahead it left = fault_from (lines_given it + 1) (raw_lines (to_come it left))

-- Why no line is given, by the source's count of faults: it rose where a read failed, and else it stayed.
abbrev pub IsCausedBy : ℕ → ℕ → Fault → Type 0
IsCausedBy before now Failed = Rose before now
IsCausedBy before now _ = now ≡ before
