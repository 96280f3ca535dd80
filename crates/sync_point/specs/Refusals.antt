-- The entry of a line that is refused for what befell its region: it has neither notes nor detail.
use Rattle.std.specs.Prelude.{⊤, ℕ, ◌+◌, List, [], length}
use Rattle.fp_model.specs.declared.log.Entry.{Entry}
use Rattle.fp_model.specs.declared.log.Outcome.{Outcome}
use Rattle.fp_model.specs.declared.log.Outcome.TheVariants.{Device, Memory}

abbrev pub IsBare : Outcome → Type 0
IsBare Device = ⊤
IsBare Memory = ⊤
IsBare _ = ⊥

abbrev pub bare_entry : ℕ → Outcome → List ℕ → Entry
bare_entry from outcome line = record {
  from = from;
  outcome = outcome;
  line = line;
  reply = [];
  notes = [];
  items =
      [];
}

-- how many bytes it has in the log: 29 and its line
abbrev pub refusal_room : List ℕ → ℕ
refusal_room line = 29 + length line
