-- A run with a wait, a cycle and a failed verify after which transactions begin again, a deadlock, an upgrade and a
-- Purge.
use Rattle.std.specs.Prelude.{ℕ, List, [], ◌∷◌, ◌++◌, Bool, true, false, codes, replicate, Option, Some, None}
use Rattle.fp_model.specs.declared.definitions.DedbDef.{DedbDef}
use Rattle.fp_model.specs.declared.definitions.Defs.{Defs}
use Rattle.fp_model.specs.declared.definitions.FieldDef.{FieldDef}
use Rattle.fp_model.specs.declared.definitions.FieldKind.TheVariants.{C}
use Rattle.fp_model.specs.declared.definitions.Kind.TheVariants.{Fold}
use Rattle.fp_model.specs.declared.definitions.MsdbDef.{MsdbDef}
use Rattle.fp_model.specs.declared.definitions.SegDef.{SegDef}
use Rattle.fp_model.specs.declared.calls.Get.TheVariants.{Unique}
use Rattle.fp_model.specs.declared.events.Event.{Event}
use Rattle.fp_model.specs.declared.events.Event.TheVariants.{In, Region, Log, Purge}
use Rattle.fp_model.specs.declared.log.Entry.{Entry}
use Rattle.fp_model.specs.declared.log.Outcome.{Outcome}
use Rattle.fp_model.specs.declared.log.Outcome.TheVariants as outcome
use Rattle.fp_model.specs.declared.name.Name.{Name}
use Rattle.fp_model.specs.declared.scripts.Operand.TheVariants.{Text}
use Rattle.fp_model.specs.declared.scripts.Script.{Script}
use Rattle.fp_model.specs.declared.scripts.Statement.{Statement, roll-Statement}
use Rattle.fp_model.specs.declared.scripts.Statement.TheOpen.{Reply, Get, Fld, Repl}
use Rattle.fp_model.specs.Texts.{padded}
use Rattle.fp_model.specs.State.{start}
use Rattle.fp_model.specs.History.{beginning}
use Rattle.fp_model.specs.Rules.{Rules}
use Rattle.fp_model.specs.Product.{rules_of}
use Rattle.fp_model.specs.Machine.{Machine, at_rest}
use Rattle.fp_model.specs.Turns.{Environment, NoFault}

abbrev pub named : List ℕ → Name
named letters = record { 0 = padded 8 letters }

-- a field of one character
abbrev pub letter_at : ℕ → List ℕ → FieldDef
letter_at at name = record { name = named name; kind = C; at = at; length = 1 }

-- M has two segments of two bytes, the first of which is the key
abbrev pub segments : MsdbDef
segments = record {
  name = named (codes "M");
  dynamic = false;
  fields = letter_at 0 (codes "K") ∷ letter_at 1 (codes "V") ∷ [];
  length = 2;
  load = codes "A0" ∷ codes "B0" ∷ [];
}

-- a segment type with that field alone
abbrev pub letter_segment : List ℕ → Option ℕ → Bool → FieldDef → SegDef
letter_segment name parent sequential field =
    record { name = named name; parent = parent; sequential = sequential; fields = field ∷ []; length = 1 }

-- D has one anchor, and a sequential part
abbrev pub roots : DedbDef
roots = record {
  name = named (codes "D");
  randomizer = Fold;
  ci = 512;
  segments =
      letter_segment (codes "R") None false (letter_at 0 (codes "K"))
      ∷ letter_segment (codes "S") (Some 0) true (letter_at 0 (codes "V"))
      ∷ [];
  areas = record { name = named (codes "AREA"); uows = 1; base = 1; overflow = 0; capacity = 2; copies = 1 } ∷ [];
}

abbrev pub sample_defs : Defs
sample_defs = record {
  regions = 1 ∷ 1 ∷ 1 ∷ [];
  router = Fold;
  log_group = 10;
  pool = 10;
  tries = 1;
  msdbs = segments ∷ [];
  dedbs = roots ∷ [];
  text = [];
}

-- ---- scripts

abbrev pub holds : List ℕ → Statement
holds key = roll-Statement (Get Unique true 0 (record { segment = 0; key = Some (Text key) } ∷ []))

-- a get of the first root, with a hold or without
abbrev pub first_root : Bool → Statement
first_root hold = roll-Statement (Get Unique hold 1 (record { segment = 0; key = None } ∷ []))

abbrev pub replies : List ℕ → Statement
replies text = roll-Statement (Reply (Text text ∷ []))

-- puts a value into the segment that is held
abbrev pub puts : List ℕ → Statement
puts value = roll-Statement (Repl 0 (record { field = named (codes "V"); value = Text value } ∷ []))

-- a field call on B that verifies its value
abbrev pub verifies : List ℕ → Statement
verifies value =
    roll-Statement (Fld 0 (Text (codes "B")) (record { field = named (codes "V"); op = 69; operand = Text value } ∷ []))

-- holds A and then B, and changes B
abbrev pub changing : Script
changing = record {
  name = named (codes "X");
  statements = holds (codes "A") ∷ holds (codes "B") ∷ puts (codes "1") ∷ replies (codes "CHANGED") ∷ [];
}

-- holds B and then A
abbrev pub crossing : Script
crossing = record {
  name = named (codes "Y");
  statements = holds (codes "B") ∷ holds (codes "A") ∷ replies (codes "CROSSED") ∷ [];
}

-- verifies that B is as it was loaded, and replies in any case
abbrev pub verifying : Script
verifying = record { name = named (codes "Z"); statements = verifies (codes "0") ∷ replies (codes "SEEN") ∷ [] }

-- looks at an anchor, and then holds it
abbrev pub upgrading : Script
upgrading = record {
  name = named (codes "U");
  statements = first_root false ∷ first_root true ∷ replies (codes "HELD") ∷ [];
}

abbrev pub sample_scripts : List Script
sample_scripts = changing ∷ crossing ∷ verifying ∷ upgrading ∷ []

abbrev pub sample_rules : Rules
sample_rules = rules_of sample_defs sample_scripts

-- ---- the run

abbrev pub the_lines : List (List ℕ)
the_lines = codes "T1 X" ∷ codes "T2 Y" ∷ codes "T3 Z" ∷ codes "T4 U" ∷ []

abbrev pub at_start : Machine
at_start = at_rest sample_rules the_lines (beginning 1 (start sample_defs))

-- Four lines are read and three regions begin.
abbrev pub beginning_events : List Event
beginning_events = In ∷ In ∷ In ∷ In ∷ Region 1 ∷ Region 2 ∷ Region 3 ∷ []

-- The first holds A, the second B, and the third looks at B. Then the first waits for B, and the second would wait for
-- A: it begins again, takes B once more, and is refused at the same cycle.
abbrev pub crossing_events : List Event
crossing_events =
    Region 1 ∷ Region 1 ∷ Region 2 ∷ Region 2 ∷ Region 3 ∷ Region 1 ∷ Region 2
    ∷ Region 2 ∷ Region 2 ∷ Region 2 ∷ []

-- The first holds B and changes it. The third meets the change at its end: it begins again, and sees the change.
abbrev pub changing_events : List Event
changing_events = Region 1 ∷ Region 1 ∷ Region 1 ∷ Region 1 ∷ Region 3 ∷ Region 3 ∷ Region 3 ∷ Region 3 ∷ []

-- The first region takes the fourth line, shares an anchor and takes it whole. Then the area, free again, is purged.
abbrev pub upgrading_events : List Event
upgrading_events = Region 1 ∷ Region 1 ∷ Region 1 ∷ Region 1 ∷ Region 1 ∷ Region 1 ∷ Purge 3 1 ∷ Log ∷ []

abbrev pub the_events : List Event
the_events = beginning_events ++ crossing_events ++ changing_events ++ upgrading_events

-- nothing befalls a turn
abbrev pub no_faults : List Environment
no_faults = replicate 33 NoFault

-- an entry without items
abbrev pub entry : ℕ → List ℕ → Outcome → List ℕ → List ℕ → Entry
entry from line end reply notes =
    record { from = from; outcome = end; line = line; reply = reply; notes = notes; items = [] }

abbrev pub the_entries : List Entry
the_entries =
    entry 0 (codes "T2 Y") (outcome.Deadlock (2 ∷ 1 ∷ [])) [] []
    ∷ entry 0 (codes "T1 X") outcome.Done (codes "CHANGED") []
    ∷ entry 2 (codes "T3 Z") outcome.Done (codes "SEEN") (2 ∷ [])
    ∷ entry 3 (codes "T4 U") outcome.Done (codes "HELD") []
    ∷ entry 4 [] (outcome.Purge 3 1) [] []
    ∷ []
