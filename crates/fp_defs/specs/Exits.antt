-- The definitions that a text is for an installation, which has some kinds of exit and lacks others.
use Rattle.std.specs.Prelude.{ℕ, List, map, not, if◌then◌else◌, Option, Some, find, Result, Ok, Err}
use Rattle.std.specs.Option.{option_map_or}
use Rattle.fp_model.specs.declared.definitions.Kind.{Kind}
use Rattle.fp_model.specs.declared.definitions.Defs.{Defs}
use Rattle.fp_exits.specs.Kinds.{Kinds, has_kind}
use Rattle.fp_model.specs.Readings.{◌>>=◌}
use Rattle.fp_defs.specs.Whole.{defs_of}
use Rattle.def_tables.specs.declared.fault.DefsFault.{DefsFault}
use Rattle.def_tables.specs.declared.fault.DefsFault.TheVariants.{NoExit}

-- of the kinds that are needed, the first that isn't there
abbrev pub first_lacking : List Kind → List Kind → Option Kind
first_lacking there needed = find (λ kind. not (has_kind there kind)) needed

-- the first kind without its exit: the router's, and then each randomizer's in turn
abbrev pub lacking : Kinds → Defs → Option Kind
lacking kinds defs =
    if has_kind kinds.routers defs.router then first_lacking kinds.spreaders (map (λ d. d.randomizer) defs.dedbs)
    else Some defs.router

-- definitions that have their exits
abbrev pub with_exits : Kinds → Defs → Result Defs DefsFault
with_exits kinds defs = option_map_or (λ kind. Err (NoExit kind)) (lacking kinds defs) (Ok defs)

-- the definitions that a text is, and behind all faults of the text the first exit that is lacking
abbrev pub defs_for : Kinds → List ℕ → Result Defs DefsFault
defs_for kinds text = do
  defs ← defs_of text
  with_exits kinds defs
