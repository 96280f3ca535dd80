-- Scripts that suit their definitions: each call names a database that is defined and, of a data entry database, segment
-- types that it has.
use Rattle.std.specs.Prelude.{List, length, Bool, true, false, ◌&&◌, nat_lt, nat_le}
use Rattle.std.specs.List.{list_all}
use Rattle.fp_model.specs.declared.definitions.Defs.{Defs}
use Rattle.fp_model.specs.declared.scripts.SsaText.{SsaText}
use Rattle.fp_model.specs.declared.scripts.Statement.{Statement}
use Rattle.fp_model.specs.declared.scripts.Statement.TheOpen.{Statement-F, Set, If, Repeat, Break, Reply, Roll, Get, Fld, Isrt, Repl, Dlet}
use Rattle.fp_model.specs.declared.scripts.Statement.TheFolds.{fold-Statement}
use Rattle.fp_model.specs.Calls.{Target, OnMsdb, OnDedb, Nowhere, target_of}
use Rattle.fp_model.specs.FitCalls.{is_some_few}

abbrev pub is_defined : Target → Bool
is_defined (OnMsdb def msdb) = true
is_defined (OnDedb def dedb) = true
is_defined Nowhere = false

-- segment types that a data entry database has; those of a main storage database aren't looked at
abbrev pub has_types : Target → List SsaText → Bool
has_types (OnMsdb def msdb) ssas = true
has_types (OnDedb def dedb) ssas = list_all (λ ssa. nat_lt ssa.segment (length def.segments)) ssas
has_types Nowhere ssas = false

-- the type of a new segment is named last
abbrev pub names_new : Target → List SsaText → Bool
names_new (OnMsdb def msdb) ssas = true
names_new (OnDedb def dedb) ssas = nat_le 1 (length ssas)
names_new Nowhere ssas = false

-- one statement, with the answers for the statements in it
abbrev pub suits_step : Defs → Statement-F Bool → Bool
suits_step defs (Set variable first rest) = true
suits_step defs (If left comparison right taken otherwise) =
    list_all (λ suits. suits) taken && list_all (λ suits. suits) otherwise
suits_step defs (Repeat n body) = list_all (λ suits. suits) body
suits_step defs Break = true
suits_step defs (Reply operands) = true
suits_step defs (Roll code) = true
suits_step defs (Get get hold db ssas) = has_types (target_of defs db) ssas
suits_step defs (Fld db key fsas) = is_defined (target_of defs db) && is_some_few fsas
suits_step defs (Isrt db ssas fields) = has_types (target_of defs db) ssas && names_new (target_of defs db) ssas
suits_step defs (Repl db fields) = is_defined (target_of defs db)
suits_step defs (Dlet db) = is_defined (target_of defs db)

abbrev pub suits_statement : Defs → Statement → Bool
suits_statement defs = fold-Statement Bool (suits_step defs)

abbrev pub all_suit : Defs → List Statement → Bool
all_suit defs statements = list_all (suits_statement defs) statements
