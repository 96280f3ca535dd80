-- What a log is run again by.
use Rattle.std.specs.Prelude.{◌≡◌, ◌≤◌, List, true}
use Rattle.std.specs.List.{AllByRecursion}
use Rattle.fp_exits.specs.Kinds.{Kinds, has_kind}
use Rattle.fp_model.specs.declared.definitions.DedbDef.{DedbDef}
use Rattle.fp_model.specs.declared.definitions.Defs.{Defs}
use Rattle.fp_model.specs.declared.scripts.Script.{Script}
use Rattle.fp_model.specs.Asking.{full_cost}
use Rattle.fp_model.specs.WellFormed.{AreDefs}
use Rattle.txn_lang.specs.Suiting.{all_suit}

-- Definitions that were read, with the exits that spread their databases, and scripts that were read under them: their
-- calls fit the databases that they name, and none makes more than 10,000 of them.
pub record IsSetup (defs : Defs) (exits : Kinds) (scripts : List Script) : Type 0 where
  pub good : AreDefs defs
  pub spread : AllByRecursion (λ (dedb : DedbDef). has_kind exits.spreaders dedb.randomizer ≡ true) defs.dedbs
  pub suit : AllByRecursion (λ script. all_suit defs script.statements ≡ true) scripts
  pub cheap : AllByRecursion (λ script. full_cost script.statements ≤ 10000) scripts
