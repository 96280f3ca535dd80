-- What a log is audited by, and what the databases of an audit keep while it goes on.
use Rattle.std.specs.Prelude.{◌≡◌, ◌≤◌, ⊤, ℕ, List, true}
use Rattle.std.specs.List.{AllByRecursion}
use Rattle.fp_exits.specs.Kinds.{Kinds, has_kind}
use Rattle.fp_model.specs.declared.database.Dedb.{Dedb}
use Rattle.fp_model.specs.declared.definitions.DedbDef.{DedbDef}
use Rattle.fp_model.specs.declared.definitions.Defs.{Defs}
use Rattle.fp_model.specs.declared.scripts.Script.{Script}
use Rattle.fp_model.specs.Asking.{full_cost}
use Rattle.fp_model.specs.WellFormed.{AreDefs}
use Rattle.past_anchors.specs.Databases.{AreDedbsOf}
use Rattle.past_segments.specs.Pasts.{ArePastsOf}
use Rattle.past_segments.specs.Times.{IsSettledBy, Past}
use Rattle.txn_lang.specs.Suiting.{all_suit}
use Rattle.fp_audit.specs.declared.verdict.Verdict.{Verdict}
use Rattle.fp_audit.specs.declared.verdict.Verdict.TheVariants as verdict

-- Definitions that were read, and scripts that were read under them: their calls fit the databases that they name, and
-- none makes more than 10,000 of them.
pub record CanAudit (defs : Defs) (scripts : List Script) : Type 0 where
  pub good : AreDefs defs
  pub suit : AllByRecursion (λ script. all_suit defs script.statements ≡ true) scripts
  pub cheap : AllByRecursion (λ script. full_cost script.statements ≤ 10000) scripts

-- the exits have the spreaders that the definitions name
abbrev pub AreSpread : Defs → Kinds → Type 0
AreSpread defs exits =
    AllByRecursion (λ (dedb : DedbDef). has_kind exits.spreaders dedb.randomizer ≡ true) defs.dedbs

-- The segments are those of the main storage databases at every place, and none stands from behind this one; the data
-- entry databases have their shape.
pub record AreReady (defs : Defs) (place : ℕ) (pasts : List Past) (dedbs : List Dedb) : Type 0 where
  pub are : ArePastsOf defs.msdbs pasts
  pub settled : AllByRecursion (IsSettledBy place) pasts
  pub shape : AreDedbsOf defs dedbs

-- while it goes on
abbrev pub IfLegal : Verdict → Type 0 → Type 0
IfLegal verdict.Legal P = P
IfLegal verdict.Illegal P = ⊤
IfLegal verdict.Spent P = ⊤
