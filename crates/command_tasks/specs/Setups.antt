-- The setup that is made of definitions and scripts, and the events beside it.
use Rattle.std.specs.Prelude.{◌≡◌, ⊤, ℕ, ◌≤◌, List, [], true}
use Rattle.std.specs.List.{AllByRecursion}
use Rattle.fp_model.specs.Asking.{full_cost}
use Rattle.fp_model.specs.FitCalls.{are_fit}
use Rattle.fp_model.specs.LogText.{FitsFront}
use Rattle.fp_model.specs.WellFormed.{AreDefs}
use Rattle.fp_model.specs.declared.events.Event.{Event}
use Rattle.fp_source.specs.declared.part.Part.{Part}
use Rattle.command_tasks.specs.Parts.{Job, HasEvents, front_for}
use Rattle.command_words.specs.declared.words.Command.{Command}
use Rattle.command_words.specs.declared.words.Command.TheVariants.{Run}
use Rattle.command_tasks.specs.declared.parts.Setup.{Setup}
use Rattle.log_groups.specs.Images.{as_front}
use Rattle.txn_lang.specs.Grammar.{AreScriptsOf}

-- the job that it is of
abbrev pub job_of : Setup → Job
job_of setup = record { defs = setup.defs; scripts = setup.scripts.scripts; scripts_text = setup.scripts.text }

-- What holds of each. It has no data entry database, the calls of its scripts fit, and none makes more than 10,000 of
-- them; and a log of it can be made and restarted.
pub record IsSetup (setup : Setup) : Type 0 where
  pub are : AreDefs setup.defs
  pub no_dedbs : setup.defs.dedbs ≡ []
  pub scripts : AreScriptsOf setup.defs setup.scripts.text setup.scripts.scripts
  pub fit : AllByRecursion (λ script. are_fit setup.defs script.statements ≡ true) setup.scripts.scripts
  pub cheap : AllByRecursion (λ script. full_cost script.statements ≤ 10000) setup.scripts.scripts
  pub front : as_front setup.front ≡ front_for (job_of setup)
  pub fits : FitsFront (as_front setup.front)

-- the events that a command takes: of a run those of the schedule
abbrev pub HasEventsFor : Command → Job → (Part → List ℕ) → List Event → Type 0
HasEventsFor Run job left events = HasEvents job left events
HasEventsFor _ job left events = ⊤
