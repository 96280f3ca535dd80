-- Steps that nothing befalls, and the machine after a lock is gained, and after a request is put.
use Rattle.std.proofs.Common.{ℕ, ◌∷◌}
use Rattle.fp_model.specs.Answers.{Needed}
use Rattle.fp_model.specs.Waiting.{without_region, with_request}
use Rattle.fp_model.specs.Machine.{Machine}
use Rattle.fp_model.specs.declared.events.Event.{Event}
use Rattle.fp_model.specs.Turns.{NoFault, as_lock}
use Rattle.fp_model.specs.Runs.{RunStep}
use Rattle.fp_rows.specs.States.{sample_rules}

abbrev pub calm : Event → Machine → RunStep
calm event m = record { event = event; environment = NoFault; after = m }

abbrev pub gained : ℕ → Needed → Machine → Machine
gained region needed m =
    record m { locks = as_lock sample_rules region needed ∷ m.locks; requests = without_region region m.requests }

abbrev pub waiting : ℕ → Needed → Machine → Machine
waiting region needed m = record m { requests = with_request (as_lock sample_rules region needed) m.requests }
