use Rattle.std.proofs.Common.{◌≡◌, arith, subst}
use Rattle.std.proofs.lemmas.Grind.{common_steps}
use Rattle.std.specs.List.{AllByRecursion}
use Rattle.std.specs.Prelude.{filter_map}
use Rattle.fp_model.specs.Events.{IsEventOf}
use Rattle.fp_schedule.specs.Schedule.{event_of, tokens_of}
use Rattle.fp_schedule.proofs.EventLemmas.{all_fit}
use Rattle.fp_schedule.proofs.whole.read_events.Goals as goal

pub returns-clause-events : goal.returns-clause-events
returns-clause-events c none =
    let defs = c.args.defs.now in
    let tokens = tokens_of c.args.bytes.now in
    let same : filter_map (event_of defs) tokens ≡ c.loop-token.events = grind (arith, common_steps) in
    subst (AllByRecursion (IsEventOf defs)) same (all_fit defs none tokens)
