-- What one more event leaves of an engine that was reached.
use Rattle.std.proofs.Common.{◌≡◌, List, subst, sym, ℕ}
use Rattle.drain_laws.proofs.OfSystem.{turn_of}
use Rattle.drain_laws.proofs.Rounds.{relined}
use Rattle.drain_laws.specs.Live.{IsReached}
use Rattle.drain_laws.specs.ProductGauge.{gauge_of}
use Rattle.fp_core.specs.Draining.{IsReachedBy}
use Rattle.fp_core.specs.Relation.{rules_in}
use Rattle.fp_core.specs.Turning.{Turned}
use Rattle.fp_core.specs.declared.did.Did.{Did}
use Rattle.fp_core.specs.declared.engine.Engine.{Engine}
use Rattle.fp_model.specs.Machine.{Machine}
use Rattle.fp_model.specs.Rules.{Rules}
use Rattle.fp_model.specs.Turns.{Turn}
use Rattle.fp_model.specs.declared.definitions.Defs.{Defs}
use Rattle.fp_model.specs.declared.events.Event.{Event}

-- behind a turn
pub reached_step : (old new : Engine) (event : Event) (m : Machine) (lines : List (List ℕ)) (given : Did)
    → rules_in new ≡ rules_in old
    → new.defs.now ≡ old.defs.now
    → IsReachedBy old m
    → Turned event (record m { lines = lines }) new given
    → (m2 : Machine) × IsReachedBy new m2
reached_step old new event m lines given same defs before turned =
    let setup = before.stands.setup in
    let here : Machine = record m { lines = lines } in
    let after : Machine = turned.after in
    let turn : Turn (rules_in old) here event turned.environment after =
    subst (λ (r : Rules). Turn r here event turned.environment after) same turned.turn in
    let reached : IsReached (rules_in old) (gauge_of old.defs.now) after =
    turn_of old.defs.now old.scripts.now.scripts setup.defined setup.cheap here event turned.environment after
    (relined (rules_in old) (gauge_of old.defs.now) m lines before.reached) turn in
    let under : IsReached (rules_in new) (gauge_of old.defs.now) after =
    subst (λ (r : Rules). IsReached r (gauge_of old.defs.now) after) (sym same) reached in (
      after,
      record {
        stands = turned.stands;
        reached = subst (λ (d : Defs). IsReached (rules_in new) (gauge_of d) after) (sym defs) under;
      },
    )
