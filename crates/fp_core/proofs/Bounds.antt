-- How many rounds a drain may have.
use Rattle.std.proofs.Common.{◌≡◌, sym, subst, arith, ℕ, ◌+◌, ◌-◌, ◌<◌, ◌≤◌, List, [], ◌∷◌, length, Option, Some, None}
use Rattle.std.specs.Prelude.{sum_by}
use Rattle.std.specs.Option.{option_map_or}
use Rattle.std.proofs.lemmas.List.Sums.{sum_by-cons}
use Rattle.drain_laws.specs.Live.{IsReached}
use Rattle.drain_laws.specs.Measure.{active_in, one_if_active, work_of, work_with}
use Rattle.drain_laws.specs.ProductGauge.{gauge_of, weight_of_line}
use Rattle.drain_laws.proofs.OfSystem.{less_of, run_of, work_bound_of}
use Rattle.drain_laws.proofs.Rounds.{relined}
use Rattle.fp_model.specs.declared.definitions.Defs.{Defs}
use Rattle.fp_model.specs.Machine.{Active, Idle, Machine, Region}
use Rattle.fp_model.specs.Rules.{Rules}
use Rattle.message_lines.specs.Lines.{lines_given}
use Rattle.message_lines.specs.declared.lines.Lines.{Lines}
use Rattle.fp_core.specs.declared.engine.Engine.{Engine}
use Rattle.fp_core.specs.Draining.{IsReachedBy}
use Rattle.fp_core.specs.Relation.{StandsFor, rules_in}
use Rattle.fp_core.specs.inside.Rounding.{HasRound, NeedsFewer, work_ahead}
use Rattle.fp_core.proofs.Steps.{regions_long}

-- what is reached under the rules and definitions of one engine is so under those of another that has the same
pub reached_too : (old new : Engine) (m : Machine) → rules_in new ≡ rules_in old → new.defs.now ≡ old.defs.now
    → IsReached (rules_in old) (gauge_of old.defs.now) m
    → IsReached (rules_in new) (gauge_of new.defs.now) m
reached_too old new m same defs h =
    subst (λ (r : Rules). IsReached r (gauge_of new.defs.now) m) (sym same)
    (subst (λ (d : Defs). IsReached (rules_in old) (gauge_of d) m) (sym defs) h)

-- it doesn't depend on the lines that are left
pub with_lines_reached : (old new : Engine) (m : Machine) (lines : List (List ℕ))
    → rules_in new ≡ rules_in old → new.defs.now ≡ old.defs.now → IsReachedBy old m
    → StandsFor new (record m { lines = lines }) → IsReachedBy new (record m { lines = lines })
with_lines_reached old new m lines same defs h stands = record {
  stands = stands;
  reached = reached_too old new (record m { lines = lines }) same defs
      (relined (rules_in old) (gauge_of old.defs.now) m lines h.reached);
}

-- where a line was read there is one fewer, and else as many
lines_more : (g1 g2 n1 n2 : ℕ) → g1 ≤ 1000000 → g2 ≤ 1000000 → g2 + n2 ≡ g1 + n1
    → (1000000 - g1) + n2 ≡ (1000000 - g2) + n1
lines_more g1 g2 n1 n2 few few2 e = omega (arith, few, few2, e)

-- A round more, and one fewer is needed behind it.
pub needs_fewer : (old new : Engine) (old_lines lines : Lines) (rounds left : ℕ)
    → rules_in new ≡ rules_in old → new.defs.now ≡ old.defs.now → rounds ≡ left + 1
    → (s : NeedsFewer old old_lines rounds) (ahead : List (List ℕ))
    → HasRound old.defs.now (rules_in old) (record s.m { lines = ahead }) old_lines lines new
    → NeedsFewer new lines left
needs_fewer old new old_lines lines rounds left same defs e s ahead r =
    let m : Machine = record s.m { lines = ahead } in
    let setup = s.reached.stands.setup in
    let before = relined (rules_in old) (gauge_of old.defs.now) s.m ahead s.reached.reached in
    let less = less_of old.defs.now old.scripts.now.scripts setup.defined setup.cheap m r.steps r.after
    (1000000 - lines_given old_lines) (1000000 - lines_given lines) before r.goes
    (lines_more (lines_given old_lines) (lines_given lines) (length ahead) (length r.after.lines) old_lines.few
    lines.few r.given) in
    let there : work_ahead new lines r.after < work_with (rules_in old) (gauge_of old.defs.now)
    (1000000 - lines_given old_lines) m
    = subst (λ (k : Rules). work_with k (gauge_of new.defs.now) (1000000 - lines_given lines) r.after
    < work_with (rules_in old) (gauge_of old.defs.now) (1000000 - lines_given old_lines) m) (sym same)
    (subst (λ (d : Defs). work_with (rules_in old) (gauge_of d) (1000000 - lines_given lines) r.after
    < work_with (rules_in old) (gauge_of old.defs.now) (1000000 - lines_given old_lines) m) (sym defs) less) in
    let few : work_with (rules_in old) (gauge_of old.defs.now) (1000000 - lines_given old_lines) m < rounds = s.few in
    record {
      m = r.after;
      reached = record {
        stands = r.stands;
        reached = reached_too old new r.after same defs
            (run_of old.defs.now old.scripts.now.scripts setup.defined setup.cheap m r.steps r.after before
            r.goes.runs);
      };
      few = omega (arith, there, few, e);
    }

-- ---- at first

-- no more regions are active than there are
few_active : (regions : List Region) → active_in regions ≤ length regions
few_active [] = omega arith
few_active (Idle ∷ rs) = omega (arith, few_active rs, sum_by-cons one_if_active Idle rs)
few_active (Active t ∷ rs) = omega (arith, few_active rs, sum_by-cons one_if_active (Active t) rs)

few_held : (held : Option (List ℕ)) → option_map_or (λ (line : List ℕ). 1) held 0 ≤ 1
few_held None = omega arith
few_held (Some line) = omega arith

-- what is counted bounds what is left
pub counted : (engine : Engine) (lines : Lines) (m : Machine) (messages active unsealed : ℕ) → IsReachedBy engine m
    → sum_by length engine.queues.queues ≤ messages
    → length engine.regions ≤ active
    → length engine.log.unsealed ≤ unsealed
    → work_ahead engine lines m ≤ work_of (weight_of_line engine.defs.now.tries) 1000001 messages active unsealed
counted engine lines m messages active unsealed h few_messages few_regions few_unsealed =
    let s = h.stands in
    let setup = s.setup in
    work_bound_of engine.defs.now engine.scripts.now.scripts setup.defined setup.cheap m
    (1000000 - lines_given lines) 1000001
    messages active unsealed h.reached
    (omega (arith, few_held m.held))
    (subst (λ qs. sum_by length qs ≤ messages) s.queues few_messages)
    (omega (arith, few_active m.regions, few_regions, s.numbers, regions_long engine m s))
    (omega (arith, s.count, s.sealed, few_unsealed))
