-- What is left to do, bounded by what a program counts.
use Rattle.std.proofs.Common.{◌≡◌, ℕ, suc, ◌+◌, ◌-◌, ◌*◌, ◌∙◌, ◌≤◌, List, [], ◌∷◌, Option, Some, None, refl, ap, subst, arith, slice_get}
use Rattle.std.specs.Option.{option_map_or}
use Rattle.std.proofs.lemmas.Grind.{common_steps}
use Rattle.std.proofs.lemmas.List.Sums.{sum_by-cons}
use Rattle.fp_model.specs.Rules.{Rules}
use Rattle.fp_model.specs.Waiting.{held_as}
use Rattle.fp_model.specs.Machine.{Region, Idle, Active, Machine, region_at}
use Rattle.drain_laws.specs.Measure.{Gauge, try_weight, region_weight, message_weight, held_weight, line_weight, sum_places, messages_in, unsealed_in, work_with, lines_held, one_if_active, active_in, work_of}
use Rattle.drain_laws.specs.Live.{EndLaws, IsReached}
use Rattle.drain_laws.proofs.Falls.{no_more_times, whole_within}

-- parts of a kind together
together : (a b c d w : ℕ) → (a + b + c + d) * w ≡ a * w + b * w + c * w + d * w
together a b c d w = grind (arith, common_steps)

-- a lighter weight
lighter : (n v w : ℕ) → v ≤ w → n * v ≤ n * w
lighter n v w h = grind (arith, common_steps, h)

module _ (rules : Rules) (gauge : Gauge) (laws : EndLaws rules gauge) (m : Machine)
    (h : IsReached rules gauge m) where
  abbrev weight : ℕ
  weight = line_weight rules gauge

  -- an active region has no more to do than a line
  region_within : (from : ℕ) (r : Region) → region_at m from ≡ Some r
      → region_weight rules gauge m.locks from r ≤ one_if_active r * weight
  region_within from Idle is = omega arith
  region_within from (Active t) is =
      let few = h.in_order.within from t is in
      let tries = no_more_times rules.tries (rules.tries - t.tries) (try_weight gauge) (omega arith) in
      let whole = whole_within rules gauge laws t (held_as m.locks from)
      (omega (arith, few, laws.calls t.message)) (h.live.few from t is) in
      omega (arith, tries, whole)

  regions_within : (from : ℕ) (regions : List Region)
      → ((i at : ℕ) (r : Region) → at ≡ from + i → slice_get regions i ≡ Some r → region_at m at ≡ Some r)
      → sum_places (region_weight rules gauge m.locks) from regions ≤ active_in regions * weight
  regions_within from [] there = omega arith
  regions_within from (r ∷ rs) there =
      let one = region_within from r (there 0 from r (omega arith) refl) in
      let rest = regions_within (from + 1) rs (λ i at q e is. there (suc i) at q (omega (arith, e)) is) in
      let parts : active_in (r ∷ rs) * weight ≡ one_if_active r * weight + active_in rs * weight
      = ap (λ (k : ℕ). k * weight) (sum_by-cons one_if_active r rs) ∙ grind (arith, common_steps) in
      omega (arith, one, rest, parts)

  held_within : (o : Option (List ℕ))
      → option_map_or (λ (line : List ℕ). held_weight rules gauge) o 0
      ≤ option_map_or (λ (line : List ℕ). 1) o 0 * weight
  held_within None = omega arith
  held_within (Some line) = omega arith

  at_place : (i at : ℕ) (r : Region) → at ≡ 1 + i → slice_get m.regions i ≡ Some r → region_at m at ≡ Some r
  at_place i at r e is =
      subst (λ (n : ℕ). region_at m n ≡ Some r) (let f : suc i ≡ at = omega (arith, e) in f) is

  -- The work is no more than a line's for each line, message and active region, and one for each unsealed entry.
  pub work_within : (unread lines messages active unsealed : ℕ)
      → unread + lines_held m ≤ lines
      → messages_in m.queues ≤ messages
      → active_in m.regions ≤ active
      → unsealed_in m ≤ unsealed
      → work_with rules gauge unread m ≤ work_of weight lines messages active unsealed
  work_within unread lines messages active unsealed few_lines few_messages few_active few_unsealed =
      let regions = regions_within 1 m.regions (λ i at r e is. at_place i at r e is) in
      let held = held_within m.held in
      let queued = lighter (messages_in m.queues) (message_weight rules gauge) weight (omega arith) in
      let parts = together unread (lines_held m) (messages_in m.queues) (active_in m.regions) weight in
      let whole = no_more_times (lines + messages + active)
      (unread + lines_held m + messages_in m.queues + active_in m.regions) weight
      (omega (arith, few_lines, few_messages, few_active)) in
      omega (arith, regions, held, queued, parts, whole, few_unsealed)
