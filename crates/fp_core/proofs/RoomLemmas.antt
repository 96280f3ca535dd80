-- How much room the log keeps free for refusals.
use Rattle.std.proofs.Common.{◌≡◌, ap, subst, arith, ℕ, ◌+◌, ◌*◌, ◌≤◌, List, [], ◌∷◌, length, zero, suc, Some, slice_get}
use Rattle.std.specs.Prelude.{max, sum_by}
use Rattle.std.specs.List.{AllZip}
use Rattle.std.proofs.lemmas.List.Sums.{sum_by-cons}
use Rattle.std.proofs.lemmas.Option.{same_Some}
use Rattle.balancing.specs.Backlog.{queue_of}
use Rattle.fp_model.specs.declared.calls.Message.{Message}
use Rattle.fp_model.specs.declared.definitions.Defs.{Defs}
use Rattle.fp_model.specs.declared.scripts.Script.{Script}
use Rattle.fp_model.specs.Machine as machine
use Rattle.fp_model.specs.Machine.{Machine}
use Rattle.sync_point.specs.Refusals.{refusal_room}
use Rattle.fp_core.specs.declared.engine.Engine.{Engine}
use Rattle.fp_core.specs.declared.engine.Region.{Region}
use Rattle.fp_core.specs.declared.engine.Region.TheVariants as regions
use Rattle.fp_core.specs.Relation.{IsRegion, StandsFor, room_of}
use Rattle.fp_core.specs.Rooms.{IsFrugal, most_room}
use Rattle.fp_core.proofs.Takes.{first_takeable, is_idle}

-- ---- how much refusals take

-- that of one region takes no more than its share
room_short : (defs : Defs) (scripts : List Script) (x : Region) (r : machine.Region)
    → IsRegion defs scripts x r → room_of r ≤ 29 + 2100
room_short defs scripts regions.Idle machine.Idle is = omega arith
room_short defs scripts (regions.Active active) machine.Idle is = absurd is
room_short defs scripts regions.Idle (machine.Active t) is = absurd is
room_short defs scripts (regions.Active active) (machine.Active t) is = omega (arith, is.short)

-- so do those of all
rooms_short : (defs : Defs) (scripts : List Script) (xs : List Region) (rs : List machine.Region)
    → AllZip (IsRegion defs scripts) xs rs → sum_by room_of rs ≤ length rs * (29 + 2100)
rooms_short defs scripts [] [] all = omega arith
rooms_short defs scripts [] (r ∷ rs) all = absurd all
rooms_short defs scripts (x ∷ xs) [] all = absurd all
rooms_short defs scripts (x ∷ xs) (r ∷ rs) all =
    omega (
      arith,
      rooms_short defs scripts xs rs all.1,
      room_short defs scripts x r all.0,
      sum_by-cons room_of r rs,
    )

-- and an idle region leaves its share
rooms_left : (defs : Defs) (scripts : List Script) (xs : List Region) (rs : List machine.Region) (place : ℕ)
    → AllZip (IsRegion defs scripts) xs rs → slice_get rs place ≡ Some machine.Idle
    → sum_by room_of rs + (29 + 2100) ≤ length rs * (29 + 2100)
rooms_left defs scripts [] [] place all idle = absurd cc
rooms_left defs scripts [] (r ∷ rs) place all idle = absurd all
rooms_left defs scripts (x ∷ xs) [] place all idle = absurd all
rooms_left defs scripts (x ∷ xs) (r ∷ rs) zero all idle =
    let none : room_of r ≡ 0 = ap room_of (same_Some r machine.Idle idle) in
    omega (arith, rooms_short defs scripts xs rs all.1, none, sum_by-cons room_of r rs)
rooms_left defs scripts (x ∷ xs) (r ∷ rs) (suc place) all idle =
    omega (
      arith,
      rooms_left defs scripts xs rs place all.1 idle,
      room_short defs scripts x r all.0,
      sum_by-cons room_of r rs,
    )

-- ---- what is kept free

-- with room for a message that an idle region takes
pub frugal_taken : (engine : Engine) (m : Machine) (group place spare : ℕ) (message : Message) → StandsFor engine m
    → slice_get engine.regions place ≡ Some regions.Idle
    → slice_get (queue_of group engine.queues) 0 ≡ Some message
    → spare ≤ max engine.log.spare (engine.room + refusal_room message.line)
    → spare ≤ max engine.log.spare (most_room engine.defs.now)
frugal_taken engine m group place spare message s idle first few =
    let short = (first_takeable engine m group message s first).short in
    let left = rooms_left engine.defs.now engine.scripts.now.scripts engine.regions m.regions place s.regions
    (is_idle engine m place s idle) in
    let all : length m.regions * (29 + 2100) ≡ most_room engine.defs.now = ap (λ n. n * (29 + 2100)) s.numbers in
    omega (arith, left, all, s.room, short, few)

-- no more than before
pub frugal_less : (before after : Engine) → after.log.spare ≤ before.log.spare → IsFrugal before after
frugal_less before after few = omega (arith, few)

-- one after the other
pub frugal_on : (before between after : Engine) → between.defs.now ≡ before.defs.now → IsFrugal before between
    → IsFrugal between after → IsFrugal before after
frugal_on before between after same first then =
    let behind : after.log.spare ≤ max between.log.spare (most_room before.defs.now) =
    subst (λ (d : Defs). after.log.spare ≤ max between.log.spare (most_room d)) same then in
    omega (arith, first, behind)
