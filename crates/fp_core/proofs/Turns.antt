-- An active region's acts are turns.
use Rattle.std.proofs.Common.{◌≡◌, refl, sym, ap, subst, arith, ℕ, zero, suc, ◌-◌, ◌≤◌, List, Option, Some, slice_get}
use Rattle.std.specs.Prelude.{option_map}
use Rattle.fp_model.specs.declared.events.Event.TheVariants as event
use Rattle.fp_model.specs.declared.log.Outcome.TheVariants as outcome
use Rattle.fp_model.specs.declared.calls.Mode.TheVariants.{Exclusive}
use Rattle.fp_model.specs.Answers.{Needed}
use Rattle.fp_model.specs.Asking.{Replies}
use Rattle.fp_model.specs.Machine.{Transaction, Region, Idle, Active, Machine, region_at}
use Rattle.fp_model.specs.Rules.{Rules}
use Rattle.fp_model.specs.Turns.{Environment, NoFault, DeviceFault, OutOfMemory, Act, Does, RegionTurn, asks, holds, refused_with, wanted}
use Rattle.fp_core.specs.declared.did.Did.TheVariants as did
use Rattle.fp_core.specs.declared.engine.Active.{Active as ActiveOf}
use Rattle.fp_core.specs.declared.engine.Engine.{Engine}
use Rattle.fp_core.specs.declared.engine.Region.TheVariants as regions
use Rattle.fp_core.specs.inside.Acting.{IsAtWork}
use Rattle.fp_core.specs.Relation.{IsRegion, StandsFor, rules_in}
use Rattle.fp_core.specs.Turning.{IsDidOfRegion, IsExact, Turned, did_of}
use Rattle.fp_core.proofs.Places.{right_of}

abbrev pub is_device : Environment → Type 0
is_device NoFault = ⊥
is_device DeviceFault = Unit {0}
is_device OutOfMemory = ⊥

-- what an active region did, where nothing befell it
pub acted : (engine : Engine) (m : Machine) (region : ℕ) (t : Transaction) (act : Act) (after : Machine)
    → region_at m region ≡ Some (Active t)
    → Does (rules_in engine) m region t act after
    → IsExact engine.defs.now (rules_in engine) m region t act
    → StandsFor engine after
    → Turned (event.Region region) m engine (did_of act)
acted engine m region t act after there does exact stands = record {
  after = after;
  environment = NoFault;
  turn = subst (λ (o : Option Region). RegionTurn (rules_in engine) m region o NoFault after) (sym there) (act, does);
  is_did = subst (λ (o : Option Region). IsDidOfRegion engine.defs.now (rules_in engine) m region o NoFault after
      (did_of act)) (sym there) (act, does, exact, refl);
  no_device = λ e. subst is_device (sym e) tt;
  stands = stands;
}

-- it is refused for want of memory
pub starved : (engine : Engine) (m : Machine) (region : ℕ) (t : Transaction)
    → region_at m region ≡ Some (Active t)
    → StandsFor engine (refused_with (rules_in engine) m region t outcome.Memory)
    → Turned (event.Region region) m engine did.Refused
starved engine m region t there stands =
    let after : Machine = refused_with (rules_in engine) m region t outcome.Memory in
    record {
      after = after;
      environment = OutOfMemory;
      turn = subst (λ (o : Option Region). RegionTurn (rules_in engine) m region o OutOfMemory after) (sym there) refl;
      is_did = subst (λ (o : Option Region). IsDidOfRegion engine.defs.now (rules_in engine) m region o OutOfMemory
          after did.Refused) (sym there) refl;
      no_device = λ e. subst is_device (sym e) tt;
      stands = stands;
    }

-- ---- what an active region wants

-- at a reply, the first segment that it lacks
pub lacks : (rules : Rules) (m : Machine) (region : ℕ) (t : Transaction) (reply : List ℕ) → asks rules t ≡ Replies reply
    → wanted rules m region t (asks rules t)
    ≡ option_map (λ resource. let needed : Needed = record { resource = resource; mode = Exclusive } in needed)
    (rules.lack t.point.own (holds rules m region))
lacks rules m region t reply asked = ap (wanted rules m region t) asked

-- a region that the code has at work is at work
pub at_work : (engine : Engine) (m : Machine) (region : ℕ) (active : ActiveOf) → 1 ≤ region → StandsFor engine m
    → slice_get engine.regions (region - 1) ≡ Some (regions.Active active)
    → (t : Transaction) × IsAtWork engine m region t
at_work engine m zero active some s there = absurd (omega (arith, some))
at_work engine m (suc place) active some s there =
    let same : suc place - 1 ≡ place = omega arith in
    let at : slice_get engine.regions place ≡ Some (regions.Active active) =
    subst (λ n. slice_get engine.regions n ≡ Some (regions.Active active)) same there in
    let found = right_of (IsRegion engine.defs.now engine.scripts.now.scripts) engine.regions m.regions place
    (regions.Active active) s.regions at in
    by found.right found.there found.is
  where
    by : (r : Region) → slice_get m.regions place ≡ Some r
        → IsRegion engine.defs.now engine.scripts.now.scripts (regions.Active active) r
        → (t : Transaction) × IsAtWork engine m (suc place) t
    by Idle there is = absurd is
    by (Active t) there is = (t, record { stands = s; active = there })
