-- CKPT: group behind group.
use Rattle.std.proofs.Common.{◌≡◌, sym, ◌∙◌, ap, subst, arith, ℕ, ◌+◌, ◌-◌, ◌≤◌, length}
use Rattle.fp_model.specs.declared.events.Event.TheVariants as event
use Rattle.fp_model.specs.History.{place_of}
use Rattle.fp_model.specs.Machine.{Machine, sealed_all, sealed_once, sealed_times}
use Rattle.fp_model.specs.Rules.{Rules}
use Rattle.fp_model.specs.Turns.{NoFault}
use Rattle.fp_site.specs.Disk.{Disk, IsLawful}
use Rattle.fp_core.specs.declared.did.Did.{Did}
use Rattle.fp_core.specs.declared.did.Did.TheVariants as did
use Rattle.fp_core.specs.declared.engine.Engine.{Engine}
use Rattle.fp_core.specs.Relation.{StandsFor, rules_in}
use Rattle.fp_core.specs.Standing.{Leaves, Origin, StandsAt}
use Rattle.fp_core.specs.inside.Standing.{SteppedAt}
use Rattle.fp_core.specs.Turning.{Turned, did_seal}
use Rattle.fp_core.proofs.Leavings.{leaves_more}
use Rattle.fp_core.proofs.Seals.{did_some, log_after, once_is, owed_long, some_group, times_all, times_more}
use Rattle.fp_core.proofs.Turns.{is_device}

-- So many groups are sealed of the machine, each with an entry or more of those that were owed.
pub record IsSealed (rules : Rules) (m : Machine) (owed : ℕ) (engine : Engine) : Type 0 where
  pub times : ℕ
  pub few : times + length engine.owed.items ≤ owed
  pub stands : StandsFor engine (sealed_times times rules m)

-- The same beside a site.
pub record IsSealedAt (origin : Origin) (rules : Rules) (m : Machine) (owed : ℕ) (disk : Disk) (engine : Engine) : Type
    0 where
  pub times : ℕ
  pub few : times + length engine.owed.items ≤ owed
  pub at : StandsAt origin disk engine (sealed_times times rules m)

-- a LOG leaves fewer owed, where some were
pub fewer : (old new : Engine) (m : Machine) (given : Did) → rules_in new ≡ rules_in old → StandsFor old m
    → Turned event.Log m new given → 1 ≤ length old.owed.items → 1 + length new.owed.items ≤ length old.owed.items
fewer old new m given same s t some =
    let is =
    log_after (rules_in new) m t.environment t.after t.turn
    ∙ ap (λ (r : Rules). sealed_once r m) same ∙ once_is old m s some in
    let more = ap (λ (x : Machine). x.sealed) is in
    let place = ap (λ (x : Machine). place_of x.history) is in
    omega (arith, owed_long old m s, owed_long new t.after t.stands, more, place, some_group old m s some)

-- ---- once more

module _ (rules : Rules) (m : Machine) (owed : ℕ) (old new : Engine) (given : Did) (is_old : rules_in old ≡ rules)
    (is_new : rules_in new ≡ rules_in old) (some : 1 ≤ length old.owed.items) where
  after_is : (k : ℕ) (t : Turned event.Log (sealed_times k rules m) new given) → t.after ≡ sealed_times (k + 1) rules m
  after_is k t =
      log_after (rules_in new) (sealed_times k rules m) t.environment t.after t.turn
      ∙ ap (λ (r : Rules). sealed_once r (sealed_times k rules m)) (is_new ∙ is_old) ∙ times_more k 1 rules m

  pub sealed_step : (h : IsSealed rules m owed old) → Turned event.Log (sealed_times h.times rules m) new given
      → IsSealed rules m owed new
  sealed_step h t = record {
    times = h.times + 1;
    few = omega (arith, h.few, fewer old new (sealed_times h.times rules m) given is_new h.stands t some);
    stands = subst (StandsFor new) (after_is h.times t) t.stands;
  }

  module _ (origin : Origin) (d1 d2 : Disk) (h : IsSealedAt origin rules m owed d1 old) where
    pub at_step : SteppedAt origin event.Log (sealed_times h.times rules m) d2 new given
        → IsSealedAt origin rules m owed d2 new
    at_step t = record {
      times = h.times + 1;
      few = omega (arith, h.few, fewer old new (sealed_times h.times rules m) given is_new h.at.parts t.turned some);
      at = subst (StandsAt origin d2 new) (after_is h.times t.turned) t.at;
    }

-- what a LOG more leaves
pub leaves_step : (origin : Origin) (rules : Rules) (m : Machine) (first old : Engine) (d0 d1 d2 : Disk)
    → rules_in old ≡ rules
    → StandsFor first m → 1 ≤ length old.owed.items → (h : IsSealedAt origin rules m (length first.owed.items) d1 old)
    → IsLawful d1
    → Leaves origin rules m (place_of m.history - m.sealed) d0 d1
    → Leaves origin (rules_in old) (sealed_times h.times rules m) 1 d1 d2
    → Leaves origin rules m (place_of m.history - m.sealed) d0 d2
leaves_step origin rules m first old d0 d1 d2 is_old s some h law1 before one =
    let few : h.times + 1 ≤ place_of m.history - m.sealed = omega (arith, h.few, some, owed_long first m s) in
    leaves_more origin rules m h.times (place_of m.history - m.sealed) few d0 d1 d2 law1 before
    (subst (λ (r : Rules). Leaves origin r (sealed_times h.times rules m) 1 d1 d2) is_old one)

-- ---- all

all_is : (rules : Rules) (m : Machine) (first engine : Engine) (k : ℕ) → StandsFor first m
    → StandsFor engine (sealed_times k rules m)
    → k + length engine.owed.items ≤ length first.owed.items → length engine.owed.items ≡ 0
    → sealed_times k rules m ≡ sealed_all rules m
all_is rules m first engine k s stands few none =
    let within : k ≤ place_of m.history - m.sealed = omega (arith, few, owed_long first m s) in
    let most : place_of (sealed_times k rules m).history ≤ (sealed_times k rules m).sealed =
    omega (arith, owed_long engine (sealed_times k rules m) stands, none) in
    times_all k (place_of m.history - m.sealed) rules m within most

pub all_sealed : (rules : Rules) (m : Machine) (first engine : Engine) → StandsFor first m
    → IsSealed rules m (length first.owed.items) engine → length engine.owed.items ≡ 0
    → StandsFor engine (sealed_all rules m)
all_sealed rules m first engine s h none =
    subst (StandsFor engine) (all_is rules m first engine h.times s h.stands h.few none) h.stands

pub all_at : (origin : Origin) (rules : Rules) (m : Machine) (disk : Disk) (first engine : Engine) → StandsFor first m
    → IsSealedAt origin rules m (length first.owed.items) disk engine → length engine.owed.items ≡ 0
    → StandsAt origin disk engine (sealed_all rules m)
all_at origin rules m disk first engine s h none =
    subst (StandsAt origin disk engine) (all_is rules m first engine h.times s h.at.parts h.few none) h.at

-- ---- turns

abbrev pub ckpt_nothing : (engine : Engine) (m : Machine) → StandsFor engine m → length engine.owed.items ≡ 0
    → Turned event.Ckpt m engine did.Nothing
ckpt_nothing engine m s none =
    let zero_is : 0 ≡ place_of m.history - m.sealed = omega (arith, owed_long engine m s, none) in
    record {
      after = m;
      environment = NoFault;
      turn = ap (λ (j : ℕ). sealed_times j (rules_in engine) m) zero_is;
      is_did = ap did_seal zero_is;
      no_device = λ e. subst is_device (sym e) tt;
      stands = s;
    }

abbrev pub ckpt_turned : (old new : Engine) (m : Machine) (n : ℕ) → StandsFor old m → rules_in new ≡ rules_in old
    → n ≡ length old.owed.items → 1 ≤ n → StandsFor new (sealed_all (rules_in old) m)
    → Turned event.Ckpt m new (did.Sealed n)
ckpt_turned old new m n s same long some stands =
    let all : n ≡ place_of m.history - m.sealed = omega (arith, owed_long old m s, long) in
    record {
      after = sealed_all (rules_in old) m;
      environment = NoFault;
      turn = ap (λ (r : Rules). sealed_all r m) (sym same);
      is_did = sym (did_some n some) ∙ ap did_seal all;
      no_device = λ e. subst is_device (sym e) tt;
      stands = stands;
    }
