use Rattle.std.proofs.Common.{◌≡◌, ◌∙◌, sym, ap, subst, arith, ◌-◌, Some, slice_get}
use Rattle.ci_locks.specs.Table.{standing}
use Rattle.fp_core.specs.declared.engine.Region.TheVariants as regions
use Rattle.fp_core.specs.inside.Acting.{HasActed, MayEnd}
use Rattle.fp_core.specs.inside.Answering.{IsActed}
use Rattle.fp_core.specs.Relation.{IsTransaction}
use Rattle.fp_core.proofs.Ends.{may_end, not_idle, region_is}
use Rattle.fp_core.proofs.Goings.{has_acted, with_active, works_still}
use Rattle.fp_core.proofs.engine.Engine.go_on.Goals as goal
use Rattle.plain_laws.proofs.Results.{if_ok_by, on_err_by}

pub go_on-requires-clause-under : goal.go_on-requires-clause-under
go_on-requires-clause-under g c =
    let engine = c.args.self.now in
    let u = c.requires.under in
    let same : c.from.result - 1 ≡ c.args.region - 1 = ap (λ n. n - 1) c.from.ensures in
    let there : slice_get engine.regions (c.args.region - 1) ≡ Some (regions.Active c.in-Active.active) =
    subst (λ n. slice_get engine.regions n ≡ Some (regions.Active c.in-Active.active)) same
    (c.item_mut.ensures.value ∙ ap (λ r. Some r) c.in-Active.is) in (
      u.1.0,
      region_is engine u.0 c.args.region u.1.0 (regions.Active c.in-Active.active)
          (may_end engine u.0 c.args.region u.1.0 u.1.1) there,
    )

pub go_on-requires-clause-within : goal.go_on-requires-clause-within
go_on-requires-clause-within g c = omega (arith, c.requires.within, c.requires.under.1.1.stands.rows)

pub go_on-requires-clause-setup : goal.go_on-requires-clause-setup
go_on-requires-clause-setup g c = c.requires.under.1.1.stands.setup

pub go_on-requires-clause-store : goal.go_on-requires-clause-store
go_on-requires-clause-store g c = c.requires.under.1.1.stands.of

pub unreachable-requires : goal.unreachable-requires
unreachable-requires g c =
    let engine = c.args.self.now in
    let u = c.requires.under in
    let same : c.from.result - 1 ≡ c.args.region - 1 = ap (λ n. n - 1) c.from.ensures in
    let there : slice_get engine.regions (c.args.region - 1) ≡ Some regions.Idle =
    subst (λ n. slice_get engine.regions n ≡ Some regions.Idle) same
    (c.item_mut.ensures.value ∙ ap (λ r. Some r) c.in-Idle.is) in
    not_idle engine u.0 c.args.region u.1.0 (may_end engine u.0 c.args.region u.1.0 u.1.1) there

pub returns-clause-acted : goal.returns-clause-acted
returns-clause-acted g c m t w =
    let engine = c.args.self.now in
    let new = c.go_on.new.active in
    let same : c.from.result - 1 ≡ c.args.region - 1 = ap (λ n. n - 1) c.from.ensures in
    let there : slice_get engine.regions (c.args.region - 1) ≡ Some (regions.Active c.in-Active.active) =
    subst (λ n. slice_get engine.regions n ≡ Some (regions.Active c.in-Active.active)) same
    (c.item_mut.ensures.value ∙ ap (λ r. Some r) c.in-Active.is) in
    let is = region_is engine m c.args.region t (regions.Active c.in-Active.active) (may_end engine m c.args.region t w)
    there in
    if_ok_by (IsActed engine.defs.now engine.scripts.now.scripts ((standing engine.locks).holds c.args.region)
    m.history.now c.count-count.result t new)
    (HasActed (with_active engine (c.from.result - 1) new) m c.args.region t) c.go_on.result
    (λ a did. subst (λ n. HasActed (with_active engine n new) m c.args.region t a) (sym same)
    (has_acted engine m t new c.args.region w c.count-count.result (c.count-count.ensures ∙ w.stands.count) a did))
    (c.go_on.ensures.acted m.history.now t w.stands.msdbs is)

pub returns-clause-err : goal.returns-clause-err
returns-clause-err g c m t w =
    let engine = c.args.self.now in
    let new = c.go_on.new.active in
    let same : c.from.result - 1 ≡ c.args.region - 1 = ap (λ n. n - 1) c.from.ensures in
    let there : slice_get engine.regions (c.args.region - 1) ≡ Some (regions.Active c.in-Active.active) =
    subst (λ n. slice_get engine.regions n ≡ Some (regions.Active c.in-Active.active)) same
    (c.item_mut.ensures.value ∙ ap (λ r. Some r) c.in-Active.is) in
    let is = region_is engine m c.args.region t (regions.Active c.in-Active.active) (may_end engine m c.args.region t w)
    there in
    on_err_by (IsTransaction engine.defs.now engine.scripts.now.scripts new t)
    (MayEnd (with_active engine (c.from.result - 1) new) m c.args.region t) c.go_on.result
    (λ still. subst (λ n. MayEnd (with_active engine n new) m c.args.region t) (sym same)
    (works_still engine m t new c.args.region w still))
    (c.go_on.ensures.err t is)
