use Rattle.std.proofs.Common.{◌≡◌, ◌∙◌, length, sym, ap, subst}
use Rattle.std.specs.Prelude.{Some}
use Rattle.ci_pool.specs.Held.{Held, staged_at}
use Rattle.area_staging.specs.inside.Changing.{IsItemFor}
use Rattle.area_staging.specs.Items.{is_imaged}
use Rattle.area_staging.proofs.AtHand.{hand_of, hand_then}
use Rattle.area_staging.proofs.Steps.{other_staged}
use Rattle.area_staging.proofs.Stages.{stages_one}
use Rattle.area_staging.proofs.changing.stage_one.Goals as goal

pub returns-in_default-clause-item : goal.returns-in_default-clause-item
returns-in_default-clause-item g c = λ told bytes shown.
    subst (λ o. IsItemFor c.is_imaged-has_item.result c.args.area c.args.ci (bytes c.args.ci) c.args.interval.now o)
    c.in_default.is (c.in_ok-item.ensures.item told bytes shown)

pub returns-in_err-stage-clause-stages : goal.returns-in_err-stage-clause-stages
returns-in_err-stage-clause-stages g c =
    let long : length c.in_ok-from_slice.field-0 ≡ c.args.area.size =
    ap length (c.in_ok-from_slice.ensures ∙ c.whole.ensures.bytes) ∙ c.requires.size in
    stages_one g.T.Site.told g.T.Site.disk g.T.Site.faults g.T.Site.holds g.T.Site.keeps c.args.area.set
    c.args.area.size c.args.site.now c.change_of.new.site c.args.pool.now c.change_of.new.pool c.stage.new.self
    c.change_of.ensures.looks c.stage.ensures.pending c.stage.ensures.list
    (λ s n e. c.stage.ensures.sizes s n (λ eq. long ∙ sym (e eq)))
    (λ s k ne. ap (λ (p : Held). staged_at p s k) c.in_err-stage.ensures.err)

pub returns-clause-item : goal.returns-clause-item
returns-clause-item g c = λ told bytes shown.
    let item = subst
    (λ o. IsItemFor c.is_imaged-has_item.result c.args.area c.args.ci (bytes c.args.ci) c.args.interval.now o)
    c.in-Some.is (c.in_ok-item.ensures.item told bytes shown) in
    let flag : c.is_imaged-has_item.result ≡ is_imaged c.args.imaged.now.items c.args.area.set c.args.ci =
    c.is_imaged-has_item.ensures ∙ ap (λ l. is_imaged l c.args.area.set c.args.ci) c.deref.ensures.value in
    subst (λ b. IsItemFor b c.args.area c.args.ci (bytes c.args.ci) c.args.interval.now (Some c.in-Some.item)) flag item

pub returns-clause-stages : goal.returns-clause-stages
returns-clause-stages g c =
    let long : length c.in_ok-from_slice.field-0 ≡ c.args.area.size =
    ap length (c.in_ok-from_slice.ensures ∙ c.whole.ensures.bytes) ∙ c.requires.size in
    stages_one g.T.Site.told g.T.Site.disk g.T.Site.faults g.T.Site.holds g.T.Site.keeps c.args.area.set
    c.args.area.size c.args.site.now c.change_of.new.site c.args.pool.now c.change_of.new.pool c.stage.new.self
    c.change_of.ensures.looks c.stage.ensures.pending c.stage.ensures.list
    (λ s n e. c.stage.ensures.sizes s n (λ eq. long ∙ sym (e eq)))
    (λ s k ne. other_staged c.args.area.set c.args.ci s k c.in_ok-from_slice.field-0 c.change_of.new.pool
    c.stage.new.self ne (c.in_ok-stage.ensures.staged s k))

pub returns-clause-hand : goal.returns-clause-hand
returns-clause-hand g c = λ all.
    hand_then c.args.pool.now c.change_of.new.pool c.stage.new.self (c.change_of.ensures.hand all)
    (hand_of c.change_of.new.pool c.stage.new.self c.stage.ensures.pending c.stage.ensures.list)

pub returns-in_err-stage-clause-hand : goal.returns-in_err-stage-clause-hand
returns-in_err-stage-clause-hand g c = λ all.
    hand_then c.args.pool.now c.change_of.new.pool c.stage.new.self (c.change_of.ensures.hand all)
    (hand_of c.change_of.new.pool c.stage.new.self c.stage.ensures.pending c.stage.ensures.list)
