use Rattle.std.proofs.Common.{◌≡◌, ◌∙◌, ◌<◌, length, ap, arith}
use Rattle.std.proofs.lemmas.Bool.Decides.{nat_tests}
use Rattle.ci_pool.specs.Held.{held_at}
use Rattle.area_staging.proofs.Data.{sized_newest}
use Rattle.area_staging.proofs.Steps.{fit_change}
use Rattle.area_staging.proofs.changing.change_of.Goals as goal
use Rattle.plain_laws.proofs.Options.{some_value}

pub returns-then-len-whole-clause-item : goal.returns-then-len-whole-clause-item
returns-then-len-whole-clause-item g c = λ told bytes shown.
    let area = c.args.area in
    let newest = c.in_ok-old.ensures.newest told shown.told.clean shown.told.sizes in
    let long : length c.in_ok-old.old ≡ area.size =
    ap length newest ∙ sized_newest area.set area.size c.args.pool.now (g.T.Site.disk c.args.site.now).contents
    c.args.ci shown.told.sizes in
    let size : length c.args.interval.now ≡ area.size = c.requires.size in
    let whole : length c.whole-2.result.now ≡ length c.args.interval.now = ap length c.whole-2.ensures.bytes in
    absurd (grind (arith, nat_tests, c.if-len-whole.true, c.len.ensures, long, size, whole))

pub returns-clause-fits : goal.returns-clause-fits
returns-clause-fits g c = λ end.
    let area = c.args.area in
    let whole : c.whole-3.result.now ≡ c.args.interval.now = c.whole-3.ensures.bytes in
    fit_change c.args.imaged area c.args.ci c.as_slice.result.now c.whole-3.result.now c.in_ok-item_of.field-0
    (ap length whole ∙ c.requires.size) end c.in_ok-item_of.ensures

pub returns-in_err-image_of-2-clause-hand : goal.returns-in_err-image_of-2-clause-hand
returns-in_err-image_of-2-clause-hand g c = λ all.
    let below : c.args.ci < c.args.area.count = grind (arith, nat_tests, c.if-ci-area.false) in
    let w = some_value (held_at c.args.pool.now c.args.area.set c.args.ci) (all below) in
    c.old_bytes.ensures.hand w.0 w.1

pub returns-then-len-whole-clause-hand : goal.returns-then-len-whole-clause-hand
returns-then-len-whole-clause-hand g c = λ all.
    let below : c.args.ci < c.args.area.count = grind (arith, nat_tests, c.if-ci-area.false) in
    let w = some_value (held_at c.args.pool.now c.args.area.set c.args.ci) (all below) in
    c.old_bytes.ensures.hand w.0 w.1

pub returns-in_err-item_of-clause-hand : goal.returns-in_err-item_of-clause-hand
returns-in_err-item_of-clause-hand g c = λ all.
    let below : c.args.ci < c.args.area.count = grind (arith, nat_tests, c.if-ci-area.false) in
    let w = some_value (held_at c.args.pool.now c.args.area.set c.args.ci) (all below) in
    c.old_bytes.ensures.hand w.0 w.1

pub returns-clause-hand : goal.returns-clause-hand
returns-clause-hand g c = λ all.
    let below : c.args.ci < c.args.area.count = grind (arith, nat_tests, c.if-ci-area.false) in
    let w = some_value (held_at c.args.pool.now c.args.area.set c.args.ci) (all below) in
    c.old_bytes.ensures.hand w.0 w.1
