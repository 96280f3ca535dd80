use Rattle.std.proofs.Common.{◌∙◌, ap, subst, length}
use Rattle.dedb_area.specs.Applying.{IsFitImage, IsFitInterval}
use Rattle.area_states.specs.Places.{place_at}
use Rattle.dedb_area.proofs.Applied.{fit_pended}
use Rattle.dedb_area.proofs.applying.apply_item.Goals as goal
use Rattle.plain_laws.proofs.Options.{some_value}

pub returns-in_ok-pend-in-Image-clause-fit : goal.returns-in_ok-pend-in-Image-clause-fit
returns-in_ok-pend-in-Image-clause-fit c places fits below fit =
    let it : IsFitInterval places c.in-Image.set c.in-Image.ci (length c.in-Image.bytes) =
    subst (IsFitImage places) c.in-Image.is fits in
    fit_pended places c.args.place c.in-Image.set c.in-Image.ci c.in_ok-copy-in-Image.field-0 c.args.pool.now
    c.pend.new.pool (c.in_ok-pend-in-Image.ensures.pending fit.unstaged) (c.pend.ensures.unstaged fit.unstaged)
    c.pend.ensures.sizes it.place it.is_place (ap length c.in_ok-copy-in-Image.ensures ∙ it.is_size) fit below

pub returns-in_ok-pend-in-Range-clause-fit : goal.returns-in_ok-pend-in-Range-clause-fit
returns-in_ok-pend-in-Range-clause-fit c places fits below fit =
    let w = c.in_ok-behind-in-Range.ensures.written in
    let p = some_value (place_at places c.in-Range.set) (fit.areas c.in-Range.set c.in-Range.ci w.0 w.1) in
    let long = (fit.sizes c.in-Range.set p.0 p.1).pending c.in-Range.ci w.0 w.1 in
    fit_pended places c.args.place c.in-Range.set c.in-Range.ci c.in_ok-behind-in-Range.behind c.args.pool.now
    c.pend-in-Range.new.pool (c.in_ok-pend-in-Range.ensures.pending fit.unstaged)
    (c.pend-in-Range.ensures.unstaged fit.unstaged) c.pend-in-Range.ensures.sizes p.0 p.1 (w.4 ∙ long) fit below
