use Rattle.std.proofs.Common.{◌∙◌, ap, sym}
use Rattle.std.specs.Prelude.{None, option_and_then, slice_get}
use Rattle.fp_model.specs.Product.{by_script}
use Rattle.fp_audit.specs.inside.Judging.{refused_or}
use Rattle.fp_model.specs.Lasts.{lasts_of}
use Rattle.fp_audit.proofs.RequestLemmas.{asks, by_found, number_within}
use Rattle.fp_audit.proofs.requests.Requests.of.Goals as goal

pub returns-in-Some-find-clause-is : goal.returns-in-Some-find-clause-is
returns-in-Some-find-clause-is c = λ h knows.
    let scripts = c.args.scripts.now.scripts in
    let m = c.in-Some.message in
    asks scripts h c.args.self.now.format c.args.line.now m None knows.format_is
    (sym c.in-Some.is ∙ c.in_ok-message.ensures)
    (c.in_ok-outcome.ensures scripts (lasts_of h.format h.entries) knows.lasts_are
    ∙ ap (λ refusal. refused_or refusal (by_script scripts m)) c.in_default-2.is)
    ∙ by_found scripts m c.in-Some-find.script
    (number_within scripts m.tran c.in-Some-find.script (sym c.in-Some-find.is ∙ c.find.ensures.number))
    (ap (option_and_then (slice_get scripts)) (sym c.in-Some-find.is) ∙ c.find.ensures.script)
