use Rattle.std.proofs.Common.{◌≡◌, sym, ◌∙◌, ap, Option, Some}
use Rattle.std.specs.Prelude.{option_map}
use Rattle.ci_locks.specs.Table.{standing}
use Rattle.fp_model.specs.declared.calls.Resource.{Resource}
use Rattle.fp_model.specs.Asking.{Ask}
use Rattle.fp_model.specs.Commit.{lacking}
use Rattle.fp_model.specs.Product.{rules_of}
use Rattle.fp_core.specs.declared.engine.Ahead.TheVariants as ahead
use Rattle.fp_core.specs.inside.Answering.{lock_for}
use Rattle.fp_core.proofs.Goings.{as_exclusive, keeps}
use Rattle.fp_core.proofs.Lacks.{is_first_lack}
use Rattle.fp_core.proofs.answering.take_reply.Goals as goal

pub returns-in_ok-lack-in-Some-clause-acted : goal.returns-in_ok-lack-in-Some-clause-acted
returns-in_ok-lack-in-Some-clause-acted c defs scripts now count t h =
    let one = c.args.active.now in
    let held = (standing c.args.locks.now).holds c.args.region in
    let found = rw c.in-Some.is at c.first_unheld.ensures in
    let lack : lacking t.point.own held ≡ Some c.in_ok-lack-in-Some.lack =
    sym (ap (λ (r : Resource). Some r) c.in_ok-lack-in-Some.ensures ∙ found
    ∙ is_first_lack held t c.as_slice.result.now (c.as_slice.ensures ∙ h.needs)) in
    record {
      needs = ap (λ (a : Ask). lock_for (rules_of defs scripts) held now t a) h.asked
          ∙ ap (λ (o : Option Resource). option_map (λ resource. as_exclusive resource) o) lack;
      is = keeps defs scripts one t h.is (Some (ahead.Reply c.args.text c.args.segments)) (h.asked, h.needs);
    }

pub returns-in-None-clause-acted : goal.returns-in-None-clause-acted
returns-in-None-clause-acted c defs scripts now count t h =
    let held = (standing c.args.locks.now).holds c.args.region in
    let found = rw c.in-None.is at c.first_unheld.ensures in
    record {
      asked = h.asked;
      lacks_none = sym (found ∙ is_first_lack held t c.as_slice.result.now (c.as_slice.ensures ∙ h.needs));
      is = h.is;
    }
