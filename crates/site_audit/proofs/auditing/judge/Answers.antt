use Rattle.std.proofs.Common.{◌∙◌, refl, subst, List}
use Rattle.std.proofs.lemmas.List.{take_all}
use Rattle.fp_audit.specs.Standing.{ComesNever, rules_in}
use Rattle.fp_model.specs.declared.log.Entry.{Entry}
use Rattle.fp_model.specs.History.{with_entry}
use Rattle.fp_model.specs.Rules.{Rules}
use Rattle.fp_model.specs.SerialHistory.{Comes, LeadsOn}
use Rattle.site_audit.proofs.Judging.{leads_more, leads_no_more}
use Rattle.site_audit.proofs.auditing.judge.Goals as goal

pub loop-number-preserved : goal.loop-number-preserved
loop-number-preserved g c =
    let it = c.loop-number.invariant in
    let its = rules_in c.args.auditor.now in
    let es = c.args.entries.now in
    let k = c.loop-number.number in
    let e = c.index-entries-number.result in
    record {
      stands = λ h at.
          let mid = it.stands h at in
          let on = c.in_ok-next.ensures.legal mid.0 mid.1.1 c.if-not-branch.false in
          let comes = subst (λ (r : Rules). Comes r mid.0 e on.next) (c.next.ensures.rules ∙ it.rules) on.comes in (
            with_entry e on.next mid.0,
            (
              leads_more its h mid.0 es k e on.next c.loop-number-test.true c.index-entries-number.is mid.1.0 comes,
              on.stands,
            ),
          );
      rules = c.next.ensures.rules ∙ it.rules;
      defs = c.next.ensures.defs ∙ it.defs;
    }

pub returns-then-not-branch-clause-found : goal.returns-then-not-branch-clause-found
returns-then-not-branch-clause-found g c h at =
    let it = c.loop-number.invariant in
    let its = rules_in c.args.auditor.now in
    let es = c.args.entries.now in
    let k = c.loop-number.number in
    let e = c.index-entries-number.result in
    let mid = it.stands h at in
    let never = subst (λ (r : Rules). ComesNever r mid.0 e) it.rules
    (c.in_ok-next.ensures.illegal mid.0 mid.1.1 c.if-not-branch.true) in
    record {
      count = k;
      here = refl;
      there = c.loop-number-test.true;
      mid = mid.0;
      before = mid.1.0;
      never = leads_no_more its h mid.0 es k e c.loop-number-test.true c.index-entries-number.is mid.1.0 never;
    }

pub returns-clause-found : goal.returns-clause-found
returns-clause-found g c h at =
    let mid = c.loop-number.invariant.stands h at in
    let es = c.args.entries.now in (
      mid.0,
      (
        subst (λ (l : List Entry). LeadsOn (rules_in c.args.auditor.now) h l mid.0)
            (take_all c.loop-number.number es c.loop-number-test.false) mid.1.0,
        mid.1.1,
      ),
    )
