use Rattle.std.proofs.Common.{refl, sym, subst, ℕ}
use Rattle.std.specs.Prelude.{IfOk, Option, Some}
use Rattle.fp_audit.specs.Standing.{IsAt, rules_in}
use Rattle.site_audit.specs.inside.Judged.{GoesOnTo}
use Rattle.site_audit.proofs.Judging.{ok_goes_on}
use Rattle.site_audit.proofs.auditing.first_illegal.Goals as goal

pub returns-in-Some-clause-found : goal.returns-in-Some-clause-found
returns-in-Some-clause-found g c =
    subst (λ (o : Option ℕ). GoesOnTo (rules_in c.args.auditor.now) (IsAt c.args.auditor.now) (IsAt c.args.auditor.now)
    c.args.entries.now c.args.place.entries o (Some c.in-Some.entry)) (sym c.in-Some.is) refl

pub returns-in-None-clause-found : goal.returns-in-None-clause-found
returns-in-None-clause-found g c =
    subst (λ (o : Option ℕ). IfOk c.judge.result (GoesOnTo (rules_in c.args.auditor.now) (IsAt c.args.auditor.now)
    (IsAt c.judge.new.auditor) c.args.entries.now c.args.place.entries o)) (sym c.in-None.is)
    (ok_goes_on (rules_in c.args.auditor.now) (IsAt c.args.auditor.now) (IsAt c.judge.new.auditor)
    c.args.entries.now c.args.place.entries c.judge.result c.judge.ensures.found)
