use Rattle.std.proofs.Common.{◌+◌, ap, subst, List, ℕ}
use Rattle.fp_audit.specs.Standing.{IsAt, rules_in}
use Rattle.fp_model.specs.declared.log.Entry.{Entry}
use Rattle.fp_restart.proofs.Groups.{stands_further}
use Rattle.log_groups.specs.Reads.{HasGroup}
use Rattle.site_audit.specs.inside.Judged.{GoesOnTo}
use Rattle.site_audit.proofs.auditing.audit_group.Goals as goal

-- a site that tells what it holds has no group that goes nowhere
pub returns-then-not-stands_behind-clause-damaged : goal.returns-then-not-stands_behind-clause-damaged
returns-then-not-stands_behind-clause-damaged g c at t e =
    let bytes = (g.T.Site.disk c.args.site.now).contents 0 in
    let has : HasGroup bytes c.args.place.at c.in-Some.group.entries c.in-Some.group.next =
    rw c.in-Some.is at (c.in_ok-group.ensures.some t) in
    let far = stands_further bytes c.args.place.at c.in-Some.group.entries c.in-Some.group.next has
    ((g.met.T.Site.lawful c.args.site.now t).bounded 0) in
    absurd (c.stands_behind.ensures.not c.if-not-stands_behind.true far.0 far.1 far.2)

pub returns-clause-some : goal.returns-clause-some
returns-clause-some g c t =
    let bytes = (g.T.Site.disk c.args.site.now).contents 0 in
    let its = c.in-Some.group in
    let old = c.args.auditor.now in
    let new = c.first_illegal.new.auditor in
    let has : HasGroup bytes c.args.place.at its.entries its.next = rw c.in-Some.is at (c.in_ok-group.ensures.some t) in
    record {
      entries = its.entries;
      group = has;
      count = ap (λ (n : ℕ). c.args.place.entries + n) c.len.ensures;
      judged = subst (λ (l : List Entry). GoesOnTo (rules_in old) (IsAt old) (IsAt new) l c.args.place.entries
          c.args.place.illegal c.in_ok-illegal.illegal) c.as_slice.ensures c.in_ok-illegal.ensures.found;
    }
