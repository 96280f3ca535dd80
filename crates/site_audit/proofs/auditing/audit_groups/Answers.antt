use Rattle.std.proofs.Common.{◌≡◌, ◌+◌, ◌∙◌, ap, refl, sym, arith, rules, length, subst, List, ℕ}
use Rattle.fp_lists.proofs.ContinuedLemmas.{continued_both, continued_none}
use Rattle.std.specs.Prelude.{slice_index}
use Rattle.fp_audit.specs.Standing.{IsAt, rules_in}
use Rattle.fp_model.specs.Groups.{HoldsGroups, IsDamaged}
use Rattle.fp_model.specs.Rules.{Rules}
use Rattle.fp_site.proofs.Runs.{elapses_none, stays_then}
use Rattle.fp_restart.proofs.Groups.{read_at_most, read_inside}
use Rattle.log_groups.specs.Reads.{HasGroup}
use Rattle.site_audit.specs.inside.Judged.{IsOneRead}
use Rattle.site_audit.proofs.Judging.{are_held_more, are_held_none, are_read_more, are_read_none}
use Rattle.site_audit.proofs.auditing.audit_groups.Goals as goal

pub returns-in_err-next-clause-damaged : goal.returns-in_err-next-clause-damaged
returns-in_err-next-clause-damaged g c at t is =
    let it = c.loop-next.invariant in
    let old = (g.T.Site.disk c.args.site.now).contents 0 in
    let same = ap (λ (f : ℕ → List ℕ). f 0) (it.stays t).contents in
    let bad = c.audit_group.ensures.damaged at (it.site.still_told t) (search rules) in
    let so_far = it.held t in
    record {
      groups = so_far.groups;
      holds = subst (λ (n : ℕ). HoldsGroups old c.args.log.now.gate so_far.groups n) (sym bad.0) so_far.holds;
      damaged = subst (λ (l : List ℕ). IsDamaged l at) same bad.1;
    }

pub loop-next-init : goal.loop-next-init
loop-next-init g c =
    let old = g.T.Site.disk c.args.site.now in
    let its = rules_in c.args.auditor.now in
    let first = c.args.log.now.gate in
    record {
      within = search rules;
      entries = search rules;
      rules = refl;
      defs = refl;
      same = refl;
      read_so_far = λ format begins t.
          are_read_none its format (IsAt c.args.auditor.now) (old.contents 0) first c.gate.result (search rules) begins;
      held = λ t. are_held_none its (old.contents 0) first c.gate.result (search rules);
      stays = λ t. record { contents = refl; sent = refl; crash = elapses_none old old.may_leave };
      calm = refl;
      only_log = λ set h. (h, λ other. refl);
      read = λ told. omega arith;
      site = continued_none g.T.Site.told g.T.Site.faults g.T.Site.holds g.T.Site.keeps c.args.site.now;
    }

pub loop-next-preserved : goal.loop-next-preserved
loop-next-preserved g c =
    let it = c.loop-next.invariant in
    let call = c.audit_group.ensures in
    let first = g.T.Site.disk c.args.site.now in
    let bytes = first.contents 0 in
    let before = c.loop-next.auditor in
    let its = rules_in c.args.auditor.now in
    let stands = IsAt c.audit_group.new.auditor in
    let next = c.in-Some.next in
    let one = λ (t : g.T.Site.told c.args.site.now).
    let t1 = it.site.still_told t in
    let read : IsOneRead (rules_in before) (IsAt before) stands ((g.T.Site.disk c.loop-next.site).contents 0)
    c.loop-next.place next = rw c.in-Some.is at (c.in_ok-next.ensures.some t1) in
    subst (λ (l : List ℕ). IsOneRead its (IsAt before) stands l c.loop-next.place next)
    (ap (λ (f : ℕ → List ℕ). f 0) (it.stays t).contents)
    (subst (λ (r : Rules). IsOneRead r (IsAt before) stands ((g.T.Site.disk c.loop-next.site).contents 0)
    c.loop-next.place next) it.rules read) in
    record {
      within = search rules;
      entries = search rules;
      rules = call.rules ∙ it.rules;
      defs = call.defs ∙ it.defs;
      same = call.same ∙ it.same;
      read_so_far = λ format begins t.
          are_read_more its format (IsAt before) stands bytes _ c.loop-next.place next (it.read_so_far format begins t)
          (one t);
      held = λ t. are_held_more its (IsAt before) stands bytes _ c.loop-next.place next (it.held t) (one t);
      stays = λ t.
          let t1 = it.site.still_told t in
          stays_then first (g.T.Site.disk c.loop-next.site) (g.T.Site.disk c.audit_group.new.site)
          (g.met.T.Site.lawful c.args.site.now t) (g.met.T.Site.lawful c.loop-next.site t1) (it.stays t)
          (call.stays t1);
      calm = search rules ∙ it.calm;
      only_log = λ set h. let after = call.only_log set h in let earlier = it.only_log set after.0 in
          (earlier.0, λ other. after.1 other ∙ earlier.1 other);
      read = λ told.
          let so_far = it.read (call.only_log 0 told).0 in
          let here : g.T.Site.bytes_read c.audit_group.new.site 0 + c.loop-next.place.at ≡ g.T.Site.bytes_read
          c.loop-next.site 0 + c.in-Some.next.at = rw c.in-Some.is at (c.in_ok-next.ensures.count told) in
          omega (arith, so_far, here);
      site = continued_both g.T.Site.told g.T.Site.faults g.T.Site.holds g.T.Site.keeps _ _ _ it.site call.site;
    }

-- ---- what is read

pub returns-in_err-next-clause-read : goal.returns-in_err-next-clause-read
returns-in_err-next-clause-read g c groups gate t whole told =
    let it = c.loop-next.invariant in
    let call = c.audit_group.ensures in
    let t1 = it.site.still_told t in
    let bytes = (g.T.Site.disk c.args.site.now).contents 0 in
    let so_far = it.held t in
    let same = ap (λ (f : ℕ → List ℕ). f 0) (it.stays t).contents in
    read_at_most bytes c.args.log.now.gate c.loop-next.place.at so_far.groups (g.T.Site.bytes_read c.args.site.now 0)
    (g.T.Site.bytes_read c.loop-next.site 0) (g.T.Site.bytes_read c.audit_group.new.site 0) so_far.holds
    (it.read (call.only_log 0 told).0) gate groups whole
    (λ entries end has. call.most entries end t1
    (subst (λ (l : List ℕ). HasGroup l c.loop-next.place.at entries end) (sym same) has) told)
    (λ closed. call.one t1 (λ is. closed (ap (λ (l : List ℕ). slice_index l c.loop-next.place.at) (sym same) ∙ is))
    told)

pub returns-in_err-next-clause-once : goal.returns-in_err-next-clause-once
returns-in_err-next-clause-once g c t told =
    let it = c.loop-next.invariant in
    let call = c.audit_group.ensures in
    let bytes = (g.T.Site.disk c.args.site.now).contents 0 in
    let so_far = it.held t in
    let same = ap (λ (f : ℕ → List ℕ). f 0) (it.stays t).contents in
    read_inside bytes c.args.log.now.gate c.loop-next.place.at so_far.groups (g.T.Site.bytes_read c.args.site.now 0)
    (g.T.Site.bytes_read c.loop-next.site 0) (g.T.Site.bytes_read c.audit_group.new.site 0) so_far.holds
    (it.read (call.only_log 0 told).0)
    (let few = call.inside (it.site.still_told t) told in omega (arith, few, ap length same))

pub returns-in_default-clause-read : goal.returns-in_default-clause-read
returns-in_default-clause-read g c groups gate t whole told =
    let it = c.loop-next.invariant in
    let call = c.audit_group.ensures in
    let t1 = it.site.still_told t in
    let bytes = (g.T.Site.disk c.args.site.now).contents 0 in
    let so_far = it.held t in
    let same = ap (λ (f : ℕ → List ℕ). f 0) (it.stays t).contents in
    read_at_most bytes c.args.log.now.gate c.loop-next.place.at so_far.groups (g.T.Site.bytes_read c.args.site.now 0)
    (g.T.Site.bytes_read c.loop-next.site 0) (g.T.Site.bytes_read c.audit_group.new.site 0) so_far.holds
    (it.read (call.only_log 0 told).0) gate groups whole
    (λ entries end has. call.most entries end t1
    (subst (λ (l : List ℕ). HasGroup l c.loop-next.place.at entries end) (sym same) has) told)
    (λ closed. call.one t1 (λ is. closed (ap (λ (l : List ℕ). slice_index l c.loop-next.place.at) (sym same) ∙ is))
    told)

pub returns-in_default-clause-once : goal.returns-in_default-clause-once
returns-in_default-clause-once g c t told =
    let it = c.loop-next.invariant in
    let call = c.audit_group.ensures in
    let bytes = (g.T.Site.disk c.args.site.now).contents 0 in
    let so_far = it.held t in
    let same = ap (λ (f : ℕ → List ℕ). f 0) (it.stays t).contents in
    read_inside bytes c.args.log.now.gate c.loop-next.place.at so_far.groups (g.T.Site.bytes_read c.args.site.now 0)
    (g.T.Site.bytes_read c.loop-next.site 0) (g.T.Site.bytes_read c.audit_group.new.site 0) so_far.holds
    (it.read (call.only_log 0 told).0)
    (let few = call.inside (it.site.still_told t) told in omega (arith, few, ap length same))
