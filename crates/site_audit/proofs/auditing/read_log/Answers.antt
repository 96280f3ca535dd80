use Rattle.std.proofs.Common.{◌≡◌, ◌+◌, ◌∙◌, ap, sym, arith, rules, subst, length, List, ℕ}
use Rattle.std.specs.Prelude.{◌≢◌, None, Some, slice_index}
use Rattle.std.proofs.lemmas.List.{length-append}
use Rattle.fp_audit.specs.Standing.{IsAt, rules_in}
use Rattle.fp_model.specs.Groups.{Groups, Reads}
use Rattle.fp_model.specs.History.{beginning}
use Rattle.fp_model.specs.LogText.{first_gate, front_text}
use Rattle.fp_model.specs.Product.{rules_of}
use Rattle.fp_model.specs.Rules.{Rules}
use Rattle.fp_model.specs.State.{start}
use Rattle.fp_site.proofs.Runs.{stays_then}
use Rattle.log_groups.specs.Images.{as_front, in_format}
use Rattle.log_groups.proofs.Fronts.{same_gate}
use Rattle.site_audit.specs.inside.Judged.{AreBroken, AreRead}
use Rattle.site_audit.specs.Legal.{IsIllegalLog, IsLegalLog}
use Rattle.site_audit.specs.declared.auditing.Place.{Place}
use Rattle.site_audit.proofs.Logs.{broken_log, illegal_log, legal_log}
use Rattle.site_audit.proofs.auditing.read_log.Goals as goal
use Rattle.plain_laws.proofs.Results.{both_ok}

pub returns-clause-legal : goal.returns-clause-legal
returns-clause-legal g c t =
    let defs = c.args.defs.now in
    let scripts = c.args.scripts.now.scripts in
    let front = as_front c.args.front.now in
    let old = (g.T.Site.disk c.args.site.now).contents 0 in
    let now = (g.T.Site.disk c.open.new.site).contents 0 in
    let same : now ≡ old = ap (λ (f : ℕ → List ℕ). f 0) (c.open.ensures.stays t).contents in
    let format = c.in_ok-log.log.front_format in
    let its = rules_of defs scripts in
    let auditor = c.in_ok-auditor.auditor in
    let stands = IsAt c.audit_groups.new.auditor in
    let first = c.in_ok-log.log.gate in
    let read_in : c.format.result ≡ format = search rules in
    let begins : IsAt auditor (beginning format (rules_in auditor).start) =
    subst (λ (r : Rules). IsAt auditor (beginning format r.start)) (sym c.in_ok-auditor.ensures.rules)
    (subst (λ (f : ℕ). IsAt auditor (beginning f (start defs))) read_in c.in_ok-auditor.ensures.begins) in
    let t1 = c.open.ensures.site.still_told t in
    both_ok c.audit_groups.result (λ (end : Place). AreRead (rules_in auditor) format stands now first end)
    (λ (end : Place). slice_index now end.at ≢ 1)
    (λ (end : Place). end.illegal ≡ None → IsLegalLog defs scripts front old end.entries)
    (λ end read closed.
    legal_log defs scripts front old format c.in_ok-log.ensures.is_format (c.in_ok-log.ensures.front t) first
    (search rules) stands end
    (subst (λ (l : List ℕ). AreRead its format stands l first end) same
    (subst (λ (r : Rules). AreRead r format stands now first end) c.in_ok-auditor.ensures.rules read))
    (subst (λ (l : List ℕ). slice_index l end.at ≢ 1) same closed))
    (c.audit_groups.ensures.whole format begins t1) (c.audit_groups.ensures.closed t1)

pub returns-clause-illegal : goal.returns-clause-illegal
returns-clause-illegal g c entry t =
    let defs = c.args.defs.now in
    let scripts = c.args.scripts.now.scripts in
    let front = as_front c.args.front.now in
    let old = (g.T.Site.disk c.args.site.now).contents 0 in
    let now = (g.T.Site.disk c.open.new.site).contents 0 in
    let same : now ≡ old = ap (λ (f : ℕ → List ℕ). f 0) (c.open.ensures.stays t).contents in
    let format = c.in_ok-log.log.front_format in
    let its = rules_of defs scripts in
    let auditor = c.in_ok-auditor.auditor in
    let stands = IsAt c.audit_groups.new.auditor in
    let first = c.in_ok-log.log.gate in
    let read_in : c.format.result ≡ format = search rules in
    let begins : IsAt auditor (beginning format (rules_in auditor).start) =
    subst (λ (r : Rules). IsAt auditor (beginning format r.start)) (sym c.in_ok-auditor.ensures.rules)
    (subst (λ (f : ℕ). IsAt auditor (beginning f (start defs))) read_in c.in_ok-auditor.ensures.begins) in
    let t1 = c.open.ensures.site.still_told t in
    both_ok c.audit_groups.result (λ (end : Place). AreRead (rules_in auditor) format stands now first end)
    (λ (end : Place). slice_index now end.at ≢ 1)
    (λ (end : Place). end.illegal ≡ Some entry → IsIllegalLog defs scripts front old entry)
    (λ end read closed.
    illegal_log defs scripts front old format c.in_ok-log.ensures.is_format (c.in_ok-log.ensures.front t) first
    (search rules) stands end
    (subst (λ (l : List ℕ). AreRead its format stands l first end) same
    (subst (λ (r : Rules). AreRead r format stands now first end) c.in_ok-auditor.ensures.rules read))
    (subst (λ (l : List ℕ). slice_index l end.at ≢ 1) same closed) entry)
    (c.audit_groups.ensures.whole format begins t1) (c.audit_groups.ensures.closed t1)

pub returns-clause-foreign : goal.returns-clause-foreign
returns-clause-foreign g c t is = absurd (c.audit_groups.ensures.never.0 is)

pub returns-clause-damaged : goal.returns-clause-damaged
returns-clause-damaged g c at t is =
    let defs = c.args.defs.now in
    let scripts = c.args.scripts.now.scripts in
    let front = as_front c.args.front.now in
    let old = (g.T.Site.disk c.args.site.now).contents 0 in
    let same = ap (λ (f : ℕ → List ℕ). f 0) (c.open.ensures.stays t).contents in
    let first = c.in_ok-log.log.gate in
    broken_log defs scripts front old c.in_ok-log.log.front_format c.in_ok-log.ensures.is_format
    (c.in_ok-log.ensures.front t) first (search rules) at
    (subst (λ (l : List ℕ). AreBroken l first at) same
    (c.audit_groups.ensures.damaged at (c.open.ensures.site.still_told t) is))

pub returns-clause-stays : goal.returns-clause-stays
returns-clause-stays g c t =
    let t1 = c.open.ensures.site.still_told t in
    stays_then (g.T.Site.disk c.args.site.now) (g.T.Site.disk c.open.new.site)
    (g.T.Site.disk c.audit_groups.new.site) (g.met.T.Site.lawful c.args.site.now t)
    (g.met.T.Site.lawful c.open.new.site t1) (c.open.ensures.stays t) (c.audit_groups.ensures.stays t1)

pub returns-in_err-log-clause-once : goal.returns-in_err-log-clause-once
returns-in_err-log-clause-once g c t told =
    let few = c.open.ensures.count told in
    let inside = c.open.ensures.inside t told in
    record {
      all = omega (arith, inside);
      up_to = λ groups gate holds. omega (arith, few, holds.reads.0.next);
      of_others = λ away. few;
    }

-- the log begins with the front, so what was read so far is all that is to be read of it, or less
pub returns-in_err-auditor-clause-once : goal.returns-in_err-auditor-clause-once
returns-in_err-auditor-clause-once g c t told =
    let few = c.open.ensures.count told in
    let inside = c.open.ensures.inside t told in
    record {
      all = omega (arith, inside);
      up_to = λ groups gate holds. omega (arith, few, holds.reads.0.next);
      of_others = λ away. few;
    }

pub returns-clause-once : goal.returns-clause-once
returns-clause-once g c t told =
    let front = as_front c.args.front.now in
    let t1 = c.open.ensures.site.still_told t in
    let old = (g.T.Site.disk c.args.site.now).contents 0 in
    let same = ap (λ (f : ℕ → List ℕ). f 0) (c.open.ensures.stays t).contents in
    let first : c.in_ok-log.log.gate ≡ first_gate front = search rules in
    let told1 = (c.audit_groups.ensures.only_log 0 told).0 in
    let exact = c.in_ok-log.ensures.exact told1 in
    let begins = c.in_ok-log.ensures.front t in
    let its = in_format c.in_ok-log.log.front_format front in
    record {
      all =
          let few = c.audit_groups.ensures.once t1 told in
          let long : length old ≡ first_gate its + length begins.0 =
          ap length begins.1 ∙ length-append (front_text 1 its) begins.0 in
          omega (arith, few, exact, first, long, same_gate c.in_ok-log.log.front_format front, ap length same);
      up_to = λ groups gate holds.
          let whole =
          subst (λ (n : ℕ). Reads ((g.T.Site.disk c.open.new.site).contents 0) n (Groups groups gate)) (sym first)
          (subst (λ (l : List ℕ). Reads l (first_gate front) (Groups groups gate)) (sym same) holds.reads) in
          let few = c.audit_groups.ensures.read groups gate t1 whole told in omega (arith, few, exact, first);
      of_others = λ away. absurd (away (record {
        format = c.in_ok-log.log.front_format;
        is_format = c.in_ok-log.ensures.is_format;
        begins = begins;
      }));
    }
