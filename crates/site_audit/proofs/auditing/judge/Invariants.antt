use Rattle.std.proofs.Common.{◌≡◌, take}
use Rattle.fp_audit.specs.Standing.{IsAt, rules_in}
use Rattle.fp_model.specs.History.{History}
use Rattle.fp_model.specs.SerialHistory.{LeadsOn}
use Rattle.site_audit.proofs.auditing.judge.Given as goal

-- the entries before this one lead on, and the auditor stands behind them
abbrev pub invariant-loop-number : goal.invariant-loop-number
invariant-loop-number g l = record {
  stands : (h : History) → IsAt l.initial.auditor h → (mid : History)
      × (LeadsOn (rules_in l.initial.auditor) h (take l.number l.entries) mid × IsAt l.auditor mid);
  rules : rules_in l.auditor ≡ rules_in l.initial.auditor;
  defs : l.auditor.defs ≡ l.initial.auditor.defs;
}
