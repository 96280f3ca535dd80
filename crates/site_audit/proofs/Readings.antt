-- Of a log at most one thing is found.
use Rattle.std.proofs.Common.{◌≡◌, ℕ, ◌+◌, ◌<◌, List, take, ap, subst, arith}
use Rattle.std.proofs.lemmas.List.{take-take}
use Rattle.fp_model.specs.declared.definitions.Defs.{Defs}
use Rattle.fp_model.specs.declared.log.Entry.{Entry}
use Rattle.fp_model.specs.declared.scripts.Script.{Script}
use Rattle.fp_model.specs.Groups.{entries_of}
use Rattle.fp_model.specs.LogText.{Front, first_gate}
use Rattle.fp_model.specs.Product.{rules_of}
use Rattle.fp_model.specs.Rules.{Rules}
use Rattle.fp_model.specs.SerialHistory.{IsSerialHistory}
use Rattle.fp_restart.proofs.Groups.{same_reading}
use Rattle.log_groups.proofs.Fronts.{one_format}
use Rattle.log_groups.specs.Images.{HoldsFor}
use Rattle.site_audit.specs.Legal.{IsFirstIllegal, IsIllegalLog, IsLegalLog}
use Rattle.site_audit.proofs.Logs.{no_illegal, serial_front}

-- none before the first isn't legal
none_before : (rules : Rules) (format : ℕ) (entries : List Entry) (x y : ℕ) → IsFirstIllegal rules format entries x
    → IsFirstIllegal rules format entries y → x < y → ⊥
none_before rules format entries x y first second less =
    let upto = serial_front rules format (take y entries) (x + 1) second.before.history second.before.leads in
    first.never upto.0.now
    (subst (λ (l : List Entry). IsSerialHistory rules format l upto.0.now) (take-take (x + 1) y entries (omega arith))
    upto.1)

one_first : (rules : Rules) (format : ℕ) (entries : List Entry) (x y : ℕ) → IsFirstIllegal rules format entries x
    → IsFirstIllegal rules format entries y → x ≡ y
one_first rules format entries x y first second =
    let below : x < y → ⊥ = none_before rules format entries x y first second in
    let above : y < x → ⊥ = none_before rules format entries y x second first in
    omega (arith, below, above)

module _ (defs : Defs) (scripts : List Script) (front : Front) (log : List ℕ) where
  -- two readings have the same entries, and one format
  same_entries : (gs hs : List (List Entry)) (gate gate2 : ℕ) → HoldsFor front log gs gate
      → HoldsFor front log hs gate2 → entries_of gs ≡ entries_of hs
  same_entries gs hs gate gate2 p q =
      ap entries_of (same_reading log (first_gate front) gs hs gate gate2 p.reads q.reads).0

  same_format : (gs hs : List (List Entry)) (gate gate2 : ℕ) → (p : HoldsFor front log gs gate)
      → (q : HoldsFor front log hs gate2) → p.begins.format ≡ q.begins.format
  same_format gs hs gate gate2 p q =
      one_format p.begins.format q.begins.format front log p.begins.begins q.begins.begins

  -- at most one entry is the first that isn't legal
  pub one_illegal : (x y : ℕ) → IsIllegalLog defs scripts front log x → IsIllegalLog defs scripts front log y → x ≡ y
  one_illegal x y p q =
      let rules = rules_of defs scripts in
      let alike = subst (λ (l : List Entry). IsFirstIllegal rules q.holds.begins.format l x)
      (same_entries p.groups q.groups p.gate q.gate p.holds q.holds)
      (subst (λ (f : ℕ). IsFirstIllegal rules f (entries_of p.groups) x)
      (same_format p.groups q.groups p.gate q.gate p.holds q.holds) p.first) in
      one_first rules q.holds.begins.format (entries_of q.groups) x y alike q.first

  -- and none where all are
  pub legal_or_not : (count x : ℕ) → IsLegalLog defs scripts front log count → IsIllegalLog defs scripts front log x → ⊥
  legal_or_not count x p q =
      let rules = rules_of defs scripts in
      let alike = subst (λ (l : List Entry). IsSerialHistory rules q.holds.begins.format l p.last)
      (same_entries p.groups q.groups p.gate q.gate p.holds q.holds)
      (subst (λ (f : ℕ). IsSerialHistory rules f (entries_of p.groups) p.last)
      (same_format p.groups q.groups p.gate q.gate p.holds q.holds) p.history) in
      no_illegal rules q.holds.begins.format (entries_of q.groups) x p.last alike q.first
