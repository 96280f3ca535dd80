-- Entries that were found legal, one after another, are a serial history.
use Rattle.std.proofs.Common.{◌≡◌, ◌∙◌, refl, sym, ap, subst, ℕ, List, [], ◌∷◌, ◌++◌, append_assoc}
use Rattle.std.proofs.lemmas.List.{append-nil}
use Rattle.fp_model.specs.declared.database.Db.{Db}
use Rattle.fp_model.specs.declared.log.Entry.{Entry}
use Rattle.fp_model.specs.History.{History, beginning, with_entry}
use Rattle.fp_model.specs.Rules.{Rules}
use Rattle.fp_model.specs.SerialHistory.{Comes, IsSerialHistory, LeadsOn}
use Rattle.fp_model.proofs.HistoryLemmas.{front, join, one_end}
use Rattle.fp_audit.specs.Audit.{Audit}
use Rattle.fp_audit.specs.Standing.{ComesNever, FindsAllLegal, FindsIllegal, HasFound, IsAt, StandsBehind, rules_in}

pub found_none : (audit : Audit) (format : ℕ) → IsAt audit (beginning format (rules_in audit).start)
    → HasFound audit format []
found_none audit format at = record {
  history = beginning format (rules_in audit).start;
  leads = refl;
  stands = at;
}

pub found_more : (old new : Audit) (format : ℕ) (entries : List Entry) (e : Entry) (found : HasFound old format entries)
    → rules_in new ≡ rules_in old → StandsBehind new e found.history → HasFound new format (entries ++ e ∷ [])
found_more old new format entries e found same behind = record {
  history = with_entry e behind.next found.history;
  leads =
      join (rules_in new) (beginning format (rules_in new).start) entries (e ∷ []) found.history
      (with_entry e behind.next found.history)
      (subst (λ (rules : Rules). LeadsOn rules (beginning format rules.start) entries found.history) (sym same)
      found.leads)
      (behind.next, behind.comes, refl);
  stands = behind.stands;
}

pub found_serial : (audit : Audit) (format : ℕ) (entries : List Entry) (found : HasFound audit format entries)
    → IsSerialHistory (rules_in audit) format entries found.history.now
found_serial audit format entries found = record { history = found.history; leads = found.leads; ends = refl }

pub found_never : (audit : Audit) (format : ℕ) (entries : List Entry) (e : Entry) (found : HasFound audit format entries)
    → ComesNever (rules_in audit) found.history e → (rest : List Entry) (last : Db)
    → ¬ (IsSerialHistory (rules_in audit) format (entries ++ e ∷ rest) last)
found_never audit format entries e found never rest last is =
    let rules : Rules = rules_in audit in
    let begun : History = beginning format rules.start in
    let parts = front rules begun entries (e ∷ rest) is.history is.leads in
    let same : parts.0 ≡ found.history = one_end rules begun entries found.history parts.0 found.leads parts.1.0 in
    never parts.1.1.0 (subst (λ (h : History). Comes rules h e parts.1.1.0) same parts.1.1.1)

-- ---- any list of entries

found_all : (es : List Entry) (old new : Audit) (format : ℕ) (before : List Entry) → HasFound old format before
    → FindsAllLegal old es new → HasFound new format (before ++ es) × (rules_in new ≡ rules_in old)
found_all [] old new format before found all = (
  subst (HasFound new format) (sym (append-nil before))
      (subst (λ (audit : Audit). HasFound audit format before) (sym all) found),
  ap rules_in all,
)
found_all (e ∷ es) old new format before found all =
    let one = found_more old all.0 format before e found all.1.rules (all.1.legal found.history found.stands) in
    let rest = found_all es all.0 new format (before ++ e ∷ []) one all.2 in
    (subst (HasFound new format) (append_assoc before (e ∷ []) es) rest.0, rest.1 ∙ all.1.rules)

pub all_legal : (old new : Audit) (format : ℕ) (entries : List Entry)
    → IsAt old (beginning format (rules_in old).start) → FindsAllLegal old entries new
    → (last : Db) × IsSerialHistory (rules_in old) format entries last
all_legal old new format entries begins all =
    let it = found_all entries old new format [] (found_none old format begins) all in (
      it.0.history.now,
      subst (λ (rules : Rules). IsSerialHistory rules format entries it.0.history.now) it.1
          (found_serial new format entries it.0),
    )

pub first_illegal : (old new : Audit) (format : ℕ) (entries : List Entry) (e : Entry)
    → IsAt old (beginning format (rules_in old).start) → FindsAllLegal old entries new → FindsIllegal new e
    → (rest : List Entry) (last : Db) → ¬ (IsSerialHistory (rules_in old) format (entries ++ e ∷ rest) last)
first_illegal old new format entries e begins all never rest last is =
    let it = found_all entries old new format [] (found_none old format begins) all in
    found_never new format entries e it.0 (never it.0.history it.0.stands) rest last
    (subst (λ (rules : Rules). IsSerialHistory rules format (entries ++ e ∷ rest) last) (sym it.1) is)
