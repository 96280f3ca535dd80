-- Logs whose entries were judged: what the answer says of them.
use Rattle.std.proofs.Common.{◌≡◌, ℕ, ◌+◌, List, length, take, drop, refl, sym, ◌∙◌, ap, subst}
use Rattle.std.specs.Prelude.{◌≢◌, slice_index, None, Some}
use Rattle.std.proofs.lemmas.List.{take-append-drop}
use Rattle.fp_model.specs.declared.database.Db.{Db}
use Rattle.fp_model.specs.declared.definitions.Defs.{Defs}
use Rattle.fp_model.specs.declared.log.Entry.{Entry}
use Rattle.fp_model.specs.declared.scripts.Script.{Script}
use Rattle.fp_model.specs.Groups.{Groups, HoldsGroups, Reads, entries_of}
use Rattle.fp_model.specs.History.{History, beginning}
use Rattle.fp_model.specs.LogText.{Front, IsFormat, StartsWithFront, first_gate}
use Rattle.fp_model.specs.Product.{rules_of}
use Rattle.fp_model.specs.Rules.{Rules}
use Rattle.fp_model.specs.SerialHistory.{IsSerialHistory, LeadsOn}
use Rattle.fp_model.proofs.HistoryLemmas.{front}
use Rattle.fp_restart.proofs.Groups.{same_reading}
use Rattle.log_groups.proofs.Fronts.{one_format, same_gate}
use Rattle.log_groups.specs.Images.{BeginsFor, HoldsFor, in_format}
use Rattle.log_groups.specs.Kept.{IsSound}
use Rattle.site_audit.specs.inside.Judged.{AreBroken, AreJudged, AreRead}
use Rattle.site_audit.specs.Legal.{IsBrokenAt, IsFirstIllegal, IsIllegalLog, IsLegalLog}
use Rattle.site_audit.specs.declared.auditing.Place.{Place}

-- what comes first of a serial history is one
pub serial_front : (rules : Rules) (format : ℕ) (entries : List Entry) (k : ℕ) → (h : History)
    → LeadsOn rules (beginning format rules.start) entries h
    → (mid : History) × IsSerialHistory rules format (take k entries) mid.now
serial_front rules format entries k h leads =
    let two = front rules (beginning format rules.start) (take k entries) (drop k entries) h
    (subst (λ (l : List Entry). LeadsOn rules (beginning format rules.start) l h) (sym (take-append-drop k entries))
    leads) in
    (two.0, record { history = two.0; leads = two.1.0; ends = refl })

-- so it has no entry that isn't legal
pub no_illegal : (rules : Rules) (format : ℕ) (entries : List Entry) (place : ℕ) (last : Db)
    → IsSerialHistory rules format entries last → IsFirstIllegal rules format entries place → ⊥
no_illegal rules format entries place last all first =
    let upto = serial_front rules format entries (place + 1) all.history all.leads in
    first.never upto.0.now upto.1

module _ (defs : Defs) (scripts : List Script) (its_front : Front) (log : List ℕ) where
  -- ---- a log that was read and judged

  module _ (format : ℕ) (is_format : IsFormat format) (starts : StartsWithFront log (in_format format its_front))
      (first : ℕ) (is_first : first ≡ first_gate its_front) where
    abbrev begun : BeginsFor its_front log
    begun = record { format = format; is_format = is_format; begins = starts }

    pub broken_log : (at : ℕ) → AreBroken log first at → IsBrokenAt its_front log at
    broken_log at broken = record {
      groups = broken.groups;
      begins = begun;
      holds = subst (λ (n : ℕ). HoldsGroups log n broken.groups at) is_first broken.holds;
      damaged = broken.damaged;
    }

    module _ (stands : History → Type 0) (place : Place)
        (read : AreRead (rules_of defs scripts) format stands log first place)
        (closed : slice_index log place.at ≢ 1) where
      abbrev held : HoldsFor its_front log read.groups place.at
      held = record {
        begins = begun;
        reads = (subst (λ (n : ℕ). HoldsGroups log n read.groups place.at) is_first read.holds, closed);
      }

      -- all are legal
      pub legal_log : place.illegal ≡ None → IsLegalLog defs scripts its_front log place.entries
      legal_log none =
          let its = subst (AreJudged (rules_of defs scripts) format stands (entries_of read.groups)) none read.judged in
          record {
            groups = read.groups;
            gate = place.at;
            holds = held;
            last = its.0.now;
            history = record { history = its.0; leads = its.1.0; ends = refl };
            all = read.count;
          }

      -- one isn't
      pub illegal_log : (entry : ℕ) → place.illegal ≡ Some entry → IsIllegalLog defs scripts its_front log entry
      illegal_log entry some = record {
        groups = read.groups;
        gate = place.at;
        holds = held;
        first = subst (AreJudged (rules_of defs scripts) format stands (entries_of read.groups)) some read.judged;
      }

  -- ---- a sound log

  module _ (format : ℕ) (entries : List Entry) (sound : IsSound defs scripts (in_format format its_front) log entries)
    where
      its_reads : Reads log (first_gate its_front) (Groups sound.groups sound.gate)
      its_reads =
          subst (λ (n : ℕ). Reads log n (Groups sound.groups sound.gate)) (same_gate format its_front)
          sound.holds.reads

      -- another reading has its entries,
      same_entries : (groups : List (List Entry)) (gate : ℕ) → HoldsFor its_front log groups gate
          → entries_of groups ≡ entries
      same_entries groups gate holds =
          ap entries_of (same_reading log (first_gate its_front) groups sound.groups gate sound.gate holds.reads
          its_reads).0
          ∙ sym sound.all

      -- and its format
      same_format : (groups : List (List Entry)) (gate : ℕ) → (holds : HoldsFor its_front log groups gate)
          → holds.begins.format ≡ format
      same_format groups gate holds =
          one_format holds.begins.format format its_front log holds.begins.begins sound.holds.begins

      pub sound_not_illegal : (place : ℕ) → IsIllegalLog defs scripts its_front log place → ⊥
      sound_not_illegal place it =
          let rules = rules_of defs scripts in
          no_illegal rules format entries place sound.last sound.history
          (subst (λ (l : List Entry). IsFirstIllegal rules format l place) (same_entries it.groups it.gate it.holds)
          (subst (λ (f : ℕ). IsFirstIllegal rules f (entries_of it.groups) place)
          (same_format it.groups it.gate it.holds) it.first))

      pub sound_count : (count : ℕ) → IsLegalLog defs scripts its_front log count → count ≡ length entries
      sound_count count it = it.all ∙ ap length (same_entries it.groups it.gate it.holds)
