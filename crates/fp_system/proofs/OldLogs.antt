-- Logs of format 1: which logs are.
use Rattle.std.proofs.Common.{◌≡◌, ◌⊎◌, ⊎_elim, inl, inr, refl, sym, ap, subst, ◌∙◌, arith, ℕ, zero, suc, List, [], ◌∷◌}
use Rattle.fp_model.specs.declared.log.Entry.{Entry}
use Rattle.fp_model.specs.declared.log.Outcome.{Outcome}
use Rattle.fp_model.specs.declared.log.Outcome.TheVariants as outcome
use Rattle.fp_model.specs.Groups.{Groups, Reads, entries_of}
use Rattle.fp_model.specs.Lasts.{format_at, format_behind}
use Rattle.fp_model.specs.LogText.{IsFormat, StartsWithFront, first_gate}
use Rattle.fp_restart.proofs.Groups.{same_reading}
use Rattle.log_groups.proofs.Fronts.{one_format, same_gate}
use Rattle.fp_system.specs.Courses.{IsSoundFor}
use Rattle.command_tasks.specs.Parts.{Job, front_for, front_in}
use Rattle.fp_system.specs.Table.{IsOld}

-- a format behind which is 1 was 1
one_before : (format : ℕ) (o : Outcome) → format_behind format o ≡ 1 → format ≡ 1
one_before format outcome.Done is = is
one_before format (outcome.Verify call fsa found) is = is
one_before format (outcome.Roll code) is = is
one_before format (outcome.SeqFull set begin end n) is = is
one_before format (outcome.Deadlock cycle) is = is
one_before format outcome.Device is = is
one_before format outcome.Memory is = is
one_before format outcome.Unknown is = is
one_before format (outcome.Old last) is = is
one_before format (outcome.Repeat line) is = is
one_before format (outcome.Purge set n) is = is
one_before format outcome.Format is = absurd (omega (arith, is))

pub one_first : (format : ℕ) (es : List Entry) → format_at format es ≡ 1 → format ≡ 1
one_first format [] is = is
one_first format (e ∷ es) is = one_before format e.outcome (one_first (format_behind format e.outcome) es is)

is_one : (n : ℕ) → (n ≡ 1) ⊎ ¬ (n ≡ 1)
is_one zero = inr (λ e. omega (arith, e))
is_one (suc zero) = inl refl
is_one (suc (suc n)) = inr (λ e. omega (arith, e))

-- a log that is read is one of format 1 where a line behind its entries would be read in it
module _ (job : Job) (format : ℕ) (log : List ℕ) (groups : List (List Entry)) (gate : ℕ)
    (begins : StartsWithFront log (front_in format job))
    (reads : Reads log (first_gate (front_for job)) (Groups groups gate)) where
  pub old_where : format_at format (entries_of groups) ≡ 1 → IsOld job log
  old_where one =
      let its : IsFormat format = (0, omega arith, sym (one_first format (entries_of groups) one)) in
      record {
        groups = groups;
        gate = gate;
        holds = record {
          begins = record { format = format; is_format = its; begins = begins };
          reads = reads;
        };
        first = one;
      }

  pub old_only : IsOld job log → format_at format (entries_of groups) ≡ 1
  old_only it =
      let its = it.holds.begins in
      let same_format : its.format ≡ format =
      one_format its.format format (front_for job) log its.begins begins in
      let same = same_reading log (first_gate (front_for job)) it.groups groups it.gate gate it.holds.reads reads in
      ap (λ (f : ℕ). format_at f (entries_of groups)) (sym same_format)
      ∙ ap (λ (gs : List (List Entry)). format_at its.format (entries_of gs)) (sym same.0) ∙ it.first

-- of a sound log
module _ (job : Job) (format : ℕ) (log : List ℕ) (entries : List Entry) (sound : IsSoundFor job format log entries)
  where
    its_reads : Reads log (first_gate (front_for job)) (Groups sound.groups sound.gate)
    its_reads =
        subst (λ (n : ℕ). Reads log n (Groups sound.groups sound.gate)) (same_gate format (front_for job))
        sound.holds.reads

    pub sound_old_where : format_at format entries ≡ 1 → IsOld job log
    sound_old_where one =
        old_where job format log sound.groups sound.gate sound.holds.begins its_reads
        (ap (format_at format) (sym sound.all) ∙ one)

    pub sound_old_only : IsOld job log → format_at format entries ≡ 1
    sound_old_only it =
        ap (format_at format) sound.all
        ∙ old_only job format log sound.groups sound.gate sound.holds.begins its_reads it

    pub old_or_not : IsOld job log ⊎ ¬ (IsOld job log)
    old_or_not = ⊎_elim (λ one. inl (sound_old_where one)) (λ no. inr (λ it. no (sound_old_only it)))
        (is_one (format_at format entries))
