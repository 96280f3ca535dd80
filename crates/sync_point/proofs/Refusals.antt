-- How long the entry of a bare refusal is.
use Rattle.std.proofs.Common.{◌≡◌, arith, ℕ, List, length}
use Rattle.fp_model.specs.declared.log.Outcome.{Outcome}
use Rattle.fp_model.specs.declared.log.Outcome.TheVariants as outcome
use Rattle.fp_model.specs.LogText.{entry_text}
use Rattle.log_format.proofs.SizeLaws.{length_of_entry}
use Rattle.sync_point.specs.Refusals.{IsBare, bare_entry, refusal_room}

pub bare_length : (from : ℕ) (o : Outcome) (line : List ℕ) → IsBare o
    → length (entry_text (bare_entry from o line)) ≡ refusal_room line
bare_length from outcome.Device line bare = omega (arith, length_of_entry (bare_entry from outcome.Device line))
bare_length from outcome.Memory line bare = omega (arith, length_of_entry (bare_entry from outcome.Memory line))
bare_length from outcome.Done line bare = absurd bare
bare_length from outcome.Unknown line bare = absurd bare
bare_length from (outcome.Verify call fsa found) line bare = absurd bare
bare_length from (outcome.Roll code) line bare = absurd bare
bare_length from (outcome.SeqFull set begin end n) line bare = absurd bare
bare_length from (outcome.Deadlock cycle) line bare = absurd bare
bare_length from (outcome.Purge set n) line bare = absurd bare
bare_length from (outcome.Old last) line bare = absurd bare
bare_length from (outcome.Repeat told) line bare = absurd bare
bare_length from outcome.Format line bare = absurd bare
