use Rattle.std.proofs.Common.{◌∙◌, sym}
use Rattle.seq_dependents.proofs.laws.a_serial_has_one_segment.Goals as goal

pub returns : goal.returns
returns c = record {
  previous = λ part area serial previous other segment more a b. sym a.holds.is_previous ∙ b.holds.is_previous;
  segment = λ part area serial previous other segment more a b. sym a.holds.is_segment ∙ b.holds.is_segment;
}
