use Rattle.std.proofs.Common.{sym, ◌∙◌}
use Rattle.log_format.proofs.Bodies.{one_body}
use Rattle.log_format.proofs.laws.a_body_reads_in_one_way.Goals as goal

pub returns : goal.returns
returns c = record {
  same = λ bytes entries found a b. one_body entries found a.each b.each (sym a.text ∙ b.text);
  written = λ entries found each b. one_body entries found each b.each b.text;
}
