use Rattle.log_format.proofs.Fields.{law8, law16, law32, law64, short_law, long_law, part_text_law}
use Rattle.log_format.proofs.laws.fields_are_lawful.Goals as goal

pub returns : goal.returns
returns c = record {
  byte = law8;
  two = law16;
  four = law32;
  eight = law64;
  short = short_law;
  long = long_law;
  part = part_text_law;
}
