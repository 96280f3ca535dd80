use Rattle.std.proofs.Common.{refl, arith}
use Rattle.area_redo.specs.Example.{unwritten, torn, whole}
use Rattle.area_redo.proofs.OneArea.{redone_of, other_not, found_torn, may_be_written, may_open_whole}
use Rattle.area_redo.proofs.example.an_example.Goals as goal

pub returns : goal.returns
returns c = record {
  unwritten = redone_of unwritten refl (omega arith);
  torn = redone_of torn refl (omega arith);
  whole = redone_of whole refl (omega arith);
  not_so = other_not;
  stands = found_torn;
  waits = may_be_written;
  interval = refl;
  opening = may_open_whole;
}
