use Rattle.std.proofs.Common.{◌≡◌, length}
use Rattle.fp_model.specs.Fsas.{fsas_in}
use Rattle.fld_calls.proofs.ListLemmas.{Tries}
use Rattle.fld_calls.proofs.trying.try_list.Given as goal

-- the arguments so far have their letters
abbrev pub invariant-loop-front : goal.invariant-loop-front
invariant-loop-front l = record {
  whole : length l.segment ≡ l.def.length;
  tries : Tries l.def (fsas_in l.fn.bytes) l.initial.segment l.letters l.rest l.segment;
}

abbrev pub decreases-loop-front : goal.decreases-loop-front
decreases-loop-front l = length l.rest
