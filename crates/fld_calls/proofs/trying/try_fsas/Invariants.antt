use Rattle.std.proofs.Common.{◌≡◌, length, take, drop}
use Rattle.fld_calls.proofs.ListLemmas.{IsTrying}
use Rattle.fld_calls.proofs.trying.try_fsas.Given as goal

-- the arguments so far have their letters
abbrev pub invariant-loop-at : goal.invariant-loop-at
invariant-loop-at l = record {
  all : length l.fsas ≡ length l.initial.fsas;
  whole : length l.segment ≡ l.def.length;
  trying : IsTrying l.def l.initial.fsas l.initial.segment (take l.at l.fsas) (drop l.at l.fsas) l.segment l.good;
}
