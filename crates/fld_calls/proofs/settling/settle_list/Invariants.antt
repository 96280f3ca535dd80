use Rattle.std.proofs.Common.{◌≡◌, length}
use Rattle.fp_model.specs.Fsas.{fsas_in}
use Rattle.fld_calls.proofs.SettleLemmas.{Settles}
use Rattle.fld_calls.proofs.settling.settle_list.Given as goal

-- the arguments so far are good, and the rest is to be tried on what they left
abbrev pub invariant-loop-front : goal.invariant-loop-front
invariant-loop-front l = record {
  whole : length l.segment ≡ length l.initial.segment;
  settles : Settles l.fields (fsas_in l.fn.bytes) l.initial.segment l.place l.rest l.segment;
}

abbrev pub decreases-loop-front : goal.decreases-loop-front
decreases-loop-front l = length l.rest
