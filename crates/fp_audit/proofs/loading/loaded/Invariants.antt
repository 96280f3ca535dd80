use Rattle.std.proofs.Common.{◌≡◌, drop}
use Rattle.fp_audit.proofs.Loads.{IsLoadingPast}
use Rattle.fp_audit.proofs.loading.loaded.Given as goal

abbrev pub invariant-loop-segment : goal.invariant-loop-segment
invariant-loop-segment l = record {
  items : l.segment-items ≡ l.fn.def.load;
  loading : IsLoadingPast l.fn.def l.past (drop l.segment-index l.segment-items);
}
