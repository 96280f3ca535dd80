use Rattle.std.proofs.Common.{◌≡◌, take}
use Rattle.fp_audit.proofs.Loads.{AreLoaded}
use Rattle.fp_audit.proofs.loading.first_pasts.Given as goal

abbrev pub invariant-loop-def : goal.invariant-loop-def
invariant-loop-def l = record {
  items : l.def-items ≡ l.fn.defs.msdbs;
  loaded : AreLoaded (take l.def-index l.def-items) l.pasts.items;
}
