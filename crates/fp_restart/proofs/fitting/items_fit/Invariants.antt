use Rattle.std.specs.Prelude.{take, true}
use Rattle.std.specs.List.{AllByRecursion}
use Rattle.fp_model.specs.Items.{IsFit}
use Rattle.fp_restart.specs.inside.Begun.{Judges}
use Rattle.fp_restart.proofs.fitting.items_fit.Given as goal

-- the items so far may be applied, and each is fit
abbrev pub invariant-loop-item : goal.invariant-loop-item
invariant-loop-item l = record {
  judged : Judges l.fn.defs l.initial.begun l.begun (take l.item-index l.items) true;
  each : AllByRecursion (IsFit l.fn.defs) (take l.item-index l.items);
}
