use Rattle.std.specs.Prelude.{take, true}
use Rattle.std.specs.List.{AllByRecursion}
use Rattle.fp_model.specs.Items.{IsFit, items_of}
use Rattle.fp_restart.specs.inside.Begun.{Judges}
use Rattle.fp_restart.proofs.fitting.are_fit.Given as goal

-- the items of the entries so far may be applied, and each is fit
abbrev pub invariant-loop-entry : goal.invariant-loop-entry
invariant-loop-entry l = record {
  judged : Judges l.fn.defs l.initial.begun l.begun (items_of (take l.entry-index l.entries)) true;
  each : AllByRecursion (IsFit l.fn.defs) (items_of (take l.entry-index l.entries));
}
