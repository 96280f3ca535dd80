use Rattle.std.specs.Prelude.{◌≡◌, drop, slice_get}
use Rattle.fp_model.specs.Items.{area_sizes}
use Rattle.fp_restart.proofs.Areas.{sizes_of}
use Rattle.fp_restart.proofs.fitting.area_size.Given as goal

-- the area is one of those that are left
abbrev pub invariant-loop-dedb : goal.invariant-loop-dedb
invariant-loop-dedb l = slice_get (sizes_of (drop l.dedb-index l.dedb-items)) l.left ≡ slice_get (area_sizes l.fn.defs)
    l.fn.number
