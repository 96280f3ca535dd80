use Rattle.std.proofs.Common.{◌≡◌, ◌&&◌, not, drop}
use Rattle.std.specs.List.{position_from}
use Rattle.fp_model.specs.Texts.{same_text}
use Rattle.fp_defs.specs.Segments.{place_of}
use Rattle.fp_defs.proofs.segments.place_of.Given as goal

abbrev pub invariant-loop-i : goal.invariant-loop-i
invariant-loop-i l = position_from (λ def. same_text def.name.0 l.name.0 && not def.sequential) l.i (drop l.i l.before)
    ≡ place_of l.before l.name
