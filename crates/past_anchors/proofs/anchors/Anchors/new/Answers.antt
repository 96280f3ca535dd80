use Rattle.std.proofs.Common.{◌∙◌, ap, map, subst, sym, length, arith}
use Rattle.std.specs.List.{AllZip}
use Rattle.fp_model.specs.Shape.{IsDedbOf}
use Rattle.fp_model.specs.State.{formatted}
use Rattle.state_laws.proofs.Start.{all_formatted}
use Rattle.past_anchors.proofs.anchors.Anchors.new.Goals as goal
use Rattle.plain_laws.proofs.Lists.{take_whole}

pub returns-clause-shape : goal.returns-clause-shape
returns-clause-shape c =
    let defs = c.args.defs.now.dedbs in
    let is = c.loop-def.invariant ∙ ap (map formatted) (take_whole defs c.loop-def.def-index
    (omega (arith, ap length c.as_slice-def-items.ensures))) in
    subst (AllZip IsDedbOf defs) (sym is) (all_formatted defs)
