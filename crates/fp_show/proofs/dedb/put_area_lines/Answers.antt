use Rattle.std.proofs.Common.{◌≤◌, length, min, arith}
use Rattle.fp_show.specs.DbText.{area_line}
use Rattle.fp_show.proofs.Pairs.{each_done}
use Rattle.fp_show.proofs.dedb.put_area_lines.Goals as goal
use Rattle.plain_laws.proofs.Lists.{all_written}

-- one of the two lists is at its end
pub returns : goal.returns
returns c =
    let past : min (length c.args.defs.now) (length c.args.areas.now) ≤ c.loop-at.at = omega arith in
    all_written _ _ _ (each_done area_line c.args.defs.now c.args.areas.now c.loop-at.at past) c.loop-at.invariant
