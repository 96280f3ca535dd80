use Rattle.std.proofs.Common.{[], arith}
use Rattle.fp_defs.specs.Segments.{segment_of}
use Rattle.fp_defs.proofs.Beside.{read_in_turn}
use Rattle.fp_defs.proofs.SegmentLemmas.{have_places, fits_at, narrow_by}
use Rattle.fp_defs.proofs.dedbs.dedb_behind.Goals as goal

pub narrowed-requires : goal.narrowed-requires
narrowed-requires c =
    let drafts = c.in_ok-drafts.drafts in
    narrow_by c.args.head.ci 0 drafts drafts
    (have_places [] drafts (read_in_turn segment_of _ drafts c.in_ok-drafts.ensures.exact).0)
    (fits_at _ c.args.head.ci _ drafts _ c.from.ensures c.as_slice.ensures c.in_ok-all_fit.ensures)
    (omega arith) (omega (arith, c.len.ensures, c.in_ok-count_within.ensures.small))
