use Rattle.std.proofs.Common.{◌≡◌, ◌+◌, ◌*◌, ◌≤◌, ◌^◌, length, sym, subst, ◌∙◌, ap}
use Rattle.std.specs.Prelude.{option_copied}
use Rattle.ci_pool.specs.Cells.{cell_at}
use Rattle.ci_pool.specs.Held.{waiting_of}
use Rattle.ci_pool.proofs.Pools.{bytes_wait}
use Rattle.ci_pool.proofs.pool.Pool.pending.Goals as goal

pub returns-in-Some-clause-ends : goal.returns-in-Some-clause-ends
returns-in-Some-clause-ends c =
    let w = bytes_wait (waiting_of (cell_at c.args.set c.args.ci c.self.inside.cells)) c.in-Some.bytes.now
    (sym c.waiting_bytes.ensures ∙ ap option_copied c.in-Some.is) in
    let ends = c.self.invariant.pending_ends c.args.set c.args.ci w.0 w.1 in
    let long : length w.0.bytes ≡ length c.as_slice.result.now = ap length (w.2 ∙ sym c.as_slice.ensures) in
    subst (λ n. (c.args.ci + 1) * n ≤ 2 ^ 62) long ends
