use Rattle.std.proofs.Common.{◌≡◌, ℕ, ◌+◌, ◌*◌, ◌≤◌, ◌^◌, List, Some, None, length, sym, subst, ◌∙◌, ap, arith}
use Rattle.std.specs.Prelude.{option_copied, Contains}
use Rattle.fp_site.specs.Disk.{Broken, written}
use Rattle.ci_pool.specs.Cells.{cell_at}
use Rattle.ci_pool.specs.Held.{Held, waiting_of, pending_at, HasSize}
use Rattle.ci_pool.proofs.Pools.{bytes_wait, written_waits, written_none, written_staged, clean_written, clean_broken}
use Rattle.ci_pool.proofs.pool.Pool.write_one.Goals as goal

pub overflow_mul-ci : goal.overflow_mul-ci
overflow_mul-ci g c =
    let w = bytes_wait (waiting_of (cell_at c.args.set c.args.ci c.self.inside.cells)) c.in-Some.bytes.now
    (sym c.waiting_bytes.ensures ∙ ap option_copied c.in-Some.is) in
    let ends = c.self.invariant.pending_ends c.args.set c.args.ci w.0 w.1 in
    let long : length w.0.bytes ≡ c.len.result = ap length w.2 ∙ sym c.len.ensures in
    let ends2 : (c.args.ci + 1) * c.len.result ≤ 2 ^ 62 = subst (λ n. (c.args.ci + 1) * n ≤ 2 ^ 62) long ends in
    let f : (c.args.ci + 1) * c.len.result ≡ c.args.ci * c.len.result + c.len.result = grind arith in
    omega (arith, ends2, f)

pub write_at-requires : goal.write_at-requires
write_at-requires g c =
    let w = bytes_wait (waiting_of (cell_at c.args.set c.args.ci c.self.inside.cells)) c.in-Some.bytes.now
    (sym c.waiting_bytes.ensures ∙ ap option_copied c.in-Some.is) in
    let ends = c.self.invariant.pending_ends c.args.set c.args.ci w.0 w.1 in
    let long : length w.0.bytes ≡ c.len.result = ap length w.2 ∙ sym c.len.ensures in
    let ends2 : (c.args.ci + 1) * c.len.result ≤ 2 ^ 62 = subst (λ n. (c.args.ci + 1) * n ≤ 2 ^ 62) long ends in
    let f : (c.args.ci + 1) * c.len.result ≡ c.args.ci * c.len.result + c.len.result = grind arith in
    omega (arith, ends2, f, ap length c.as_slice.ensures, c.len.ensures)

pub returns-in_err-write_at-in-Some-clause-clean : goal.returns-in_err-write_at-in-Some-clause-clean
returns-in_err-write_at-in-Some-clause-clean g c told size sized clean =
    let pool = c.args.self.now in
    let w = bytes_wait (waiting_of (cell_at c.args.set c.args.ci c.self.inside.cells)) c.in-Some.bytes.now
    (sym c.waiting_bytes.ensures ∙ ap option_copied c.in-Some.is) in
    let pending : pending_at pool c.args.set c.args.ci ≡ Some w.0 = ap (λ (p : Held). pending_at p c.args.set c.args.ci)
    (sym c.self.view_is) ∙ w.1 in
    let apart : (s k : ℕ) (b : List ℕ) → Contains pool.clean ((s, k), b) → pending_at pool s k ≡ None =
    subst (λ (p : Held). (s k : ℕ) (b : List ℕ) → Contains p.clean ((s, k), b) → pending_at p s k ≡ None)
    c.self.view_is c.self.invariant.apart in
    let long : c.len.result ≡ length w.0.bytes = c.len.ensures ∙ sym (ap length w.2) in
    let given : length c.as_slice.result.now ≡ length w.0.bytes = ap length (c.as_slice.ensures ∙ sym w.2) in
    let old = (g.T.Site.disk c.args.site.now).contents in
    let new = (g.T.Site.disk c.write_at.new.self).contents in
    clean_broken old new pool c.args.set c.args.ci size w.0 pending sized apart
    (c.write_at.ensures.leaves told).contents clean
    (subst (λ n. Broken (c.args.ci * length w.0.bytes) n (old c.args.set) (new c.args.set)) given
    (subst (λ n. Broken (c.args.ci * n) (length c.as_slice.result.now) (old c.args.set) (new c.args.set)) long
    (c.in_err-write_at-in-Some.ensures.broke told)))

pub invariant_of-self : goal.invariant_of-self
invariant_of-self g c =
    let was = c.self.invariant in
    let cells = c.self.inside.cells in
    let new = c.write.new.self in
    record {
      some = was.some;
      pending_ends = λ s k w is. was.pending_ends s k w
          (written_waits c.args.set c.args.ci s k cells new (c.write.ensures.at s k) w is);
      staged_ends = λ s k b is. was.staged_ends s k b
          (sym (written_staged c.args.set c.args.ci s k cells new (c.write.ensures.at s k)) ∙ is);
      apart = λ s k b there. written_none c.args.set c.args.ci s k cells new (c.write.ensures.at s k)
          (was.apart s k b there);
    }

pub returns-in_ok-write_at-in-Some-clause-sizes : goal.returns-in_ok-write_at-in-Some-clause-sizes
returns-in_ok-write_at-in-Some-clause-sizes g c s n sized =
    let cells = c.self.inside.cells in
    let new = c.write.new.self in
    let was : HasSize s n
    (record { bound = c.self.inside.clean.cap; clean = c.self.inside.clean.entries; cells = cells }) =
    subst (HasSize s n) (sym c.self.view_is) sized in
    record {
      pending = λ k w is. was.pending k w (written_waits c.args.set c.args.ci s k cells new (c.write.ensures.at s k) w is);
      staged = λ k b is. was.staged k b
          (sym (written_staged c.args.set c.args.ci s k cells new (c.write.ensures.at s k)) ∙ is);
      clean = was.clean;
    }

pub returns-in_ok-write_at-in-Some-clause-clean : goal.returns-in_ok-write_at-in-Some-clause-clean
returns-in_ok-write_at-in-Some-clause-clean g c told size sized clean s k b there =
    let pool = c.args.self.now in
    let w = bytes_wait (waiting_of (cell_at c.args.set c.args.ci c.self.inside.cells)) c.in-Some.bytes.now
    (sym c.waiting_bytes.ensures ∙ ap option_copied c.in-Some.is) in
    let pending : pending_at pool c.args.set c.args.ci ≡ Some w.0 = ap (λ (p : Held). pending_at p c.args.set c.args.ci)
    (sym c.self.view_is) ∙ w.1 in
    let apart : (s k : ℕ) (b : List ℕ) → Contains pool.clean ((s, k), b) → pending_at pool s k ≡ None =
    subst (λ (p : Held). (s k : ℕ) (b : List ℕ) → Contains p.clean ((s, k), b) → pending_at p s k ≡ None)
    c.self.view_is c.self.invariant.apart in
    let long : c.len.result ≡ length w.0.bytes = c.len.ensures ∙ sym (ap length w.2) in
    let given : c.as_slice.result.now ≡ w.0.bytes = c.as_slice.ensures ∙ sym w.2 in
    let old = (g.T.Site.disk c.args.site.now).contents in
    let new = (g.T.Site.disk c.write_at.new.self).contents in
    let is : new c.args.set ≡ written (old c.args.set) (c.args.ci * length w.0.bytes) w.0.bytes =
    c.in_ok-write_at-in-Some.ensures.wrote told
    ∙ ap (λ n. written (old c.args.set) (c.args.ci * n) c.as_slice.result.now) long
    ∙ ap (written (old c.args.set) (c.args.ci * length w.0.bytes)) given in
    clean_written old new pool c.args.set c.args.ci size w.0 pending sized apart
    (c.write_at.ensures.leaves told).contents clean is s k b
    (subst (λ (p : Held). Contains p.clean ((s, k), b)) c.self.view_is there)
